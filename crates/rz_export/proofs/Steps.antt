-- One more node in a loop over the lists of a file's nodes.
use Rattle.std.proofs.Common.{◌≡◌, ℕ, ◌+◌, ◌/◌, ◌<◌, ◌==◌, ◌&&◌, ◌||◌, not, Bool, true, false, cond, List, length, take, get_or, sym, ap, ◌∙◌, refl, arith, eqb-true, eq-eqb}
use Rattle.std.proofs.lemmas.Bool.Decides.{nat_tests}
use Rattle.std.proofs.lemmas.List.Elements.{All-more, All-weaker}
use Rattle.std.proofs.lemmas.List.Folds.{list_any_more}
use Rattle.rz_events.specs.declared.keys.Key.{Key}
use Rattle.rz_blocks.specs.Marks.{has_room, is_beside}
use Rattle.rz_export.specs.Kept.{is_place, AreRoomy}
use Rattle.rz_export.proofs.Marked.{Marks}

turned : (a b : ℕ) → (a == b) ≡ (b == a)
turned a b = grind (arith, nat_tests)

or_false : (a : Bool) → (a || false) ≡ a
or_false true = refl
or_false false = refl

or_true : (a : Bool) → (a || true) ≡ true
or_true true = refl
or_true false = refl

-- whether a node is one of the nodes so far, with one more
place-more : (places : List ℕ) (i n : ℕ) → i < length places → is_place n (take (i + 1) places) ≡ (is_place n (take i places) || (n == get_or places i 0))
place-more places i n low = list_any_more (λ x. x == n) places i 0 low ∙ ap (λ t. is_place n (take i places) || t) (turned (get_or places i 0) n)

-- ---- marks that are set

set_on : (a e n now old : Bool) → now ≡ cond (a && e) n old → cond e n now ≡ cond ((a || true) && e) n old
set_on true true n now old is = refl
set_on true false n now old is = is
set_on false true n now old is = refl
set_on false false n now old is = is

pub mark-more : (places : List ℕ) (i n : ℕ) (e : Bool) (named : ℕ → Bool) (now old : Bool) → i < length places → now ≡ cond (is_place n (take i places) && e) (named n) old
    → cond ((n == get_or places i 0) && e) (named (get_or places i 0)) now ≡ cond (is_place n (take (i + 1) places) && e) (named n) old
mark-more places i n e named now old low is =
    go (n == get_or places i 0) refl ∙ ap (λ p. cond (p && e) (named n) old) (sym (place-more places i n low))
  where
    go : (t : Bool) → (n == get_or places i 0) ≡ t → cond (t && e) (named (get_or places i 0)) now ≡ cond ((is_place n (take i places) || (n == get_or places i 0)) && e) (named n) old
    go true on =
        ap (λ x. cond e (named x) now) (sym (eqb-true n (get_or places i 0) on)) ∙ set_on (is_place n (take i places)) e (named n) now old is
        ∙ ap (λ t. cond ((is_place n (take i places) || t) && e) (named n) old) (sym on)
    go false off =
        is ∙ ap (λ p. cond (p && e) (named n) old) (sym (or_false (is_place n (take i places))))
        ∙ ap (λ t. cond ((is_place n (take i places) || t) && e) (named n) old) (sym off)

-- ---- what is taken away

less : (b a f now old : Bool) → now ≡ (not (a && f) && old) → (not (b && f) && now) ≡ (not ((a || b) && f) && old)
less true true true now old is = refl
less true true false now old is = is
less true false true now old is = refl
less true false false now old is = is
less false true true now old is = is
less false true false now old is = is
less false false true now old is = is
less false false false now old is = is

pub clear-more : (places : List ℕ) (i n : ℕ) (f now old : Bool) → i < length places → now ≡ (not (is_place n (take i places) && f) && old)
    → (not ((n == get_or places i 0) && f) && now) ≡ (not (is_place n (take (i + 1) places) && f) && old)
clear-more places i n f now old low is =
    less (n == get_or places i 0) (is_place n (take i places)) f now old is ∙ ap (λ p. not (p && f) && old) (sym (place-more places i n low))

-- ---- room that is made

beside_itself : (n : ℕ) (key : Key) → is_beside n key n key ≡ true
beside_itself n key =
    ap (λ t. t && (key.fid == key.fid) && (key.block / 64 == key.block / 64)) (eq-eqb n n refl)
    ∙ ap (λ t. t && (key.block / 64 == key.block / 64)) (eq-eqb key.fid key.fid refl) ∙ eq-eqb (key.block / 64) (key.block / 64) refl

pub room-more : (places : List ℕ) (i : ℕ) (key : Key) (now new : Marks) → i < length places
    → ((n : ℕ) (q : Key) → has_room new n q ≡ (has_room now n q || is_beside (get_or places i 0) key n q)) → AreRoomy now (take i places) key → AreRoomy new (take (i + 1) places) key
room-more places i key now new low made room =
    All-more (λ n. has_room new n key ≡ true) places i 0 low
    (All-weaker (λ n. has_room now n key ≡ true) (λ n. has_room new n key ≡ true) (λ n had. made n key ∙ ap (λ t. t || is_beside (get_or places i 0) key n key) had) (take i places) room)
    (made (get_or places i 0) key ∙ ap (λ t. has_room now (get_or places i 0) key || t) (beside_itself (get_or places i 0) key) ∙ or_true (has_room now (get_or places i 0) key))
