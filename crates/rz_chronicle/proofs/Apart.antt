-- Each word of a book has a key of its own.
use Rattle.std.proofs.Common.{◌≡◌, ◌≢◌, ◌==◌, ℕ, zero, suc, ◌+◌, ◌-◌, ◌*◌, ◌<◌, ◌≤◌, nat_le, nat_eq, Bool, true, false, cond, List, [], ◌∷◌, Option, Some, None, slice_get, sym, refl, ap, ◌∙◌, inl, inr, arith}
use Rattle.std.specs.List.{AllByRecursion, IsDistinct}
use Rattle.std.specs.Option.{option_map}
use Rattle.std.proofs.lemmas.Bool.Decides.{nat_tests}
use Rattle.rz_events.specs.declared.keys.Actor.TheVariants.{Client, Rebuilder, Admin}
use Rattle.rz_events.specs.declared.events.Word.TheVariants.{Export, Node, Own}
use Rattle.rz_chronicle.specs.Keys.{owner, key_of_owner, key_at, StandApart}
use Rattle.rz_chronicle.proofs.Adding.{eq_or}

-- What is known of a key by its place. At a place that is a node's the key tells the node, at any other the place.
pub data Shape (sids : List ℕ) (place key : ℕ) : Type 0 where
  Plain : key ≡ 4 * place → Shape sids place key
  OfNode : (n : ℕ) → 1 ≤ place → slice_get sids (place - 1) ≡ Some n → key ≡ 4 * n + 1 → Shape sids place key
  OfClient : 257 ≤ place → place ≤ 320 → key ≡ 4 * (3 * (place - 256)) + 2 → Shape sids place key
  OfRebuilder : 321 ≤ place → place ≤ 336 → key ≡ 4 * (3 * (place - 320) + 1) + 2 → Shape sids place key
  OfAdmin : 337 ≤ place → key ≡ 10 → Shape sids place key

node-shape : (sids : List ℕ) (place : ℕ) (o : Option ℕ) → 1 ≤ place → slice_get sids (place - 1) ≡ o → Shape sids place (key_of_owner place (option_map Node o))
node-shape sids place None low is = Plain refl
node-shape sids place (Some n) low is = OfNode n low is refl

shape-by : (sids : List ℕ) (place : ℕ) → (a b c d : Bool) → (place == 0) ≡ a → nat_le place 256 ≡ b → nat_le place 320 ≡ c → nat_le place 336 ≡ d
    → Shape sids place (key_of_owner place (cond a (Some Export) (cond b (option_map Node (slice_get sids (place - 1))) (cond c (Some (Own (Client (place - 256)))) (cond d (Some (Own (Rebuilder (place - 320)))) (Some (Own Admin)))))))
shape-by sids place true b c d p q r s = let e : place ≡ 0 = grind (arith, nat_tests, p) in Plain (omega (arith, e))
shape-by sids place false true c d p q r s = let e : 1 ≤ place = grind (arith, nat_tests, p) in node-shape sids place (slice_get sids (place - 1)) e refl
shape-by sids place false false true d p q r s =
    let e : 257 ≤ place = grind (arith, nat_tests, q) in let f : place ≤ 320 = grind (arith, nat_tests, r) in OfClient e f refl
shape-by sids place false false false true p q r s =
    let e : 321 ≤ place = grind (arith, nat_tests, r) in let f : place ≤ 336 = grind (arith, nat_tests, s) in OfRebuilder e f refl
shape-by sids place false false false false p q r s = let e : 337 ≤ place = grind (arith, nat_tests, s) in OfAdmin e refl

pub shape : (sids : List ℕ) (place : ℕ) → Shape sids place (key_at sids place)
shape sids place = shape-by sids place (place == 0) (nat_le place 256) (nat_le place 320) (nat_le place 336) refl refl refl refl

-- no number stands twice

unlike : (ns : List ℕ) (p n : ℕ) (m : ℕ) → AllByRecursion (λ y. nat_eq m y ≡ false) ns → slice_get ns p ≡ Some n → m ≢ n
unlike [] p n m all is = absurd cc
unlike (x ∷ ns) zero n m all is = λ e. let same : nat_eq m x ≡ true = grind (arith, nat_tests, e, is) in absurd (cc (same, all.0))
unlike (x ∷ ns) (suc p) n m all is = unlike ns p n m all.1 is

pub one-place : (ns : List ℕ) (p q n : ℕ) → IsDistinct nat_eq ns → slice_get ns p ≡ Some n → slice_get ns q ≡ Some n → p ≡ q
unfolding IsDistinct
one-place [] p q n d a b = absurd cc
one-place (x ∷ ns) zero zero n d a b = refl
one-place (x ∷ ns) zero (suc q) n d a b = let e : x ≡ n = cc (a) in absurd (unlike ns q n x d.0 b e)
one-place (x ∷ ns) (suc p) zero n d a b = let e : x ≡ n = cc (b) in absurd (unlike ns p n x d.0 a e)
one-place (x ∷ ns) (suc p) (suc q) n d a b = ap suc (one-place ns p q n d.1 a b)

apart-by : (sids : List ℕ) (i j a b : ℕ) → IsDistinct nat_eq sids → i < 338 → j < 338 → i ≢ j → a ≡ b → Shape sids i a → Shape sids j b → ⊥
apart-by sids i j a b d l m apart e (Plain p) (Plain q) = apart (omega (arith, e, p, q))
apart-by sids i j a b d l m apart e (Plain p) (OfNode n o is q) = omega (arith, e, p, q)
apart-by sids i j a b d l m apart e (Plain p) (OfClient o r q) = omega (arith, e, p, q)
apart-by sids i j a b d l m apart e (Plain p) (OfRebuilder o r q) = omega (arith, e, p, q)
apart-by sids i j a b d l m apart e (Plain p) (OfAdmin o q) = omega (arith, e, p, q)
apart-by sids i j a b d l m apart e (OfNode k s has p) (Plain q) = omega (arith, e, p, q)
apart-by sids i j a b d l m apart e (OfNode k s has p) (OfNode n o is q) =
    let same : n ≡ k = omega (arith, e, p, q) in
    let at : i - 1 ≡ j - 1 = one-place sids (i - 1) (j - 1) k d has (is ∙ ap Some same) in apart (omega (arith, at, s, o))
apart-by sids i j a b d l m apart e (OfNode k s has p) (OfClient o r q) = omega (arith, e, p, q)
apart-by sids i j a b d l m apart e (OfNode k s has p) (OfRebuilder o r q) = omega (arith, e, p, q)
apart-by sids i j a b d l m apart e (OfNode k s has p) (OfAdmin o q) = omega (arith, e, p, q)
apart-by sids i j a b d l m apart e (OfClient s t p) (Plain q) = omega (arith, e, p, q)
apart-by sids i j a b d l m apart e (OfClient s t p) (OfNode n o is q) = omega (arith, e, p, q)
apart-by sids i j a b d l m apart e (OfClient s t p) (OfClient o r q) = apart (omega (arith, e, p, q, s, o))
apart-by sids i j a b d l m apart e (OfClient s t p) (OfRebuilder o r q) = omega (arith, e, p, q)
apart-by sids i j a b d l m apart e (OfClient s t p) (OfAdmin o q) = omega (arith, e, p, q)
apart-by sids i j a b d l m apart e (OfRebuilder s t p) (Plain q) = omega (arith, e, p, q)
apart-by sids i j a b d l m apart e (OfRebuilder s t p) (OfNode n o is q) = omega (arith, e, p, q)
apart-by sids i j a b d l m apart e (OfRebuilder s t p) (OfClient o r q) = omega (arith, e, p, q)
apart-by sids i j a b d l m apart e (OfRebuilder s t p) (OfRebuilder o r q) = apart (omega (arith, e, p, q, s, o))
apart-by sids i j a b d l m apart e (OfRebuilder s t p) (OfAdmin o q) = omega (arith, e, p, q)
apart-by sids i j a b d l m apart e (OfAdmin s p) (Plain q) = omega (arith, e, p, q)
apart-by sids i j a b d l m apart e (OfAdmin s p) (OfNode n o is q) = omega (arith, e, p, q)
apart-by sids i j a b d l m apart e (OfAdmin s p) (OfClient o r q) = omega (arith, e, p, q)
apart-by sids i j a b d l m apart e (OfAdmin s p) (OfRebuilder o r q) = omega (arith, e, p, q)
apart-by sids i j a b d l m apart e (OfAdmin s p) (OfAdmin o q) = apart (omega (arith, s, o, l, m))

-- no two places have one key
pub keys-apart : (sids : List ℕ) (i j : ℕ) → IsDistinct nat_eq sids → i < 338 → j < 338 → i ≢ j → key_at sids i ≢ key_at sids j
keys-apart sids i j d l m apart e = apart-by sids i j (key_at sids i) (key_at sids j) d l m apart e (shape sids i) (shape sids j)

-- so no word stands at two places
pub stand-apart : (sids : List ℕ) → IsDistinct nat_eq sids → StandApart sids
stand-apart sids d i j w l m a b = elim (eq_or i j) [
  | inl e ↦ e
  | inr apart ↦ absurd (keys-apart sids i j d l m apart (ap (key_of_owner i) a ∙ sym (ap (key_of_owner j) b)))
]

-- the nodes stand from the place 1 on
pub node-owner : (sids : List ℕ) (i place n : ℕ) → place ≡ i + 1 → i < 256 → slice_get sids i ≡ Some n → owner sids place ≡ Some (Node n)
node-owner sids i place n at low is =
    let here : place - 1 ≡ i = omega (arith, at) in
    let some : (place == 0) ≡ false = grind (arith, nat_tests, at) in
    let few : nat_le place 256 ≡ true = grind (arith, nat_tests, at, low) in
    rw (some, few) (ap (option_map Node) (ap (slice_get sids) here ∙ is))
