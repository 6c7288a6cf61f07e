-- A record of the published stamp, and the pairs with it.
use Rattle.std.proofs.Common.{◌≡◌, ℕ, ◌+◌, ◌-◌, ◌*◌, ◌<◌, ◌≤◌, ◌≢◌, Bool, true, false, cond, List, [], ◌∷◌, ◌++◌, length, take, arith, rules, ap, ◌∙◌, sym, refl, subst, eqb}
use Rattle.std.specs.Prelude.{All, ℤ, IsTrue, ◌↔◌, nat_lt, IsOk}
use Rattle.std.specs.Int.{bit_at}
use Rattle.std.proofs.lemmas.List.{length_push}
use Rattle.std.proofs.lemmas.List.Elements.{All-weaker, All-push}
use Rattle.std.proofs.lemmas.Bool.Decides.{nat_tests}
use Rattle.mj_angles.specs.declared.layout.Layout.{Layout}
use Rattle.mj_angles.specs.Layout.{safe_of, inverse_of, cols_of, angle_of, block_bytes_of, bins_at_of}
use Rattle.rz_words.specs.Grid.{Grid}
use Rattle.mj_inverse.specs.Fits.{Pair, Search, IsFound, with_pair}
use Rattle.rz_events.specs.declared.ends.ReadMark.TheVariants as mark
use Rattle.rz_client_model.specs.declared.reading.ReadStage.{ReadStage}
use Rattle.rz_client_model.specs.declared.reading.ReadStage.TheVariants.{Looking, Fetching, Ended}
use Rattle.rz_client_model.specs.declared.reading.Fetches.{Fetches}
use Rattle.rz_client_model.specs.Read.{next_position, with_record, unless_enough}
use Rattle.rz_reader.specs.Machine.{search_of, AreFitting}
use Rattle.rz_reader.specs.Inside.{IsAsked, IsFetching}
use Rattle.rz_reader.proofs.Positions.{without-below, without-same, asked-more}

-- no pair is of a position that is left
pub other-angle : (layout : Layout) (left p : ℕ) (angle a : ℤ) (pairs : List Pair) → bit_at left p ≡ 1 →
    ((other : ℕ) → angle_of layout other ≡ angle → other ≡ p) → a ≡ angle → All (IsAsked layout left) pairs → All (λ pair. pair.0 ≢ a) pairs
other-angle layout left p angle a pairs in_left distinct is all =
    All-weaker (IsAsked layout left) (λ pair. pair.0 ≢ a)
    (λ pair asked same.
    let at : asked.0 ≡ p = distinct asked.0 (sym asked.3 ∙ same ∙ is) in
    let e : bit_at left asked.0 ≡ bit_at left p = ap (bit_at left) at in
    omega (arith, e, in_left, asked.2))
    pairs all

length-short : (b : Bool) (m n most : ℕ) → m ≤ most → n ≤ most → cond b m n ≤ most
length-short true m n most h k = h
length-short false m n most h k = k

-- one more record, of the next position
pub record-more : (layout : Layout) (pairs : List Pair) (t : Fetches) (size : ℕ) (pair : Pair) → IsFetching layout pairs t →
    bit_at t.left (next_position t) ≡ 1 → next_position t < safe_of layout → size ≤ block_bytes_of layout → t.given + 1 < inverse_of layout →
    pair.0 ≡ angle_of layout (next_position t) → IsFetching layout (pairs ++ pair ∷ []) (with_record t size)
record-more layout pairs t size pair h in_left place short fewer is = record {
  few = without-below t.left (safe_of layout) (next_position t) h.few place;
  given = ap (λ n. n + 1) h.given ∙ sym (length_push pairs pair);
  fewer = fewer;
  short = length-short (eqb t.given 0) size t.length (block_bytes_of layout) short h.short;
  asked = All-push (IsAsked layout (with_record t size).left) pairs pair (asked-more layout t.left (next_position t) pairs in_left h.asked)
      (next_position t, place, without-same t.left (next_position t) in_left, is);
}

-- a search with one more pair
pub search-more : (layout : Layout) (s : Search) (angle : ℤ) (p : ℕ) (bins part : List ℕ) → s.rows ≡ inverse_of layout → s.cols ≡ cols_of layout →
    angle ≡ angle_of layout p → part ≡ take (bins_at_of layout p) bins →
    with_pair s angle part ≡ search_of layout (s.pairs ++ (angle_of layout p, take (bins_at_of layout p) bins) ∷ [])
search-more layout s angle p bins part rows cols is are =
    ap (λ (n : ℕ). (let x : Search = record { rows = n; cols = s.cols; pairs = s.pairs ++ (angle, part) ∷ [] } in x)) rows
    ∙ ap (λ (n : ℕ). (let x : Search = record { rows = inverse_of layout; cols = n; pairs = s.pairs ++ (angle, part) ∷ [] } in x)) cols
    ∙ ap (λ (z : ℤ). (let x : Search = record { rows = inverse_of layout; cols = cols_of layout; pairs = s.pairs ++ (z, part) ∷ [] } in x)) is
    ∙ ap (λ (ws : List ℕ). (let x : Search = record { rows = inverse_of layout; cols = cols_of layout; pairs = s.pairs ++ (angle_of layout p, ws) ∷ [] } in x)) are

-- enough records came
pub enough : (layout : Layout) (fits : Bool) (t : Fetches) → inverse_of layout ≤ t.given →
    Ended (cond fits (mark.Found t.stamp t.length) mark.Inconsistent) ≡ unless_enough layout fits t
enough layout fits t h = go (nat_lt t.given (inverse_of layout)) refl where
  go : (b : Bool) → nat_lt t.given (inverse_of layout) ≡ b →
      Ended (cond fits (mark.Found t.stamp t.length) mark.Inconsistent) ≡ cond b (Fetching t) (Ended (cond fits (mark.Found t.stamp t.length) mark.Inconsistent))
  go true e = absurd (let low : t.given < inverse_of layout = search (rules, nat_tests) in omega (arith, low, h))
  go false e = refl

pub fits-all : (layout : Layout) (pairs : List Pair) (g : Grid) → IsFound (search_of layout pairs) g → AreFitting layout pairs true
fits-all layout pairs g found = λ full. (λ _. (g, found), λ _. refl)

pub fits-none : (layout : Layout) (pairs : List Pair) → (((g : Grid) × IsFound (search_of layout pairs) g) → ⊥) → AreFitting layout pairs false
fits-none layout pairs none = λ full. (λ h. absurd (let e : false ≡ true = h in cc), λ some. absurd (none some))
