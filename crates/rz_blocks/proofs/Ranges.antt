-- What is found first in a range of entries.
use Rattle.std.proofs.Common.{◌≡◌, ℕ, Bool, true, false, cond, not, ◌&&◌, List, [], ◌∷◌, Option, Some, None, sym, ap, ◌∙◌, refl, arith, eqb-true}
use Rattle.std.proofs.lemmas.Bool.Decides.{nat_tests}
use Rattle.std.specs.Prelude.{◌==◌}
use Rattle.std.specs.List as lists
use Rattle.std.specs.List.{filter}
use Rattle.std.specs.Option.{option_map, option_or}
use Rattle.std.specs.declared.ops.Bound.{Bound}
use Rattle.std.specs.declared.ops.Bound.TheVariants.{Unbounded}
use Rattle.std.specs.BTreeMap.Range.{range_contains, is_past_end, entries_between}
use Rattle.rz_events.specs.Keys.{key_cmp}
use Rattle.rz_events.specs.declared.keys.Key.{Key}
use Rattle.rz_export_model.specs.Firsts.{first_given, given_if}
use Rattle.rz_export_model.specs.Export.{Block, is_after}
use Rattle.rz_blocks.specs.declared.blocks.BlockEntry.{BlockEntry}
use Rattle.rz_blocks.specs.Shown.{shown, shown_entries, IsStartAbove, IsStartOf, IsEndOf}
use Rattle.rz_blocks.proofs.Shows.{Kept}

-- the key of an entry of a file
abbrev pub key_in : ℕ → Key × BlockEntry → Option Key
key_in file e = given_if (e.0.fid == file) e.0

module _ (lo hi : Bound Key) (file : ℕ) (start : IsStartOf lo file) (end : IsEndOf hi file) where
  abbrev inside : Key → Bool
  inside k = range_contains key_cmp lo hi k

  inside-own : (k : Key) → k.fid ≡ file → inside k ≡ true
  inside-own k same = ap (λ b. b && not (is_past_end key_cmp hi k)) (start k same) ∙ ap not (end k same)

  step : (e : Key × BlockEntry) (rest : Kept) (b : Bool) → (e.0.fid == file) ≡ b → (i : Bool) → inside e.0 ≡ i
      → first_given (key_in file) (filter (λ x. inside x.0) rest) ≡ first_given (key_in file) rest
      → first_given (key_in file) (cond i (e ∷ filter (λ x. inside x.0) rest) (filter (λ x. inside x.0) rest)) ≡ option_or (key_in file e) (first_given (key_in file) rest)
  step e rest b own true is more = ap (option_or (key_in file e)) more
  step e rest true own false is more = let never : true ≡ false = sym (inside-own e.0 (eqb-true e.0.fid file own)) ∙ is in cc
  step e rest false other false is more = more ∙ sym (ap (λ b. option_or (given_if b e.0) (first_given (key_in file) rest)) other)

  -- the first that the range gives is the first that all entries give
  pub first-range : (es : Kept) → first_given (key_in file) (entries_between key_cmp lo hi es) ≡ first_given (key_in file) es
  first-range [] = refl
  first-range (e ∷ es) = step e es (e.0.fid == file) refl (inside e.0) refl (first-range es)

-- what the kept entries give, the map's give
pub first-shown : {A : Type 0} (give : Key × Block → Option A) (es : Kept) → first_given (λ e. give (e.0, shown e.1)) es ≡ first_given give (shown_entries es)
first-shown give [] = refl
first-shown give (e ∷ es) = ap (option_or (give (e.0, shown e.1))) (first-shown give es)

above-step : (lo : Bound Key) (after : Option Key) → IsStartAbove lo after → (e : Key × BlockEntry) (rest : List (Key × BlockEntry)) → (b : Bool) → is_after after e.0 ≡ b
    → lists.find (λ x. is_after after x.0) (shown_entries rest) ≡ option_map (λ x. (x.0, shown x.1)) (lists.find (λ x. true) (entries_between key_cmp lo Unbounded rest))
    → cond b (Some (e.0, shown e.1)) (lists.find (λ x. is_after after x.0) (shown_entries rest)) ≡ option_map (λ x. (x.0, shown x.1)) (lists.find (λ x. true) (cond (range_contains key_cmp lo Unbounded e.0) (e ∷ entries_between key_cmp lo Unbounded rest) (entries_between key_cmp lo Unbounded rest)))
above-step lo after start e rest true is more =
    sym (ap (λ b. option_map (λ x. (x.0, shown x.1)) (lists.find (λ x. true) (cond (b && true) (e ∷ entries_between key_cmp lo Unbounded rest) (entries_between key_cmp lo Unbounded rest)))) (start e.0 ∙ is))
above-step lo after start e rest false is more =
    more ∙ sym (ap (λ b. option_map (λ x. (x.0, shown x.1)) (lists.find (λ x. true) (cond (b && true) (e ∷ entries_between key_cmp lo Unbounded rest) (entries_between key_cmp lo Unbounded rest)))) (start e.0 ∙ is))

-- the first entry of the range above a key is the first above it
pub first-above : (lo : Bound Key) (after : Option Key) → IsStartAbove lo after → (es : Kept)
    → lists.find (λ x. is_after after x.0) (shown_entries es) ≡ option_map (λ x. (x.0, shown x.1)) (lists.find (λ x. true) (entries_between key_cmp lo Unbounded es))
first-above lo after start [] = refl
first-above lo after start (e ∷ es) = above-step lo after start e es (is_after after e.0) refl (first-above lo after start es)

-- ---- a loop over what a range has

pub skips : {A : Type 0} (give : Key × BlockEntry → Option A) (s t : Kept) (e : Key × BlockEntry) → s ≡ e ∷ t → give e ≡ None → first_given give t ≡ first_given give s
skips give s t e is none = sym (ap (first_given give) is ∙ ap (λ o. option_or o (first_given give t)) none)

pub hits : {A : Type 0} (give : Key × BlockEntry → Option A) (s t : Kept) (e : Key × BlockEntry) (a : A) → s ≡ e ∷ t → give e ≡ Some a → Some a ≡ first_given give s
hits give s t e a is some = sym (ap (first_given give) is ∙ ap (λ o. option_or o (first_given give t)) some)

pub ends : {A : Type 0} (give : Key × BlockEntry → Option A) (s : Kept) → s ≡ [] → None ≡ first_given give s
ends give s is = sym (ap (first_given give) is)

pub same-fid : (a b : ℕ) → a ≡ b → (a == b) ≡ true
same-fid a b h = grind (arith, nat_tests)

pub other-fid : (a b : ℕ) → (a ≡ b → ⊥) → (a == b) ≡ false
other-fid a b h = go (a == b) refl
  where
    go : (t : Bool) → (a == b) ≡ t → t ≡ false
    go true is = absurd (h (eqb-true a b is))
    go false is = refl

-- an entry of another file gives no key, and one of the file gives its own
pub no-key : (file : ℕ) (k : Key) (v : BlockEntry) → (k.fid == file) ≡ false → key_in file (k, v) ≡ None
no-key file k v h = ap (λ b. given_if b k) h

pub own-key : (file : ℕ) (k : Key) (v : BlockEntry) → (k.fid == file) ≡ true → key_in file (k, v) ≡ Some k
own-key file k v h = ap (λ b. given_if b k) h
