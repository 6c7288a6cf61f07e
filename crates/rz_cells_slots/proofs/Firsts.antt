-- The first cell of each key, as cells are read one after another.
use Rattle.std.proofs.Common.{◌≡◌, ◌≢◌, ◌⊎◌, inl, ⊎_elim, ℕ, ◌+◌, ◌/◌, ◌<◌, ◌≤◌, ◌==◌, true, false, Option, Some, None, List, Result, Ok, Err, IsOk, OnOk, length, set, refl, sym, ◌∙◌, ap, subst, arith}
use Rattle.std.proofs.lemmas.Bool.{cases_lt, cases_eq}
use Rattle.std.proofs.lemmas.List.{get_or-set_same, get_or-set_other}
use Rattle.std.specs.Borrow.{Bor}
use Rattle.std.specs.Option.{is_some, option_copied}
use Rattle.std.specs.HashMap.{HashMap, IsEmpty, get}
use Rattle.std.specs.Map.{lookup}
use Rattle.rz_events.specs.declared.keys.Key.{Key}
use Rattle.rz_events.specs.declared.records.Head.{Head}
use Rattle.rz_cells_slots.specs.declared.geometry.Geometry.{Geometry}
use Rattle.rz_cells_slots.specs.Held.{in_cell}
use Rattle.rz_cells_slots.specs.Opening.{FitTo, GoesNext, IsFirst, KnowsFirsts, NotAgain, Notes, same_key}
use Rattle.rz_cells_slots.specs.Packed.{FitsPair}
use Rattle.rz_cells_slots.proofs.Made.{bool_cases, both, eq_from}
use Rattle.rz_cells_slots.proofs.Refused.{key_cases}

pub on_ok : {T E : Type 0} {P : Type 0} (result : Result T E) → IsOk result → OnOk result P → P
on_ok (Ok x) ok p = p
on_ok (Err e) ok p = absurd (cc)

-- at first no key has a cell
pub firsts_start : {S : Type 0} (firsts : HashMap (ℕ × ℕ) ℕ S) (heads : List (Option Head)) → IsEmpty firsts → KnowsFirsts firsts heads 0
firsts_start firsts heads empty key =
    let none : get same_key firsts (key.fid, key.block) ≡ None = ap (lookup (same_key (key.fid, key.block))) empty in
    subst (IsFirst heads 0 key) (sym none) (λ d q lt. absurd (omega arith))

-- a look-up that found nothing
pub none_copied : {X : Type 0} (o : Option (Bor X)) → is_some o ≡ false → option_copied o ≡ None
none_copied None is = refl
none_copied (Some x) is = absurd (cc)

-- two keys that differ are told apart
pub other_key : (a b : Key) → b ≢ a → same_key (a.fid, a.block) (b.fid, b.block) ≡ false
other_key a b ne = ⊎_elim
    (λ (hit : same_key (a.fid, a.block) (b.fid, b.block) ≡ true).
    let parts = both (a.fid == b.fid) (a.block == b.block) hit in
    let fid = eq_from a.fid b.fid parts.0 in
    let block = eq_from a.block b.block parts.1 in
    let same : b ≡ a = λ i. record { fid = (sym fid) i; block = (sym block) i } in
    absurd (ne same))
    (λ (miss : same_key (a.fid, a.block) (b.fid, b.block) ≡ false). miss)
    (bool_cases (same_key (a.fid, a.block) (b.fid, b.block)))

module _ (heads : List (Option Head)) (cell : ℕ) (h : Head) where
  pub again_none : IsFirst heads cell h.key None → NotAgain heads cell h cell
  again_none none d q lt bad = none d q lt bad.is bad.same

  -- below the first cell of its key no head stands again
  pub again_below : (first : ℕ) → IsFirst heads cell h.key (Some first) → NotAgain heads cell h first
  again_below first is d q lt bad = is.2 d q lt bad.is bad.same

  -- where the first cell of its key is of its pair and has another stamp, it stands nowhere again
  pub again_not : (first : ℕ) → IsFirst heads cell h.key (Some first)
      → ((q : Head) → in_cell heads first ≡ Some q → q.key ≡ h.key → (first / 2 ≢ cell / 2) ⊎ (q.stamp ≡ h.stamp) → ⊥) → NotAgain heads cell h cell
  again_not first is fine d q lt bad = ⊎_elim
      (λ (below : d < first). is.2 d q below bad.is bad.same)
      (λ (from : first ≤ d). ⊎_elim
      (λ (at : d ≡ first). fine q (ap (λ (e : ℕ). in_cell heads e) (sym at) ∙ bad.is) bad.same (subst (λ (e : ℕ). (e / 2 ≢ cell / 2) ⊎ (q.stamp ≡ h.stamp)) at bad.clash))
      (λ (ne : d ≢ first). ⊎_elim
      (λ (pair : first / 2 ≡ cell / 2). absurd (omega (arith, lt, from, ne, pair)))
      (λ (apart : first / 2 ≢ cell / 2). fine is.1.0 is.1.1 is.1.2 (inl apart))
      (cases_eq (first / 2) (cell / 2)))
      (cases_eq d first))
      (cases_lt d first)

-- one cell more
module _ (heads : List (Option Head)) (k : ℕ) (o : Option Head) (in_range : k < length heads) where
  other : (d : ℕ) → d ≢ k → in_cell (set heads k o) d ≡ in_cell heads d
  other d ne = get_or-set_other heads k d o None ne

  here : (d : ℕ) (q : Head) → d ≡ k → in_cell (set heads k o) d ≡ Some q → o ≡ Some q
  here d q at is = sym (get_or-set_same heads k o None in_range) ∙ ap (λ (e : ℕ). in_cell (set heads k o) e) (sym at) ∙ is

  -- a key that the new cell does not hold
  stays : (key : Key) (f : Option ℕ) → ((q : Head) → o ≡ Some q → q.key ≢ key) → IsFirst heads k key f → IsFirst (set heads k o) (k + 1) key f
  stays key None not is = λ d q lt at. ⊎_elim
      (λ (same : d ≡ k). not q (here d q same at))
      (λ (ne : d ≢ k). is d q (omega arith) (sym (other d ne) ∙ at))
      (cases_eq d k)
  stays key (Some first) not is = (
    omega (arith, is.0),
    (is.1.0, other first (omega (arith, is.0)) ∙ is.1.1, is.1.2),
    λ d q lt at. is.2 d q lt (sym (other d (omega (arith, lt, is.0))) ∙ at),
  )

  -- a key with an earlier cell
  found : (key : Key) (first : ℕ) → IsFirst heads k key (Some first) → IsFirst (set heads k o) (k + 1) key (Some first)
  found key first is = (
    omega (arith, is.0),
    (is.1.0, other first (omega (arith, is.0)) ∙ is.1.1, is.1.2),
    λ d q lt at. is.2 d q lt (sym (other d (omega (arith, lt, is.0))) ∙ at),
  )

  -- the key of the new cell, where it had none
  begins : (h : Head) → o ≡ Some h → IsFirst heads k h.key None → IsFirst (set heads k o) (k + 1) h.key (Some k)
  begins h is none = (
    omega arith,
    (h, get_or-set_same heads k o None in_range ∙ is, refl),
    λ d q lt at. none d q lt (sym (other d (omega arith)) ∙ at),
  )

  module _ {S : Type 0} (old new : HashMap (ℕ × ℕ) ℕ S) (known : KnowsFirsts old heads k) where
    pub firsts_none : o ≡ None → KnowsFirsts old (set heads k o) (k + 1)
    firsts_none none key = stays key (get same_key old (key.fid, key.block)) (λ q is. let no : None ≡ Some q = sym none ∙ is in absurd (cc)) (known key)

    own : (h : Head) → o ≡ Some h → Notes old new h.key k → (f : Option ℕ) → get same_key old (h.key.fid, h.key.block) ≡ f → IsFirst (set heads k o) (k + 1) h.key (get same_key new (h.key.fid, h.key.block))
    own h is notes None was = subst (IsFirst (set heads k o) (k + 1) h.key) (sym (notes.first was)) (begins h is (subst (IsFirst heads k h.key) was (known h.key)))
    own h is notes (Some first) was = subst (IsFirst (set heads k o) (k + 1) h.key) (sym (notes.kept first was)) (found h.key first (subst (IsFirst heads k h.key) was (known h.key)))

    pub firsts_more : (h : Head) → o ≡ Some h → Notes old new h.key k → KnowsFirsts new (set heads k o) (k + 1)
    firsts_more h is notes key = ⊎_elim
        (λ (same : key ≡ h.key). subst (λ (q : Key). IsFirst (set heads k o) (k + 1) q (get same_key new (q.fid, q.block))) (sym same) (own h is notes (get same_key old (h.key.fid, h.key.block)) refl))
        (λ (ne : key ≢ h.key). subst (IsFirst (set heads k o) (k + 1) key) (sym (notes.others key ne))
        (stays key (get same_key old (key.fid, key.block)) (λ q at same. let one : h ≡ q = cc in ne (sym same ∙ ap (λ (p : Head). p.key) (sym one))) (known key)))
        (key_cases key h.key)

-- beside an earlier head stands one of its key, and a later cell is empty
pub fits_next : (g : Geometry) (heads : List (Option Head)) (k : ℕ) (o : Option Head) → FitTo g heads k → ((h : Head) → o ≡ Some h → GoesNext heads k h) → FitsPair heads k o
fits_next g heads k o fits goes h q d is ne pair there = ⊎_elim
    (λ (below : d < k). ⊎_elim
    (λ (same : q.key ≡ h.key). same)
    (λ (other : q.key ≢ h.key). absurd ((goes h is).no_other d q record { earlier = below; is = there; pair = pair; other = other }))
    (key_cases q.key h.key))
    (λ (le : k ≤ d). let none : None ≡ Some q = sym (fits.past d le) ∙ there in absurd (cc))
    (cases_lt d k)
