-- What an index keeps of its row from call to call.
use Rattle.std.proofs.Common.{◌≡◌, ℕ, zero, suc, ◌+◌, ◌<◌, ◌≤◌, true, false, List, [], ◌∷◌, ◌++◌, length, take, drop, get_or, Option, Some, None, is_some, sym, ap, ◌∙◌, refl, arith}
use Rattle.std.specs.Option.{option_map}
use Rattle.rz_index.specs.declared.index.Entry.{Entry}
use Rattle.rz_index.specs.declared.nodes.IndexNode.{IndexNode}
use Rattle.rz_index.specs.Standing.{Part, Tree, Holds, IsThere, entries_below}
use Rattle.rz_index.specs.Spares.{IsIndex}
use Rattle.rz_index.proofs.Row.{made}
use Rattle.rz_index.proofs.Standing.{shown}
use Rattle.rz_index.proofs.Rotations.{none}

-- ---- the first of many entries

pub taken-long : (es : List Entry) (k : ℕ) → k ≤ length es → length (take k es) ≡ k
taken-long es zero le = refl
taken-long [] (suc k) le = absurd (omega (arith, le))
taken-long (e ∷ es) (suc k) le = ap suc (taken-long es k (omega (arith, le)))

pub taken-more : (es : List Entry) (k : ℕ) (e : Entry) → k < length es → e ≡ get_or es k e → take k es ++ e ∷ [] ≡ take (k + 1) es
taken-more [] k e lt is = absurd (omega (arith, lt))
taken-more (x ∷ es) zero e lt is = ap (λ (y : Entry). y ∷ []) is
taken-more (x ∷ es) (suc k) e lt is =
    let next : suc k + 1 ≡ suc (k + 1) = omega arith in
    ap (λ (xs : List Entry). x ∷ xs) (taken-more es k e (omega (arith, lt)) is) ∙ sym (ap (λ (n : ℕ). take n (x ∷ es)) next)

pub taken-all : (es : List Entry) (k : ℕ) → length es ≤ k → take k es ≡ es
taken-all [] zero le = refl
taken-all [] (suc k) le = refl
taken-all (e ∷ es) zero le = absurd (omega (arith, le))
taken-all (e ∷ es) (suc k) le = ap (λ (xs : List Entry). e ∷ xs) (taken-all es k (omega (arith, le)))

-- ---- a row that was lent to a call

-- what a call left of the items of a vector is all of it
pub whole : (new old : List IndexNode) (n : ℕ) → length new ≡ length old → n ≡ length old → take n (new ++ drop (length new) old) ≡ new
whole [] [] zero same n_is = refl
whole [] [] (suc n) same n_is = refl
whole [] (y ∷ old) n same n_is = absurd (omega (arith, same))
whole (x ∷ new) [] n same n_is = absurd (omega (arith, same))
whole (x ∷ new) (y ∷ old) zero same n_is = absurd (omega (arith, n_is))
whole (x ∷ new) (y ∷ old) (suc n) same n_is = ap (λ (xs : List IndexNode). x ∷ xs) (whole new old n (omega (arith, same)) (omega (arith, n_is)))

-- ---- what is shown

pub shows : (row : List IndexNode) (root spare free room : ℕ) (i : IsIndex row root spare free room) → entries_below (length row) row root ≡ i.entries
shows row root spare free room i = let within : length i.entries + length i.blanks < length row = i.within in shown row root i.entries (Tree spare i.blanks ∷ []) none (length row) i.holds (omega (arith, within))

-- a map of a row that was lent to a call
pub made-below : (row : List IndexNode) (root : ℕ) (es : List Entry) (parts : List Part) → Holds row (Tree root es ∷ parts) → length es ≤ length row → made (entries_below (length row) row root) ≡ made es
made-below row root es parts h fits = ap made (shown row root es parts none (length row) h fits)

-- ---- what is found of what was taken

pub none-there : (o : Option Entry) (node : ℕ) → node ≡ 0 → IsThere o node → o ≡ None
none-there None node naught there = refl
none-there (Some e) node naught there = let some : 0 < node = there in absurd (omega (arith, some, naught))

pub some-there : (o : Option Entry) (node : ℕ) → (node ≡ 0 → ⊥) → IsThere o node → (e : Entry) × (o ≡ Some e)
some-there None node differ there = absurd (differ there)
some-there (Some e) node differ there = (e, refl)

pub its-cell : (o : Option Entry) (cell : ℕ) → Some cell ≡ option_map (λ (e : Entry). e.cell) o → (e : Entry) × (o ≡ Some e) × (cell ≡ e.cell)
its-cell None cell is = absurd (cc)
its-cell (Some e) cell is = (e, refl, cc)

pub no-cell : (o : Option Entry) → None ≡ option_map (λ (e : Entry). e.cell) o → o ≡ None
no-cell None is = refl
no-cell (Some e) is = absurd (cc)

pub absent : (o : Option Entry) → is_some o ≡ false → o ≡ None
absent None is = refl
absent (Some e) is = absurd (cc)

pub present : (o : Option Entry) → is_some o ≡ true → o ≡ None → ⊥
present None is none = absurd (cc)
present (Some e) is none = absurd (cc)
