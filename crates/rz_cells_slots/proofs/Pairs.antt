-- Old cells, each in the first cell of a pair.
use Rattle.std.proofs.Common.{zero, suc, ◌≡◌, ◌≢◌, ◌⊎◌, inl, inr, ⊎_elim, ℕ, ◌+◌, ◌*◌, ◌/◌, ◌%◌, ◌<◌, ◌≤◌, Option, Some, None, List, [], ◌∷◌, length, refl, sym, ◌∙◌, ap, subst, arith}
use Rattle.std.proofs.lemmas.Bool.{cases_lt}
use Rattle.rz_events.specs.declared.records.Head.{Head}
use Rattle.rz_record.specs.Slot.{Rec}
use Rattle.rz_cells_slots.specs.Held.{Apart, heads_of, head_in, in_cell}
use Rattle.rz_cells_slots.specs.Old.{paired}
use Rattle.rz_cells_slots.specs.OldOpening.{NoKeyTwice}

pub paired_long : {A : Type 0} (os : List (Option A)) → length (paired os) ≡ 2 * length os
unfolding paired
paired_long [] = refl
paired_long (o ∷ os) = omega (arith, paired_long os)

-- a cell stands in the first of its pair
pub paired_even : {A : Type 0} (os : List (Option A)) (c : ℕ) → in_cell (paired os) (2 * c) ≡ in_cell os c
unfolding paired
paired_even [] c = refl
paired_even (o ∷ os) zero = refl
paired_even (o ∷ os) (suc c) =
    let two : 2 * suc c ≡ suc (suc (2 * c)) = omega arith in
    ap (λ (n : ℕ). in_cell (o ∷ None ∷ paired os) n) two ∙ paired_even os c

-- and nothing in the second
pub paired_odd : {A : Type 0} (os : List (Option A)) (c : ℕ) → in_cell (paired os) (2 * c + 1) ≡ None
unfolding paired
paired_odd [] c = refl
paired_odd (o ∷ os) zero = refl
paired_odd (o ∷ os) (suc c) =
    let two : 2 * suc c + 1 ≡ suc (suc (2 * c + 1)) = omega arith in
    ap (λ (n : ℕ). in_cell (o ∷ None ∷ paired os) n) two ∙ paired_odd os c

pub paired_heads : (cells : List (Option Rec)) → heads_of (paired cells) ≡ paired (heads_of cells)
unfolding paired
paired_heads [] = refl
paired_heads (o ∷ os) = ap (λ (l : List (Option Head)). head_in o ∷ None ∷ l) (paired_heads os)

halves : (c : ℕ) → (c ≡ 2 * (c / 2)) ⊎ (c ≡ 2 * (c / 2) + 1)
halves c = ⊎_elim (λ (even : c % 2 < 1). inl (omega arith)) (λ (odd : 1 ≤ c % 2). inr (omega arith)) (cases_lt (c % 2) 1)

-- what stands in a pair stands in its first cell
pub paired_some : {A : Type 0} (os : List (Option A)) (c : ℕ) (x : A) → in_cell (paired os) c ≡ Some x → (c ≡ 2 * (c / 2)) × (in_cell os (c / 2) ≡ Some x)
paired_some os c x is = ⊎_elim
    (λ (even : c ≡ 2 * (c / 2)). (even, sym (paired_even os (c / 2)) ∙ ap (λ (n : ℕ). in_cell (paired os) n) (sym even) ∙ is))
    (λ (odd : c ≡ 2 * (c / 2) + 1). let none : None ≡ Some x = sym (paired_odd os (c / 2)) ∙ ap (λ (n : ℕ). in_cell (paired os) n) (sym odd) ∙ is in absurd (cc))
    (halves c)

-- what is so of each cell is so of each of the pairs' cells
pub paired_each : {A : Type 0} (P : Option A → Type 0) (os : List (Option A)) → P None → ((c : ℕ) → P (in_cell os c)) → (c : ℕ) → P (in_cell (paired os) c)
paired_each P os none each c = ⊎_elim
    (λ (even : c ≡ 2 * (c / 2)). subst P (sym (paired_even os (c / 2)) ∙ ap (λ (n : ℕ). in_cell (paired os) n) (sym even)) (each (c / 2)))
    (λ (odd : c ≡ 2 * (c / 2) + 1). subst P (sym (paired_odd os (c / 2)) ∙ ap (λ (n : ℕ). in_cell (paired os) n) (sym odd)) none)
    (halves c)

-- heads of which none has another's key are apart in pairs
pub paired_apart : (heads : List (Option Head)) → NoKeyTwice heads → Apart (paired heads)
paired_apart heads once c d h k ne is is' =
    let one = paired_some heads c h is in
    let two = paired_some heads d k is' in
    let other : c / 2 ≢ d / 2 = λ same. ne (one.0 ∙ ap (λ (n : ℕ). 2 * n) same ∙ sym two.0) in
    let differ : h.key ≢ k.key = λ same. ⊎_elim
    (λ (lt : c / 2 < d / 2). once (c / 2) (d / 2) h k lt one.1 two.1 same)
    (λ (le : d / 2 ≤ c / 2). once (d / 2) (c / 2) k h (omega (arith, le, other)) two.1 one.1 (sym same))
    (cases_lt (c / 2) (d / 2)) in
    record {
      one_pair = λ same. absurd (differ same);
      one_key = λ pair. absurd (other pair);
      two_stamps = λ same stamps. differ same;
    }

-- and the other way round
pub once_paired : (heads : List (Option Head)) → Apart (paired heads) → NoKeyTwice heads
once_paired heads apart c d h k lt is is' same =
    let t = apart (2 * c) (2 * d) h k (λ at. later c d lt at) (paired_even heads c ∙ is) (paired_even heads d ∙ is') in
    later-half c d lt (t.one_pair same)
  where
    later : (c d : ℕ) → c < d → 2 * c ≡ 2 * d → ⊥
    later c d lt at = omega arith

    later-half : (c d : ℕ) → c < d → 2 * c / 2 ≡ 2 * d / 2 → ⊥
    later-half c d lt at = omega arith
