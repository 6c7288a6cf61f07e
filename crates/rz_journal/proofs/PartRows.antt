-- The row of entries, one by one.
use Rattle.std.proofs.lemmas.Bool.{cases_lt}
use Rattle.std.proofs.Common.{◌≡◌, ⊎_elim, ℕ, ◌+◌, ◌-◌, ◌<◌, ◌≤◌, List, [], ◌∷◌, ◌++◌, length, map, drop, get_or, Option, Some, None, Result, Ok, IfOk, refl, sym, ◌∙◌, ap, subst, arith, append_assoc}
use Rattle.std.specs.List.{slice_get}
use Rattle.std.specs.declared.alloc.AllocError.{AllocError}
use Rattle.std.proofs.lemmas.List.{drop_all, drop_more}
use Rattle.std.proofs.lemmas.Option.{slice_get_within, get_or_from_slice_get, slice_get-get_or}
use Rattle.rz_tree.specs.declared.parts.Part.{Part}
use Rattle.rz_export.specs.Parts.{IsBefore}
use Rattle.rz_journal_text.specs.declared.entry.JournalEntry.{JournalEntry}
use Rattle.rz_journal_text.specs.declared.entry.JournalEntry.TheVariants.{Built}
use Rattle.rz_journal_text.specs.Spelling.{entry_bytes, Spells}
use Rattle.rz_journal.specs.Row.{framed, row_bytes}
use Rattle.rz_journal.specs.JournalText.{AreSpelled}
use Rattle.rz_journal.specs.Room.{bytes_of, IsRow}

-- one entry alone
pub row_alone : (row : List ℕ) (e : JournalEntry) → row ≡ framed (entry_bytes e) ++ 0 ∷ [] → Spells (entry_bytes e) e → IsRow (e ∷ []) row
row_alone row e is spelled = ((spelled, tt), is)

-- the row so far and that of the parts that are left are the whole
pub record SoFar (parts : List Part) (i : ℕ) (row : List ℕ) : Type 0 where
  pub whole : row ++ row_bytes (bytes_of (map Built (drop i parts))) ≡ row_bytes (bytes_of (map Built parts))
  pub spelled : AreSpelled (bytes_of (map Built (drop i parts))) (map Built (drop i parts)) → AreSpelled (bytes_of (map Built parts)) (map Built parts)

-- the parts so far, and the one that comes next
pub record Walk (parts : List Part) (i : ℕ) (row : List ℕ) (next : Option Part) : Type 0 where
  pub so_far : SoFar parts i row
  pub here : next ≡ slice_get parts i

-- the part that is found from the one before it
pub first_next : (parts : List Part) (found : Result (Option Part) AllocError) (next : Option Part) → found ≡ Ok next → ((i : ℕ) → IsBefore None parts i → IfOk found (λ part. part ≡ slice_get parts i)) → next ≡ slice_get parts 0
first_next parts found next is each = subst (λ (r : Result (Option Part) AllocError). IfOk r (λ part. part ≡ slice_get parts 0)) is (each 0 refl)

pub later_next : (parts : List Part) (i : ℕ) (part : Part) (found : Result (Option Part) AllocError) (next : Option Part) → slice_get parts i ≡ Some part → found ≡ Ok next
    → ((k : ℕ) → IsBefore (Some part) parts k → IfOk found (λ part. part ≡ slice_get parts k)) → next ≡ slice_get parts (i + 1)
later_next parts i part found next at is each =
    let less : i + 1 - 1 ≡ i = omega arith in
    subst (λ (r : Result (Option Part) AllocError). IfOk r (λ part. part ≡ slice_get parts (i + 1))) is
    (each (i + 1) (omega arith, ap (slice_get parts) less ∙ at))

pub row_begins : (parts : List Part) (row : List ℕ) → row ≡ [] → SoFar parts 0 row
row_begins parts row none = record {
  whole = ap (λ (r : List ℕ). r ++ row_bytes (bytes_of (map Built parts))) none;
  spelled = λ all. all;
}

part_here : (parts : List Part) (i : ℕ) (part : Part) → slice_get parts i ≡ Some part → drop i parts ≡ part ∷ drop (i + 1) parts
part_here parts i part at =
    drop_more parts i part (slice_get_within parts i part at) ∙ ap (λ (p : Part). p ∷ drop (i + 1) parts) (get_or_from_slice_get parts i part part at)

-- one part more
pub row_goes : (parts : List Part) (i : ℕ) (part : Part) (row new : List ℕ) → slice_get parts i ≡ Some part → SoFar parts i row → new ≡ row ++ framed (entry_bytes (Built part)) → Spells (entry_bytes (Built part)) (Built part) → SoFar parts (i + 1) new
row_goes parts i part row new at so_far is spelled =
    let here = part_here parts i part at in
    record {
      whole =
          ap (λ (r : List ℕ). r ++ row_bytes (bytes_of (map Built (drop (i + 1) parts)))) is
          ∙ append_assoc row (framed (entry_bytes (Built part))) (row_bytes (bytes_of (map Built (drop (i + 1) parts))))
          ∙ ap (λ (ps : List Part). row ++ row_bytes (bytes_of (map Built ps))) (sym here)
          ∙ so_far.whole;
      spelled = λ all. so_far.spelled (subst (λ (ps : List Part). AreSpelled (bytes_of (map Built ps)) (map Built ps)) (sym here) (spelled, all));
    }

none_past : (parts : List Part) (i : ℕ) → slice_get parts i ≡ None → length parts ≤ i
none_past parts i none = ⊎_elim
    (λ (lt : i < length parts). none_within parts i lt none)
    (λ (le : length parts ≤ i). le)
    (cases_lt i (length parts))
  where
    none_within : (ps : List Part) (k : ℕ) → k < length ps → slice_get ps k ≡ None → length ps ≤ k
    none_within [] k lt none = absurd (omega arith)
    none_within (p ∷ ps) k lt none = (let some = slice_get-get_or (p ∷ ps) k p lt in let wrong : None ≡ Some (get_or (p ∷ ps) k p) = sym none ∙ some in absurd (cc))

-- and then all
pub row_ends : (parts : List Part) (i : ℕ) (row new : List ℕ) → slice_get parts i ≡ None → SoFar parts i row → new ≡ row ++ 0 ∷ [] → IsRow (map Built parts) new
row_ends parts i row new none so_far is =
    let over : drop i parts ≡ [] = drop_all i parts (none_past parts i none) in (
      so_far.spelled (subst (λ (ps : List Part). AreSpelled (bytes_of (map Built ps)) (map Built ps)) (sym over) tt),
      is ∙ ap (λ (ps : List Part). row ++ row_bytes (bytes_of (map Built ps))) (sym over) ∙ so_far.whole,
    )
