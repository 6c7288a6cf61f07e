-- Entries that are read one by one.
use Rattle.std.proofs.Common.{◌≡◌, inr, ℕ, ◌+◌, ◌-◌, ◌%◌, ◌<◌, List, [], ◌∷◌, ◌++◌, length, take, drop, get_or, Result, Ok, Err, IfOk, refl, sym, ◌∙◌, ap, subst, arith}
use Rattle.byteorder.specs.Endian.{little_number}
use Rattle.rz_disk.specs.Images.{window}
use Rattle.rz_journal_text.specs.declared.entry.JournalEntry.{JournalEntry as Said}
use Rattle.rz_journal_text.specs.declared.fault.EntryFault.{EntryFault}
use Rattle.rz_journal_text.specs.declared.fault.EntryFault.TheVariants.{BadEntry}
use Rattle.rz_journal_text.specs.Spelling.{Spells}
use Rattle.rz_journal_text.specs.Fronts.{IsThis}
use Rattle.rz_journal.specs.Row.{Entries, taken, IsEntryAt}
use Rattle.rz_journal.proofs.FramedRows.{row_more, taken_more}
use Rattle.rz_journal.proofs.Halves.{entry_at_place}
use Rattle.rz_journal.specs.declared.reading.EntryFound.{EntryFound}
use Rattle.rz_journal.specs.declared.reading.EntryFound.TheVariants.{Entry, Damaged}
use Rattle.rz_journal.specs.JournalText.{AreSpelled}
use Rattle.rz_journal.specs.Listed.{length_at, IsEntryFound, SoFar}

-- the range that is read is that of the entry
pub range_is : (half : List ℕ) (from count : ℕ) → take (from + count - from) (drop from half) ≡ window from count half
range_is half from count = let same : from + count - from ≡ count = omega arith in ap (λ (n : ℕ). take n (drop from half)) same

module _ (half : List ℕ) (at count : ℕ) (gate : get_or half at 0 % 2 ≡ 1) (is : little_number 4 (drop (at + 1) half) ≡ count) (room : at + (5 + count) < length half) where
  -- an entry was read
  pub read_there : (e : Said) (next : ℕ) → next ≡ at + 5 + count → Spells (window (at + 5) count half) e → IsEntryFound half at (Entry e next)
  read_there e next behind spelled =
      let there = entry_at_place half at count gate is room in
      let long : length (window (at + 5) count half) ≡ count = sym there.count ∙ is in
      (window (at + 5) count half, there, spelled, omega (arith, long, behind), omega (arith, behind, room))

  -- no entry has the bytes
  pub none_there : {E : Type 0} (r : Result EntryFound E) (fault : EntryFault) → IfOk r (λ step. (step ≡ Damaged) × (fault ≡ BadEntry)) → ((e : Said) → Spells (window (at + 5) count half) e → IsThis e (Err fault)) → IfOk r (IsEntryFound half at)
  none_there (Err e) fault answered exact = tt
  none_there (Ok step) fault answered exact =
      let bad : (e : Said) → ¬ Spells (window (at + 5) (length_at half at) half) e =
      λ e spelled. subst (λ (f : EntryFault). IsThis e (Err f)) answered.1 (exact e (subst (λ (n : ℕ). Spells (window (at + 5) n half) e) is spelled)) in
      subst (IsEntryFound half at) (sym answered.0) record { open_gate = gate; wrong = inr bad }

spelled_more : (bytes : Entries) (entries : List Said) (b : List ℕ) (e : Said) → AreSpelled bytes entries → Spells b e → AreSpelled (bytes ++ b ∷ []) (entries ++ e ∷ [])
spelled_more [] [] b e all one = (one, tt)
spelled_more [] (x ∷ xs) b e all one = absurd all
spelled_more (y ∷ ys) [] b e all one = absurd all
spelled_more (y ∷ ys) (x ∷ xs) b e all one = (all.0, spelled_more ys xs b e all.1 one)

-- nothing so far
pub none_so_far : (half : List ℕ) → SoFar half [] 0
none_so_far half = ([], tt, tt, refl)

-- one entry more
pub one_more : (half : List ℕ) (entries : List Said) (at : ℕ) (e : Said) (next : ℕ) → SoFar half entries at → IsEntryFound half at (Entry e next) → SoFar half (entries ++ e ∷ []) next
one_more half entries at e next so_far step =
    let place : at ≡ 0 + taken so_far.0 = omega (arith, so_far.3) in (
      so_far.0 ++ step.0 ∷ [],
      row_more so_far.0 0 step.0 half so_far.1 (subst (λ (k : ℕ). IsEntryAt k step.0 half) place step.1),
      spelled_more so_far.0 entries step.0 e so_far.2 step.2,
      omega (arith, taken_more so_far.0 step.0, so_far.3, step.3),
    )

-- the address behind an entry
pub next_is : (half : List ℕ) (at : ℕ) (step : EntryFound) (e : Said) (next : ℕ) → step ≡ Entry e next → IsEntryFound half at step → (at < next) × (next < length half)
next_is half at step e next is stands =
    let there : IsEntryFound half at (Entry e next) = subst (IsEntryFound half at) is stands in
    (omega (arith, there.3), there.4)
