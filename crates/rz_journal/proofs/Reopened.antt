-- The half that was read is the one that the text picks.
use Rattle.std.proofs.Common.{◌≡◌, ℕ, ◌+◌, ◌%◌, ◌<◌, ◌≤◌, Bool, IsTrue, List, [], ◌∷◌, ◌++◌, length, map, replicate, get_or, Some, refl, sym, ◌∙◌, ap, subst, arith}
use Rattle.rz_disk.specs.Images.{window}
use Rattle.rz_events.specs.Volume.{Volume}
use Rattle.rz_export_model.specs.Export.{Export, new_export}
use Rattle.rz_events.specs.declared.export.Call.TheVariants as call
use Rattle.rz_journal_text.specs.declared.entry.JournalEntry.{JournalEntry as Said}
use Rattle.rz_journal_text.specs.declared.entry.JournalEntry.TheVariants as entry
use Rattle.rz_journal_text.proofs.EntryLaws.{one_entry}
use Rattle.rz_journal.specs.declared.half_opening.HalfFault.{HalfFault}
use Rattle.rz_journal.specs.declared.half_opening.HalfFault.TheVariants as half
use Rattle.rz_journal.specs.Row.{Entries, taken, EndsAt}
use Rattle.rz_journal.specs.Stands.{half_bytes, half_at, IsJournal, IsHalfOpen}
use Rattle.rz_journal.specs.HalfOpening.{IsHalf, Refuses, HoldsSoFar}
use Rattle.rz_journal.proofs.Changes.{size_is}
use Rattle.rz_journal.proofs.Opened.{half_size_is}
use Rattle.rz_journal.proofs.Halves.{ends_moved}
use Rattle.rz_journal.proofs.FramedRows.{one_row}
use Rattle.rz_journal.specs.declared.rebuilding.JournalFault.{JournalFault}
use Rattle.rz_journal.specs.declared.rebuilding.JournalFault.TheVariants.{NoMemory, WrongSize, DiskFault, Unformatted, BadHeader, Damaged}
use Rattle.rz_journal.specs.JournalText.{AreAccepted, after_all, BeginsWith, AreSpelled, Makes, Keeps, IsTextOf}
use Rattle.rz_journal.specs.Listed.{SoFar}
use Rattle.rz_journal.specs.Said.{call_said}
use Rattle.rz_journal.specs.Kept.{IsJournalReady, IsExportAfter}
use Rattle.rz_export.specs.Building.{made_of}
use Rattle.rz_export_laws.specs.Whole.{IsWhole}
use Rattle.rz_tree.specs.declared.parts.Part.{Part}
use Rattle.rz_events.specs.declared.export.Call.{Call}
use Rattle.rz_journal.proofs.Openings.{part_volume, said_parts, said_call}
use Rattle.rz_journal.proofs.Refused.{volume_same}
use Rattle.rz_journal.specs.Opening.{said_by, said_by_all, made_by, MakeExport, StopsAtEntry, IsDamagedAt, IsReopened, IsJournalRefused, fault_of}

-- the rows of the entries of a half, with the end behind them
so_far_ends : (half : List ℕ) (entries : List Said) (used : ℕ) (so : SoFar half entries used) → get_or half used 0 % 2 ≡ 0 → EndsAt 0 so.0 half
so_far_ends half entries used so ends =
    let place : used ≡ 0 + taken so.0 = (let is = so.3 in omega (arith, is)) in
    record { row = so.1; shut = subst (λ (k : ℕ). get_or half k 0 % 2 ≡ 0) place ends }

pub holds_there : (volume : Volume) (half : List ℕ) (used : ℕ) (s : Export) → MakeExport volume half used s → HoldsSoFar half used
holds_there volume half used s is = (is.so_far.0, so_far_ends half is.entries used is.so_far is.ends, is.so_far.3)

pub small_there : (half : ℕ) (text : List ℕ) → IsJournal half text → half < 2
small_there half text journal = let picked = journal.picked in omega (arith, picked)

-- the entries of the half keep the export
pub keeps_there : (volume : Volume) (text : List ℕ) (used : ℕ) (s : Export) → IsReopened volume text used s → used < 8_388_576 → Keeps volume text s
keeps_there volume text used s re room =
    let is = re.rebuilt in
    let there = window (half_at re.half) half_bytes text in
    let size = re.journal.size in
    let small = small_there re.half text re.journal in
    let count = is.so_far.3 in
    record {
      bytes = is.so_far.0;
      entries = is.entries;
      stands = (
        re.half,
        record {
          journal = re.journal;
          ends = ends_moved (half_at re.half) half_bytes there text refl (omega (arith, size, small, size_is, half_size_is)) is.so_far.0 (omega (arith, count, room, half_size_is)) (so_far_ends there is.entries used is.so_far is.ends);
          room = omega (arith, count, room);
        },
      );
      spelled = is.so_far.2;
      makes = is.makes;
    }

module _ (tells : Bool) (text : List ℕ) (image : List ℕ → Type 0) (half : ℕ) (bytes : List ℕ) (is : IsHalf tells text image half bytes) (volume : Volume) where
  pub reopened : (used : ℕ) (s : Export) → MakeExport volume bytes used s → IsTrue tells → IsReopened volume text used s
  reopened used s r told = record { half = half; journal = is.picked.1 told; rebuilt = subst (λ (b : List ℕ). MakeExport volume b used s) (is.same told) r }

  pub room_there : (used : ℕ) → used < length bytes → used < 8_388_576
  room_there used inside = let all = is.all in omega (arith, inside, all, half_size_is)

  pub some_there : 1 ≤ length bytes
  some_there = let all = is.all in omega (arith, all, half_size_is)

  pub stopped : (fault : JournalFault) → StopsAtEntry volume bytes fault → IsJournalRefused tells volume text fault
  stopped NoMemory why = tt
  stopped (WrongSize have need) why = absurd why
  stopped DiskFault why = absurd why
  stopped Unformatted why = absurd why
  stopped BadHeader why = absurd why
  stopped (Damaged number) why = (is.size, λ told. (half, is.picked.1 told, subst (λ (b : List ℕ). IsDamagedAt volume b number) (is.same told) why))

pub refused : (tells : Bool) (volume : Volume) (text : List ℕ) (fault : HalfFault) → Refuses tells text fault → IsJournalRefused tells volume text (fault_of fault)
refused tells volume text half.NoMemory why = why
refused tells volume text (half.WrongSize have need) why = why
refused tells volume text half.DiskFault why = why
refused tells volume text half.Unformatted why = why
refused tells volume text half.BadHeader why = why

-- only a fault of a disk is one of its journal
pub disk_fault : (fault : HalfFault) → fault_of fault ≡ DiskFault → fault ≡ half.DiskFault
disk_fault half.NoMemory is = absurd (cc)
disk_fault (half.WrongSize have need) is = absurd (cc)
disk_fault half.DiskFault is = refl
disk_fault half.Unformatted is = absurd (cc)
disk_fault half.BadHeader is = absurd (cc)

pub no_disk_fault : (volume : Volume) (half : List ℕ) (fault : JournalFault) → StopsAtEntry volume half fault → fault ≡ DiskFault → ⊥
no_disk_fault volume half fault why is = subst (StopsAtEntry volume half) is why

-- ---- the volume

said_volume : (s : Export) (e : Said) → (said_by s e).volume ≡ s.volume
said_volume s (entry.Tree c) = volume_same s (call.Tree c)
said_volume s (entry.Begin key bytes) = volume_same s (call.Begin key (replicate bytes 0))
said_volume s (entry.Publish key stamp mask bytes) = volume_same s (call.Publish key stamp mask bytes)
said_volume s (entry.Enroll node loss) = volume_same s (call.Enroll node loss)
said_volume s (entry.Built p) = part_volume s p

all_volume : (s : Export) (es : List Said) → (said_by_all s es).volume ≡ s.volume
all_volume s [] = refl
all_volume s (e ∷ es) = all_volume (said_by s e) es ∙ said_volume s e

pub rebuilt_volume : (volume : Volume) (half : List ℕ) (used : ℕ) (s : Export) → MakeExport volume half used s → s.volume ≡ volume
rebuilt_volume volume half used s is = ap (λ (x : Export). x.volume) is.made ∙ all_volume (new_export volume 0) is.entries

-- the journal that is opened again keeps its export
pub ready_there : (tells : Bool) (text : List ℕ) (image : List ℕ → Type 0) (half used : ℕ) (s : Export) (volume : Volume) → IsHalfOpen tells text image half used → s.volume ≡ volume → (IsTrue tells → IsReopened volume text used s) → IsWhole s → IsJournalReady tells text image half used s
ready_there tells text image half used s volume is_open same re whole = record {
  is_open = is_open;
  keeps = λ told. subst (λ (v : Volume). Keeps v text s) (sym same) (keeps_there volume text used s (re told) is_open.room);
  whole = whole;
}

-- ---- no other export

one_list : (bytes : Entries) (xs ys : List Said) → AreSpelled bytes xs → AreSpelled bytes ys → xs ≡ ys
one_list [] [] [] first second = refl
one_list [] [] (y ∷ ys) first second = absurd second
one_list [] (x ∷ xs) ys first second = absurd first
one_list (b ∷ bytes) [] ys first second = absurd first
one_list (b ∷ bytes) (x ∷ xs) [] first second = absurd second
one_list (b ∷ bytes) (x ∷ xs) (y ∷ ys) first second =
    ap (λ (l : List Said). x ∷ l) (one_list bytes xs ys first.1 second.1) ∙ ap (λ (e : Said). e ∷ ys) (one_entry b x y first.0 second.0)

append_said : (s : Export) (xs ys : List Said) → said_by_all s (xs ++ ys) ≡ said_by_all (said_by_all s xs) ys
append_said s [] ys = refl
append_said s (x ∷ xs) ys = append_said (said_by s x) xs ys

calls_said : (s : Export) (later : List Said) (calls : List Call) → map call_said later ≡ map Some calls → said_by_all s later ≡ after_all s calls
calls_said s [] [] same = refl
calls_said s [] (c ∷ calls) same = absurd (cc)
calls_said s (e ∷ later) [] same = absurd (cc)
calls_said s (e ∷ later) (c ∷ calls) same =
    let head : call_said e ≡ Some c = cc in
    let tail : map call_said later ≡ map Some calls = cc in
    calls_said (said_by s e) later calls tail ∙ ap (λ (x : Export). after_all x calls) (said_call s e c head)

first_made : (volume : Volume) (parts : List Part) (s : Export) → BeginsWith volume parts s → s ≡ made_of volume parts
first_made volume [] s begins = begins
first_made volume (p ∷ ps) s begins = begins.1

-- entries make one export
pub makes_made : (volume : Volume) (entries : List Said) (s : Export) → Makes volume entries s → s ≡ made_by volume entries
makes_made volume entries s m =
    m.made ∙ sym (calls_said m.first m.later m.calls m.said)
    ∙ ap (λ (x : Export). said_by_all x m.later) (first_made volume m.parts m.first m.begins ∙ sym (said_parts (new_export volume 0) m.parts))
    ∙ sym (append_said (new_export volume 0) (map entry.Built m.parts) m.later) ∙ ap (made_by volume) (sym m.are)

-- a text keeps one export
same_kept : (volume : Volume) (text : List ℕ) (s u : Export) → Keeps volume text s → Keeps volume text u → s ≡ u
same_kept volume text s u one other =
    let half : other.stands.0 ≡ one.stands.0 = sym other.stands.1.journal.picked ∙ one.stands.1.journal.picked in
    let row = one_row one.bytes other.bytes (half_at one.stands.0) text one.stands.1.ends (subst (λ (h : ℕ). EndsAt (half_at h) other.bytes text) half other.stands.1.ends) in
    let entries = one_list other.bytes one.entries other.entries (subst (λ (b : Entries). AreSpelled b one.entries) row one.spelled) other.spelled in
    makes_made volume one.entries s one.makes ∙ ap (made_by volume) entries ∙ sym (makes_made volume other.entries u other.makes)

-- the calls for which the text stands give the export
pub after_calls : (volume : Volume) (text : List ℕ) (used : ℕ) (s : Export) → s.volume ≡ volume → used < 8_388_576 → IsReopened volume text used s → (calls : List Call) → IsTextOf volume text calls → IsExportAfter s calls
after_calls volume text used s same room re calls is =
    let made = same_kept volume text s (after_all (new_export volume 0) calls) (keeps_there volume text used s re room) is.keeps in
    record {
      accepted = subst (λ (v : Volume). AreAccepted (new_export v 0) calls) (sym same) is.accepted;
      made = made ∙ ap (λ (v : Volume). after_all (new_export v 0) calls) (sym same);
    }
