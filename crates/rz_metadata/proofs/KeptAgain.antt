-- A journal that is opened again stands for the calls for which its disk stood.
use Rattle.std.proofs.Common.{◌≡◌, ℕ, ◌≤◌, Bool, false, IsTrue, List, None, refl, sym, subst}
use Rattle.rz_disk.specs.Images.{Within}
use Rattle.rz_disk.specs.Meter.{Meter, faults}
use Rattle.rz_events.specs.Volume.{Volume}
use Rattle.rz_events.specs.declared.export.Call.{Call}
use Rattle.rz_journal.specs.JournalText.{IsTextOf}
use Rattle.rz_journal.specs.Kept.{IsExportAfter}
use Rattle.rz_journal.specs.Seen.{JournalView}
use Rattle.rz_metadata.specs.Reopened.{AllTextsOf}
use Rattle.rz_metadata.specs.Stands.{IsJournalKept}

pub kept-again : {D : Type 0} (tells : Bool) (meter : D → Meter) (text : D → List ℕ) (image : D → List ℕ → Type 0) (v : Volume) (d : D) (j : JournalView D) → j.closed ≡ false → j.export.volume ≡ v
    → (IsTrue tells → (calls : List Call) → IsTextOf v (text d) calls → IsExportAfter j.export calls) → Within (image d) (image j.disk) → faults (meter d) ≤ faults (meter j.disk) → (IsTrue tells → image d (text d))
    → IsTrue tells → (calls : List Call) → AllTextsOf v (image d) calls → IsJournalKept tells meter image (faults (meter d)) (record { journal = j; refusal = None }) calls
kept-again tells meter text image v d j opened volume after within counted imaged told calls all = record {
  unrefused = refl;
  is_open = opened;
  after = after told calls (all (text d) (imaged told));
  images = λ again c is. subst (λ (u : Volume). IsTextOf u c calls) (sym volume) (all c (within c is));
  lasts = counted;
}
