-- A store that is let go and opened again.
use Rattle.std.specs.Prelude.{ℕ, ◌≢◌, ◌<◌, ◌+◌, ◌^◌, Bool, List, length}
use Rattle.rz_disk.specs.Meter.{Meter}
use Rattle.rz_events.specs.Volume.{Volume}
use Rattle.rz_events.specs.declared.nodes.Phase.TheVariants.{Lost}
use Rattle.rz_events.specs.declared.events.Word.TheVariants.{Node}
use Rattle.rz_events.specs.declared.events.Event.{Event}
use Rattle.rz_core.specs.History.{of_word}
use Rattle.rz_core.specs.NodeRows.{IsNodeOf}
use Rattle.rz_core.specs.NodeWord.{phase}
use Rattle.rz_restart_laws.specs.Returns.{NewDisk}
use Rattle.rz_store_opening.specs.declared.disks.OpenedDisks.{OpenedDisks}
use Rattle.rz_store_opening.specs.Opening.{GoesOnAfter, reopened}
use Rattle.rz_contents.specs.Model.{IsSame, model_of}

-- A store may be opened again after the log: no node is lost, and there is room for the events of an opening.
pub record MayOpenAgain (v : Volume) (h : List Event) : Type 0 where
  pub there : (n : ℕ) → IsNodeOf v n → phase (of_word (Node n) h) ≢ Lost
  pub few : length h + 256 < 2 ^ 63

-- What was opened after a log goes on in one after which users see the same.
abbrev pub IsSeenAgain : {D : Type 0} → Bool → (D → Meter) → (D → List ℕ) → (D → List ℕ → Type 0) → Type 0
IsSeenAgain {D = D} tells meter text image = (v : Volume) (h : List Event) (new : ℕ → NewDisk) (first : ℕ) (o : OpenedDisks D) → GoesOnAfter tells meter text image v h new first o
    → IsSame (model_of v h) (model_of v (reopened v new o.parts.nodes.items h))
