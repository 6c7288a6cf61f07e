-- How a write ends. A history has the newest event first; `h` is the history before the end.
use Rattle.std.specs.Prelude.{ℕ, ◌≡◌, ◌⊎◌, ◌<◌, ◌-◌, List, [], ◌∷◌, ◌++◌, Some, None, count_by}
use Rattle.mj_angles.specs.Layout.{forward_of, safe_of}
use Rattle.rz_events.specs.Volume.{Volume}
use Rattle.rz_events.specs.declared.keys.Key.{Key}
use Rattle.rz_events.specs.declared.keys.Actor.{Actor}
use Rattle.rz_events.specs.declared.ends.Denial.{Denial}
use Rattle.rz_events.specs.declared.ends.Why.{Why}
use Rattle.rz_events.specs.declared.ends.WriteEnd.{WriteEnd}
use Rattle.rz_events.specs.declared.ends.WriteEnd.TheVariants as write
use Rattle.rz_events.specs.declared.export.Asked.{Asked}
use Rattle.rz_events.specs.declared.export.Asked.TheVariants as asked
use Rattle.rz_events.specs.declared.events.Word.TheVariants.{Export}
use Rattle.rz_events.specs.declared.events.Event.{Event}
use Rattle.rz_events.specs.declared.events.Event.TheVariants as e
use Rattle.rz_core.specs.History.{Has, of_word, of_actor, facts}
use Rattle.rz_core.specs.ExportRows.{DeniedRow}
use Rattle.rz_core.specs.Own.{last, since, is_begin, is_export, is_publish}
use Rattle.rz_core.specs.Outcomes.{whys, is_failure}
use Rattle.rz_safety.specs.Reads.{before_export}

-- the actor began the write of the key with this stamp
abbrev pub IsBegunBy : List Event → Actor → Key → ℕ → Type 0
IsBegunBy h by key s = (base : ℕ) × (text : List ℕ) × Has h (e.Begin by key s base text)

-- The write of the actor was acknowledged on the nodes of the mask: its newest publish was accepted.
pub record IsAckedBy (h : List Event) (by : Actor) (key : Key) (s mask : ℕ) : Type 0 where
  pub begun : IsBegunBy h by key s
  pub published : last is_publish (of_actor by h) ≡ Some (e.Publish by key s mask None)

-- The write of the actor, the newest that it began, was short of positions: these came of the positions since then, and more of
-- them failed than the layout has to spare.
pub record IsShortOf (v : Volume) (h : List Event) (by : Actor) (key : Key) (causes : List Why) : Type 0 where
  pub stamp : ℕ
  pub begun : (base : ℕ) × (text : List ℕ) × (last is_begin (of_actor by h) ≡ Some (e.Begin by key stamp base text))
  pub outcomes : (places : List ℕ) × ((facts h).places key.fid ≡ Some places) × (causes ≡ whys key stamp (since is_begin (of_actor by h)) 0 places)
  pub many : safe_of v.layout - forward_of v.layout < count_by is_failure causes

-- the newest answer of the export to the actor denied it this, for a cause that was there
pub record IsDenied (h : List Event) (by : Actor) (question : Asked) (cause : Denial) : Type 0 where
  pub newest : last is_export (of_actor by h) ≡ Some (e.Denied by question cause)
  pub there : (more : List Event) × (more ++ (e.Denied by question cause ∷ before_export by h) ≡ h)
  pub cause_is : DeniedRow (of_word Export (before_export by h)) question cause

-- The write of the actor was overtaken, as the newest answer of the export to it tells: another one of the key began after it, with
-- this stamp.
pub record IsOvertaken (h : List Event) (by : Actor) (key : Key) (later : ℕ) : Type 0 where
  pub own : (stamp : ℕ) × (last is_export (of_actor by h) ≡ Some (e.Revoked by key stamp later)) × IsBegunBy h by key stamp × (stamp < later)
  pub other : (writer : Actor) × IsBegunBy h writer key later

-- A write that ends is acknowledged, or it was short of positions, or denied, or overtaken.
abbrev pub IsWriteEnd : Volume → List Event → Actor → Key → WriteEnd → Type 0
IsWriteEnd v h by key (write.Acked stamp mask) = IsAckedBy h by key stamp mask
IsWriteEnd v h by key (write.TooFew causes) = IsShortOf v h by key causes
IsWriteEnd v h by key (write.Denied cause) = IsDenied h by (asked.Begin key) cause ⊎ IsDenied h by (asked.Publish key) cause
IsWriteEnd v h by key (write.Revoked later) = IsOvertaken h by key later

-- each write that a history tells the end of ended so
abbrev pub AreWritesEnded : Volume → List Event → Type 0
AreWritesEnded v [] = Unit {0}
AreWritesEnded v (e.Gave by number key part end ∷ h) = AreWritesEnded v h × IsWriteEnd v h by key end
AreWritesEnded v (_ ∷ h) = AreWritesEnded v h
