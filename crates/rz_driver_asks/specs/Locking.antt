-- What an open with a lock makes of the parts that it uses.
use Rattle.std.specs.Prelude.{ℕ, Bool, true, false, ◌≡◌, List, Option, Some, None}
use Rattle.std.specs.Option.{option_map}
use Rattle.std.specs.FinMap as map
use Rattle.rz_events.specs.declared.keys.Actor.{Actor}
use Rattle.rz_events.specs.declared.keys.Actor.TheVariants.{Client}
use Rattle.rz_events.specs.declared.tree.TreeCall.TheVariants as tree
use Rattle.rz_events.specs.declared.export.Call.TheVariants as call
use Rattle.rz_events.specs.declared.export.Reply.{Reply}
use Rattle.rz_events.specs.declared.events.Event.{Event}
use Rattle.rz_export_model.specs.Export.{Export, export_reply, export_after}
use Rattle.rz_export_model.specs.ExportEvents.{export_event}
use Rattle.rz_locks.specs.declared.conflict.Lock.{Lock}
use Rattle.rz_locks.specs.declared.conflict.LockKind.{LockKind}
use Rattle.rz_locks.specs.declared.conflict.Range.{Range}
use Rattle.rz_locks.specs.Held.{Held, Blocks}
use Rattle.rz_operation.specs.Answers.{IsWorkAfter}
use Rattle.rz_operation.specs.Machine.{Machine}
use Rattle.rz_operation_model.specs.Ask.{AskLock, ask_of}
use Rattle.rz_operation_model.specs.Steps.{Locked}
use Rattle.rz_play.specs.Turns.{lock_on}
use Rattle.rz_driver_asks.specs.Parts.{IsNoted}

-- the lock that an actor notes as its own
abbrev pub lock_of : Option (Range × LockKind) → Option Lock
lock_of held = option_map (λ (p : Range × LockKind). record { range = p.0; kind = p.1 }) held

-- what comes of a lock that is asked for, if one is
abbrev pub Grants : Held → ℕ → Option Lock → Bool → Held → Type 0
Grants locks owner None granted after = (granted ≡ false) × (after ≡ locks)
Grants locks owner (Some lock) true after = ((other : ℕ) → Blocks locks lock other → ⊥) × (after ≡ map.insert locks owner lock)
Grants locks owner (Some lock) false after = ((other : ℕ) × Blocks locks lock other) × (after ≡ locks)

abbrev pub lock_if : Bool → Option Lock → Option Lock → Option Lock
lock_if true asked held = asked
lock_if false asked held = held

-- the export's reply to the open
abbrev pub open_reply : Export → List ℕ → Reply
open_reply s path = export_reply s (call.Tree (tree.OpenFile path))

-- The file was opened, and its bytes locked where no held lock conflicts.
pub record IsFileOpened (by : Actor) (owner : ℕ) (path : List ℕ) (asked : Option Lock) (old new : Machine) (s s' : Export) (locks locks' : Held) (held held' : Option Lock) (log log' : List Event) : Type 0 where
  pub granted : Bool
  pub owner_is : by ≡ Client owner
  pub noted : IsNoted (export_event by (call.Tree (tree.OpenFile path)) (open_reply s path)) log log'
  pub after : s' ≡ export_after s (call.Tree (tree.OpenFile path))
  pub none_held : held ≡ None
  pub grants : Grants locks owner asked granted locks'
  pub held_is : held' ≡ lock_if granted asked held
  pub goes : IsWorkAfter old old.pairs (Locked granted (open_reply s path)) new

abbrev pub IsOpenPart : Actor → Machine → Machine → Export → Export → Held → Held → Option (Range × LockKind) → Option (Range × LockKind) → List Event → List Event → Type 0
IsOpenPart by old new s s' locks locks' held held' log log' =
    (path : List ℕ) × (exclusive : Bool) × (from : ℕ) × (count : ℕ) × (ask_of old.layout old.work ≡ AskLock path exclusive from count)
    × ((owner : ℕ) × IsFileOpened by owner path (lock_on (open_reply s path) exclusive from count) old new s s' locks locks' (lock_of held) (lock_of held') log log')
