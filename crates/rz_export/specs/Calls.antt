-- The one call for all, and the places that a call needs.
use Rattle.std.specs.Prelude.{◌≡◌, ◌⊎◌, [], None}
use Rattle.rz_events.specs.declared.export.Call.{Call}
use Rattle.rz_events.specs.declared.export.Call.TheVariants as call
use Rattle.rz_events.specs.declared.export.Reply.{Reply}
use Rattle.rz_events.specs.declared.export.Reply.TheVariants as reply
use Rattle.rz_events.specs.declared.tree.TreeCall.{TreeCall}
use Rattle.rz_events.specs.declared.tree.TreeCall.TheVariants.{Create}
use Rattle.rz_export_model.specs.Place.{Placed}
use Rattle.rz_export_model.specs.Export.{Export, no_begin, new_places, export_reply, export_after}

-- the places for a call that makes a file; no other call needs any
abbrev pub placed_for : Export → TreeCall → Placed
placed_for s (Create path) = new_places s
placed_for s _ = record { cid = 0; places = [] }

-- a call for which memory may be wanting: one on names, or a begin that is not denied
abbrev pub MayWant : Export → Call → Type 0
MayWant s (call.Tree c) = Unit {0}
MayWant s (call.Begin key text) = no_begin s key ≡ None
MayWant s _ = ⊥

-- the reply and the state after it are the model's, or memory was wanting and nothing changed
abbrev pub IsAnswered : Export → Call → Reply → Export → Type 0
IsAnswered old c r new =
    ((r ≡ export_reply old c) × (new ≡ export_after old c)) ⊎ (MayWant old c × (r ≡ reply.NoMemory) × (new ≡ old))
