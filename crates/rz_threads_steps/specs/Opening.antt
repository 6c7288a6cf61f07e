-- The call of an open, which is shown.
use Rattle.std.specs.Prelude.{◌≡◌, Option, Some, None}
use Rattle.rz_events.specs.declared.export.Call.{Call}
use Rattle.rz_events.specs.declared.export.Call.TheVariants as call
use Rattle.rz_events.specs.declared.tree.TreeCall.{TreeCall}
use Rattle.rz_events.specs.declared.tree.TreeCall.TheVariants as tree

-- it is there where the call is one, and only there
abbrev pub IsOpenCall : Call → Option TreeCall → Type 0
IsOpenCall (call.Tree (tree.OpenFile path)) opening = opening ≡ Some (tree.OpenFile path)
IsOpenCall c opening = opening ≡ None
