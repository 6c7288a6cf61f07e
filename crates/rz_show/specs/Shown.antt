-- The events of an actor that the text of a log tells of, or that it looks back at.
use Rattle.std.specs.Prelude.{Bool, true, false, not, cond, List, [], ◌∷◌, ◌++◌, Option, Some, None}
use Rattle.rz_events.specs.declared.tree.TreeCall.{TreeCall}
use Rattle.rz_events.specs.declared.tree.TreeCall.TheVariants as call
use Rattle.rz_events.specs.declared.tree.TreeReply.{TreeReply}
use Rattle.rz_events.specs.declared.tree.TreeReply.TheVariants as reply
use Rattle.rz_events.specs.declared.files.FileInfo.{FileInfo}
use Rattle.rz_events.specs.declared.export.Reply.{Reply}
use Rattle.rz_events.specs.declared.export.Reply.TheVariants as answer
use Rattle.rz_events.specs.declared.events.Event.{Event}
use Rattle.rz_events.specs.declared.events.Event.TheVariants as e

-- a call that opened a file
abbrev pub is_open : TreeCall → TreeReply → Bool
is_open (call.OpenFile path) (reply.File info) = true
is_open c r = false

-- the end of a block that is no part of an operation, the answer of an operation, and the file that it opened
abbrev pub is_shown : Event → Bool
is_shown (e.Got by number key part end) = not part
is_shown (e.Gave by number key part end) = not part
is_shown (e.Done by number answer) = true
is_shown (e.Meta by c r) = is_open c r
is_shown x = false

abbrev pub if_shown : Event → List Event
if_shown x = cond (is_shown x) (x ∷ []) []

abbrev pub shown_in : Option Event → List Event
shown_in None = []
shown_in (Some x) = if_shown x

-- those among an actor's own events, of which the newest is the first, in the order in which they came
abbrev pub shown_of : List Event → List Event
shown_of [] = []
shown_of (x ∷ own) = shown_of own ++ if_shown x

-- the file that a reply tells
abbrev pub file_in : Reply → Option FileInfo
file_in (answer.Tree (reply.File info)) = Some info
file_in r = None
