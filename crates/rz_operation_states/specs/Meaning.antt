-- What a machine's ask means.
use Rattle.std.specs.Prelude.{ℕ, List, []}
use Rattle.rz_events.specs.declared.tree.TreeCall.{TreeCall}
use Rattle.rz_events.specs.declared.tree.TreeCall.TheVariants as tree
use Rattle.rz_events.specs.Borrowed.{call_of}
use Rattle.rz_operation_model.specs.Ask.{Ask, AskExport, AskNode, AskLock, Say, Rest, Saying, SayGot, SayGave, SayLeft, SayDone}
use Rattle.rz_operation_states.specs.declared.ask.Ask.{Ask as Asked}
use Rattle.rz_operation_states.specs.declared.ask.Ask.TheVariants as asked
use Rattle.rz_operation_states.specs.declared.ask.Saying.{Saying as Said}
use Rattle.rz_operation_states.specs.declared.ask.Saying.TheVariants as said

-- the path of a call that opens a file
abbrev pub path_in : TreeCall → List ℕ
path_in (tree.OpenFile path) = path
path_in c = []

abbrev pub saying_of : Said → Saying
saying_of (said.Got key part mark) = SayGot key part mark
saying_of (said.Gave key part end) = SayGave key part end
saying_of (said.Left key why) = SayLeft key why
saying_of (said.Done answer) = SayDone answer.now

abbrev pub meaning_of : Asked → Ask
meaning_of (asked.Export e) = AskExport (call_of e)
meaning_of (asked.Lock c exclusive from count) = AskLock (path_in c.now) exclusive from count
meaning_of (asked.Node n question) = AskNode n question
meaning_of (asked.Say s) = Say (saying_of s)
meaning_of asked.Rest = Rest
