-- What kind of thing a machine asks.
use Rattle.std.specs.Prelude.{ℕ, Bool, ◌≡◌, List}
use Rattle.rz_events.specs.declared.export.Call.{Call}
use Rattle.rz_operation_model.specs.Ask.{Ask, AskExport, AskLock, AskNode, Rest, Say, Saying}
use Rattle.rz_operation.specs.declared.asking.AskKind.{AskKind}
use Rattle.rz_operation.specs.declared.asking.AskKind.TheVariants as kind

-- what is asked is of this kind
abbrev pub IsAskKind : Ask → AskKind → Type 0
IsAskKind asked kind.Rest = asked ≡ Rest
IsAskKind asked kind.Export = (c : Call) × (asked ≡ AskExport c)
IsAskKind asked kind.Lock = (path : List ℕ) × (exclusive : Bool) × (from : ℕ) × (count : ℕ) × (asked ≡ AskLock path exclusive from count)
IsAskKind asked (kind.Node n question) = asked ≡ AskNode n question
IsAskKind asked kind.Say = (said : Saying) × (asked ≡ Say said)
