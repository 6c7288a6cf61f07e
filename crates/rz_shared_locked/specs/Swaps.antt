-- A new disk in the place of one that the administrator loses.
use Rattle.std.specs.Prelude.{ℕ, List, Option, None, unwrap_or}
use Rattle.rz_events.specs.declared.nodes.NodeAsk.TheVariants as ask
use Rattle.rz_events.specs.declared.nodes.NodeAnswer.TheVariants as answer
use Rattle.rz_events.specs.declared.events.Event.{Event}
use Rattle.rz_node_model.specs.States.{NodeState}
use Rattle.rz_node.specs.View.{lost}
use Rattle.rz_shared_locked.specs.declared.swapping.SwapFault.{SwapFault}
use Rattle.rz_shared_locked.specs.declared.swapping.SwapFault.TheVariants as fault
use Rattle.rz_shared_locked.specs.Adding.{AddsEvent}
use Rattle.rz_shared_locked.specs.LockedNodes.{Answered}

-- the node after this loss, or lost already, on a disk that was not looked at
abbrev pub lost_after : Option ℕ → NodeState → NodeState
lost_after loss s = lost s.fence (unwrap_or loss s.losses)

-- Nothing was added: memory was wanting, or the node may lose no disk more.
abbrev pub IsUnswapped : (kind : List ℕ) (earlier : List Event) (n : ℕ) → SwapFault → (ks : List ℕ) (old new : List Event) → Type 0
IsUnswapped kind earlier n fault.NoMemory ks old new = AddsEvent ks old None new
IsUnswapped kind earlier n fault.LossesSpent ks old new = Answered kind earlier n ask.Lose (answer.Lose None) None ks old new
