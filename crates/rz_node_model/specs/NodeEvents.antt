-- Which event an answer of a node has in the log. An answer of want of memory has none, and a start, a stop or a loss
-- that does not apply has none. A refusal carries as the number that was told the fence or the loss of the answer,
-- and 0 where it has none.
use Rattle.std.specs.Prelude.{ℕ, Bool, true, false, Option, Some, None}
use Rattle.rz_events.specs.declared.keys.Key.{Key}
use Rattle.rz_events.specs.declared.keys.Actor.{Actor}
use Rattle.rz_events.specs.declared.records.Change.TheVariants as change
use Rattle.rz_events.specs.declared.nodes.KeepAnswer.{KeepAnswer}
use Rattle.rz_events.specs.declared.nodes.KeepAnswer.TheVariants as keep
use Rattle.rz_events.specs.declared.nodes.RefillAnswer.{RefillAnswer}
use Rattle.rz_events.specs.declared.nodes.RefillAnswer.TheVariants as refill
use Rattle.rz_events.specs.declared.nodes.FetchAnswer.{FetchAnswer}
use Rattle.rz_events.specs.declared.nodes.FetchAnswer.TheVariants as fetch
use Rattle.rz_events.specs.declared.nodes.DropAnswer.{DropAnswer}
use Rattle.rz_events.specs.declared.nodes.DropAnswer.TheVariants as drop
use Rattle.rz_events.specs.declared.nodes.StartAnswer.{StartAnswer}
use Rattle.rz_events.specs.declared.nodes.StartAnswer.TheVariants as start
use Rattle.rz_events.specs.declared.nodes.ReplaceAnswer.{ReplaceAnswer}
use Rattle.rz_events.specs.declared.nodes.ReplaceAnswer.TheVariants as replace
use Rattle.rz_events.specs.declared.nodes.NodeAsk.{NodeAsk}
use Rattle.rz_events.specs.declared.nodes.NodeAsk.TheVariants as ask
use Rattle.rz_events.specs.declared.nodes.NodeAnswer.{NodeAnswer}
use Rattle.rz_events.specs.declared.nodes.NodeAnswer.TheVariants as answer
use Rattle.rz_events.specs.declared.ends.Why.TheVariants as why
use Rattle.rz_events.specs.declared.events.Event.{Event}
use Rattle.rz_events.specs.declared.events.Event.TheVariants as e
use Rattle.rz_events.specs.Nodes.{number_of}
use Rattle.rz_node_model.specs.Records.{key_at}

abbrev pub keep_event : Actor → ℕ → Key → ℕ → ℕ → KeepAnswer → Event
keep_event by node key stamp position keep.Kept = e.Did by node (change.Keep key stamp position)
keep_event by node key stamp position (keep.Passed held) = e.Passed by node key stamp held
keep_event by node key stamp position keep.Lost = e.Refused by node why.Lost 0
keep_event by node key stamp position keep.Down = e.Refused by node why.Down 0
keep_event by node key stamp position (keep.Fenced fence) = e.Refused by node why.Fenced fence
keep_event by node key stamp position keep.Full = e.Refused by node why.Full 0
keep_event by node key stamp position keep.DiskFault = e.Broke by node (Some (change.Keep key stamp position))

abbrev pub refill_event : Actor → ℕ → ℕ → Key → ℕ → ℕ → RefillAnswer → Event
refill_event by node fence key stamp position refill.Kept = e.Did by node (change.Refill fence key stamp position)
refill_event by node fence key stamp position (refill.Passed held) = e.Passed by node key stamp held
refill_event by node fence key stamp position refill.Lost = e.Refused by node why.Lost 0
refill_event by node fence key stamp position refill.Down = e.Refused by node why.Down 0
refill_event by node fence key stamp position (refill.OtherFence now) = e.Refused by node why.OtherFence now
refill_event by node fence key stamp position refill.Full = e.Refused by node why.Full 0
refill_event by node fence key stamp position refill.DiskFault =
    e.Broke by node (Some (change.Refill fence key stamp position))

abbrev pub fetch_event : Actor → ℕ → Key → ℕ → ℕ → FetchAnswer → Event
fetch_event by node key position stamp (fetch.Held r) = e.Fetch by node key position stamp (Some r)
fetch_event by node key position stamp fetch.Nothing = e.Fetch by node key position stamp None
fetch_event by node key position stamp fetch.Lost = e.Refused by node why.Lost 0
fetch_event by node key position stamp fetch.Down = e.Refused by node why.Down 0
fetch_event by node key position stamp fetch.DiskFault = e.Broke by node None

abbrev pub drop_event : Actor → ℕ → ℕ → DropAnswer → Event
drop_event by node fid (drop.Dropped block stamp more) = e.Did by node (change.Drop (key_at fid block) stamp)
drop_event by node fid drop.Nothing = e.Void by node fid
drop_event by node fid drop.Lost = e.Refused by node why.Lost 0
drop_event by node fid drop.Down = e.Refused by node why.Down 0
drop_event by node fid (drop.DiskFault block stamp) = e.Broke by node (Some (change.Drop (key_at fid block) stamp))

abbrev pub stop_event : ℕ → Bool → Option Event
stop_event node true = Some (e.Stop node)
stop_event node false = None

abbrev pub start_event : ℕ → StartAnswer → Option Event
start_event node (start.Started took) = Some (e.Start node took)
start_event node start.NotDown = None
start_event node start.NoMemory = None
start_event node (start.Unopened fault) = Some (e.Unopened node (number_of fault))

abbrev pub lose_event : ℕ → Option ℕ → Option Event
lose_event node None = None
lose_event node (Some loss) = Some (e.Lose node loss)

abbrev pub replace_event : Actor → ℕ → ℕ → ℕ → ReplaceAnswer → Option Event
replace_event by node loss fence replace.Replaced = Some (e.Replace by node loss fence)
replace_event by node loss fence replace.NotLost = Some (e.Refused by node why.NotLost 0)
replace_event by node loss fence (replace.OtherLoss now) = Some (e.Refused by node why.OtherLoss now)
replace_event by node loss fence replace.NoMemory = None
replace_event by node loss fence replace.DiskFault = Some (e.Refused by node why.DiskFault 0)

-- The event of an answer to any call of a node, or none.
abbrev pub node_event : Actor → ℕ → NodeAsk → NodeAnswer → Option Event
node_event by node (ask.Keep head) (answer.Keep given) =
    Some (keep_event by node head.key head.stamp head.position given)
node_event by node (ask.Fetch key position stamp) (answer.Fetch given) =
    Some (fetch_event by node key position stamp given)
node_event by node (ask.Refill fence head) (answer.Refill given) =
    Some (refill_event by node fence head.key head.stamp head.position given)
node_event by node (ask.Drop fid) (answer.Drop given) = Some (drop_event by node fid given)
node_event by node ask.Probe (answer.Probe given) = Some (e.Probe by node given)
node_event by node ask.Stop (answer.Stop given) = stop_event node given
node_event by node ask.Start (answer.Start given) = start_event node given
node_event by node ask.Lose (answer.Lose given) = lose_event node given
node_event by node (ask.Replace loss fence) (answer.Replace given) = replace_event by node loss fence given
node_event by node _ _ = None
