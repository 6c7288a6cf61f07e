-- No call of a node changes how the next crash of its disk picks.
use Rattle.std.proofs.Common.{◌≡◌, ℕ, true, false, List, ◌∷◌, Some, None, refl}
use Rattle.rz_events.specs.declared.keys.Key.{Key}
use Rattle.rz_events.specs.declared.keys.Actor.{Actor}
use Rattle.rz_events.specs.declared.nodes.KeepAnswer.{KeepAnswer}
use Rattle.rz_events.specs.declared.nodes.KeepAnswer.TheVariants as keep
use Rattle.rz_events.specs.declared.nodes.RefillAnswer.{RefillAnswer}
use Rattle.rz_events.specs.declared.nodes.RefillAnswer.TheVariants as refill
use Rattle.rz_events.specs.declared.nodes.FetchAnswer.{FetchAnswer}
use Rattle.rz_events.specs.declared.nodes.FetchAnswer.TheVariants as fetch
use Rattle.rz_events.specs.declared.nodes.DropAnswer.{DropAnswer}
use Rattle.rz_events.specs.declared.nodes.DropAnswer.TheVariants as drop
use Rattle.rz_events.specs.declared.nodes.StartAnswer.TheVariants as start
use Rattle.rz_events.specs.declared.nodes.ReplaceAnswer.TheVariants as replace
use Rattle.rz_events.specs.declared.nodes.NodeAsk.{NodeAsk}
use Rattle.rz_events.specs.declared.nodes.NodeAsk.TheVariants as ask
use Rattle.rz_events.specs.declared.nodes.NodeAnswer.{NodeAnswer}
use Rattle.rz_events.specs.declared.nodes.NodeAnswer.TheVariants as answer
use Rattle.rz_events.specs.declared.events.Event.{Event}
use Rattle.rz_node_model.specs.NodeEvents.{node_event, keep_event, refill_event, fetch_event, drop_event}
use Rattle.rz_play.specs.Lines.{noted}
use Rattle.rz_shared_locked.specs.Picks.{pick_of}

keep-picks : (by : Actor) (n : ℕ) (key : Key) (stamp position : ℕ) (given : KeepAnswer) (w : List Event) → pick_of (keep_event by n key stamp position given ∷ w) ≡ pick_of w
keep-picks by n key stamp position keep.Kept w = refl
keep-picks by n key stamp position (keep.Passed held) w = refl
keep-picks by n key stamp position keep.Lost w = refl
keep-picks by n key stamp position keep.Down w = refl
keep-picks by n key stamp position (keep.Fenced fence) w = refl
keep-picks by n key stamp position keep.Full w = refl
keep-picks by n key stamp position keep.DiskFault w = refl

refill-picks : (by : Actor) (n fence : ℕ) (key : Key) (stamp position : ℕ) (given : RefillAnswer) (w : List Event) → pick_of (refill_event by n fence key stamp position given ∷ w) ≡ pick_of w
refill-picks by n fence key stamp position refill.Kept w = refl
refill-picks by n fence key stamp position (refill.Passed held) w = refl
refill-picks by n fence key stamp position refill.Lost w = refl
refill-picks by n fence key stamp position refill.Down w = refl
refill-picks by n fence key stamp position (refill.OtherFence now) w = refl
refill-picks by n fence key stamp position refill.Full w = refl
refill-picks by n fence key stamp position refill.DiskFault w = refl

fetch-picks : (by : Actor) (n : ℕ) (key : Key) (position stamp : ℕ) (given : FetchAnswer) (w : List Event) → pick_of (fetch_event by n key position stamp given ∷ w) ≡ pick_of w
fetch-picks by n key position stamp (fetch.Held r) w = refl
fetch-picks by n key position stamp fetch.Nothing w = refl
fetch-picks by n key position stamp fetch.Lost w = refl
fetch-picks by n key position stamp fetch.Down w = refl
fetch-picks by n key position stamp fetch.DiskFault w = refl

drop-picks : (by : Actor) (n fid : ℕ) (given : DropAnswer) (w : List Event) → pick_of (drop_event by n fid given ∷ w) ≡ pick_of w
drop-picks by n fid (drop.Dropped block stamp more) w = refl
drop-picks by n fid drop.Nothing w = refl
drop-picks by n fid drop.Lost w = refl
drop-picks by n fid drop.Down w = refl
drop-picks by n fid (drop.DiskFault block stamp) w = refl

pub call-picks : (by : Actor) (n : ℕ) (question : NodeAsk) (given : NodeAnswer) (w : List Event) → pick_of (noted (node_event by n question given) w) ≡ pick_of w
call-picks by n (ask.Keep head) (answer.Keep given) w = keep-picks by n head.key head.stamp head.position given w
call-picks by n (ask.Fetch key position stamp) (answer.Fetch given) w = fetch-picks by n key position stamp given w
call-picks by n (ask.Refill fence head) (answer.Refill given) w = refill-picks by n fence head.key head.stamp head.position given w
call-picks by n (ask.Drop fid) (answer.Drop given) w = drop-picks by n fid given w
call-picks by n ask.Probe (answer.Probe given) w = refl
call-picks by n ask.Stop (answer.Stop true) w = refl
call-picks by n ask.Stop (answer.Stop false) w = refl
call-picks by n ask.Start (answer.Start (start.Started took)) w = refl
call-picks by n ask.Start (answer.Start start.NotDown) w = refl
call-picks by n ask.Start (answer.Start start.NoMemory) w = refl
call-picks by n ask.Start (answer.Start (start.Unopened fault)) w = refl
call-picks by n ask.Lose (answer.Lose (Some loss)) w = refl
call-picks by n ask.Lose (answer.Lose None) w = refl
call-picks by n (ask.Replace loss fence) (answer.Replace replace.Replaced) w = refl
call-picks by n (ask.Replace loss fence) (answer.Replace replace.NotLost) w = refl
call-picks by n (ask.Replace loss fence) (answer.Replace (replace.OtherLoss now)) w = refl
call-picks by n (ask.Replace loss fence) (answer.Replace replace.NoMemory) w = refl
call-picks by n (ask.Replace loss fence) (answer.Replace replace.DiskFault) w = refl
call-picks by n question given w = refl
