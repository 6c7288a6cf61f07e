-- Whose the event of an answer is; an answer without one leaves the node as it was.
use Rattle.std.proofs.Common.{◌≡◌, ℕ, true, false, Some, None, sym, refl, subst}
use Rattle.rz_events.specs.declared.keys.Key.{Key}
use Rattle.rz_events.specs.declared.keys.Actor.{Actor}
use Rattle.rz_events.specs.declared.nodes.KeepAnswer.{KeepAnswer}
use Rattle.rz_events.specs.declared.nodes.KeepAnswer.TheVariants as keep
use Rattle.rz_events.specs.declared.nodes.RefillAnswer.{RefillAnswer}
use Rattle.rz_events.specs.declared.nodes.RefillAnswer.TheVariants as refill
use Rattle.rz_events.specs.declared.nodes.FetchAnswer.{FetchAnswer}
use Rattle.rz_events.specs.declared.nodes.FetchAnswer.TheVariants as fetch
use Rattle.rz_events.specs.declared.nodes.DropAnswer.{DropAnswer}
use Rattle.rz_events.specs.declared.nodes.DropAnswer.TheVariants as drop
use Rattle.rz_events.specs.declared.nodes.StartAnswer.TheVariants as start
use Rattle.rz_events.specs.declared.nodes.ReplaceAnswer.TheVariants as replace
use Rattle.rz_events.specs.declared.nodes.NodeAsk.{NodeAsk}
use Rattle.rz_events.specs.declared.nodes.NodeAsk.TheVariants as ask
use Rattle.rz_events.specs.declared.nodes.NodeAnswer.{NodeAnswer}
use Rattle.rz_events.specs.declared.nodes.NodeAnswer.TheVariants as answer
use Rattle.rz_events.specs.declared.events.Word.TheVariants.{Node}
use Rattle.rz_events.specs.declared.events.Event.{Event}
use Rattle.rz_events.specs.Events.{by_of, word_of}
use Rattle.rz_node_model.specs.States.{NodeState}
use Rattle.rz_node_model.specs.Answers.{IsNodeAnswer}
use Rattle.rz_node_model.specs.Afterwards.{after_answer}
use Rattle.rz_node_model.specs.NodeEvents.{node_event, keep_event, refill_event, fetch_event, drop_event}
use Rattle.rz_core.specs.Tied.{IsOpening}
use Rattle.rz_shared_locked.specs.LockedNodes.{IsAskerRight}

abbrev pub IsOf : Actor → ℕ → Event → Type 0
IsOf by node x = (word_of x ≡ Node node) × (by_of x ≡ by)

the_some : {A : Type 0} (a b : A) → Some a ≡ Some b → a ≡ b
the_some a b e = cc (e)

keep-of : (by : Actor) (node : ℕ) (key : Key) (stamp position : ℕ) (given : KeepAnswer) → IsOf by node (keep_event by node key stamp position given)
keep-of by node key stamp position keep.Kept = (refl, refl)
keep-of by node key stamp position (keep.Passed held) = (refl, refl)
keep-of by node key stamp position keep.Lost = (refl, refl)
keep-of by node key stamp position keep.Down = (refl, refl)
keep-of by node key stamp position (keep.Fenced fence) = (refl, refl)
keep-of by node key stamp position keep.Full = (refl, refl)
keep-of by node key stamp position keep.DiskFault = (refl, refl)

refill-of : (by : Actor) (node fence : ℕ) (key : Key) (stamp position : ℕ) (given : RefillAnswer) → IsOf by node (refill_event by node fence key stamp position given)
refill-of by node fence key stamp position refill.Kept = (refl, refl)
refill-of by node fence key stamp position (refill.Passed held) = (refl, refl)
refill-of by node fence key stamp position refill.Lost = (refl, refl)
refill-of by node fence key stamp position refill.Down = (refl, refl)
refill-of by node fence key stamp position (refill.OtherFence now) = (refl, refl)
refill-of by node fence key stamp position refill.Full = (refl, refl)
refill-of by node fence key stamp position refill.DiskFault = (refl, refl)

fetch-of : (by : Actor) (node : ℕ) (key : Key) (position stamp : ℕ) (given : FetchAnswer) → IsOf by node (fetch_event by node key position stamp given)
fetch-of by node key position stamp (fetch.Held r) = (refl, refl)
fetch-of by node key position stamp fetch.Nothing = (refl, refl)
fetch-of by node key position stamp fetch.Lost = (refl, refl)
fetch-of by node key position stamp fetch.Down = (refl, refl)
fetch-of by node key position stamp fetch.DiskFault = (refl, refl)

drop-of : (by : Actor) (node fid : ℕ) (given : DropAnswer) → IsOf by node (drop_event by node fid given)
drop-of by node fid (drop.Dropped block stamp more) = (refl, refl)
drop-of by node fid drop.Nothing = (refl, refl)
drop-of by node fid drop.Lost = (refl, refl)
drop-of by node fid drop.Down = (refl, refl)
drop-of by node fid (drop.DiskFault block stamp) = (refl, refl)

moved : (by : Actor) (node : ℕ) (a x : Event) → Some a ≡ Some x → IsOf by node a → IsOf by node x
moved by node a x e i = subst (IsOf by node) (the_some a x e) i

pub event-of : (by : Actor) (node : ℕ) (question : NodeAsk) (given : NodeAnswer) (x : Event) → IsAskerRight by question → node_event by node question given ≡ Some x → IsOf by node x
event-of by node (ask.Keep head) (answer.Keep given) x who is = moved by node _ x is (keep-of by node head.key head.stamp head.position given)
event-of by node (ask.Fetch key position stamp) (answer.Fetch given) x who is = moved by node _ x is (fetch-of by node key position stamp given)
event-of by node (ask.Refill fence head) (answer.Refill given) x who is = moved by node _ x is (refill-of by node fence head.key head.stamp head.position given)
event-of by node (ask.Drop fid) (answer.Drop given) x who is = moved by node _ x is (drop-of by node fid given)
event-of by node ask.Probe (answer.Probe given) x who is = moved by node _ x is (refl, refl)
event-of by node ask.Stop (answer.Stop true) x who is = moved by node _ x is (refl, sym who)
event-of by node ask.Stop (answer.Stop false) x who is = absurd cc
event-of by node ask.Start (answer.Start (start.Started took)) x who is = moved by node _ x is (refl, sym who)
event-of by node ask.Start (answer.Start start.NotDown) x who is = absurd cc
event-of by node ask.Start (answer.Start start.NoMemory) x who is = absurd cc
event-of by node ask.Start (answer.Start (start.Unopened fault)) x who is = moved by node _ x is (refl, sym who)
event-of by node ask.Lose (answer.Lose (Some loss)) x who is = moved by node _ x is (refl, sym who)
event-of by node ask.Lose (answer.Lose None) x who is = absurd cc
event-of by node (ask.Replace loss fence) (answer.Replace replace.Replaced) x who is = moved by node _ x is (refl, refl)
event-of by node (ask.Replace loss fence) (answer.Replace replace.NotLost) x who is = moved by node _ x is (refl, refl)
event-of by node (ask.Replace loss fence) (answer.Replace (replace.OtherLoss now)) x who is = moved by node _ x is (refl, refl)
event-of by node (ask.Replace loss fence) (answer.Replace replace.NoMemory) x who is = absurd cc
event-of by node (ask.Replace loss fence) (answer.Replace replace.DiskFault) x who is = moved by node _ x is (refl, refl)
event-of by node question given x who is = absurd cc

-- an answer without an event leaves the node as it was
pub event-none : (by : Actor) (node cells : ℕ) (question : NodeAsk) (given : NodeAnswer) (s : NodeState) → IsNodeAnswer cells s question given → node_event by node question given ≡ None → after_answer question given s ≡ s
event-none by node cells (ask.Keep head) (answer.Keep given) s a is = absurd cc
event-none by node cells (ask.Fetch key position stamp) (answer.Fetch given) s a is = absurd cc
event-none by node cells (ask.Refill fence head) (answer.Refill given) s a is = absurd cc
event-none by node cells (ask.Drop fid) (answer.Drop given) s a is = absurd cc
event-none by node cells ask.Probe (answer.Probe given) s a is = absurd cc
event-none by node cells ask.Stop (answer.Stop true) s a is = absurd cc
event-none by node cells ask.Stop (answer.Stop false) s a is = refl
event-none by node cells ask.Start (answer.Start (start.Started took)) s a is = absurd cc
event-none by node cells ask.Start (answer.Start start.NotDown) s a is = refl
event-none by node cells ask.Start (answer.Start start.NoMemory) s a is = refl
event-none by node cells ask.Start (answer.Start (start.Unopened fault)) s a is = absurd cc
event-none by node cells ask.Lose (answer.Lose (Some loss)) s a is = absurd cc
event-none by node cells ask.Lose (answer.Lose None) s a is = refl
event-none by node cells (ask.Replace loss fence) (answer.Replace replace.Replaced) s a is = absurd cc
event-none by node cells (ask.Replace loss fence) (answer.Replace replace.NotLost) s a is = absurd cc
event-none by node cells (ask.Replace loss fence) (answer.Replace (replace.OtherLoss now)) s a is = absurd cc
event-none by node cells (ask.Replace loss fence) (answer.Replace replace.NoMemory) s a is = refl
event-none by node cells (ask.Replace loss fence) (answer.Replace replace.DiskFault) s a is = absurd cc
event-none by node cells question given s a is = absurd a

-- a node that was not started opens nothing
pub never-opens : (cells : ℕ) (s : NodeState) (question : NodeAsk) (given : NodeAnswer) → (question ≡ ask.Start → ⊥) → IsNodeAnswer cells s question given → IsOpening given
never-opens cells s question (answer.Keep given) other is = tt
never-opens cells s question (answer.Fetch given) other is = tt
never-opens cells s question (answer.Refill given) other is = tt
never-opens cells s question (answer.Drop given) other is = tt
never-opens cells s question (answer.Probe given) other is = tt
never-opens cells s question (answer.Stop given) other is = tt
never-opens cells s question (answer.Lose given) other is = tt
never-opens cells s question (answer.Replace given) other is = tt
never-opens cells s ask.Start (answer.Start given) other is = absurd (other refl)
never-opens cells s question (answer.Start given) other is = absurd is
