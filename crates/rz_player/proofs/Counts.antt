-- What turns and lines make of the count of turns.
use Rattle.std.proofs.Common.{ℕ, Bool, true, false, ◌≡◌, ◌+◌, inl, inr, ap}
use Rattle.rz_events.specs.Volume.{Volume}
use Rattle.rz_events.specs.declared.keys.Actor.{Actor}
use Rattle.rz_events.specs.declared.nodes.NodeAsk.{NodeAsk}
use Rattle.rz_operation_model.specs.Ask.{Ask, AskExport, AskNode, AskLock, Say, Rest, ask_of}
use Rattle.rz_script.specs.declared.line.Line.{Line}
use Rattle.rz_script.specs.declared.line.Line.TheVariants as line
use Rattle.rz_play.specs.World.{World, Agenda, at_work}
use Rattle.rz_play.specs.Turns.{IsNodeTurn, Through, ReplyLost, RequestLost, IsAskTurn, counted}
use Rattle.rz_play.specs.Free.{IsFreeAskTurn, IsTurnOver}
use Rattle.rz_play.specs.Lines.{PlaysLineOver, TakesNoTurn}

node-counts : (v : Volume) (w : World) (by : Actor) (s : Agenda) (n : ℕ) (question : NodeAsk) (next : World) → IsNodeTurn v w by s n question next → next.turns ≡ w.turns
node-counts v w by s n question next (Through h) = ap (λ (m : World). m.turns) h.4
node-counts v w by s n question next (ReplyLost h) = ap (λ (m : World). m.turns) h.4
node-counts v w by s n question next (RequestLost h) = ap (λ (m : World). m.turns) h.1

ask-counts : (v : Volume) (w : World) (by : Actor) (s : Agenda) (a : Ask) (next : World) → IsAskTurn v w by s a next → next.turns ≡ w.turns
ask-counts v w by s (AskExport c) next h = ap (λ (m : World). m.turns) h.2
ask-counts v w by s (AskNode n question) next h = node-counts v w by s n question next h
ask-counts v w by s (AskLock path exclusive from count) next h = ap (λ (m : World). m.turns) h.4
ask-counts v w by s (Say said) next h = ap (λ (m : World). m.turns) h
ask-counts v w by s Rest next h = ap (λ (m : World). m.turns) h

free-counts : (v : Volume) (w : World) (by : Actor) (s : Agenda) (a : Ask) (next : World) → IsFreeAskTurn v w by s a next → next.turns ≡ w.turns
free-counts v w by s (AskExport c) next h = ask-counts v w by s (AskExport c) next h
free-counts v w by s (AskNode n question) next (inl h) = node-counts v w by s n question next h
free-counts v w by s (AskNode n question) next (inr h) = ap (λ (m : World). m.turns) h.6
free-counts v w by s (AskLock path exclusive from count) next h = ask-counts v w by s (AskLock path exclusive from count) next h
free-counts v w by s (Say said) next h = ap (λ (m : World). m.turns) h.1
free-counts v w by s Rest next h = ask-counts v w by s Rest next h

-- a turn counts one
pub turn-counts : (v : Volume) (by : Actor) (tells : Bool) (w next : World) → IsTurnOver v by tells w next → next.turns ≡ w.turns + 1
turn-counts v by true w next h = let s = at_work (w.agendas by) in ask-counts v (counted w) by s (ask_of v.layout s.work) next h
turn-counts v by false w next h = let s = at_work (w.agendas by) in free-counts v (counted w) by s (ask_of v.layout s.work) next h

-- a line without turns counts none
pub line-counts : (v : Volume) (l : Line) (tells : Bool) (w next : World) → TakesNoTurn l → PlaysLineOver v l tells w next → next.turns ≡ w.turns
line-counts v (line.Op by op) tells w next calm h = ap (λ (m : World). m.turns) h
line-counts v (line.Turn by k) tells w next calm h = absurd calm
line-counts v (line.Rounds k) tells w next calm h = absurd calm
line-counts v line.Rest tells w next calm h = absurd calm
line-counts v (line.Stop n) tells w next calm h = ap (λ (m : World). m.turns) h.next_is
line-counts v (line.Start n) true w next calm h = ap (λ (m : World). m.turns) h.next_is
line-counts v (line.Start n) false w next calm h = ap (λ (m : World). m.turns) h.next_is
line-counts v (line.Lose n) tells w next calm h = ap (λ (m : World). m.turns) h.next_is
line-counts v (line.Break n k pick) tells w next calm h = ap (λ (m : World). m.turns) h
line-counts v (line.Miss by reply) tells w next calm h = ap (λ (m : World). m.turns) h
