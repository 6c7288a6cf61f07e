-- What is said of a play's own log goes for the log of earlier runs with it: a line without turns reads no text.
use Rattle.std.proofs.Common.{ℕ, Bool, true, false, ◌≡◌, ◌∙◌, ◌++◌, List, Option, Some, None, refl, ap}
use Rattle.rz_events.specs.Volume.{Volume}
use Rattle.rz_events.specs.declared.events.Event.{Event}
use Rattle.rz_events.specs.declared.keys.Actor.TheVariants.{Admin}
use Rattle.rz_events.specs.declared.nodes.NodeAsk.{NodeAsk}
use Rattle.rz_events.specs.declared.nodes.NodeAsk.TheVariants as ask
use Rattle.rz_node_model.specs.NodeEvents.{node_event}
use Rattle.rz_script.specs.declared.line.Line.{Line}
use Rattle.rz_script.specs.declared.line.Line.TheVariants as line
use Rattle.rz_play.specs.World.{World, with_node}
use Rattle.rz_play.specs.Turns.{answered}
use Rattle.rz_play.specs.Lines.{IsAdminCall, IsFreeStart, PlaysLineOver, TakesNoTurn, noted}
use Rattle.rz_player.specs.Behind.{behind}
use Rattle.rz_player.specs.Ends.{TellsOf}

noted-behind : (x : Option Event) (h old : List Event) → noted x h ++ old ≡ noted x (h ++ old)
noted-behind None h old = refl
noted-behind (Some x) h old = refl

-- with this log in the place of its own
abbrev logged : World → List Event → World
logged w h = record w { log = h }

-- a world that differs by an event
with-event : (old : List Event) (w next base : World) (x : Option Event) → next ≡ record base { log = noted x w.log } → behind old next ≡ record base { log = noted x (w.log ++ old) }
with-event old w next base x is = ap (behind old) is ∙ ap (logged base) (noted-behind x w.log old)

admin-behind : (v : Volume) (n : ℕ) (question : NodeAsk) (old : List Event) (w next : World) → IsAdminCall v n question w next → IsAdminCall v n question (behind old w) (behind old next)
admin-behind v n question old w next h = record { given = h.given; given_is = h.given_is; told = h.told; next_is = with-event old w next (answered w n question h.given) (node_event Admin n question h.given) h.next_is }

start-behind : (v : Volume) (n : ℕ) (old : List Event) (w next : World) → IsFreeStart v n w next → IsFreeStart v n (behind old w) (behind old next)
start-behind v n old w next h = record { given = h.given; given_is = h.given_is; answered = h.answered; state = h.state; started = h.started; next_is = with-event old w next (with_node w n h.state) (node_event Admin n ask.Start h.given) h.next_is }

pub line-behind : (v : Volume) (l : Line) (tells : Bool) (old : List Event) (w next : World) → TakesNoTurn l → PlaysLineOver v l tells w next → PlaysLineOver v l tells (behind old w) (behind old next)
line-behind v (line.Op by op) tells old w next calm h = ap (behind old) h
line-behind v (line.Turn by k) tells old w next calm h = absurd calm
line-behind v (line.Rounds k) tells old w next calm h = absurd calm
line-behind v line.Rest tells old w next calm h = absurd calm
line-behind v (line.Stop n) tells old w next calm h = admin-behind v n _ old w next h
line-behind v (line.Start n) true old w next calm h = admin-behind v n _ old w next h
line-behind v (line.Start n) false old w next calm h = start-behind v n old w next h
line-behind v (line.Lose n) tells old w next calm h = admin-behind v n _ old w next h
line-behind v (line.Break n k pick) tells old w next calm h = ap (behind old) h
line-behind v (line.Miss by reply) tells old w next calm h = ap (behind old) h

pub tells-behind : (old : List Event) (last next : World) → TellsOf last next → TellsOf (behind old last) (behind old next)
tells-behind old last next h = (ap (λ (log : List Event). log ++ old) h.0, h.1)
