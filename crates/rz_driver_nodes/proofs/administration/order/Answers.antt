use Rattle.std.proofs.Common.{◌≡◌, refl, sym, subst}
use Rattle.rz_events.specs.declared.nodes.NodeAsk.{NodeAsk}
use Rattle.rz_events.specs.declared.nodes.NodeAsk.TheVariants as ask
use Rattle.rz_driver_nodes.specs.Administration.{StopsOrLoses, IsOrderAnswered}
use Rattle.rz_driver_nodes.proofs.administration.order.Goals as goal

stops : (question : NodeAsk) → StopsOrLoses question → (question ≡ ask.Lose → ⊥) → question ≡ ask.Stop
stops ask.Stop leaves other = refl
stops ask.Lose leaves other = absurd (other refl)
stops question leaves other = absurd leaves

pub returns-in-Lose-clause-order : goal.returns-in-Lose-clause-order
returns-in-Lose-clause-order g c = subst (λ (question : NodeAsk). IsOrderAnswered question c.args.server.now c.lose.new.server c.lose.result) (sym c.in-Lose.is) c.lose.ensures.order

pub returns-in_default-clause-order : goal.returns-in_default-clause-order
returns-in_default-clause-order g c =
    subst (λ (question : NodeAsk). IsOrderAnswered question c.args.server.now c.stop.new.server c.stop.result) (sym (stops c.args.ask.now c.requires.ask c.in_default.not-Lose)) c.stop.ensures.order
