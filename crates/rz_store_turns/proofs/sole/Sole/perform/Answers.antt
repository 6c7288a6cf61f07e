use Rattle.std.proofs.Common.{◌≡◌}
use Rattle.rz_chronicle.specs.Kinds.{volume_in}
use Rattle.rz_threads_steps.proofs.Acts.{on-err}
use Rattle.rz_store_turns.proofs.Words.{has-come}
use Rattle.rz_store_turns.proofs.sole.Sole.perform.Goals as goal

pub returns-in_err-machine-clause-none : goal.returns-in_err-machine-clause-none
returns-in_err-machine-clause-none g c = on-err c.from_residual.result c.in_err-machine.ensures.log

pub returns-clause-came : goal.returns-clause-came
returns-clause-came g c =
    has-come g.J.Naming.kind g.J.Naming.earlier c.args.op c.args.self.now c.begin.new.self c.go_on-stopped.new.self c.in_ok-machine.machine c.go_on-stopped.new.machine
    c.in_ok-machine.ensures.log c.in_ok-machine.ensures.begun c.in_ok-machine.ensures.hand.layout c.go_on-stopped.ensures.same c.go_on-stopped.ensures.ran c.stands.ensures.legal

pub returns-clause-word : goal.returns-clause-word
returns-clause-word g c = c.go_on-stopped.ensures.word

pub returns-clause-hand : goal.returns-clause-hand
returns-clause-hand g c = c.go_on-stopped.ensures.hand
