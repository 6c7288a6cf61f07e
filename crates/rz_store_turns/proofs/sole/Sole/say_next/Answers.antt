use Rattle.std.proofs.Common.{◌≡◌}
use Rattle.rz_threads_steps.proofs.Acts.{on-err}
use Rattle.rz_store_turns.proofs.Gone.{run-gone, more-gone, said-gone, said-if, same-then}
use Rattle.rz_store_turns.proofs.sole.Sole.say_next.Goals as goal

-- it was stopped before a word

pub returns-in-Some-clause-gone : goal.returns-in-Some-clause-gone
returns-in-Some-clause-gone g c =
    run-gone g.J.Naming.kind c.args.self.now.number c.args.self.now.pass c.go_on.new.self.pass c.args.machine.now c.go_on.new.machine c.go_on.ensures.ran

-- or at the word

pub returns-in_err-turn-clause-same : goal.returns-in_err-turn-clause-same
returns-in_err-turn-clause-same g c = same-then c.args.self.now c.go_on.new.self c.turn.new.self c.go_on.ensures.same c.turn.ensures.same

pub returns-in_err-turn-clause-gone : goal.returns-in_err-turn-clause-gone
returns-in_err-turn-clause-gone g c =
    let K = g.J.Naming.kind in
    let old = c.args.self.now in
    let mid = c.go_on.new.self in
    let ran = run-gone K old.number old.pass mid.pass c.args.machine.now c.go_on.new.machine c.go_on.ensures.ran in
    more-gone K g.J.Naming.earlier old mid c.turn.new.self c.args.machine.now c.go_on.new.machine c.go_on.ensures.same c.requires.hand c.go_on.ensures.hand ran c.turn.new.machine
    (run-gone K mid.number mid.pass c.turn.new.self.pass c.go_on.new.machine c.turn.new.machine c.in_err-turn.ensures.stopped)

-- it said the word

pub returns-clause-same : goal.returns-clause-same
returns-clause-same g c = same-then c.args.self.now c.go_on.new.self c.turn.new.self c.go_on.ensures.same c.turn.ensures.same

pub returns-clause-gone : goal.returns-clause-gone
returns-clause-gone g c =
    let K = g.J.Naming.kind in
    let old = c.args.self.now in
    let mid = c.go_on.new.self in
    let ran = run-gone K old.number old.pass mid.pass c.args.machine.now c.go_on.new.machine c.go_on.ensures.ran in
    said-gone K g.J.Naming.earlier old mid c.turn.new.self c.args.machine.now c.go_on.new.machine c.go_on.ensures.same c.requires.hand c.go_on.ensures.hand ran c.turn.new.machine c.in_ok-turn.ensures.turned

pub returns-clause-ended : goal.returns-clause-ended
returns-clause-ended g c =
    let K = g.J.Naming.kind in
    let old = c.args.self.now in
    let mid = c.go_on.new.self in
    let ran = run-gone K old.number old.pass mid.pass c.args.machine.now c.go_on.new.machine c.go_on.ensures.ran in
    said-if K g.J.Naming.earlier old mid c.turn.new.self c.args.machine.now c.go_on.new.machine c.go_on.ensures.same c.requires.hand c.go_on.ensures.hand ran c.turn.new.machine
    c.rebuild_end-end.result c.rebuild_end-end.ensures c.in_ok-turn.ensures.turned
