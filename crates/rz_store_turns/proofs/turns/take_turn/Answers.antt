use Rattle.rz_store_turns.proofs.Took.{took-alone, took-turned, took-stopped, took-still, took-layout, took-right}
use Rattle.rz_store_turns.proofs.turns.take_turn.Goals as goal

pub returns-clause-alone : goal.returns-clause-alone
returns-clause-alone g c =
    took-alone g.J.Naming.kind g.J.Naming.earlier c.args.number c.args.pass.now c.step.new.pass c.args.machine.now c.step.new.machine c.step.ensures.lasts c.requires.all
    c.step.result c.step.ensures.acted c.step.ensures.stopped

pub returns-clause-turned : goal.returns-clause-turned
returns-clause-turned g c =
    took-turned g.J.Naming.kind g.J.Naming.earlier c.args.number c.args.pass.now c.step.new.pass c.args.machine.now c.step.new.machine c.step.ensures.lasts c.requires.all
    c.step.result c.step.ensures.acted

pub returns-clause-stopped : goal.returns-clause-stopped
returns-clause-stopped g c =
    took-stopped g.J.Naming.kind g.J.Naming.earlier c.args.number c.args.pass.now c.step.new.pass c.args.machine.now c.step.new.machine c.step.ensures.lasts c.requires.all
    c.step.result c.step.ensures.stopped c.step.ensures.kept

pub returns-clause-still : goal.returns-clause-still
returns-clause-still g c =
    took-still g.J.Naming.kind g.J.Naming.earlier c.args.number c.args.pass.now c.step.new.pass c.args.machine.now c.step.new.machine c.step.ensures.lasts c.requires.all
    c.step.result c.step.ensures.stopped

pub returns-clause-layout : goal.returns-clause-layout
returns-clause-layout g c =
    took-layout g.J.Naming.kind g.J.Naming.earlier c.args.number c.args.pass.now c.step.new.pass c.args.machine.now c.step.new.machine c.step.ensures.lasts c.requires.all
    c.step.result c.step.ensures.acted c.step.ensures.kept

pub returns-clause-right : goal.returns-clause-right
returns-clause-right g c =
    took-right g.J.Naming.kind g.J.Naming.earlier c.args.number c.args.pass.now c.step.new.pass c.args.machine.now c.step.new.machine c.step.ensures.lasts c.requires.all
    c.step.result c.step.ensures.acted c.step.ensures.stopped c.step.ensures.kept c.requires.right
