use Rattle.rz_shared.proofs.cluster.Cluster.finish.Goals as goal

pub finish-requires-clause-legal : goal.finish-requires-clause-legal
finish-requires-clause-legal g c = (c.one_rule.ensures.may g.J.Naming.kind g.J.Naming.earlier c.args.pass.now.log c.args.event.now c.actor-by.ensures.earlier c.requires.legal).0

pub finish-requires-clause-after : goal.finish-requires-clause-after
finish-requires-clause-after g c = (c.one_rule.ensures.may g.J.Naming.kind g.J.Naming.earlier c.args.pass.now.log c.args.event.now c.actor-by.ensures.earlier c.requires.legal).1
