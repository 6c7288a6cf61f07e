use Rattle.std.proofs.Common.{ap}
use Rattle.rz_events.specs.declared.events.Event.TheVariants as e
use Rattle.rz_events.specs.declared.events.Word.TheVariants.{Own}
use Rattle.rz_threads_steps.proofs.Sayings.{own-may}
use Rattle.rz_threads_steps.proofs.sending.add_missed.Goals as goal

pub add_own-requires-clause-legal : goal.add_own-requires-clause-legal
add_own-requires-clause-legal g c =
    λ keeps. own-may c.roomy.ensures g.J.Naming.kind g.J.Naming.earlier c.args.pass.now.log c.args.pass.now.actor (e.Missed c.actor-by.result c.args.node c.args.reply) c.actor-by.ensures.earlier c.actor-by.ensures.value (ap Own c.actor-by.ensures.value) c.requires.room (c.requires.going keeps)
