use Rattle.std.proofs.Common.{subst}
use Rattle.rz_events.specs.declared.keys.Actor.{Actor}
use Rattle.rz_chronicle.specs.Keys.{IsOneOf, actor_key}
use Rattle.rz_threads.proofs.Done.{waits-kept}
use Rattle.rz_threads.proofs.orders.arm.Goals as goal

pub returns-clause-armed : goal.returns-clause-armed
returns-clause-armed g c =
    let old = c.args.pass.now in
    let it = c.arm.ensures.commits in
    let has = subst (λ (by : Actor). IsOneOf (actor_key by) old.keys) c.requires.admin c.actor-own.ensures.own in
    record { before = it.before; waits = waits-kept c.actors_kept.ensures old.keys has old.log it.before it.later it.stays; new_is = it.last }
