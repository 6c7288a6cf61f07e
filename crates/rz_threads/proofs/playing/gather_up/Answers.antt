use Rattle.std.proofs.Common.{subst}
use Rattle.rz_events.specs.declared.keys.Actor.{Actor}
use Rattle.rz_chronicle.specs.Keys.{IsOneOf, actor_key, sids_of}
use Rattle.rz_threads.proofs.Done.{waits-kept}
use Rattle.rz_threads_workers.proofs.Gathered.{goes-further}
use Rattle.rz_threads.proofs.Gathering.{held-all}
use Rattle.rz_threads.proofs.Tallies.{gathered-all}
use Rattle.rz_threads.proofs.playing.gather_up.Goals as goal

pub returns-clause-waits : goal.returns-clause-waits
returns-clause-waits g c =
    let old = c.args.admin in
    let mid = c.gather_all.new.front in
    let new = c.settled-disks.new.front in
    let goes = goes-further old mid new c.gather_all.ensures.goes c.settled-disks.ensures.goes in
    let has = subst (λ (by : Actor). IsOneOf (actor_key by) old.keys) c.requires.admin c.actor-own.ensures.own in
    waits-kept c.actors_kept.ensures old.keys has old.log new.log goes.later goes.stays

pub returns-clause-held : goal.returns-clause-held
returns-clause-held g c = held-all c.held_lasts.ensures c.args.passes.items c.gather_all.new.front c.settled-disks.new.front c.settled-disks.ensures.goes c.gather_all.ensures.held

pub returns-clause-words : goal.returns-clause-words
returns-clause-words g c = λ are.
    let held = held-all c.held_lasts.ensures c.args.passes.items c.gather_all.new.front c.settled-disks.new.front c.settled-disks.ensures.goes c.gather_all.ensures.held in
    gathered-all (sids_of c.args.store.cluster) c.args.admin c.gather_all.new.front c.settled-disks.new.front c.args.passes.items c.requires.admin c.actor-own.ensures.word c.gather_all.ensures.goes c.settled-disks.ensures.keys held are
