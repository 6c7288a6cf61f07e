use Rattle.rz_threads_workers.proofs.Gathered.{held-now}
use Rattle.rz_threads_workers.proofs.passes.gather_one.Goals as goal

pub returns-clause-goes : goal.returns-clause-goes
returns-clause-goes g c = let e = c.gather.ensures in record { actor = e.same.0; more = c.args.other.keys; keys = e.same.1; stays = e.stays; later = e.later.0 }

pub returns-clause-held : goal.returns-clause-held
returns-clause-held g c = held-now c.gather.new.front c.args.other c.args.front.now.keys c.actor-own.ensures.own c.actor-own.ensures.word c.gather.ensures.same.1 c.gather.ensures.gathers
