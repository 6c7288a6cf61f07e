use Rattle.rz_chronicle.proofs.Same.{actor-same}
use Rattle.rz_chronicle.proofs.laws.actors_kept.Goals as goal

pub returns : goal.returns
returns c = actor-same
