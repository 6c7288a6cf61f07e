use Rattle.rz_chronicle.proofs.Same.{word-same}
use Rattle.rz_chronicle.proofs.laws.words_kept.Goals as goal

pub returns : goal.returns
returns c = word-same
