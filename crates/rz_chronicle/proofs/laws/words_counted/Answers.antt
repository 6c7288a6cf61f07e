use Rattle.rz_chronicle.proofs.Same.{few-of-word}
use Rattle.rz_chronicle.proofs.laws.words_counted.Goals as goal

pub returns : goal.returns
returns c = few-of-word
