use Rattle.rz_script_words.proofs.Pieces.{cuts, parts}
use Rattle.rz_script_words.proofs.words.cut.Goals as goal

pub returns-clause-pieces : goal.returns-clause-pieces
returns-clause-pieces c = cuts c.args.at c.args.text.now c.split_once.result c.requires c.split_once.ensures.cases

pub returns-clause-parts : goal.returns-clause-parts
returns-clause-parts c = parts c.args.at c.args.text.now c.split_once.result c.requires c.split_once.ensures.cases
