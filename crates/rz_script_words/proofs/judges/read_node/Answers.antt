use Rattle.std.proofs.Common.{sym, arith}
use Rattle.std.proofs.lemmas.Str.Pattern.{strip_prefix_char}
use Rattle.rz_script_words.proofs.Numbers.{no_node}
use Rattle.rz_script_words.proofs.judges.read_node.Goals as goal

pub returns-in_default : goal.returns-in_default
returns-in_default c =
    let p = rw c.in_default.is at (strip_prefix_char 110 c.args.word.now c.strip_prefix.result c.strip_prefix.ensures.cases (omega arith)) in
    sym (no_node c.args.volume.now c.args.word.now p)
