use Rattle.std.proofs.Common.{sym, arith}
use Rattle.std.proofs.lemmas.Str.Pattern.{strip_prefix_char}
use Rattle.rz_script_words.proofs.Numbers.{neither}
use Rattle.rz_script_words.proofs.judges.read_actor.Goals as goal

pub returns : goal.returns
returns c =
    let p = rw c.in_default.is at (strip_prefix_char 99 c.args.word.now c.strip_prefix.result c.strip_prefix.ensures.cases (omega arith)) in
    let q = rw c.in_default-strip_prefix.is at (strip_prefix_char 114 c.args.word.now c.strip_prefix-2.result c.strip_prefix-2.ensures.cases (omega arith)) in
    sym (neither c.args.word.now p q)
