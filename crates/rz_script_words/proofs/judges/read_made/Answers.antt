use Rattle.std.proofs.Common.{sym}
use Rattle.rz_script_words.proofs.Numbers.{two_colons}
use Rattle.rz_script_words.proofs.judges.read_made.Goals as goal

pub returns-in-Some-cut : goal.returns-in-Some-cut
returns-in-Some-cut c =
    sym (two_colons c.args.limit c.args.parts.now c.in-Some.length.now c.in-Some.seed.now c.in-Some-cut.field-0.0.now c.in-Some-cut.field-0.1.now c.in-Some.ensures.pieces c.in-Some-cut.ensures.pieces)
