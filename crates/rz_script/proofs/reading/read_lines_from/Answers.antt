use Rattle.std.proofs.Common.{◌+◌, [], arith, rules}
use Rattle.std.proofs.lemmas.Result.{err_from_is_err_and}
use Rattle.rz_script.specs.Grammar.{lines, lines_from}
use Rattle.rz_script.proofs.Loop.{added, goes_on, ends}
use Rattle.rz_script.proofs.reading.read_lines_from.Goals as goal

pub loop-line-preserved : goal.loop-line-preserved
loop-line-preserved c =
    let (o, is, e) = c.in_ok-push_line.ensures in
    (search rules, rw e (goes_on c.args.form c.args.volume.now c.loop-line.found.items c.loop-line.number (lines c.loop-line.rest.now) c.in-Some.line.now (lines c.in-Some.after.now) (lines_from c.args.form c.args.volume.now c.args.first (lines c.args.text.now)) o c.in-Some.ensures.pieces is c.loop-line.invariant.1), omega (arith, c.in-Some.ensures.shorter, c.loop-line.invariant.2))

pub returns-in_err-push_line : goal.returns-in_err-push_line
returns-in_err-push_line c =
    let p = err_from_is_err_and c.from_residual.result c.from_residual.ensures.1 in
    rw (p.1, p.2) (ends c.args.form c.args.volume.now c.loop-line.found.items c.loop-line.number (lines c.loop-line.rest.now) c.in-Some.line.now (lines c.in-Some.after.now) (lines_from c.args.form c.args.volume.now c.args.first (lines c.args.text.now)) c.in_err-push_line.field-0.0 c.in-Some.ensures.pieces c.in_err-push_line.ensures c.loop-line.invariant.1)

pub returns : goal.returns
returns c =
    added c.args.form c.args.volume.now c.loop-line.found.items c.push_line-2.new.found.items c.loop-line.number (lines c.loop-line.rest.now) c.loop-line.rest.now (lines_from c.args.form c.args.volume.now c.args.first (lines c.args.text.now)) c.push_line-2.result
    c.in_default.ensures.pieces c.push_line-2.ensures c.loop-line.invariant.1
