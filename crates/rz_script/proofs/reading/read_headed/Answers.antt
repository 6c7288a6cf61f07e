use Rattle.std.proofs.Common.{◌+◌, [], sym, ◌∙◌, arith, rules}
use Rattle.rz_script_words.specs.Grammar.{after_word}
use Rattle.rz_script.specs.Grammar.{lines, headed}
use Rattle.rz_script.proofs.Heads.{has_bytes, passes, gives, others, last_given, no_lines_left}
use Rattle.rz_script.proofs.reading.read_headed.Goals as goal

pub returns-in-Volume : goal.returns-in-Volume
returns-in-Volume c =
    let e = gives c.args.form c.loop-line.number (lines c.loop-line.rest.now) c.in-Some.line.now (lines c.in-Some.after.now) (headed c.args.form 1 (lines c.args.text.now)) c.in-Some.ensures.pieces c.loop-line.invariant.1 (sym c.in-Volume.is ∙ c.head_of.ensures) in
    rw e c.with_volume.ensures

pub loop-line-preserved : goal.loop-line-preserved
loop-line-preserved c = (
  search rules,
  passes c.args.form c.loop-line.number (lines c.loop-line.rest.now) c.in-Some.line.now (lines c.in-Some.after.now) (headed c.args.form 1 (lines c.args.text.now)) c.in-Some.ensures.pieces c.loop-line.invariant.1 (sym c.in-Passed.is ∙ c.head_of.ensures),
  omega (arith, c.in-Some.ensures.shorter, c.loop-line.invariant.2),
)

pub returns-in-Other : goal.returns-in-Other
returns-in-Other c =
    let e = others c.args.form c.loop-line.number (lines c.loop-line.rest.now) c.in-Some.line.now (lines c.in-Some.after.now) (headed c.args.form 1 (lines c.args.text.now)) c.in-Some.ensures.pieces c.loop-line.invariant.1 (sym c.in-Other.is ∙ c.head_of.ensures) in
    rw e c.with_plain_volume.ensures

pub with_volume-requires-in-Volume-head_of : goal.with_volume-requires-in-Volume-head_of
with_volume-requires-in-Volume-head_of c =
    let some = has_bytes c.loop-line.rest.now (sym c.in-Volume-head_of.is ∙ c.head_of-2.ensures) in
    omega (arith, some, c.loop-line.invariant.2)

pub returns-in-Passed-head_of : goal.returns-in-Passed-head_of
returns-in-Passed-head_of c =
    let e = passes c.args.form c.loop-line.number (lines c.loop-line.rest.now) c.loop-line.rest.now [] (headed c.args.form 1 (lines c.args.text.now)) c.in_default.ensures.pieces c.loop-line.invariant.1 (sym c.in-Passed-head_of.is ∙ c.head_of-2.ensures) in
    rw (sym e ∙ no_lines_left c.args.form (c.loop-line.number + 1) c.loop-line.number) c.with_plain_volume-in-Passed-head_of.ensures

pub returns-in-Volume-head_of : goal.returns-in-Volume-head_of
returns-in-Volume-head_of c =
    let e = gives c.args.form c.loop-line.number (lines c.loop-line.rest.now) c.loop-line.rest.now [] (headed c.args.form 1 (lines c.args.text.now)) c.in_default.ensures.pieces c.loop-line.invariant.1 (sym c.in-Volume-head_of.is ∙ c.head_of-2.ensures) in
    rw (e ∙ last_given c.args.form c.loop-line.number (after_word c.loop-line.rest.now)) c.with_volume-in-Volume-head_of.ensures

pub returns-in-Other-head_of : goal.returns-in-Other-head_of
returns-in-Other-head_of c =
    let e = others c.args.form c.loop-line.number (lines c.loop-line.rest.now) c.loop-line.rest.now [] (headed c.args.form 1 (lines c.args.text.now)) c.in_default.ensures.pieces c.loop-line.invariant.1 (sym c.in-Other-head_of.is ∙ c.head_of-2.ensures) in
    rw e c.with_plain_volume-in-Other-head_of.ensures
