use Rattle.mj_inverse_four.proofs.Angled.{angles_fall}
use Rattle.mj_inverse_four.proofs.Swept.{only_words}
use Rattle.mj_inverse_four.specs.Rows.{direction_of}
use Rattle.mj_inverse_four.specs.Fragments.{given_by}
use Rattle.mj_inverse_four.proofs.find.sweep.Goals as goal

pub compare_all-requires-clause-told : goal.compare_all-requires-clause-told
compare_all-requires-clause-told c = c.peel_rows.ensures.given (given_by c.args.frame.rows c.args.parts.now c.args.strides.now c.args.group) c.fill_rows.ensures.bins

pub returns-clause-only : goal.returns-clause-only
returns-clause-only c = λ i f small has.
    only_words c.args.frame.rows c.args.frame.cols c.args.frame.reach i (given_by c.args.frame.rows c.args.parts.now c.args.strides.now c.args.group) (direction_of c.args.frame.rows c.args.angles.now) c.peel_rows.new.grid f
    (angles_fall c.args.frame.rows c.args.frame.reach c.args.angles.now c.requires.angles) small
    (c.peel_rows.ensures.given (given_by c.args.frame.rows c.args.parts.now c.args.strides.now c.args.group) c.fill_rows.ensures.bins) has
