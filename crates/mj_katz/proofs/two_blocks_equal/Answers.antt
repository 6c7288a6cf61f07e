use Rattle.mj_katz.proofs.Same.{projections_determine}
use Rattle.mj_katz.proofs.two_blocks_equal.Goals as goal

pub returns : goal.returns
returns c rows cols count apart same =
    projections_determine c.args.angles.now c.args.a.now c.args.b.now c.rows.ensures.grid c.rows-2.ensures.grid rows cols count apart same
