use Rattle.mj_katz.proofs.Same.{projections_determine as blocks_equal}
use Rattle.mj_katz.proofs.projections_determine.Goals as goal

pub returns : goal.returns
returns c a b angles is is' rows cols count apart same = blocks_equal angles a b is is' rows cols count apart same
