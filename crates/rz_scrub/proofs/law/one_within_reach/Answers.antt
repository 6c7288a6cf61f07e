use Rattle.rz_scrub.proofs.OnlyOne.{only-one}
use Rattle.rz_scrub.proofs.law.one_within_reach.Goals as goal

pub returns : goal.returns
returns c s g h enough within within' = only-one c.projections_determine.ensures s g h enough within within'
