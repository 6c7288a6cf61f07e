use Rattle.rz_report.proofs.Begun.{has_begun}
use Rattle.rz_report.proofs.laws.begins.Goals as goal

pub returns : goal.returns
returns c = λ v first lines end lost h ended. (has_begun c.ended.ensures c.stopped.ensures v first end lines lost h ended).0
