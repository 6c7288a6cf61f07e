use Rattle.rz_scrub_report.proofs.Whole.{whole}
use Rattle.rz_scrub_report.proofs.laws.whole_records.Goals as goal

pub returns : goal.returns
returns c = whole
