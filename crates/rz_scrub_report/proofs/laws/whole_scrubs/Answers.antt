use Rattle.rz_scrub_report.proofs.Given.{scrub-whole}
use Rattle.rz_scrub_report.proofs.laws.whole_scrubs.Goals as goal

pub returns : goal.returns
returns g c = λ s w next text given scrubbed. scrub-whole (g.S.ScrubbedStore.described s).layout (g.S.ScrubbedStore.gives s) w next text given scrubbed
