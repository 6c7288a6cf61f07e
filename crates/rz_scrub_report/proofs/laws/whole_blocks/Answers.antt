use Rattle.rz_scrub_report.proofs.Given.{found-whole}
use Rattle.rz_scrub_report.proofs.laws.whole_blocks.Goals as goal

pub returns : goal.returns
returns g c = λ s l block w next finding given found. found-whole (g.S.ScrubbedStore.gives s) l (g.S.ScrubbedStore.described s).layout block w.nodes given w next finding (λ n key stamp told h. h) found
