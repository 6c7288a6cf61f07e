use Rattle.std.proofs.Common.{ℕ, ◌≤◌, sym, subst}
use Rattle.mj_angles.specs.declared.layout.Layout.{Layout}
use Rattle.mj_angles.specs.Layout.{inverse_of}
use Rattle.rz_scrub.specs.Records.{added}
use Rattle.rz_scrub_report.proofs.Verdicts.{verdict_is}
use Rattle.rz_scrub_report.proofs.finding.finding_of.Goals as goal

pub returns-clause-finding : goal.returns-clause-finding
returns-clause-finding c =
    let s = c.args.scrub.now in
    let e = c.judge.ensures in
    let many = subst (λ (n : ℕ). c.inverse.result ≤ n) c.added.ensures.value c.if-added-inverse.false in
    let enough = subst (λ (n : ℕ). n ≤ added s) c.inverse.ensures.value many in (
      subst (λ (y : Layout). inverse_of y ≤ added s) (sym c.requires.layout) enough,
      verdict_is s c.judge.new.out c.judge.result e.clean e.altered e.unsure e.mask e.found,
    )
