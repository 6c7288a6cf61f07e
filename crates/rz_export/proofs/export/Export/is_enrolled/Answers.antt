use Rattle.std.proofs.Common.{is_some, sym, ap, ◌∙◌}
use Rattle.rz_export.specs.Nodes.{enrolled_of}
use Rattle.rz_export.proofs.Allowed.{is-some-map}
use Rattle.rz_export.proofs.export.Export.is_enrolled.Goals as goal

pub returns-in-None : goal.returns-in-None
returns-in-None c = sym (ap is_some c.in-None.is) ∙ sym (is-some-map enrolled_of c.enrolment.result) ∙ ap is_some c.enrolment.ensures

pub returns-in-Some : goal.returns-in-Some
returns-in-Some c = sym (ap is_some c.in-Some.is) ∙ sym (is-some-map enrolled_of c.enrolment.result) ∙ ap is_some c.enrolment.ensures
