use Rattle.std.proofs.Common.{ap, ◌∙◌}
use Rattle.std.specs.FinMap as maps
use Rattle.rz_export_model.specs.Export.{Export}
use Rattle.rz_export.specs.Nodes.{enrolments_of}
use Rattle.rz_export.proofs.export.Export.enrolment.Goals as goal

pub returns : goal.returns
returns c =
    c.last_enrolment.ensures ∙ ap (λ ns. maps.get (enrolments_of ns) c.args.node) c.as_slice.ensures.value
    ∙ ap (λ (s : Export). maps.get s.enrolled c.args.node) c.self.view_is
