use Rattle.std.proofs.Common.{◌∙◌, ap}
use Rattle.rz_events.specs.declared.files.NodeSpec.{NodeSpec}
use Rattle.rz_export_model.specs.Export.{fence_of}
use Rattle.rz_metadata.specs.Enrolled.{fence_among}
use Rattle.rz_metadata.proofs.PartEnrolments.{fence-enrolled, map-alike}
use Rattle.rz_metadata.proofs.enrolments.fences_of.Goals as goal

pub returns : goal.returns
returns c =
    c.in_ok-fences.ensures
    ∙ map-alike (λ (n : NodeSpec). fence_among n.sid c.as_slice.result.now) (λ (n : NodeSpec). fence_of c.args.export.now n.sid)
    (λ n. ap (fence_among n.sid) (c.as_slice.ensures.value ∙ c.in_ok-enrolled.ensures) ∙ fence-enrolled c.args.export.now n.sid) c.args.nodes.now
