use Rattle.std.proofs.Common.{◌∙◌, ap}
use Rattle.rz_events.specs.declared.files.NodeSpec.{NodeSpec}
use Rattle.rz_metadata.specs.Enrolled.{loss_among, loss_of}
use Rattle.rz_metadata.proofs.PartEnrolments.{loss-enrolled, map-alike}
use Rattle.rz_metadata.proofs.enrolments.losses_of.Goals as goal

pub returns : goal.returns
returns c =
    c.in_ok-losses.ensures
    ∙ map-alike (λ (n : NodeSpec). loss_among n.sid c.as_slice.result.now) (λ (n : NodeSpec). loss_of c.args.export.now n.sid)
    (λ n. ap (loss_among n.sid) (c.as_slice.ensures.value ∙ c.in_ok-enrolled.ensures) ∙ loss-enrolled c.args.export.now n.sid) c.args.nodes.now
