use Rattle.std.proofs.Common.{◌<◌, None, length, get_or, set, ap, ◌∙◌, arith}
use Rattle.std.proofs.lemmas.List.{get_or_default}
use Rattle.std.proofs.lemmas.List.Edits.{map_over_more}
use Rattle.rz_export.specs.declared.nodes.KeptNode.{KeptNode}
use Rattle.rz_export.specs.Nodes.{with_enrolment}
use Rattle.rz_export.proofs.nodes.enroll.Goals as goal

pub loop-kept-preserved : goal.loop-kept-preserved
loop-kept-preserved c =
    let ys = c.loop-kept.nodes in
    let i = c.loop-kept.kept-index in
    let d : KeptNode = record { spec = record { sid = 0; cells = 0 }; used = 0; enrolled = None } in
    let low : i < length c.args.nodes.now = omega arith in
    let within : i < length ys = omega arith in
    ap (set ys i) c.with_enrolment.ensures
    ∙ map_over_more (with_enrolment c.args.node c.args.enrolment) c.args.nodes.now ys i (get_or ys i d) low c.loop-kept.invariant (get_or_default ys i d (get_or ys i d) within)
