use Rattle.std.proofs.Common.{◌==◌, ap, sym, ◌∙◌}
use Rattle.std.specs.List.{list_any}
use Rattle.rz_events.specs.declared.files.NodeSpec.{NodeSpec}
use Rattle.rz_export_model.specs.Export.{Export, is_node}
use Rattle.rz_export.specs.declared.nodes.KeptNode.{KeptNode}
use Rattle.rz_export.proofs.Enrolled.{any-map}
use Rattle.rz_export.proofs.export.Export.is_node.Goals as goal

pub returns : goal.returns
returns c =
    let node = c.args.node in
    c.is_among.ensures ∙ ap (list_any (λ (k : KeptNode). k.spec.sid == node)) c.as_slice.ensures.value
    ∙ sym (any-map (λ (n : NodeSpec). n.sid == node) (λ (k : KeptNode). k.spec) c.self.inside.nodes.items)
    ∙ ap (list_any (λ (n : NodeSpec). n.sid == node)) c.self.invariant.all_nodes
    ∙ ap (λ (s : Export). is_node s node) c.self.view_is
