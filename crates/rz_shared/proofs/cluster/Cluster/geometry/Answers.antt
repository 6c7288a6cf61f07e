use Rattle.std.proofs.Common.{List, get_or, sym, ap, ◌∙◌}
use Rattle.rz_events.specs.declared.files.NodeSpec.{NodeSpec}
use Rattle.rz_chronicle.specs.Kinds.{volume_in}
use Rattle.rz_shared.proofs.Ordered.{geometry-at}
use Rattle.rz_shared.proofs.cluster.Cluster.geometry.Goals as goal

pub returns-clause-of_node : goal.returns-clause-of_node
returns-clause-of_node g c =
    geometry-at (volume_in g.J.Naming.kind) c.as_slice.result.now c.place_of.result c.index-spec.result.now c.index-spec.result.now c.self.inside.layout c.bsize.result c.args.node (c.as_slice.ensures.value ∙ c.self.invariant.0) c.self.invariant.3 c.place_of.ensures.within
    (c.place_of.ensures.there c.index-spec.result.now) (c.index-spec.ensures ∙ ap (λ (ns : List NodeSpec). get_or ns c.place_of.result c.index-spec.result.now) (sym c.as_slice.ensures.value)) c.self.invariant.5 c.bsize.ensures.value
