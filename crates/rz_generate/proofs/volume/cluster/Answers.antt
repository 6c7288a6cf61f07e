use Rattle.std.proofs.Common.{◌+◌, List, [], ◌∷◌, ◌++◌, refl, sym, ap, ◌∙◌}
use Rattle.std.proofs.lemmas.List.FromFn.{map-range_with_len_more}
use Rattle.rz_events.specs.declared.files.NodeSpec.{NodeSpec}
use Rattle.rz_generate.specs.Workload.{node_of}
use Rattle.rz_generate.proofs.volume.cluster.Goals as goal

pub loop-place-preserved : goal.loop-place-preserved
loop-place-preserved c =
    let first = c.args.first in
    let at = c.loop-place.place in
    c.in_ok-push.ensures.items
    ∙ ap (λ (xs : List NodeSpec). xs ++ node_of (first + at) ∷ []) c.loop-place.invariant
    ∙ sym (map-range_with_len_more node_of first at (first + at) refl)
