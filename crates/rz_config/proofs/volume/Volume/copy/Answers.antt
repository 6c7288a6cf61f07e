use Rattle.std.proofs.Common.{◌∙◌}
use Rattle.std.proofs.lemmas.List.{take_all}
use Rattle.rz_config.proofs.volume.Volume.copy.Goals as goal

pub invariant_of-result : goal.invariant_of-result
invariant_of-result c =
    let all = c.loop-cluster.invariant ∙ take_all c.loop-cluster.cluster-index c.deref-cluster-items.result.now c.loop-cluster-test.false ∙ c.deref-cluster-items.ensures.value in
    (c.self.invariant.0, rw all c.self.invariant.1)
