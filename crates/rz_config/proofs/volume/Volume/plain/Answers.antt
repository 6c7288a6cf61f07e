use Rattle.rz_config.proofs.Plain.{plain_ok}
use Rattle.rz_config.proofs.volume.Volume.plain.Goals as goal

pub invariant_of-result : goal.invariant_of-result
invariant_of-result c = (c.bsize.ensures.value, rw (c.in_ok-clusters.ensures.items, c.in_ok-nodes.ensures.items) plain_ok)
