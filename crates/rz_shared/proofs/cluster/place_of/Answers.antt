use Rattle.std.proofs.Common.{arith}
use Rattle.rz_shared.proofs.Ordered.{place-of}
use Rattle.rz_shared.proofs.cluster.place_of.Goals as goal

pub loop-place-init : goal.loop-place-init
loop-place-init c = let it = place-of c.args.number c.args.nodes.now c.requires in (it.0, omega arith, it.1, it.2)
