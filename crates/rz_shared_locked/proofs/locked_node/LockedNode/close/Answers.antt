use Rattle.std.proofs.Common.{Option, IfSome, subst}
use Rattle.rz_chronicle.specs.Kinds.{volume_in}
use Rattle.rz_shared_locked.specs.LockedNodes.{AreImagesFrom}
use Rattle.rz_shared_locked.proofs.locked_node.LockedNode.close.Goals as goal

pub returns-clause-images : goal.returns-clause-images
returns-clause-images g c = λ keeps.
    subst (λ (o : Option g.row.D.Denot). IfSome o (λ (d : g.row.D.Denot). AreImagesFrom (volume_in g.J.Naming.kind) g.J.Naming.earlier c.args.self.log c.args.self.node (g.D.Disk.image d))) c.in-Some.is (c.close_after-disk.ensures.images keeps)
