use Rattle.std.proofs.Common.{sym, subst}
use Rattle.rz_node.specs.View.{NodeView}
use Rattle.rz_node_laws.specs.Images.{IsImaged}
use Rattle.rz_shared_locked.specs.declared.occupant.Occupant.{Occupant}
use Rattle.rz_shared_locked.specs.Occupants.{AreImaged}
use Rattle.rz_shared_locked.proofs.Occupants.{lost-imaged}
use Rattle.rz_shared_locked.proofs.occupant.Occupant.swap.Goals as goal

pub returns-in-Ok-clause-empty : goal.returns-in-Ok-clause-empty
returns-in-Ok-clause-empty g c = λ v f n.
    subst (λ (o : Occupant g.row.D.Denot). AreImaged g.D.Disk.image v f n o) (sym c.replace-before.ensures.after)
    (subst (λ (x : NodeView g.row.D.Denot). IsImaged v f n x.state x.geometry (g.D.Disk.image x.disk)) (sym c.in-Ok.ensures.node)
    (lost-imaged v f n c.args.geometry _ _ (g.D.Disk.image c.args.disk)))
