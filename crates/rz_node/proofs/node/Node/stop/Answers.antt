-- An up node's disk has what is held.
use Rattle.std.proofs.Common.{refl}
use Rattle.rz_node.proofs.Ready.{ready-up}
use Rattle.rz_node.proofs.Waits.{down-open, up-decided}
use Rattle.rz_node.proofs.node.Node.stop.Goals as goal

pub invariant_of-self : goal.invariant_of-self
invariant_of-self g c =
    let s = c.self.inside in
    record {
      tied = c.self.invariant.tied;
      decided = λ down. absurd (down refl);
      ready = down-open g.D.Disk.tells (g.D.Disk.text s.cells.disk) (g.D.Disk.image s.cells.disk) s.cells.geometry s.cells.fence s.cells.gates.items s.cells.heads s.index s.undecided c.self.invariant.tied
          (ready-up s.phase _ _ c.in-Up.is c.self.invariant.ready) (up-decided s.phase s.undecided c.in-Up.is c.self.invariant.decided);
    }
