-- An arming changes no image.
use Rattle.rz_node.specs.Kept.{held_by}
use Rattle.rz_node.specs.DownDisk.{IsDown}
use Rattle.rz_node.proofs.Waits.{ready-again, tied-moved, down-moved}
use Rattle.rz_node.proofs.node.Node.arm.Goals as goal

pub invariant_of-self : goal.invariant_of-self
invariant_of-self g c =
    let s = c.self.inside in
    let n = c.arm.new.self in
    record {
      tied = tied-moved s.cells.geometry n.geometry s.cells.heads n.heads s.index c.arm.ensures.geometry c.arm.ensures.heads c.self.invariant.tied;
      decided = c.self.invariant.decided;
      ready = ready-again s.phase c.arm.ensures.open
          (λ (down : IsDown g.D.Disk.tells (g.D.Disk.image s.cells.disk) s.cells.geometry s.cells.fence s.undecided (held_by s.index.entries s.cells.heads)).
          down-moved g.D.Disk.tells (g.D.Disk.image s.cells.disk) (g.D.Disk.image n.disk) s.cells.geometry n.geometry s.cells.fence n.fence s.cells.heads n.heads s.index s.undecided
          c.arm.ensures.geometry c.arm.ensures.fence c.arm.ensures.heads (λ told. c.arm.ensures.within) down)
          c.self.invariant.ready;
    }
