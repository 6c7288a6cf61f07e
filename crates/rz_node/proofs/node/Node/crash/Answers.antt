-- What is left is one of the images.
use Rattle.std.proofs.Common.{sym, ◌∙◌, ap, subst}
use Rattle.rz_node_model.specs.States.{NodeState}
use Rattle.rz_node.proofs.Starts.{ready-down, down-ready}
use Rattle.rz_node.proofs.Views.{state-same}
use Rattle.rz_node.proofs.Waits.{tied-moved, down-moved}
use Rattle.rz_node.proofs.node.Node.crash.Goals as goal

pub invariant_of-self : goal.invariant_of-self
invariant_of-self g c =
    let s = c.self.inside in
    let n = c.crash.new.self in
    let down = ap (λ (x : NodeState). x.phase) (state-same _ _ c.self.view_is) ∙ c.requires.down in
    record {
      tied = tied-moved s.cells.geometry n.geometry s.cells.heads n.heads s.index c.crash.ensures.geometry c.crash.ensures.heads c.self.invariant.tied;
      decided = c.self.invariant.decided;
      ready = down-ready s.phase _ _ down
          (down-moved g.D.Disk.tells (g.D.Disk.image s.cells.disk) (g.D.Disk.image n.disk) s.cells.geometry n.geometry s.cells.fence n.fence s.cells.heads n.heads s.index s.undecided
          c.crash.ensures.geometry c.crash.ensures.fence c.crash.ensures.heads
          (λ told t is. subst (g.D.Disk.image s.cells.disk) (sym (c.crash.ensures.only t is)) (c.crash.ensures.left told))
          (ready-down s.phase _ _ down c.self.invariant.ready));
    }
