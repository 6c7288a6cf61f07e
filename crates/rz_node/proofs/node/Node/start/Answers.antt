-- The disk has what was held, or that with the undecided change.
use Rattle.std.proofs.Common.{◌≡◌, ⊎_elim, ℕ, List, Err, refl, sym, ◌∙◌, ap, subst}
use Rattle.rz_events.specs.declared.nodes.OpenFault.TheVariants as fault
use Rattle.rz_events.specs.declared.nodes.Phase.{Phase}
use Rattle.rz_events.specs.declared.nodes.StartAnswer.TheVariants as start
use Rattle.std.specs.Prelude.{IsSome}
use Rattle.rz_node_model.specs.Afterwards.{after_start}
use Rattle.rz_node_model.specs.States.{NodeState}
use Rattle.rz_cells_slots.specs.Held.{Records}
use Rattle.rz_cells_slots.specs.Opening.{opening_calls}
use Rattle.rz_cells_slots.specs.declared.geometry.Geometry.{Geometry}
use Rattle.rz_cells_slots.specs.Open.{Finds}
use Rattle.rz_cells_slots.specs.Stands.{StandsFor}
use Rattle.rz_node.specs.Change.{IsBranch}
use Rattle.rz_node.specs.Kept.{held_by, IsTied}
use Rattle.rz_node.specs.View.{held_in, state_of}
use Rattle.rz_node.specs.DownDisk.{has_taken}
use Rattle.rz_node.proofs.AfterChange.{branch}
use Rattle.rz_node.proofs.HeldOnDisk.{held-found}
use Rattle.rz_node.proofs.Spent.{took-as, counted-as}
use Rattle.rz_node.proofs.Starts.{ready-down, down-ready, started, down-stands, some-taken}
use Rattle.rz_node.proofs.Views.{state-same, branch-along, opened-along, counted-along}
use Rattle.rz_node.proofs.Waits.{tied-moved, down-moved}
use Rattle.rz_node.proofs.node.Node.start.Goals as goal

pub returns-in-Ok-open_again-clause-after : goal.returns-in-Ok-open_again-clause-after
returns-in-Ok-open_again-clause-after g c told =
    let s = c.self.inside in
    let n = c.open_again.new.self in
    let tied = subst (λ (y : Geometry). IsTied y.cells n.heads c.index_of.result) c.open_again.ensures.geometry c.index_of.ensures in
    started g.D.Disk.tells (g.D.Disk.text s.cells.disk) (g.D.Disk.image s.cells.disk) s.cells.geometry s.losses s.cells.fence s.undecided s.index.entries s.cells.heads
    (ready-down s.phase _ _ c.in-Down.is c.self.invariant.ready) told (g.met.D.Disk.text_is_image s.cells.disk told) s.phase c.in-Down.is n.fence n.heads c.index_of.result c.has_taken-took.result tied (c.in-Ok-open_again.ensures.found told)
    (c.has_taken-took.ensures n.geometry.cells n.heads c.index_of.ensures)
    ∙ (λ i. after_start (start.Started c.has_taken-took.result) (state-same _ _ c.self.view_is i))

pub returns-in-Ok-open_again-clause-shows : goal.returns-in-Ok-open_again-clause-shows
returns-in-Ok-open_again-clause-shows g c told records stands =
    let s = c.self.inside in
    let n = c.open_again.new.self in
    held-found n.geometry n.fence n.fence (g.D.Disk.text n.disk) n.heads c.index_of.result records c.index_of.ensures
    (subst (λ (t : List ℕ). Finds n.geometry t n.fence n.heads) (sym c.open_again.ensures.text) (subst (λ (y : Geometry). Finds y (g.D.Disk.text s.cells.disk) n.fence n.heads) (sym c.open_again.ensures.geometry) (c.in-Ok-open_again.ensures.found told))) stands

pub returns-in-Ok-open_again-clause-branch : goal.returns-in-Ok-open_again-clause-branch
returns-in-Ok-open_again-clause-branch g c told =
    let s = c.self.inside in
    let n = c.open_again.new.self in
    let same = state-same _ _ c.self.view_is in
    let down = ready-down s.phase _ _ c.in-Down.is c.self.invariant.ready in
    let tied = subst (λ (y : Geometry). IsTied y.cells n.heads c.index_of.result) c.open_again.ensures.geometry c.index_of.ensures in
    let at : IsBranch s.cells.geometry s.cells.fence (g.D.Disk.text n.disk) s.undecided (held_by s.index.entries s.cells.heads) c.has_taken-took.result =
    branch s.cells.geometry s.cells.fence (g.D.Disk.text n.disk) s.undecided (held_by s.index.entries s.cells.heads) (held_by c.index_of.result.entries n.heads) c.has_taken-took.result down.told
    (c.has_taken-took.ensures n.geometry.cells n.heads c.index_of.ensures)
    (λ records stands. held-found s.cells.geometry n.fence s.cells.fence (g.D.Disk.text n.disk) n.heads c.index_of.result records tied
    (subst (λ (t : List ℕ). Finds s.cells.geometry t n.fence n.heads) (sym c.open_again.ensures.text) (c.in-Ok-open_again.ensures.found told)) stands) in
    branch-along _ _ (g.D.Disk.text n.disk) c.has_taken-took.result c.self.view_is
    (subst (λ (p : Phase). IsBranch s.cells.geometry s.cells.fence (g.D.Disk.text n.disk) s.undecided (held_in p s.index.entries s.cells.heads) c.has_taken-took.result) (sym c.in-Down.is) at)

pub returns-in-Ok-open_again-clause-answer : goal.returns-in-Ok-open_again-clause-answer
returns-in-Ok-open_again-clause-answer g c =
    let s = c.self.inside in
    let n = c.open_again.new.self in
    let same = state-same _ _ c.self.view_is in (
      ap (λ (x : NodeState). x.phase) (sym same) ∙ c.in-Down.is,
      λ took_it. subst (λ (x : NodeState). IsSome x.undecided) same (some-taken s.undecided c.has_taken-took.result (held_by c.index_of.result.entries n.heads) (c.has_taken-took.ensures n.geometry.cells n.heads c.index_of.ensures) took_it),
    )

pub returns-in-Ok-open_again-clause-took : goal.returns-in-Ok-open_again-clause-took
returns-in-Ok-open_again-clause-took g c =
    let n = c.open_again.new.self in
    c.has_taken-took.ensures n.geometry.cells n.heads c.index_of.ensures
    ∙ ap (λ (x : NodeState). has_taken x.undecided (held_by c.index_of.result.entries n.heads)) (state-same _ _ c.self.view_is)

pub returns-in-Ok-open_again-clause-stands : goal.returns-in-Ok-open_again-clause-stands
returns-in-Ok-open_again-clause-stands g c told =
    let n = c.open_again.new.self in
    subst (λ (y : Geometry). (records : Records) × StandsFor y n.fence (g.D.Disk.text n.disk) records) (sym c.open_again.ensures.geometry) (c.in-Ok-open_again.ensures.stands told)

pub returns-in-Ok-open_again-clause-opens : goal.returns-in-Ok-open_again-clause-opens
returns-in-Ok-open_again-clause-opens g c =
    let s = c.self.inside in
    let old = g.D.Disk.meter s.cells.disk in
    let new = g.D.Disk.meter c.open_again.new.self.disk in
    opened-along g.D.Disk.meter _ _ new c.self.view_is (record { took = took-as (opening_calls s.cells.geometry) _ _ old new refl c.in-Ok-open_again.ensures.meter.took; lasts = c.open_again.ensures.meter.lasts })

pub invariant_of-self-in-Err : goal.invariant_of-self-in-Err
invariant_of-self-in-Err g c =
    let s = c.self.inside in
    let n = c.open_again.new.self in
    record {
      tied = tied-moved s.cells.geometry n.geometry s.cells.heads n.heads s.index c.open_again.ensures.geometry c.in-Err.ensures.kept_heads c.self.invariant.tied;
      decided = c.self.invariant.decided;
      ready = down-ready s.phase _ _ c.in-Down.is
          (down-moved g.D.Disk.tells (g.D.Disk.image s.cells.disk) (g.D.Disk.image n.disk) s.cells.geometry n.geometry s.cells.fence n.fence s.cells.heads n.heads s.index s.undecided
          c.open_again.ensures.geometry c.in-Err.ensures.kept_fence c.in-Err.ensures.kept_heads (λ told. c.open_again.ensures.crash) (ready-down s.phase _ _ c.in-Down.is c.self.invariant.ready));
    }

pub returns-clause-exact : goal.returns-clause-exact
returns-clause-exact g c told =
    let s = c.self.inside in
    let d = down-stands g.D.Disk.tells (g.D.Disk.text s.cells.disk) (g.D.Disk.image s.cells.disk) s.cells.geometry s.cells.fence s.undecided (held_by s.index.entries s.cells.heads) (ready-down s.phase _ _ c.in-Down.is c.self.invariant.ready) told (g.met.D.Disk.text_is_image s.cells.disk told) in
    ⊎_elim (λ (none : c.in-Err.cause ≡ fault.NoMemory). absurd (c.in_default-cause.not-NoMemory none)) (λ (failed : c.in-Err.cause ≡ fault.DiskFault). failed) (c.in-Err.ensures.exact told s.cells.fence d.0 d.1)

pub returns-clause-answer : goal.returns-clause-answer
returns-clause-answer g c = (ap (λ (x : NodeState). x.phase) (sym (state-same _ _ c.self.view_is)) ∙ c.in-Down.is, c.in_default-cause.not-NoMemory)

pub returns-clause-after : goal.returns-clause-after
returns-clause-after g c told =
    let s = c.self.inside in
    (λ i. state_of s.phase s.losses s.undecided (c.in-Err.ensures.kept_fence i) s.index.entries (c.in-Err.ensures.kept_heads i)) ∙ state-same _ _ c.self.view_is

pub returns-clause-unstarted : goal.returns-clause-unstarted
returns-clause-unstarted g c =
    let s = c.self.inside in
    (λ i. state_of s.phase s.losses s.undecided (c.in-Err.ensures.kept_fence i) s.index.entries (c.in-Err.ensures.kept_heads i)) ∙ state-same _ _ c.self.view_is

pub returns-clause-opens : goal.returns-clause-opens
returns-clause-opens g c =
    let s = c.self.inside in
    let old = g.D.Disk.meter s.cells.disk in
    let new = g.D.Disk.meter c.open_again.new.self.disk in
    counted-along g.D.Disk.meter _ _ (c.in-Err.cause ≡ fault.DiskFault) new c.self.view_is
    (counted-as (opening_calls s.cells.geometry) _ _ _ (c.in-Err.cause ≡ fault.DiskFault) old new refl (λ is i. Err (is i)) c.in-Err.ensures.meter)
