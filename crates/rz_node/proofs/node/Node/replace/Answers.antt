-- A new disk holds nothing.
use Rattle.std.proofs.Common.{◌≡◌, Err, None, refl, sym, ◌∙◌, ap, subst}
use Rattle.std.specs.FinMap as maps
use Rattle.rz_events.specs.declared.nodes.Phase.TheVariants as phase
use Rattle.rz_index.specs.Indexed.{Indexed}
use Rattle.rz_cells_slots.specs.declared.geometry.Geometry.{Geometry}
use Rattle.rz_node_model.specs.States.{NodeState}
use Rattle.rz_node.specs.Kept.{held_by, IsTied}
use Rattle.rz_node.proofs.Spent.{took-as}
use Rattle.rz_node.proofs.Tied.{tied-fresh, held-empty}
use Rattle.rz_node.proofs.Views.{state-same, passed-along, failed-along}
use Rattle.rz_node.proofs.node.Node.replace.Goals as goal

pub invariant_of-self : goal.invariant_of-self
invariant_of-self g c =
    let n = c.format_again.new.self in
    record {
      tied = subst (λ (y : Geometry). IsTied y.cells n.heads c.in-Ok.index) (c.geometry.ensures ∙ sym c.format_again.ensures.geometry) (tied-fresh c.geometry.result.cells n.heads c.in-Ok-format_again.ensures.heads c.in-Ok.index c.in-Ok.ensures);
      decided = λ down. refl;
      ready = c.in-Ok-format_again.ensures.open;
    }

pub returns-in-Ok-format_again-clause-after : goal.returns-in-Ok-format_again-clause-after
returns-in-Ok-format_again-clause-after g c =
    let n = c.format_again.new.self in
    let nothing : held_by c.in-Ok.index.entries n.heads ≡ maps.empty = ap (λ (x : Indexed). held_by x.entries n.heads) c.in-Ok.ensures ∙ held-empty n.heads in
    let losses = ap (λ (s : NodeState). s.losses) (state-same _ _ c.self.view_is) in
    λ i. record { phase = phase.Up; fence = c.in-Ok-format_again.ensures.fence i; losses = losses i; held = nothing i; undecided = None }

pub returns-in-Ok-format_again-clause-spends : goal.returns-in-Ok-format_again-clause-spends
returns-in-Ok-format_again-clause-spends g c =
    let old = g.D.Disk.meter c.self.inside.cells.disk in
    let new = g.D.Disk.meter c.format_again.new.self.disk in
    passed-along g.D.Disk.meter _ _ 4 new c.self.view_is (record { took = took-as 4 _ _ old new refl c.in-Ok-format_again.ensures.meter.took; lasts = c.format_again.ensures.meter.lasts })

pub returns-clause-spends : goal.returns-clause-spends
returns-clause-spends g c =
    let old = g.D.Disk.meter c.self.inside.cells.disk in
    let new = g.D.Disk.meter c.format_again.new.self.disk in
    failed-along g.D.Disk.meter _ _ 4 new c.self.view_is (record {
      took = took-as 4 _ _ old new refl c.in-Err-DiskFault.ensures.meter.took;
      lasts = c.format_again.ensures.meter.lasts;
      risen = c.in-Err-DiskFault.ensures.meter.risen (λ i. Err (c.in-Err-DiskFault.field-0-is i));
      own_risen = c.in-Err-DiskFault.ensures.meter.own_risen (λ i. Err (c.in-Err-DiskFault.field-0-is i));
    })
