-- What is held is what the text stands for.
use Rattle.std.proofs.Common.{ℕ, ◌≡◌, List, length, refl, sym, ap, ◌∙◌, subst}
use Rattle.rz_cells_slots.specs.declared.geometry.Geometry.{Geometry}
use Rattle.rz_cells_slots.specs.Open.{Finds}
use Rattle.rz_cells_slots.specs.Shape.{disk_bytes}
use Rattle.rz_node.specs.Kept.{IsTied}
use Rattle.rz_node.proofs.HeldOnDisk.{held-found}
use Rattle.rz_node.proofs.node.Node.reopen.Goals as goal

pub invariant_of-result : goal.invariant_of-result
invariant_of-result g c = record { tied = c.index_of-index.ensures; decided = λ down. refl; ready = c.in-Ok-reopen.ensures.open }

pub returns-in-Ok-reopen-clause-shows : goal.returns-in-Ok-reopen-clause-shows
returns-in-Ok-reopen-clause-shows g c told records stands =
    let n = c.in-Ok-reopen.cells in
    held-found c.args.geometry n.fence n.fence (g.D.Disk.text n.disk) n.heads c.index_of-index.result records
    (subst (λ (y : Geometry). IsTied y.cells n.heads c.index_of-index.result) c.in-Ok-reopen.ensures.geometry c.index_of-index.ensures)
    (subst (λ (t : List ℕ). Finds c.args.geometry t n.fence n.heads) (sym c.in-Ok-reopen.ensures.text) (c.in-Ok-reopen.ensures.found told)) stands

pub returns-in-Ok-reopen-clause-sized : goal.returns-in-Ok-reopen-clause-sized
returns-in-Ok-reopen-clause-sized g c =
    let n = c.in-Ok-reopen.cells in
    let size : length (g.D.Disk.text n.disk) ≡ disk_bytes n.geometry = c.in-Ok-reopen.ensures.open.size in
    ap (λ (t : List ℕ). length t) (sym c.in-Ok-reopen.ensures.text) ∙ size ∙ ap disk_bytes c.in-Ok-reopen.ensures.geometry
