use Rattle.std.proofs.Common.{ℕ, ◌+◌, ◌*◌, ◌≤◌, sym, subst, arith}
use Rattle.rz_cells_slots.specs.Shape.{slot_of, disk_bytes}
use Rattle.rz_cells_slots.proofs.Slots.{slot_within}
use Rattle.rz_cells_slots.proofs.Lifts.{disk_small}
use Rattle.rz_cells_slots.proofs.geometry.Geometry.slot_at.Goals as goal

pub returns-clause-within : goal.returns-clause-within
returns-clause-within c =
    let s = c.args.self.now in
    subst (λ (k : ℕ). 64 + 2 * s.cells + (2 * c.args.cell + c.args.i) * k + slot_of s ≤ disk_bytes s) (sym c.slot_bytes.ensures.value) (slot_within s c.args.cell c.args.i c.requires.cell c.requires.slot)

pub returns-clause-few : goal.returns-clause-few
returns-clause-few c =
    let s = c.args.self.now in
    let within : 64 + 2 * s.cells + (2 * c.args.cell + c.args.i) * c.slot_bytes.result + slot_of s ≤ disk_bytes s =
    subst (λ (k : ℕ). 64 + 2 * s.cells + (2 * c.args.cell + c.args.i) * k + slot_of s ≤ disk_bytes s) (sym c.slot_bytes.ensures.value) (slot_within s c.args.cell c.args.i c.requires.cell c.requires.slot) in
    omega (arith, within, disk_small s c.requires.geometry)
