use Rattle.std.proofs.Common.{rules, ◌≡◌, ℕ, ◌+◌, ◌*◌, length, ◌∙◌, ap}
use Rattle.mj_angles.specs.Layout.{max_bins_of}
use Rattle.rz_record.specs.Record.{slot_bytes}
use Rattle.rz_cells_slots.specs.declared.geometry.Geometry.{Geometry}
use Rattle.rz_cells_slots.specs.Shape.{slot_of}
use Rattle.rz_cells_slots.proofs.migrating.reserve.Goals as goal

slot_is : (g : Geometry) (n : ℕ) → n ≡ max_bins_of g.layout → 48 + 8 * n ≡ slot_of g
unfolding slot_bytes
slot_is g n is = ap (λ (k : ℕ). 48 + 8 * k) is

pub returns-clause-bins : goal.returns-clause-bins
returns-clause-bins c =
    let long : length c.in_ok-from_elem.field-0.items ≡ c.max_bins.result = search rules in
    slot_is c.args.geometry.now (length c.in_ok-from_elem.field-0.items) (long ∙ c.max_bins.ensures.value)
