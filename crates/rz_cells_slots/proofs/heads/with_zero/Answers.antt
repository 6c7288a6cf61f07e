use Rattle.std.proofs.Common.{◌∙◌, ap}
use Rattle.rz_events.specs.declared.keys.Key.{Key}
use Rattle.rz_cells_slots.specs.declared.heads.Slot.{Slot}
use Rattle.rz_cells_slots.specs.Packed.{head_at, key_in}
use Rattle.rz_cells_slots.proofs.Packed.{keeps_beside, says}
use Rattle.rz_cells_slots.proofs.heads.with_zero.Goals as goal

pub returns-clause-zero : goal.returns-clause-zero
returns-clause-zero c =
    let e = c.pair_of.ensures in
    ap (λ (k : Key). head_at k c.pair_of.result.zero) e.key ∙ ap (λ (s : Slot). head_at c.key_beside.result s) e.zero
    ∙ says c.slot_of.result c.key_beside.result c.args.head.now c.slot_of.ensures.some c.slot_of.ensures.none c.key_beside.ensures.some

pub returns-clause-one : goal.returns-clause-one
returns-clause-one c =
    let e = c.pair_of.ensures in
    ap (λ (k : Key). head_at k c.pair_of.result.one) e.key ∙ ap (λ (s : Slot). head_at c.key_beside.result s) e.one
    ∙ keeps_beside c.args.pair.now.one (key_in c.args.pair.now) c.key_beside.result c.args.head.now c.requires c.key_beside.ensures.some c.key_beside.ensures.none
