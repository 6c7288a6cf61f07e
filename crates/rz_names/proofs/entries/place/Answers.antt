use Rattle.std.proofs.Common.{◌≡◌, true, false}
use Rattle.rz_export_model.specs.Paths.{path_cmp}
use Rattle.rz_names.specs.Cuts.{passes}
use Rattle.rz_names.proofs.Sorted.{search-right, search-left}
use Rattle.rz_names.proofs.PathOrder.{passes-falls}
use Rattle.rz_names.proofs.entries.place.Goals as goal

pub down-preserved-then-is_passed : goal.down-preserved-then-is_passed
down-preserved-then-is_passed c =
    let passed : passes c.args.cut.now c.in-Some.field-0.item.now.0 ≡ true = cc in
    search-right path_cmp (passes c.args.cut.now) c.args.entries.now c.down.rest.now c.in-Some.field-0.left.now c.in-Some.field-0.item.now c.in-Some.field-0.right.now c.down.end c.down.invariant c.in-Some.ensures (passes-falls c.args.cut.now) passed

pub down-preserved : goal.down-preserved
down-preserved c =
    let other : passes c.args.cut.now c.in-Some.field-0.item.now.0 ≡ false = cc in
    search-left path_cmp (passes c.args.cut.now) c.args.entries.now c.down.rest.now c.in-Some.field-0.left.now c.in-Some.field-0.item.now c.in-Some.field-0.right.now c.down.end c.down.invariant c.in-Some.ensures c.len.result c.len.ensures other
