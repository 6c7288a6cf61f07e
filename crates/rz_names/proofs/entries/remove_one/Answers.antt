use Rattle.std.proofs.Common.{◌≡◌, ℕ, false, ◌<◌, Option, Some, None, is_some, not, length, sym, ap, ◌∙◌, refl, arith}
use Rattle.rz_export_model.specs.Paths.{paths_total}
use Rattle.rz_names.proofs.Places.{remove-parts}
use Rattle.rz_names.proofs.Sorted.{so, remove-run}
use Rattle.rz_names.proofs.Blocks.{where_absent}
use Rattle.rz_names.proofs.Names.{find-place}
use Rattle.std.specs.List.{remove}
use Rattle.rz_names.proofs.entries.remove_one.Goals as goal

none_of : (o : Option ℕ) → is_some o ≡ false → o ≡ None
none_of None h = refl
none_of (Some x) h = cc

pub returns-then-is_none-clause-items : goal.returns-then-is_none-clause-items
returns-then-is_none-clause-items c =
    sym (where_absent c.args.names.now c.args.entries.now (sym c.number_at.ensures ∙ none_of _ (c.is_none.ensures ∙ ap not c.if-is_none.true)))

pub remove-requires : goal.remove-requires
remove-requires c =
    let found = ap is_some (sym c.number_at.ensures) ∙ c.is_none.ensures ∙ ap not c.if-is_none.false in
    record { place = omega (arith, c.place_of-at.ensures.place, find-place c.args.names.now c.args.entries.now (so _ c.requires) found) }

pub returns-clause-items : goal.returns-clause-items
returns-clause-items c =
    let found = ap is_some (sym c.number_at.ensures) ∙ c.is_none.ensures ∙ ap not c.if-is_none.false in
    let within : c.place_of-at.result < length c.args.entries.now = omega (arith, c.place_of-at.ensures.place, find-place c.args.names.now c.args.entries.now (so _ c.requires) found) in
    c.remove.ensures ∙ remove-parts c.args.entries.now c.place_of-at.result within ∙ ap (remove c.args.entries.now) c.place_of-at.ensures.place
    ∙ remove-run paths_total c.args.names.now c.args.entries.now (so _ c.requires) (so _ found)
