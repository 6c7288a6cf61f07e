use Rattle.std.proofs.Common.{rules, ◌≡◌, ◌<◌, ◌≤◌, length, get_or, sym, ◌∙◌}
use Rattle.std.proofs.lemmas.List.{get_or_default}
use Rattle.rz_index.proofs.Cells.{erase-first, must-stand}
use Rattle.rz_index.proofs.index.place_of.Goals as goal

pub returns-else-index-cell-clause-first : goal.returns-else-index-cell-clause-first
returns-else-index-cell-clause-first c =
    let xs = c.args.cells.now.items in
    let i = c.loop-place.place in
    let within : i < length xs = search rules in
    let is : get_or xs i 0 ≡ c.args.cell = get_or_default xs i 0 c.index.result.now within ∙ sym c.index.ensures ∙ c.if-index-cell.false in
    erase-first xs c.args.cell i within is c.loop-place.invariant

pub returns-after-loop-place-clause-within : goal.returns-after-loop-place-clause-within
returns-after-loop-place-clause-within c =
    let past : length c.args.cells.now.items ≤ c.loop-place.place = search rules in
    absurd (must-stand _ _ _ c.requires past c.loop-place.invariant)

pub returns-after-loop-place-clause-first : goal.returns-after-loop-place-clause-first
returns-after-loop-place-clause-first c =
    let past : length c.args.cells.now.items ≤ c.loop-place.place = search rules in
    absurd (must-stand _ _ _ c.requires past c.loop-place.invariant)
