-- The index finds the key's pair, and the versions the side.
use Rattle.std.proofs.Common.{◌+◌, ◌*◌, sym, ◌∙◌, ap, arith}
use Rattle.std.specs.Option.{option_map}
use Rattle.rz_node_model.specs.Records.{record_of, found}
use Rattle.rz_node.proofs.Tied.{held-not}
use Rattle.rz_node.proofs.Found.{found-none, found-side, side-full, there-side}
use Rattle.rz_node.proofs.fetching.record_at.Goals as goal

pub returns-in_default-clause-found : goal.returns-in_default-clause-found
returns-in_default-clause-found g c = sym (ap (found c.args.stamp) (held-not c.args.index.now.entries c.args.cells.now.heads c.args.key (sym c.in_default.ensures)))

pub returns-in_default-side_of-clause-found : goal.returns-in_default-side_of-clause-found
returns-in_default-side_of-clause-found g c =
    sym (found-none c.args.cells.now.geometry.cells c.args.cells.now.heads c.args.index.now c.requires c.args.key c.in-Some.entry (sym c.in-Some.ensures) c.args.stamp c.in_default-side_of.ensures)

pub overflow_mul-cell : goal.overflow_mul-cell
overflow_mul-cell g c =
    let shown = c.requires.shown c.args.key c.in-Some.entry (sym c.in-Some.ensures) in
    omega (arith, shown.within, c.args.cells.now.geometry_ok.few)

pub overflow_add-cell : goal.overflow_add-cell
overflow_add-cell g c =
    let shown = c.requires.shown c.args.key c.in-Some.entry (sym c.in-Some.ensures) in
    let side = found-side c.args.cells.now.geometry.cells c.args.cells.now.heads c.args.index.now c.requires c.args.key c.in-Some.entry (sym c.in-Some.ensures) c.args.stamp c.in-Some-side_of.side (2 * c.in-Some.entry.cell + c.from.result) c.in-Some-side_of.ensures (omega (arith, c.from.ensures)) in
    omega (arith, shown.within, c.args.cells.now.geometry_ok.few, side.1, c.from.ensures)

pub head-requires : goal.head-requires
head-requires g c =
    let shown = c.requires.shown c.args.key c.in-Some.entry (sym c.in-Some.ensures) in
    let side = found-side c.args.cells.now.geometry.cells c.args.cells.now.heads c.args.index.now c.requires c.args.key c.in-Some.entry (sym c.in-Some.ensures) c.args.stamp c.in-Some-side_of.side (2 * c.in-Some.entry.cell + c.from.result) c.in-Some-side_of.ensures (omega (arith, c.from.ensures)) in
    omega (arith, shown.within, side.1, c.from.ensures)

pub returns-clause-found : goal.returns-clause-found
returns-clause-found g c =
    let side = found-side c.args.cells.now.geometry.cells c.args.cells.now.heads c.args.index.now c.requires c.args.key c.in-Some.entry (sym c.in-Some.ensures) c.args.stamp c.in-Some-side_of.side (2 * c.in-Some.entry.cell + c.from.result) c.in-Some-side_of.ensures (omega (arith, c.from.ensures)) in
    ap (option_map record_of) c.in-Some-head.ensures ∙ sym side.0

pub returns-clause-there : goal.returns-clause-there
returns-clause-there g c =
    let side = found-side c.args.cells.now.geometry.cells c.args.cells.now.heads c.args.index.now c.requires c.args.key c.in-Some.entry (sym c.in-Some.ensures) c.args.stamp c.in-Some-side_of.side (2 * c.in-Some.entry.cell + c.from.result) c.in-Some-side_of.ensures (omega (arith, c.from.ensures)) in
    there-side c.args.cells.now.geometry.cells c.args.cells.now.heads c.args.index.now c.requires c.args.key c.in-Some.entry (sym c.in-Some.ensures) c.args.stamp c.in-Some-side_of.side (2 * c.in-Some.entry.cell + c.from.result) c.in-Some-head.head side.1 (omega (arith, c.from.ensures)) (sym c.in-Some-head.ensures)

pub unreachable-requires : goal.unreachable-requires
unreachable-requires g c =
    side-full c.args.cells.now.geometry.cells c.args.cells.now.heads c.args.index.now c.requires c.args.key c.in-Some.entry (sym c.in-Some.ensures) c.args.stamp c.in-Some-side_of.side (2 * c.in-Some.entry.cell + c.from.result) c.in-Some-side_of.ensures (omega (arith, c.from.ensures)) c.in_default-head.ensures
