-- A head goes into the one or the other of its pair.
use Rattle.std.proofs.Common.{◌≡◌, ◌+◌, ◌*◌, ◌/◌, ◌<◌, length, sym, ◌∙◌, ap, arith}
use Rattle.rz_cells_slots.specs.Packed.{one_in, zero_in}
use Rattle.rz_cells_slots.proofs.Packed.{fits_one, fits_zero, heads_long, set_one, set_zero}
use Rattle.rz_cells_slots.proofs.heads.Heads.set.Goals as goal

pub index-requires : goal.index-requires
index-requires c =
    let long : length c.args.self.now ≡ 2 * length c.self.inside.pairs.items = ap length (sym c.self.view_is) ∙ heads_long c.self.inside.pairs.items in
    omega (arith, c.requires.cell, long)

pub with_zero-pair-requires : goal.with_zero-pair-requires
with_zero-pair-requires c h k is there =
    let ps = c.self.inside.pairs.items in
    let long : length c.args.self.now ≡ 2 * length c.self.inside.pairs.items = ap length (sym c.self.view_is) ∙ heads_long ps in
    let lt : c.args.cell / 2 < length c.self.inside.pairs.items = omega (arith, c.requires.cell, long) in
    let at : 2 * (c.args.cell / 2) ≡ c.args.cell = omega (arith, c.if-cell-eq0.true) in
    fits_zero ps c.args.self.now c.self.view_is (c.args.cell / 2) lt c.index.result.now c.args.cell c.args.head.now at c.requires.key h k is (ap one_in (sym c.index.ensures) ∙ there)

pub index_mut-requires : goal.index_mut-requires
index_mut-requires c =
    let long : length c.args.self.now ≡ 2 * length c.self.inside.pairs.items = ap length (sym c.self.view_is) ∙ heads_long c.self.inside.pairs.items in
    omega (arith, c.requires.cell, long)

pub returns-then-cell-eq0 : goal.returns-then-cell-eq0
returns-then-cell-eq0 c =
    let ps = c.self.inside.pairs.items in
    let long : length c.args.self.now ≡ 2 * length c.self.inside.pairs.items = ap length (sym c.self.view_is) ∙ heads_long ps in
    let lt : c.args.cell / 2 < length c.self.inside.pairs.items = omega (arith, c.requires.cell, long) in
    let at : 2 * (c.args.cell / 2) ≡ c.args.cell = omega (arith, c.if-cell-eq0.true) in
    set_zero ps c.args.self.now c.self.view_is (c.args.cell / 2) lt c.index.result.now c.args.cell c.args.head.now at c.with_zero-pair.result c.with_zero-pair.ensures.zero (c.with_zero-pair.ensures.one ∙ ap one_in c.index.ensures)

pub index-requires-else-cell-eq0 : goal.index-requires-else-cell-eq0
index-requires-else-cell-eq0 c =
    let long : length c.args.self.now ≡ 2 * length c.self.inside.pairs.items = ap length (sym c.self.view_is) ∙ heads_long c.self.inside.pairs.items in
    omega (arith, c.requires.cell, long)

pub with_one-pair-requires : goal.with_one-pair-requires
with_one-pair-requires c h k is there =
    let ps = c.self.inside.pairs.items in
    let long : length c.args.self.now ≡ 2 * length c.self.inside.pairs.items = ap length (sym c.self.view_is) ∙ heads_long ps in
    let lt : c.args.cell / 2 < length c.self.inside.pairs.items = omega (arith, c.requires.cell, long) in
    let at : 2 * (c.args.cell / 2) + 1 ≡ c.args.cell = omega (arith, c.if-cell-eq0.false) in
    fits_one ps c.args.self.now c.self.view_is (c.args.cell / 2) lt c.index-else-cell-eq0.result.now c.args.cell c.args.head.now at c.requires.key h k is (ap zero_in (sym c.index-else-cell-eq0.ensures) ∙ there)

pub index_mut-requires-else-cell-eq0 : goal.index_mut-requires-else-cell-eq0
index_mut-requires-else-cell-eq0 c =
    let long : length c.args.self.now ≡ 2 * length c.self.inside.pairs.items = ap length (sym c.self.view_is) ∙ heads_long c.self.inside.pairs.items in
    omega (arith, c.requires.cell, long)

pub returns-else-cell-eq0 : goal.returns-else-cell-eq0
returns-else-cell-eq0 c =
    let ps = c.self.inside.pairs.items in
    let long : length c.args.self.now ≡ 2 * length c.self.inside.pairs.items = ap length (sym c.self.view_is) ∙ heads_long ps in
    let lt : c.args.cell / 2 < length c.self.inside.pairs.items = omega (arith, c.requires.cell, long) in
    let at : 2 * (c.args.cell / 2) + 1 ≡ c.args.cell = omega (arith, c.if-cell-eq0.false) in
    set_one ps c.args.self.now c.self.view_is (c.args.cell / 2) lt c.index-else-cell-eq0.result.now c.args.cell c.args.head.now at c.with_one-pair.result (c.with_one-pair.ensures.zero ∙ ap zero_in c.index-else-cell-eq0.ensures) c.with_one-pair.ensures.one
