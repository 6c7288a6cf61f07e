use Rattle.std.proofs.Common.{◌≡◌, ℕ, ◌+◌, ◌*◌, ◌/◌, ◌<◌, Option, List, length, sym, ◌∙◌, ap, arith}
use Rattle.rz_events.specs.declared.keys.Key.{Key}
use Rattle.rz_events.specs.declared.records.Head.{Head}
use Rattle.rz_cells_slots.specs.Held.{in_cell}
use Rattle.rz_cells_slots.specs.Packed.{head_at, heads_in, one_in, zero_in}
use Rattle.rz_cells_slots.proofs.Packed.{heads_even, heads_long, heads_odd}
use Rattle.rz_cells_slots.proofs.heads.Heads.get.Goals as goal

pub index-pair-requires : goal.index-pair-requires
index-pair-requires c =
    let long : length c.args.self.now ≡ 2 * length c.self.inside.pairs.items = ap length (sym c.self.view_is) ∙ heads_long c.self.inside.pairs.items in
    omega (arith, c.requires, long)

pub returns-then-cell-eq0 : goal.returns-then-cell-eq0
returns-then-cell-eq0 c =
    let ps = c.self.inside.pairs.items in
    let pair = c.index-pair.result.now in
    let long : length c.args.self.now ≡ 2 * length c.self.inside.pairs.items = ap length (sym c.self.view_is) ∙ heads_long ps in
    let lt : c.args.cell / 2 < length c.self.inside.pairs.items = omega (arith, c.requires, long) in
    let at : 2 * (c.args.cell / 2) ≡ c.args.cell = omega (arith, c.if-cell-eq0.true) in
    let here : in_cell (heads_in c.self.inside.pairs.items) (2 * (c.args.cell / 2)) ≡ zero_in c.index-pair.result.now = heads_even ps (c.args.cell / 2) pair lt ∙ ap zero_in (sym c.index-pair.ensures) in
    c.head_of.ensures ∙ ap (λ (k : Key). head_at k c.index-pair.result.now.zero) c.key_of.ensures ∙ sym here ∙ ap (λ (n : ℕ). in_cell (heads_in c.self.inside.pairs.items) n) at ∙ ap (λ (hs : List (Option Head)). in_cell hs c.args.cell) c.self.view_is

pub returns-else-cell-eq0 : goal.returns-else-cell-eq0
returns-else-cell-eq0 c =
    let ps = c.self.inside.pairs.items in
    let pair = c.index-pair.result.now in
    let long : length c.args.self.now ≡ 2 * length c.self.inside.pairs.items = ap length (sym c.self.view_is) ∙ heads_long ps in
    let lt : c.args.cell / 2 < length c.self.inside.pairs.items = omega (arith, c.requires, long) in
    let at : 2 * (c.args.cell / 2) + 1 ≡ c.args.cell = omega (arith, c.if-cell-eq0.false) in
    let here : in_cell (heads_in c.self.inside.pairs.items) (2 * (c.args.cell / 2) + 1) ≡ one_in c.index-pair.result.now = heads_odd ps (c.args.cell / 2) pair lt ∙ ap one_in (sym c.index-pair.ensures) in
    c.head_of-else-cell-eq0.ensures ∙ ap (λ (k : Key). head_at k c.index-pair.result.now.one) c.key_of-else-cell-eq0.ensures ∙ sym here ∙ ap (λ (n : ℕ). in_cell (heads_in c.self.inside.pairs.items) n) at ∙ ap (λ (hs : List (Option Head)). in_cell hs c.args.cell) c.self.view_is
