use Rattle.std.proofs.Common.{◌≡◌, ℕ, ◌*◌, replicate, length, vec_len, List, refl, sym, ◌∙◌, ap, arith}
use Rattle.rz_cells_slots.specs.declared.heads.Pair.{Pair}
use Rattle.rz_cells_slots.specs.Held.{in_cell}
use Rattle.rz_cells_slots.specs.Packed.{heads_in}
use Rattle.rz_cells_slots.proofs.Packed.{heads_long, heads_none}
use Rattle.rz_cells_slots.proofs.heads.Heads.clear.Goals as goal

pub returns-clause-count : goal.returns-clause-count
returns-clause-count c =
    let before = heads_long c.self.inside.pairs.items in
    let after = heads_long c.fill.new.self.items in
    let same : length c.fill.new.self.items ≡ length c.self.inside.pairs.items = omega (arith, c.fill.ensures.len) in
    after ∙ ap (λ (n : ℕ). 2 * n) same ∙ sym before ∙ ap length c.self.view_is

pub returns-clause-empty : goal.returns-clause-empty
returns-clause-empty c cell =
    let all : c.fill.new.self.items ≡ replicate (vec_len c.self.inside.pairs) _ = c.fill.ensures.items (λ y h. h) in
    ap (λ (ps : List Pair). in_cell (heads_in ps) cell) all ∙ heads_none (vec_len c.self.inside.pairs) _ cell refl refl
