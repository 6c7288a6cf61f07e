use Rattle.std.proofs.Common.{◌≡◌, replicate, List, refl, ◌∙◌, ap, arith}
use Rattle.rz_cells_slots.specs.declared.heads.Pair.{Pair}
use Rattle.rz_cells_slots.specs.Held.{in_cell}
use Rattle.rz_cells_slots.specs.Packed.{heads_in}
use Rattle.rz_cells_slots.proofs.Packed.{heads_long, heads_none}
use Rattle.rz_cells_slots.proofs.heads.Heads.new.Goals as goal

pub returns-clause-count : goal.returns-clause-count
returns-clause-count c = let long = heads_long c.in_ok-from_elem.field-0.items in omega (arith, long, c.in_ok-from_elem.ensures.len)

pub returns-clause-empty : goal.returns-clause-empty
returns-clause-empty c cell =
    let all : c.in_ok-from_elem.field-0.items ≡ replicate c.args.pairs _ = c.in_ok-from_elem.ensures.items_if_clones_equal (λ y h. h) in
    ap (λ (ps : List Pair). in_cell (heads_in ps) cell) all ∙ heads_none c.args.pairs _ cell refl refl
