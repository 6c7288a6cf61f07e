-- One pair more.
use Rattle.std.proofs.Common.{◌+◌, List, ◌∷◌, ◌++◌, [], cond, ℕ, sym, ◌∙◌, ap, subst, arith}
use Rattle.rz_index.specs.declared.index.Entry.{Entry}
use Rattle.rz_node.specs.Rows.{IsRows}
use Rattle.rz_node.proofs.Listed.{rows-entry, rows-free}
use Rattle.rz_node.proofs.rows.Rows.add.Goals as goal

pub returns-in-Some-clause-rows : goal.returns-in-Some-clause-rows
returns-in-Some-clause-rows g c =
    let s = c.args.self.now in
    let n = c.args.cells.now in
    let fits = c.push-fits.ensures.succeeds (omega (arith, c.requires.rows.count, c.requires.pair, c.requires.room.0)) in
    subst (λ (es : List Entry). IsRows n.geometry.cells n.heads (c.args.pair + 1) es s.free.items) (sym (c.push-fits.ensures.items ∙ ap (λ b. cond b (s.entries.items ++ c.in-Some.entry ∷ []) s.entries.items) fits))
    (rows-entry n.geometry.cells n.heads c.args.pair s.entries.items s.free.items c.requires.rows c.requires.apart c.in-Some.entry c.in-Some.ensures.0 c.in-Some.ensures.1)

pub returns-in-None-clause-rows : goal.returns-in-None-clause-rows
returns-in-None-clause-rows g c =
    let s = c.args.self.now in
    let n = c.args.cells.now in
    let fits = c.push_back-fits.ensures.succeeds (omega (arith, c.requires.rows.count, c.requires.pair, c.requires.room.1)) in
    subst (λ (ps : List ℕ). IsRows n.geometry.cells n.heads (c.args.pair + 1) s.entries.items ps) (sym (c.push_back-fits.ensures.items ∙ ap (λ b. cond b (s.free.items ++ c.args.pair ∷ []) s.free.items) fits))
    (rows-free n.geometry.cells n.heads c.args.pair s.entries.items s.free.items c.requires.rows c.in-None.ensures)
