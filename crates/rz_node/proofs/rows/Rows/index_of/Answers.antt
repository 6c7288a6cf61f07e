-- All pairs are read.
use Rattle.std.proofs.Common.{◌≡◌, ℕ, List, [], sym, ap, subst, arith}
use Rattle.rz_index.specs.declared.index.Entry.{Entry}
use Rattle.rz_cells_slots.specs.declared.geometry.Geometry.{Geometry}
use Rattle.rz_node.specs.Rows.{IsRows}
use Rattle.rz_node.proofs.Listed.{rows-none, tied-rows}
use Rattle.rz_node.proofs.rows.Rows.index_of.Goals as goal

pub loop-pair-init : goal.loop-pair-init
loop-pair-init g c =
    let n = c.args.cells.now in
    record {
      rows = subst (λ (es : List Entry). IsRows n.geometry.cells n.heads 0 es c.args.self.free.items) (sym c.requires.entries)
          (subst (λ (ps : List ℕ). IsRows n.geometry.cells n.heads 0 [] ps) (sym c.requires.free) (rows-none n.geometry.cells n.heads));
      spare = c.requires.spare;
      room = c.requires.room;
    }

pub returns : goal.returns
returns g c =
    let n = c.args.cells.now in
    let rows = c.loop-pair.rows in
    let same = ap (λ (y : Geometry). y.cells) c.geometry-pair-end.ensures in
    let all : c.loop-pair.pair ≡ n.geometry.cells = omega (arith, c.loop-pair-test.false, c.loop-pair.auto.pair-end, same) in
    tied-rows n.geometry.cells n.heads rows.entries.items rows.free.items c.of_rows.result
    (subst (λ (k : ℕ). IsRows n.geometry.cells n.heads k rows.entries.items rows.free.items) all c.loop-pair.invariant.rows) n.heads_fit
    c.of_rows.ensures.has c.of_rows.ensures.only (omega (arith, c.of_rows.ensures.count)) c.of_rows.ensures.free
