use Rattle.std.proofs.Common.{◌≡◌, ℕ, List, [], ◌∷◌, ◌++◌, length, sym, ap, ◌∙◌, arith}
use Rattle.std.specs.List.{range_with_len}
use Rattle.std.specs.FinMap as maps
use Rattle.rz_events.specs.Keys.{key_cmp}
use Rattle.rz_index.specs.declared.index.Entry.{Entry}
use Rattle.rz_index.specs.Indexed.{Indexed, indexed}
use Rattle.rz_index.specs.Standing.{Tree}
use Rattle.rz_index.proofs.Row.{made-nothing}
use Rattle.rz_index.proofs.Standing.{emptied, shown}
use Rattle.rz_index.proofs.Rotations.{none}
use Rattle.rz_index.proofs.Cells.{one-cell-more}
use Rattle.rz_index.proofs.index.Index.with_room.Goals as goal

pub loop-cell-preserved : goal.loop-cell-preserved
loop-cell-preserved c = record {
  cells = c.in_ok-push_back.ensures.items ∙ ap (λ (xs : List ℕ). xs ++ c.loop-cell.cell ∷ []) c.loop-cell.invariant.cells ∙ sym (one-cell-more c.loop-cell.cell);
  count = omega (arith, c.in_ok-push_back.ensures.len, c.loop-cell.invariant.count);
  room = omega (arith, c.in_ok-push_back.ensures.capacity, c.loop-cell.invariant.room);
}

pub invariant_of-result : goal.invariant_of-result
invariant_of-result c =
    let i = c.spare.invariant in
    let all : c.loop-cell.cell ≡ c.args.cells = omega (arith, c.loop-cell-test.false, c.loop-cell.auto.cell-end) in
    record {
      entries = [];
      blanks = i.blanks;
      holds = emptied c.spare.inside.row.items (Tree c.spare.inside.link i.blanks ∷ []) none i.holds;
      sorted = tt;
      within = omega (arith, i.count, i.within);
      room = omega (arith, all, c.loop-cell.invariant.count, i.count, c.spare.view_is, c.in_ok-spare.ensures);
      room_free = omega (arith, all, c.loop-cell.invariant.count, c.loop-cell.invariant.room);
    }

pub returns : goal.returns
returns c =
    let i = c.spare.invariant in
    let row = c.spare.inside.row.items in
    let all : c.loop-cell.cell ≡ c.args.cells = omega (arith, c.loop-cell-test.false, c.loop-cell.auto.cell-end) in
    let h = emptied row (Tree c.spare.inside.link i.blanks ∷ []) none i.holds in
    ap (λ (xs : List Entry). indexed xs c.loop-cell.free.items) (shown row 0 [] (Tree c.spare.inside.link i.blanks ∷ []) none (length row) h (omega arith))
    ∙ ap (λ (m : maps.FinMap key_cmp Entry). (let s : Indexed = record { entries = m; free = c.loop-cell.free.items } in s)) made-nothing
    ∙ ap (λ (xs : List ℕ). (let s : Indexed = record { entries = maps.empty; free = xs } in s)) (c.loop-cell.invariant.cells ∙ ap (range_with_len 0) all)
