use Rattle.std.proofs.Common.{◌≡◌, ◌*◌, List, length, sym, ap, ◌∙◌, subst}
use Rattle.mj_inverse.specs.Fits.{Search}
use Rattle.mj_inverse.specs.declared.placed.Placed.{Placed}
use Rattle.mj_inverse.specs.Rows.{Differ, Every}
use Rattle.mj_inverse.specs.Padded.{IsLined, pairs_over, raised_angle}
use Rattle.mj_inverse.proofs.Found.{differ_over, length-pairs_over, lined_wide}
use Rattle.mj_inverse.proofs.eight.WorkEight.solve.Goals as goal

pub find_beside-answer-requires-clause-lined : goal.find_beside-answer-requires-clause-lined
find_beside-answer-requires-clause-lined c =
    let s = c.self.inside in
    let i = c.self.invariant.0 in
    let P : List Placed → Type 0 = λ xs. Every (IsLined s.rows (16 * s.rows)) xs in
    subst P (sym c.deref_mut.ensures.value) (lined_wide s.rows s.cols (length s.words.items) i.shape.some_row s.all.items i.placed)

pub find_beside-answer-requires-clause-differ : goal.find_beside-answer-requires-clause-differ
find_beside-answer-requires-clause-differ c =
    let s = c.self.inside in
    let i = c.self.invariant.0 in
    let P : List Placed → Type 0 = λ xs. Differ raised_angle xs in
    subst P (sym c.deref_mut.ensures.value) (differ_over s.rows s.cols (length s.words.items) s.words.items s.all.items i.placed i.differ)

pub find_beside-answer-requires-clause-count : goal.find_beside-answer-requires-clause-count
find_beside-answer-requires-clause-count c =
    let s = c.self.inside in
    let rows : s.rows ≡ c.args.self.now.rows = ap (λ (v : Search). v.rows) c.self.view_is in
    let pairs : length (pairs_over s.rows s.cols s.words.items s.all.items) ≡ length c.args.self.now.pairs = ap (λ (v : Search). length v.pairs) c.self.view_is in
    ap length c.deref_mut.ensures.value ∙ sym (length-pairs_over s.rows s.cols s.words.items s.all.items) ∙ pairs ∙ c.requires.full ∙ sym rows
