-- Each head stands in the first cell of its pair, and what is behind is still empty.
use Rattle.std.proofs.Common.{◌≡◌, ◌≢◌, ⊎_elim, ℕ, ◌+◌, ◌*◌, ◌<◌, ◌≤◌, Option, Some, None, List, length, length-set, set, sym, ◌∙◌, ap, arith}
use Rattle.std.proofs.lemmas.Bool.{cases_lt, cases_eq}
use Rattle.std.proofs.lemmas.List.{ext_get_or, get_or-set_same, get_or-set_other}
use Rattle.rz_events.specs.declared.records.Head.{Head}
use Rattle.rz_cells_slots.specs.Held.{in_cell}
use Rattle.rz_cells_slots.specs.Old.{paired}
use Rattle.rz_cells_slots.proofs.Pairs.{paired_even, paired_long, paired_odd}
use Rattle.rz_cells_slots.proofs.copying.pair_up.Goals as goal

pub set-requires-clause-key : goal.set-requires-clause-key
set-requires-clause-key c h k d is ne pair there =
    let le : 2 * c.loop-cell.cell ≤ d = omega (arith, ne, pair) in
    let none : None ≡ Some k = sym (c.loop-cell.invariant.rest d le) ∙ there in
    absurd (cc)

pub loop-cell-preserved : goal.loop-cell-preserved
loop-cell-preserved c =
    let heads = c.args.heads.now in
    let pairs = c.loop-cell.pairs in
    let k = c.loop-cell.cell in
    let i = c.loop-cell.invariant in
    let x = in_cell heads k in
    let in_range : 2 * c.loop-cell.cell < length c.loop-cell.pairs = omega (arith, i.count, c.loop-cell-test.true) in
    let now = c.set.ensures in
    record {
      count = ap length now ∙ length-set pairs (2 * k) x ∙ i.count;
      done = λ d lt. ap (λ (l : List (Option Head)). in_cell l d) now ∙ ⊎_elim
          (λ (at : d ≡ 2 * c.loop-cell.cell).
          ap (λ (e : ℕ). in_cell (set pairs (2 * k) x) e) at ∙ get_or-set_same pairs (2 * k) x None in_range ∙ sym (paired_even heads k) ∙ ap (λ (e : ℕ). in_cell (paired heads) e) (sym at))
          (λ (ne : d ≢ 2 * c.loop-cell.cell). get_or-set_other pairs (2 * k) d x None ne ∙ ⊎_elim
          (λ (below : d < 2 * c.loop-cell.cell). i.done d below)
          (λ (le : 2 * c.loop-cell.cell ≤ d). let odd : 2 * c.loop-cell.cell + 1 ≡ d = omega (arith, le, ne, lt) in
          i.rest d le ∙ sym (paired_odd heads k) ∙ ap (λ (e : ℕ). in_cell (paired heads) e) odd)
          (cases_lt d (2 * k)))
          (cases_eq d (2 * k));
      rest = λ d le. ap (λ (l : List (Option Head)). in_cell l d) now ∙ get_or-set_other pairs (2 * k) d x None (omega (arith, le)) ∙ i.rest d (omega (arith, le));
    }

pub returns : goal.returns
returns c =
    let i = c.loop-cell.invariant in
    ext_get_or None c.loop-cell.pairs (paired c.args.heads.now) (i.count ∙ sym (paired_long c.args.heads.now)) (λ d lt. i.done d (omega (arith, lt, i.count, c.loop-cell-test.false)))
