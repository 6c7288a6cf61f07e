-- Below its first cell no head of a key stands, and a pair has two cells.
use Rattle.std.proofs.Common.{◌≡◌, true, false, refl, sym, ◌∙◌, subst, arith}
use Rattle.rz_cells_slots.specs.Opening.{IsFirst}
use Rattle.rz_cells_slots.proofs.Firsts.{again_none, again_below, again_not}
use Rattle.rz_cells_slots.proofs.judging.judge.Goals as goal
use Rattle.rz_cells_slots.proofs.judging.judge.Goals.{then-first-cell-via-then-first-cell, then-first-cell-via-else-first-cell+then-not-is_again}

pub returns-clause-wrong : goal.returns-clause-wrong
returns-clause-wrong c =
    let heads = c.args.heads.now in
    let h = c.args.head.now in
    let first = c.in-Some.first.now in
    let f = subst (IsFirst heads c.args.cell h.key) (sym c.in-Some.ensures.value) (c.requires.firsts h.key) in
    let again = c.if-not-is_again.ensures.0 refl in
    (refl, c.if-beside_other_key.ensures.none refl, (again.0, record { earlier = c.if-first-cell.false; is = sym c.get-else-first-cell.ensures ∙ again.1; same = again.2; clash = again.3 }), again_below heads c.args.cell h first f)

pub returns-in_default-clause-ok : goal.returns-in_default-clause-ok
returns-in_default-clause-ok c =
    let heads = c.args.heads.now in
    let h = c.args.head.now in
    record {
      no_other = c.if-beside_other_key.ensures.none refl;
      not_again = again_none heads c.args.cell h (subst (IsFirst heads c.args.cell h.key) (sym c.in_default.ensures.value) (c.requires.firsts h.key));
    }

pub returns-then-first-cell-clause-ok : goal.returns-then-first-cell-clause-ok
returns-then-first-cell-clause-ok c =
    let heads = c.args.heads.now in
    let h = c.args.head.now in
    let first = c.in-Some.first.now in
    let f = subst (IsFirst heads c.args.cell h.key) (sym c.in-Some.ensures.value) (c.requires.firsts h.key) in
    record {
      no_other = c.if-beside_other_key.ensures.none refl;
      not_again = elim c.then-first-cell.branch [
        | then-first-cell-via-then-first-cell w ↦ absurd (omega (arith, f.0, w.if-first-cell.true))
        | then-first-cell-via-else-first-cell+then-not-is_again w ↦ again_not heads c.args.cell h first f
            (λ q at same clash. let again : false ≡ true = w.if-not-is_again.ensures.1 (q, w.get-else-first-cell.ensures ∙ at, same, clash) in absurd (cc))
      ];
    }
