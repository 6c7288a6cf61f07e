use Rattle.std.proofs.Common.{◌≡◌, ◌≤◌, ◌+◌, ◌∷◌, ◌++◌, false, length, length-append, ap, arith, rules}
use Rattle.rz_sequence.proofs.Marked.{IsNext, none_from, none_past, next_left, next_middle, next_behind, none_behind, within}
use Rattle.rz_sequence.proofs.sequence.Sequence.+next_marked.Goals as goal
use Rattle.rz_sequence.proofs.sequence.Sequence.+next_marked.Goals.{then-from-len-via-then-from-len, then-from-len-via-else-from-len+then-not-marked, else-from-before-via-then-from-before+else-is_marked, else-from-before-via-else-from-before}

pub returns-then-from-len : goal.returns-then-from-len
returns-then-from-len g t c =
    elim c.then-from-len.branch [
      | then-from-len-via-then-from-len w ↦ none_past g.T.Mark.is_marked c.args.self.now c.args.from (omega arith)
      | then-from-len-via-else-from-len+then-not-marked w ↦ none_from g.T.Mark.is_marked c.args.self.now c.args.from (search rules)
    ]

pub returns-in-Some : goal.returns-in-Some
returns-in-Some g t c =
    let l = c.in_ok-fork.fork.left.now in
    let found = c.in-Some.ensures in
    let n : IsNext g.T.Mark.is_marked c.args.from l c.in-Some.place = record { from_there = found.0; passes = found.1; none_before = found.2 } in
    let h = next_left g.T.Mark.is_marked c.args.from l _ c.in-Some.place n in
    rw c.in_ok-fork.ensures (h.from_there, h.passes, h.none_before)

pub returns-then-is_marked : goal.returns-then-is_marked
returns-then-is_marked g t c =
    let f = c.in_ok-fork.fork in
    let h = next_middle g.T.Mark.is_marked c.args.from f.left.now f.item.now f.right.now c.len-before.result c.len-before.ensures c.if-from-before.true c.in_default.ensures (search rules) in
    rw c.in_ok-fork.ensures (h.from_there, h.passes, h.none_before)

pub overflow_add-result-2 : goal.overflow_add-result-2
overflow_add-result-2 g t c =
    let f = c.in_ok-fork.fork in
    let inside = within g.T.Mark.is_marked f.right.now c.in_ok-place.place c.in_ok-place.ensures.1 in
    let size = length-append f.left.now (f.item.now ∷ f.right.now) in
    let whole : length c.args.self.now ≡ length (f.left.now ++ f.item.now ∷ f.right.now) = ap length c.in_ok-fork.ensures in
    search rules

pub returns : goal.returns
returns g t c =
    let f = c.in_ok-fork.fork in
    let found = c.in_ok-place.ensures in
    let n : IsNext g.T.Mark.is_marked c.saturating_sub.result f.right.now c.in_ok-place.place = record { from_there = found.0; passes = found.1; none_before = found.2 } in
    let fails : c.args.from ≤ length f.left.now → g.T.Mark.is_marked f.item.now ≡ false =
    elim c.else-from-before.branch [
      | else-from-before-via-then-from-before+else-is_marked w ↦ λ _. search rules
      | else-from-before-via-else-from-before w ↦ λ near. absurd (omega arith)
    ]
    in
    let h = next_behind g.T.Mark.is_marked c.args.from f.left.now f.item.now f.right.now (c.len-before.result + 1 + c.in_ok-place.place) c.saturating_sub.result c.in_ok-place.place (omega arith) (search rules) c.in_default.ensures fails n in
    rw c.in_ok-fork.ensures (h.from_there, h.passes, h.none_before)

pub returns-in_err-place : goal.returns-in_err-place
returns-in_err-place g t c =
    let f = c.in_ok-fork.fork in
    let fails : c.args.from ≤ length f.left.now → g.T.Mark.is_marked f.item.now ≡ false =
    elim c.else-from-before.branch [
      | else-from-before-via-then-from-before+else-is_marked w ↦ λ _. search rules
      | else-from-before-via-else-from-before w ↦ λ near. absurd (omega arith)
    ]
    in
    let h = none_behind g.T.Mark.is_marked c.args.from f.left.now f.item.now f.right.now c.saturating_sub.result (search rules) c.in_default.ensures fails c.in_err-place.ensures in
    rw (c.from_residual-in_err-place.ensures, c.in_ok-fork.ensures) h
