use Rattle.std.proofs.Common.{rules, arith, ◌≡◌, ◌-◌, ◌∙◌, sym, length}
use Rattle.std.specs.Prelude.{true}
use Rattle.mj_c.specs.Answers.{are_long}
use Rattle.mj_c.proofs.Long.{there_long}
use Rattle.mj_c.proofs.apart.solve_apart_in_at.Goals as goal
use Rattle.mj_c.proofs.apart.solve_apart_in_at.Goals.{else-lost-gt0-via-then-lost-gt0+else-not-are_long, else-lost-gt0-via-else-lost-gt0}

pub find_in-requires-clause-there : goal.find_in-requires-clause-there
find_in-requires-clause-there c = λ some.
    let long : are_long c.in-Some.layout (length c.args.lost.now - 1) c.args.positions.now c.args.parts.now c.args.strides.now ≡ true =
    elim c.else-lost-gt0.branch [
      | else-lost-gt0-via-then-lost-gt0+else-not-are_long w ↦ (let told : w.are_long.result ≡ true = search rules in sym w.are_long.ensures ∙ told)
      | else-lost-gt0-via-else-lost-gt0 w ↦ absurd (omega arith)
    ] in
    there_long c.in-Some.layout (length c.args.lost.now - 1) c.args.positions.now c.args.parts.now c.args.strides.now (c.if-positions-inverse.false ∙ c.inverse-2.ensures.value) long
