use Rattle.std.proofs.Common.{rules, arith, ◌≡◌, ◌≤◌, ◌∷◌, List, subst}
use Rattle.mj_inverse_four.specs.declared.lines.Line.{Line}
use Rattle.mj_inverse_four.specs.Rows.{Every}
use Rattle.mj_inverse_four.proofs.lines.+last_turn.Goals as goal

pub returns-in-Some-clause-within : goal.returns-in-Some-clause-within
returns-in-Some-clause-within t c = λ n low every.
    let e : c.args.lines.now ≡ c.in-Some.first.now ∷ c.in-Some.rest.now = search rules in
    let P : List Line → Type 0 = λ xs. Every (λ (x : Line). x.turn ≤ n) xs in
    let all = subst P e every in
    let first : c.in-Some.first.now.turn ≤ n = all.0 in
    c.last_turn.ensures.within n (omega arith) all.1
