use Rattle.std.proofs.Common.{rules, ◌≡◌, ◌∷◌, List, subst}
use Rattle.mj_inverse.specs.declared.series.Series.{Series}
use Rattle.mj_inverse.specs.Rows.{Both, IsDividedOut}
use Rattle.mj_inverse.specs.Series.{seq, angle, IsNext}
use Rattle.mj_inverse.proofs.Trimmed.{next_series, next_trimmed, divided_trimmed}
use Rattle.mj_inverse.proofs.invert.divide_all.Goals as goal

pub trim-requires : goal.trim-requires
trim-requires c =
    let e : c.divide_each.new.rest ≡ c.in-Some.first.now ∷ c.in-Some._others.now = search rules in
    let P : List Series → Type 0 = λ ys. Both (IsNext c.args.unit c.args.by.now) c.args.rest.now ys in
    next_series c.args.unit c.args.by.now c.in-Some.first.now c.args.rest.now c.in-Some._others.now (subst P e c.divide_each.ensures.next)

pub returns-in-Some-clause-next : goal.returns-in-Some-clause-next
returns-in-Some-clause-next c =
    let e : c.divide_each.new.rest ≡ c.in-Some.first.now ∷ c.in-Some._others.now = search rules in
    let P : List Series → Type 0 = λ ys. Both (IsNext c.args.unit c.args.by.now) c.args.rest.now ys in
    next_trimmed c.args.unit c.args.by.now c.in-Some.first.now c.trim.new.self c.args.rest.now c.in-Some._others.now c.trim.ensures (subst P e c.divide_each.ensures.next)

pub returns-in-Some-clause-exact : goal.returns-in-Some-clause-exact
returns-in-Some-clause-exact c = λ j small unmarked.
    let e : c.divide_each.new.rest ≡ c.in-Some.first.now ∷ c.in-Some._others.now = search rules in
    let P : List Series → Type 0 = λ ys. Both (IsDividedOut angle (seq c.args.unit j) c.args.by.now) c.args.rest.now ys in
    let exact = c.divide_each.ensures.exact j small unmarked in
    (exact.0, divided_trimmed c.args.unit j c.args.by.now c.in-Some.first.now c.trim.new.self c.args.rest.now c.in-Some._others.now c.trim.ensures (subst P e exact.1))
