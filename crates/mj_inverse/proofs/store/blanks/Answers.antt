use Rattle.std.proofs.Common.{rules, arith, ◌≡◌, ◌++◌, ◌∷◌, ◌∙◌, [], List, length, reverse, sym, ap, subst, length-append}
use Rattle.std.proofs.lemmas.List.{length-reverse}
use Rattle.mj_inverse.specs.declared.series.Series.{Series}
use Rattle.mj_inverse.specs.Store.{IsFilled, IsSpare}
use Rattle.mj_inverse.proofs.Stores.{filled_more, filled_reverse}
use Rattle.mj_inverse.proofs.store.blanks.Goals as goal

pub loop-i-preserved : goal.loop-i-preserved
loop-i-preserved c =
    let items : c.push.new.self.items ≡ c.loop-i.all.items ++ c.in_ok-new.field-0 ∷ [] = c.in_ok-push.ensures.items in
    let spare : IsSpare c.args.unit c.args.rows c.args.cols c.in_ok-new.field-0 = search rules in
    let P : List Series → Type 0 = λ xs. IsFilled c.args.unit c.args.rows c.args.cols 0 xs in
    record {
      filled = subst P (sym items) (filled_more c.args.unit c.args.rows c.args.cols c.loop-i.all.items c.in_ok-new.field-0 c.loop-i.invariant.filled spare);
      count = (let n = ap length items in let k = c.loop-i.invariant.count in omega (arith, n, k, length-append c.loop-i.all.items (c.in_ok-new.field-0 ∷ [])));
    }

pub returns : goal.returns
returns c =
    let xs : List Series = c.loop-i.all.items in
    let count : c.loop-i._i ≡ c.args.rows = omega arith in
    let items : c.reverse.new.self.items ≡ reverse xs = c.reverse.ensures.items in
    let P : List Series → Type 0 = λ zs. IsFilled c.args.unit c.args.rows c.args.cols 0 zs in (
      subst P (sym items) (filled_reverse c.args.unit c.args.rows c.args.cols xs c.loop-i.invariant.filled),
      ap length items ∙ length-reverse xs ∙ c.loop-i.invariant.count ∙ count,
    )
