use Rattle.std.proofs.Common.{rules, arith, ◌≡◌, ◌<◌, ◌+◌, ◌*◌, ℕ, suc, List, ◌∷◌, ◌++◌, get_or, length, map, sym, ap, ◌∙◌, subst}
use Rattle.std.proofs.lemmas.List.{length-map}
use Rattle.mj_inverse.specs.declared.series.Series.{Series}
use Rattle.mj_inverse.specs.Rows.{Every, AreRows, block_rows}
use Rattle.mj_inverse.specs.Series.{seq, IsWide}
use Rattle.mj_inverse.proofs.Rowed.{first_row, rows_more}
use Rattle.mj_inverse.proofs.invert.+give_rows.Goals as goal

pub give_rows-requires : goal.give_rows-requires
give_rows-requires t c =
    let e : c.args.all.now ≡ c.in-Some.first.now ∷ c.in-Some.rest.now = search rules in
    let n : length c.args.all.now ≡ suc (length c.in-Some.rest.now) = ap length e in
    let wide : Every (IsWide c.args.unit c.args.high c.args.most) (c.in-Some.first.now ∷ c.in-Some.rest.now) =
    (let P : List Series → Type 0 = λ xs. Every (IsWide c.args.unit c.args.high c.args.most) xs in subst P e c.requires.wide) in
    let room = c.requires.room in
    let fall : length c.in-Some.rest.now < length c.args.all.now = omega arith in
    let all : length c.args.out.now ≡ c.args.unit * (c.args.cols * suc (length c.in-Some.rest.now)) = c.requires.out ∙ ap (λ k. c.args.unit * (c.args.cols * k)) n in
    let rest : length c.split_at_mut-row.result.1.now ≡ c.args.unit * (c.args.cols * length c.in-Some.rest.now) =
    (let l = c.split_at_mut-row.ensures.back_len in omega arith) in
    (search rules, (wide.1, (omega arith, (c.requires.limit, rest))))

pub returns-in-Some-clause-rows : goal.returns-in-Some-clause-rows
returns-in-Some-clause-rows t c = λ j h are.
    let u : ℕ = c.args.unit in
    let e : c.args.all.now ≡ c.in-Some.first.now ∷ c.in-Some.rest.now = search rules in
    let n : length c.args.all.now ≡ suc (length c.in-Some.rest.now) = ap length e in
    let P : List Series → Type 0 = λ xs. AreRows c.args.cols c.args.low (map (seq u j) xs) in
    let both : AreRows c.args.cols c.args.low (map (seq u j) (c.in-Some.first.now ∷ c.in-Some.rest.now)) = subst P e are in
    let m : length (map (seq u j) c.in-Some.rest.now) ≡ length c.in-Some.rest.now = length-map c.in-Some.rest.now (seq u j) in
    let first = first_row c.args.cols c.args.low (c.args.low + 16 * (length c.in-Some.rest.now + 1)) (seq u j c.in-Some.first.now) (map (seq u j) c.in-Some.rest.now) (omega arith) both in
    let row = c.give_row.ensures.row j first.0 h first.1 in
    let others = c.give_rows.ensures.rows j h both.1 in
    let long : length c.give_row.new.out ≡ c.args.unit * c.args.cols = search rules in
    let out : List ℕ = c.give_row.new.out ++ c.give_rows.new.out in
    let w : ℕ → ℕ = λ i. get_or out (c.args.unit * i + j) 0 in
    ap (map (seq u j)) e
    ∙ rows_more c.args.cols c.args.low (length c.in-Some.rest.now) c.args.unit j c.give_row.new.out c.give_rows.new.out h long
    (seq u j c.in-Some.first.now) (map (seq u j) c.in-Some.rest.now) row others
    ∙ ap (λ k. block_rows c.args.cols c.args.low k w) (sym n)
