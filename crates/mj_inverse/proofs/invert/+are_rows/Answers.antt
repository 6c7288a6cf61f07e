use Rattle.std.proofs.Common.{rules, arith, ◌≡◌, ◌+◌, ◌*◌, ℕ, List, ◌∷◌, length, map, sym, subst}
use Rattle.std.proofs.lemmas.List.{length-map}
use Rattle.mj_inverse.specs.declared.series.Series.{Series}
use Rattle.mj_inverse.specs.Rows.{AreRows}
use Rattle.mj_inverse.specs.Series.{seq}
use Rattle.mj_inverse.proofs.Rowed.{are_more, first_row}
use Rattle.mj_inverse.proofs.invert.+are_rows.Goals as goal

pub returns-then-is_row-clause-rows : goal.returns-then-is_row-clause-rows
returns-then-is_row-clause-rows t c = λ yes j h.
    let u : ℕ = c.args.unit in
    let e : c.args.all.now ≡ c.in-Some.first.now ∷ c.in-Some.rest.now = search rules in
    let P : List Series → Type 0 = λ xs. AreRows c.args.cols c.args.low (map (seq u j) xs) in
    let m : length (map (seq u j) c.in-Some.rest.now) ≡ length c.in-Some.rest.now = length-map c.in-Some.rest.now (seq u j) in
    let at : ℕ = c.args.low + 16 * (length c.in-Some.rest.now + 1) in
    subst P (sym e) (are_more c.args.cols c.args.low at (seq u j c.in-Some.first.now) (map (seq u j) c.in-Some.rest.now) (omega arith)
    (c.is_row.ensures.row c.if-is_row.true j h) (c.are_rows.ensures.rows yes j h))

pub returns-then-is_row-clause-fits : goal.returns-then-is_row-clause-fits
returns-then-is_row-clause-fits t c = λ each. c.are_rows.ensures.fits (λ j h.
    let u : ℕ = c.args.unit in
    let e : c.args.all.now ≡ c.in-Some.first.now ∷ c.in-Some.rest.now = search rules in
    let P : List Series → Type 0 = λ xs. AreRows c.args.cols c.args.low (map (seq u j) xs) in
    (subst P e (each j h)).1)

pub returns-else-is_row-clause-fits : goal.returns-else-is_row-clause-fits
returns-else-is_row-clause-fits t c = λ each.
    let no = c.if-is_row.false in
    let yes = c.is_row.ensures.fits (λ j h.
    let u : ℕ = c.args.unit in
    let e : c.args.all.now ≡ c.in-Some.first.now ∷ c.in-Some.rest.now = search rules in
    let P : List Series → Type 0 = λ xs. AreRows c.args.cols c.args.low (map (seq u j) xs) in
    let m : length (map (seq u j) c.in-Some.rest.now) ≡ length c.in-Some.rest.now = length-map c.in-Some.rest.now (seq u j) in
    let at : ℕ = c.args.low + 16 * (length c.in-Some.rest.now + 1) in
    first_row c.args.cols c.args.low at (seq u j c.in-Some.first.now) (map (seq u j) c.in-Some.rest.now) (omega arith) (subst P e (each j h))) in
    search rules
