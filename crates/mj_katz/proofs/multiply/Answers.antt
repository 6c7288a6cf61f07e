use Rattle.std.proofs.Common.{rules, arith, ◌≡◌, ◌<◌, ◌+◌, ◌*◌, ◌/◌, ◌%◌, ℕ, sym, ◌∙◌, ap, subst, length, get_or, set, w32, to_z, of_z}
use Rattle.std.proofs.lemmas.Int.{to_z-of_z}
use Rattle.std.proofs.lemmas.List.Edits.{fill_by_more}
use Rattle.std.proofs.lemmas.Nat.{div-mul-add, mod-mul-add, mul-add-lt}
use Rattle.mj_angles.specs.Projection.{word_at}
use Rattle.mj_katz.specs.Factor.{factor}
use Rattle.mj_katz.proofs.multiply.Goals as goal

pub loop-n-preserved : goal.loop-n-preserved
loop-n-preserved c =
    let cols : ℕ = c.args.cols in
    let p = to_z w32 (of_z w32 c.args.p) in
    let f : ℕ → ℕ = λ i. factor p (word_at c.args.words.now cols) (i / cols) (i % cols) in
    let room : c.loop-n.n < length c.loop-n.out = omega arith in
    let P : ℕ → Type 0 = λ x. (i : ℕ) → i < c.loop-n.n + 1 → get_or (set c.loop-n.out c.loop-n.n x) i 0 ≡ f i in
    subst P (sym c.factor.ensures) (fill_by_more f c.loop-n.out c.loop-n.n 0 room c.loop-n.invariant)

pub returns : goal.returns
returns c l k h h' =
    let is : to_z w32 (of_z w32 c.args.p) ≡ c.args.p = to_z-of_z w32 c.args.p (search rules) in
    let f : ℕ → ℕ → ℕ = word_at c.args.words.now c.args.cols in
    let n : ℕ = c.args.cols in
    c.loop-n.invariant (l * n + k) (omega (arith, mul-add-lt l n k c.args.rows h h'))
    ∙ ap (λ p. factor p f ((l * n + k) / n) ((l * n + k) % n)) is
    ∙ ap (λ x. factor c.args.p f x ((l * n + k) % n)) (div-mul-add l n k h')
    ∙ ap (factor c.args.p f l) (mod-mul-add l n k h')
