use Rattle.std.proofs.Common.{rules, arith, ◌≡◌, ◌<◌, ℕ, List, length, get_or, take, not, sym, ◌∙◌, w64}
use Rattle.std.specs.Prelude.{eqb}
use Rattle.std.proofs.lemmas.List.{places}
use Rattle.std.proofs.lemmas.Simd.{bitmask_splat}
use Rattle.mj_inverse.proofs.Marks.{bit_of_mark}
use Rattle.mj_inverse.proofs.finding.mask.Goals as goal

at : (xs : List ℕ) (j : ℕ) → j < 8 → get_or (take 8 xs) j 0 ≡ get_or xs j 0
at xs j h = search (rules, places)

pub returns : goal.returns
returns c = λ j h.
    let xs : List ℕ = take 8 c.args.marks.now in
    let long : length xs ≡ 8 = search (rules, places) in
    let e = bitmask_splat w64 (λ (a b : ℕ). not (eqb a b)) xs 8 0 long (omega arith) in
    let b = bit_of_mark xs _ j e (omega arith) in
    (λ z. sym (at c.args.marks.now j h) ∙ b.0 z, λ z. b.1 (at c.args.marks.now j h ∙ z))
