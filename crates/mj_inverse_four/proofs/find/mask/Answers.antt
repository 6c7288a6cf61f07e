use Rattle.std.proofs.Common.{rules, arith, ◌≡◌, ◌<◌, ℕ, List, length, map, not, subst, refl, ap, ◌^◌, ◌∙◌, w64, [], ◌∷◌, suc}
use Rattle.std.specs.Prelude.{eqb}
use Rattle.std.specs.Simd.Lanes.{mask_l}
use Rattle.std.proofs.lemmas.Simd.{bitmask_splat, mask_l-lt}
use Rattle.mj_inverse_four.proofs.Marks.{bit_of_mark}
use Rattle.mj_inverse_four.proofs.find.mask.Goals as goal

length_flags : (xs : List ℕ) → length (map (λ x. not (eqb x 0)) xs) ≡ length xs
length_flags [] = refl
length_flags (x ∷ xs) = ap suc (length_flags xs)

few_flags : (xs : List ℕ) → length xs ≡ 4 → mask_l (map (λ x. not (eqb x 0)) xs) < 16
few_flags xs long =
    let P : ℕ → Type 0 = λ n. mask_l (map (λ x. not (eqb x 0)) xs) < 2 ^ n in
    subst P (length_flags xs ∙ long) (mask_l-lt (map (λ x. not (eqb x 0)) xs))

pub overflow_cast-result : goal.overflow_cast-result
overflow_cast-result c =
    let long : length c.args.rest ≡ 4 = search rules in
    let e = bitmask_splat w64 (λ (a b : ℕ). not (eqb a b)) c.args.rest 4 0 long (omega arith) in
    let few = few_flags c.args.rest long in
    omega (arith, e, few)

pub returns : goal.returns
returns c = λ i h.
    let xs : List ℕ = c.args.rest in
    let long : length c.args.rest ≡ 4 = search rules in
    let e = bitmask_splat w64 (λ (a b : ℕ). not (eqb a b)) c.args.rest 4 0 long (omega arith) in
    bit_of_mark c.args.rest _ i e (omega arith)
