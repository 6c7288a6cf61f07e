use Rattle.std.proofs.Common.{rules, arith, ◌≡◌, ◌≤◌, ◌<◌, ◌+◌, ◌*◌, ◌∷◌, ℕ, suc, List, length, ap, subst, ℤ}
use Rattle.std.specs.Prelude.{All, unsigned_abs}
use Rattle.mj_inverse.proofs.placed.+place_from.Goals as goal

small_rest : (xs rest : List ℤ) (x : ℤ) → xs ≡ x ∷ rest → All (λ p. unsigned_abs p ≤ 16) xs → All (λ p. unsigned_abs p ≤ 16) rest
small_rest xs rest x e small =
    let P : List ℤ → Type 0 = λ ys. All (λ p. unsigned_abs p ≤ 16) ys in
    let all : P (x ∷ rest) = subst P e small in
    λ k d h. all (suc k) d (let m : suc k < suc (length rest) = omega arith in m)

enough : (from b n c : ℕ) → from + suc n * (c + 256) ≤ 4294967296 → b ≤ c + 256 → from + b + n * (c + 256) ≤ 4294967296
enough from b n c h le = let e : suc n * (c + 256) ≡ c + 256 + n * (c + 256) = omega arith in omega arith

pub place_from-requires : goal.place_from-requires
place_from-requires t c =
    let e : c.args.angles.now ≡ c.in-Some-Some.p.now ∷ c.in-Some-Some.others.now = search rules in
    let long : length c.args.angles.now ≡ suc (length c.in-Some-Some.others.now) = ap length e in
    let few = c.requires.few in
    let less = c.bins.ensures.few in
    let rows = c.requires.shape.few_rows in
    let P : ℕ → Type 0 = λ n. c.args.from + n * (c.args.cols + 256) ≤ 4294967296 in (
      search rules,
      (
        c.requires.shape,
        (
          small_rest c.args.angles.now c.in-Some-Some.others.now c.in-Some-Some.p.now e c.requires.small,
          (search rules, enough c.args.from c.bins.result (length c.in-Some-Some.others.now) c.args.cols (subst P long few) (omega arith)),
        ),
      ),
    )
