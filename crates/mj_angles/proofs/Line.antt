use Rattle.std.proofs.Common.{◌≡◌, ℕ, suc, ◌+◌, ◌-◌, ◌*◌, ◌<◌, ap, arith, ℤ, pos}
use Rattle.std.specs.Prelude.{negsuc, ◌+ℤ◌, ◌*ℤ◌}
use Rattle.std.proofs.lemmas.Int.{ints}
use Rattle.std.proofs.Math.IntN.{pos-*ℤ-pos, negsuc-*ℤ-pos}
use Rattle.mj_angles.specs.Projection.{row_start, offset}

-- where a row begins, by the formula on signed numbers
pub row_start-is : (p : ℤ) (rows l : ℕ) → l < rows → pos (row_start p rows l) ≡ (p *ℤ pos l) +ℤ pos (offset p rows)
row_start-is (pos n) rows l h = rw (pos-*ℤ-pos n l) (omega (arith, ints))
row_start-is (negsuc n) rows l h =
    let rest : rows - 1 ≡ (rows - 1 - l) + l = omega arith in
    let all : (n + 1) * (rows - 1) ≡ (n + 1) * ((rows - 1 - l) + l) = ap (λ x. (n + 1) * x) rest in
    let e : suc n * l ≡ (n + 1) * l = ap (λ x. x * l) (let z : suc n ≡ n + 1 = omega arith in z) in
    rw (negsuc-*ℤ-pos n l, e) (omega (arith, ints, all))
