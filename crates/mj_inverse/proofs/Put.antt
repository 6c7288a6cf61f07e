-- A projection is put into a blank series, or taken away.
use Rattle.std.proofs.Common.{◌≡◌, ℕ, ◌+◌, ◌-◌, ◌*◌, ◌<◌, ◌≤◌, sym, ◌∙◌, arith, rules, List, length, get_or, take, drop, ℤ, pos}
use Rattle.std.specs.Prelude.{negsuc, unsigned_abs, slice_range}
use Rattle.std.proofs.Math.Nat.{mul-le-mul_right}
use Rattle.std.proofs.lemmas.List.{places, ext_get_or}
use Rattle.mj_angles.specs.Projection.{offset}
use Rattle.mj_angles.proofs.Order.{lifted}

pub offset_le : (p : ℤ) (rows : ℕ) → unsigned_abs p ≤ 16 → offset p rows ≤ 16 * (rows - 1)
offset_le (pos n) rows h = omega arith
offset_le (negsuc n) rows h = mul-le-mul_right (rows - 1) (let k : n + 1 ≤ 16 = omega arith in k)

pub lifted_le : (p : ℤ) → unsigned_abs p ≤ 16 → lifted 16 p ≤ 32
lifted_le (pos n) h = omega arith
lifted_le (negsuc n) h = omega arith

here : (xs : List ℕ) (a b k : ℕ) → a ≤ b → b ≤ length xs → k < b - a → get_or (take (b - a) (drop a xs)) k 0 ≡ get_or xs (a + k) 0
here xs a b k h h' small = search (rules, places)

pub slice_is : (xs ys : List ℕ) (a b : ℕ) → a + length ys ≡ b → b ≤ length xs → ((k : ℕ) → k < length ys → get_or xs (a + k) 0 ≡ get_or ys k 0) → slice_range xs a b ≡ ys
slice_is xs ys a b long fits same =
    let l : length (slice_range xs a b) ≡ length ys = search (rules, places) in
    ext_get_or 0 (slice_range xs a b) ys l (λ k m. here xs a b k (omega arith) fits (let n : k < length ys = rw (sym l) m in omega arith) ∙ same k (rw (sym l) m))

-- there are no words beyond the last
pub past : (xs : List ℕ) (n i : ℕ) → length xs ≡ n → n ≤ i → get_or xs i 0 ≡ 0
past xs n i long far = search (rules, places)
