-- How many pairs of cells fit a disk.
use Rattle.std.proofs.Common.{◌≡◌, ◌⊎◌, inl, inr, ℕ, ◌+◌, ◌-◌, ◌*◌, ◌/◌, ◌<◌, ◌≤◌, min, Bool, true, false, ◌∙◌, refl, arith}
use Rattle.std.specs.Prelude.{nat_le}
use Rattle.std.proofs.lemmas.Bool.Decides.{nat_tests}
use Rattle.std.proofs.Math.Nat.{div-mul-le_self, lt-div-mul-add, mul-le-mul_right}

-- the bytes of pairs, and of one more
abbrev pub pair_bytes : ℕ → ℕ
pair_bytes slot = 2 + 4 * slot

in_pairs : (n slot : ℕ) → 2 * n + 4 * n * slot ≡ n * pair_bytes slot
in_pairs n slot = grind arith

pub pairs_fit : (n bytes slot : ℕ) → 64 ≤ bytes → n ≤ (bytes - 64) / pair_bytes slot → 64 + 2 * n + 4 * n * slot ≤ bytes
pairs_fit n bytes slot room few =
    let all = div-mul-le_self (bytes - 64) (pair_bytes slot) in
    let less : n * pair_bytes slot ≤ (bytes - 64) / pair_bytes slot * pair_bytes slot = mul-le-mul_right (pair_bytes slot) few in
    let same = in_pairs n slot in
    omega (arith, all, less, same)

pub one_more_lacks : (n bytes slot : ℕ) → n ≡ (bytes - 64) / pair_bytes slot → bytes < 64 + 2 * (n + 1) + 4 * (n + 1) * slot
one_more_lacks n bytes slot is =
    let more = lt-div-mul-add {a = bytes - 64} {b = pair_bytes slot} (omega arith) in
    let same = in_pairs (n + 1) slot in
    let next : (n + 1) * pair_bytes slot ≡ n * pair_bytes slot + pair_bytes slot = grind arith in
    omega (arith, rw (← is) at more, same, next)

either_at : (b : Bool) (n q m : ℕ) → nat_le m q ≡ b → n ≡ min q m → (n ≡ m) ⊎ (n ≡ q)
either_at true n q m t is = inl (grind (arith, nat_tests))
either_at false n q m t is = inr (grind (arith, nat_tests))

-- the least of two is one of them
pub min_either : (n q m : ℕ) → n ≡ min q m → (n ≡ m) ⊎ (n ≡ q)
min_either n q m is = either_at (nat_le m q) n q m refl is

pub no_more_fit : (n q bytes slot : ℕ) → q ≡ (bytes - 64) / pair_bytes slot → (n ≡ 1048576) ⊎ (n ≡ q) → (n ≡ 1048576) ⊎ (bytes < 64 + 2 * (n + 1) + 4 * (n + 1) * slot)
no_more_fit n q bytes slot is (inl full) = inl full
no_more_fit n q bytes slot is (inr all) = inr (one_more_lacks n bytes slot (all ∙ is))
