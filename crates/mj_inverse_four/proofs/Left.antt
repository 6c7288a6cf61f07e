-- What is left of a bit or of differences.
use Rattle.std.proofs.Common.{◌≡◌, ℕ, ap, ◌∙◌, arith}
use Rattle.std.specs.Prelude.{bit_xor, bit_or}
use Rattle.std.proofs.lemmas.Nat.{le_or_l, le_or_r}
use Rattle.std.specs.Int.Bits.{or_zero_r}
use Rattle.mj_angles.proofs.Peel.{same_from_xor}
use lib.Bits.{xor_self}

-- nothing is left where nothing was left before and nothing differs
pub none_left : (a x y : ℕ) → bit_or a (bit_xor x y) ≡ 0 → (a ≡ 0) × (x ≡ y)
none_left a x y e =
    let l = le_or_l a (bit_xor x y) in
    let r = le_or_r a (bit_xor x y) in
    let z : bit_xor x y ≡ 0 = omega arith in
    (omega arith, same_from_xor x y z)

pub left_none : (a x y : ℕ) → a ≡ 0 → x ≡ y → bit_or a (bit_xor x y) ≡ 0
left_none a x y z e = ap (λ x. bit_or a (bit_xor x y)) e ∙ ap (bit_or a) (xor_self y) ∙ or_zero_r a ∙ z
