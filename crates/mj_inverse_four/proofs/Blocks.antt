-- The numbers of the blocks of a group.
use Rattle.std.proofs.Common.{◌≡◌, ℕ, zero, suc, ◌+◌, ◌-◌, ◌*◌, ◌<◌, ◌≤◌, arith, List, [], ◌∷◌, length, get_or, refl}
use Rattle.std.specs.Prelude.{min}
use Rattle.std.specs.Borrow.{Bor}
use Rattle.std.proofs.Math.Nat.{mul-le-mul_right}
use Rattle.mj_inverse_four.specs.Starts.{block_of}
use Rattle.mj_inverse_four.specs.Fragments.{part_at}
use Rattle.mj_inverse_four.specs.declared.starts.Group.{Group}

-- none comes after the last
pub block_within : (g : Group) (i stride : ℕ) → block_of g i * stride ≤ (g.first + (g.count - 1)) * stride
block_within g i stride = mul-le-mul_right stride (let k : g.first + min i (g.count - 1) ≤ g.first + (g.count - 1) = omega arith in k)

pub part_here : (parts : List (Bor (List ℕ))) (m : ℕ) (d : Bor (List ℕ)) → m < length parts → (get_or parts m d).now ≡ part_at parts m
part_here [] m d h = absurd (omega arith)
part_here (part ∷ parts) zero d h = refl
part_here (part ∷ parts) (suc m) d h = part_here parts m d (let k : suc m < suc (length parts) = h in omega arith)
