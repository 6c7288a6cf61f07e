-- Where each of four lists begins.
use Rattle.std.specs.Prelude.{ℕ, zero, suc, ◌+◌, ◌-◌, min}
use Rattle.mj_inverse_four.specs.declared.fours.Starts.{Starts}
use Rattle.mj_inverse_four.specs.declared.starts.Group.{Group}

abbrev pub start_of : Starts → ℕ → ℕ
start_of s zero = s.first
start_of s (suc zero) = s.second
start_of s (suc (suc zero)) = s.third
start_of s (suc (suc (suc i))) = s.fourth

-- the number of block i of a group; those that it has not are its last
abbrev pub block_of : Group → ℕ → ℕ
block_of g i = g.first + min i (g.count - 1)
