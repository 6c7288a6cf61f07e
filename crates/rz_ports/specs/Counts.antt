-- Counts that stop at the last value of a u64.
use Rattle.std.specs.Prelude.{ℕ, ◌+◌, ◌-◌, ◌^◌, ◌≤◌, min, max}

-- one more, up to the last value of a u64
abbrev pub one_more : ℕ → ℕ
one_more n = max n (min (n + 1) (2 ^ 64 - 1))

-- the count rose, or stands at the last value of a u64
abbrev pub Rises : ℕ → ℕ → Type 0
Rises old new = one_more old ≤ new
