-- The draws of a generator.
use Rattle.std.specs.Prelude.{ℕ, zero, suc}
use Rattle.rand_core.specs.Pcg32Seed.{pcg32_seed}
use Rattle.rand_pcg.specs.Lcg.{Lcg}
use Rattle.rand_pcg.specs.Pcg.{pcg32, pcg32_of_seed}

-- the generator of a seed
unfoldable pub seeded : ℕ → Lcg
seeded seed = pcg32_of_seed (pcg32_seed 16 seed)

-- the next draw of a generator, and the generator after it
unfoldable pub draw : Lcg → ℕ
draw g = (pcg32 g).0

unfoldable pub drawn_from : Lcg → Lcg
drawn_from g = (pcg32 g).1

-- the generator after so many draws
abbrev pub after : Lcg → ℕ → Lcg
after g zero = g
after g (suc k) = drawn_from (after g k)

-- the draw after so many others
abbrev pub draw_after : Lcg → ℕ → ℕ
draw_after g k = draw (after g k)
