-- The numbers of a layout, as C gets them.
use Rattle.std.specs.Prelude.{Option, Some, None}
use Rattle.mj_angles.specs.declared.layout.Layout.{Layout}
use Rattle.mj_angles.specs.Layout.{inverse_of, forward_of, safe_of, cols_of}
use Rattle.mj_c.specs.declared.Answer.{Answer}
use Rattle.mj_c.specs.declared.Answer.TheVariants.{Done, BadLayout}
use Rattle.mj_c.specs.declared.Numbers.{Numbers}

abbrev pub numbers_answer : Option Layout → Answer
numbers_answer None = BadLayout
numbers_answer (Some y) = Done

abbrev pub numbers_of : Layout → Numbers
numbers_of y = record { inverse = inverse_of y; forward = forward_of y; safe = safe_of y; cols = cols_of y }
