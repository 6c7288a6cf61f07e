use Rattle.std.proofs.Common.{length}
use Rattle.mj_inverse_four.proofs.lines.+first_turn.Given as goal

abbrev pub decreases-first_turn : goal.decreases-first_turn
decreases-first_turn l = length l.lines.now
