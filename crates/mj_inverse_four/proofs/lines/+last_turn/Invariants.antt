use Rattle.std.proofs.Common.{length}
use Rattle.mj_inverse_four.proofs.lines.+last_turn.Given as goal

abbrev pub decreases-last_turn : goal.decreases-last_turn
decreases-last_turn l = length l.lines.now
