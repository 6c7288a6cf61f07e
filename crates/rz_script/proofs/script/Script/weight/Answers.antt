use Rattle.rz_script.proofs.Sums.{lines_fit}
use Rattle.rz_script.proofs.script.Script.weight.Goals as goal

pub lines_weight-requires : goal.lines_weight-requires
lines_weight-requires c = rw (c.layout.ensures, c.lines.ensures.value) (lines_fit c.args.self.now.volume c.args.self.now.lines c.lines.ensures.limits c.lines.ensures.few)
