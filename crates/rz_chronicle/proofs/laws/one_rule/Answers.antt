use Rattle.rz_chronicle.proofs.Earlier.{one-rule}
use Rattle.rz_chronicle.proofs.laws.one_rule.Goals as goal

pub returns : goal.returns
returns c = one-rule
