use Rattle.rz_script.proofs.Script_again.{again_if}
use Rattle.rz_script.proofs.script.Script.print.Goals as goal

pub returns-clause-again : goal.returns-clause-again
returns-clause-again c = λ form allowed. again_if c.spell.result c.args.self.now c.spell.ensures.spelling c.spell.ensures.rules c.spell.ensures.short c.spell.ensures.limits form allowed
