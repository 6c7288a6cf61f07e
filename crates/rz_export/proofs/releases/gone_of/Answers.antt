use Rattle.rz_export.proofs.Released.{not-gone}
use Rattle.rz_export.proofs.releases.gone_of.Goals as goal

pub returns-in_default : goal.returns-in_default
returns-in_default c = not-gone c.args.reply.now c.in_default.not-Gone
