use Rattle.std.proofs.Common.{◌∙◌, sym}
use Rattle.rz_config.proofs.Keys.{full_path}
use Rattle.rz_config.proofs.parts.key_path.Goals as goal

pub returns : goal.returns
returns c = rw (full_path c.args.path.now c.args.key.now (sym c.is_empty.ensures ∙ c.if-is_empty.false)) c.dotted.ensures
