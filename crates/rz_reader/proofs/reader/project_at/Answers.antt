use Rattle.std.proofs.Common.{rules, w32, ◌∙◌, ap}
use Rattle.std.proofs.lemmas.Int.{to_z-of_z}
use Rattle.mj_forward.specs.Forward.{projection_of}
use Rattle.rz_reader.proofs.reader.project_at.Goals as goal

pub returns : goal.returns
returns c = c.project.ensures ∙ ap (projection_of c.args.block.now) (to_z-of_z w32 c.angle.result (search rules) ∙ c.angle.ensures.value)
