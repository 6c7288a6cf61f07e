use Rattle.std.proofs.Common.{rules, arith, ◌≡◌, length, drop, w32, ◌∙◌, ap}
use Rattle.std.proofs.lemmas.List.{take_at, length-take}
use Rattle.std.proofs.lemmas.Int.{to_z-of_z}
use Rattle.mj_forward.specs.Forward.{projection_of}
use Rattle.mj_angles.specs.Layout.{bins_at_of}
use Rattle.rz_writer.proofs.sheet.project_at.Goals as goal

pub returns : goal.returns
returns c =
    let size : length c.project.new.out ≡ bins_at_of c.args.layout c.args.position =
    omega (arith, c.project.auto.out, length-take c.bins_at-count.result c.args.bins.now, c.bins_at-count.ensures.value, c.bins_at-count.ensures.within, c.requires.room) in
    take_at c.project.new.out (drop c.bins_at-count.result c.args.bins.now) _ size
    ∙ c.project.ensures
    ∙ ap (projection_of c.args.block.now) (to_z-of_z w32 c.angle.result (search rules) ∙ c.angle.ensures.value)
