use Rattle.std.proofs.Common.{ap, refl, ◌∙◌}
use Rattle.rz_play.specs.World.{new_world}
use Rattle.rozo_sample.proofs.sample.play_script.Goals as goal

pub play_on-requires-clause-new : goal.play_on-requires-clause-new
play_on-requires-clause-new c = c.in-Ok-new.ensures.world ∙ ap new_world c.volume-2.ensures

pub play_on-requires-clause-held : goal.play_on-requires-clause-held
play_on-requires-clause-held c = (_, refl, c.in-Ok-new.ensures.held)
