use Rattle.std.proofs.Common.{◌+◌, ◌-◌, List, refl, ◌∙◌, subst}
use Rattle.rz_events.specs.Volume.{Volume}
use Rattle.rz_script.specs.declared.line.Line.{Line}
use Rattle.rz_play.specs.World.{World, new_world}
use Rattle.rz_driver.specs.Worlds.{world_of}
use Rattle.rz_player.specs.Ends.{IsEnded}
use Rattle.rz_player.proofs.Anew.{ended}
use Rattle.rozo_sample.proofs.Shown.{shows}
use Rattle.rozo_sample.proofs.sample.play_on.Goals as goal

pub returns : goal.returns
returns c =
    let h = c.play-end.new.stage.shared.log.events in
    let v : Volume = c.args.script.now.volume in
    let V : Volume → Type 0 = λ x. IsEnded x (world_of c.args.driver) c.lines.result.now c.play-end.result ((world_of c.args.driver).lost + (0 - 0)) h in
    let W : World → Type 0 = λ x. IsEnded v x c.lines.result.now c.play-end.result ((world_of c.args.driver).lost + (0 - 0)) h in
    let L : List Line → Type 0 = λ x. IsEnded v (new_world v) x c.play-end.result ((world_of c.args.driver).lost + (0 - 0)) h in
    let held = c.requires.held in
    let own = ended c.args.driver.volume c.lines.result.now c.play-end.result _ held.0.log (world_of c.args.driver) (world_of c.play-end.new.stage) held.1 (c.play-end.ensures.played held.0 held.2 refl) in
    let whole = subst L c.lines.ensures.value (subst W c.requires.new (subst V c.requires.volume own)) in
    shows c.args.script.now c.play-end.result _ h c.deref.result.now c.shown.result whole (c.deref.ensures.value ∙ c.close-log.ensures.log) c.shown.ensures
