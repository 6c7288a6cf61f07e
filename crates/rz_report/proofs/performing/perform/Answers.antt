use Rattle.std.proofs.Common.{◌∙◌, ◌-◌, ◌++◌, ◌≡◌, ℕ, List, ap, inl, inr, refl, subst, sym, arith}
use Rattle.rz_events.specs.declared.events.Event.{Event}
use Rattle.rz_play.specs.World.{World}
use Rattle.rz_play_laws.specs.Runs.{IsScript}
use Rattle.rz_play.specs.Stops.{JournalRefused}
use Rattle.rz_player.specs.Behind.{behind}
use Rattle.rz_player.specs.Ends.{IsStoppedOver}
use Rattle.rz_report.specs.Output.{Sunk}
use Rattle.rz_report.specs.Telling.{Says}
use Rattle.rz_report.specs.Told.{IsPlayReported}
use Rattle.rz_report.proofs.Begun.{anew_play, cut_so_far, plays_so, told_play}
use Rattle.rz_report.proofs.Seeking.{performed_so, whole_play}
use Rattle.rz_report.proofs.performing.perform.Goals as goal

pub play-end-requires-clause-few : goal.play-end-requires-clause-few
play-end-requires-clause-few g c = let none : (g.S.Stage.world c.args.stage.now).turns ≡ 0 = ap (λ (w : World). w.turns) c.requires.new.2 in omega (arith, none)

pub returns-in-Ok-clause-performed : goal.returns-in-Ok-clause-performed
returns-in-Ok-clause-performed g c =
    let world = g.S.Stage.world in
    let first = c.args.stage.now in
    let lost : ℕ = g.L.Link.lost c.play-end.new.link - g.L.Link.lost c.args.link.now in
    let v = c.args.script.now.volume in
    let lines = c.args.script.now.lines in
    let e = c.play-end.ensures in
    let sink : Sunk = record {
      before = g.O.Sink.taken c.args.output.now;
      after = g.O.Sink.taken c.tell.new.output;
      old = g.O.Sink.faults c.args.output.now;
      new = g.O.Sink.faults c.tell.new.output;
    } in
    let P : List ℕ → Type 0 = λ found. Says c.play-end.result c.args.wish found c.log.result.now sink c.tell.result in
    let Q : List Event → Type 0 = λ events. Says c.play-end.result c.args.wish c.in-Ok.found.items events sink c.tell.result in
    performed_so g.S.Stage.tells g.S.Stage.volume world g.S.Stage.journaled (g.S.Stage.journaled first) g.S.Stage.cut_off g.S.Stage.holds g.S.Stage.leaves g.S.ScrubbedStore.counts g.S.ScrubbedStore.only_asked
    (λ h refused b. IsStoppedOver g.S.Stage.tells v (JournalRefused refused) (behind b.log (world first)) lines lost (h ++ b.log)) v lines c.args.wish
    lost c.play-end.result first c.play-end.new.stage c.find.new.stage
    (plays_so (g.S.Stage.holds first) g.S.Stage.tells v (g.S.Stage.volume first) (world first) (world c.play-end.new.stage) lines c.lines.result.now c.play-end.result lost
    c.requires.volume c.lines.ensures.value c.requires.new c.told_losses.ensures e.played e.over)
    (λ ended b held. whole_play g.S.Stage.tells v (g.S.Stage.volume first) (behind b.log (world first)) lines c.lines.result.now (behind b.log (world c.play-end.new.stage)) c.requires.volume c.lines.ensures.value
    (e.whole ended b held))
    (e.volume ∙ c.requires.volume) e.cut
    (cut_so_far (g.S.Stage.holds first) (g.S.Stage.leaves c.play-end.new.stage) g.S.Stage.tells v (g.S.Stage.volume first) (world first) (world c.play-end.new.stage) lines c.lines.result.now c.play-end.result lost
    c.requires.volume c.lines.ensures.value c.requires.new e.left) e.held (λ is. (e.stopped is).1) _ c.in-Ok.ensures sink c.tell.result
    (elim c.tell.ensures [ inl says ↦ inl (c.in-Ok.found.items, c.in-Ok.ensures.found, subst Q c.log.ensures (subst P c.deref.ensures.value says)) | inr lacks ↦ inr lacks ])

pub returns-in-Err-clause-performed : goal.returns-in-Err-clause-performed
returns-in-Err-clause-performed g c =
    let world = g.S.Stage.world in
    let first = c.args.stage.now in
    let lost : ℕ = g.L.Link.lost c.play-end.new.link - g.L.Link.lost c.args.link.now in
    let v = c.args.script.now.volume in
    let lines = c.args.script.now.lines in
    let e = c.play-end.ensures in
    let sink : Sunk = record {
      before = g.O.Sink.taken c.args.output.now;
      after = g.O.Sink.taken c.args.output.now;
      old = g.O.Sink.faults c.args.output.now;
      new = g.O.Sink.faults c.args.output.now;
    } in
    performed_so g.S.Stage.tells g.S.Stage.volume world g.S.Stage.journaled (g.S.Stage.journaled first) g.S.Stage.cut_off g.S.Stage.holds g.S.Stage.leaves g.S.ScrubbedStore.counts g.S.ScrubbedStore.only_asked
    (λ h refused b. IsStoppedOver g.S.Stage.tells v (JournalRefused refused) (behind b.log (world first)) lines lost (h ++ b.log)) v lines c.args.wish
    lost c.play-end.result first c.play-end.new.stage c.find.new.stage
    (plays_so (g.S.Stage.holds first) g.S.Stage.tells v (g.S.Stage.volume first) (world first) (world c.play-end.new.stage) lines c.lines.result.now c.play-end.result lost
    c.requires.volume c.lines.ensures.value c.requires.new c.told_losses.ensures e.played e.over)
    (λ ended b held. whole_play g.S.Stage.tells v (g.S.Stage.volume first) (behind b.log (world first)) lines c.lines.result.now (behind b.log (world c.play-end.new.stage)) c.requires.volume c.lines.ensures.value
    (e.whole ended b held))
    (e.volume ∙ c.requires.volume) e.cut
    (cut_so_far (g.S.Stage.holds first) (g.S.Stage.leaves c.play-end.new.stage) g.S.Stage.tells v (g.S.Stage.volume first) (world first) (world c.play-end.new.stage) lines c.lines.result.now c.play-end.result lost
    c.requires.volume c.lines.ensures.value c.requires.new e.left) e.held (λ is. (e.stopped is).1) _ c.in-Err.ensures sink 70 (inr (refl, refl))

pub returns-in-Ok-clause-told : goal.returns-in-Ok-clause-told
returns-in-Ok-clause-told g c b held none new telling =
    let first = c.args.stage.now in
    let e = c.play-end.ensures in
    let lost : ℕ = g.L.Link.lost c.play-end.new.link - g.L.Link.lost c.args.link.now in
    let log : List Event = (g.S.Stage.world c.play-end.new.stage).log in
    let v = c.args.script.now.volume in
    let lines = c.args.script.now.lines in
    let script : IsScript v lines = record { volume = c.requires.rules; limits = c.lines.ensures.limits; few = c.lines.ensures.few } in
    let P : List Event → Type 0 = λ h. IsPlayReported v lines lost h in
    subst P (sym c.find.ensures.log_is) (c.true_logs.ensures v lines script c.play-end.result lost log (anew_play v (g.S.Stage.world first) lines c.play-end.result lost log b.log none new
    (told_play (g.S.Stage.holds first) g.S.Stage.tells v (g.S.Stage.volume first) (g.S.Stage.world first) (g.S.Stage.world c.play-end.new.stage) lines c.lines.result.now c.play-end.result lost
    c.requires.volume c.lines.ensures.value c.requires.new c.told_losses.ensures e.played e.over b held telling)))

pub returns-in-Err-clause-told : goal.returns-in-Err-clause-told
returns-in-Err-clause-told g c b held none new telling =
    let first = c.args.stage.now in
    let e = c.play-end.ensures in
    let lost : ℕ = g.L.Link.lost c.play-end.new.link - g.L.Link.lost c.args.link.now in
    let log : List Event = (g.S.Stage.world c.play-end.new.stage).log in
    let v = c.args.script.now.volume in
    let lines = c.args.script.now.lines in
    let script : IsScript v lines = record { volume = c.requires.rules; limits = c.lines.ensures.limits; few = c.lines.ensures.few } in
    let P : List Event → Type 0 = λ h. IsPlayReported v lines lost h in
    subst P (sym c.find.ensures.log_is) (c.true_logs.ensures v lines script c.play-end.result lost log (anew_play v (g.S.Stage.world first) lines c.play-end.result lost log b.log none new
    (told_play (g.S.Stage.holds first) g.S.Stage.tells v (g.S.Stage.volume first) (g.S.Stage.world first) (g.S.Stage.world c.play-end.new.stage) lines c.lines.result.now c.play-end.result lost
    c.requires.volume c.lines.ensures.value c.requires.new c.told_losses.ensures e.played e.over b held telling)))

pub returns-in-Ok-clause-faults : goal.returns-in-Ok-clause-faults
returns-in-Ok-clause-faults g c = λ first had.
    let stage = c.play-end.new.stage in
    elim c.in-Ok.ensures.left [
      | inl still ↦ subst (λ (s : _). g.S.Stage.counts_on s first) (sym still.1) (c.play-end.ensures.faults first had)
      | inr sought ↦ c.requires.asked stage c.find.new.stage sought.2 first (c.play-end.ensures.faults first had)
    ]

pub returns-in-Err-clause-faults : goal.returns-in-Err-clause-faults
returns-in-Err-clause-faults g c = λ first had.
    let stage = c.play-end.new.stage in
    elim c.in-Err.ensures.left [
      | inl still ↦ subst (λ (s : _). g.S.Stage.counts_on s first) (sym still.1) (c.play-end.ensures.faults first had)
      | inr sought ↦ c.requires.asked stage c.find.new.stage sought.2 first (c.play-end.ensures.faults first had)
    ]
