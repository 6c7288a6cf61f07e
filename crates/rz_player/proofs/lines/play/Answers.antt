use Rattle.std.proofs.Common.{Err, ◌≡◌, ◌++◌, sym, ◌≤◌, ◌+◌, ◌-◌, ◌∙◌, List, take_all, refl, subst, arith}
use Rattle.rz_events.specs.Volume.{Volume}
use Rattle.rz_script.specs.declared.line.Line.{Line}
use Rattle.rz_play.specs.Lines.{PlaysLineOver}
use Rattle.rz_play.specs.Played.{PlaysLinesOver}
use Rattle.rz_events.specs.declared.export.Call.{Call}
use Rattle.rz_play.specs.Stops.{JournalRefused, StopsLineOver}
use Rattle.rz_player.specs.Behind.{Before, behind}
use Rattle.rz_player.specs.Ends.{StaysTrue, IsCut, IsLinePlayed, IsLogOf, IsStoppedOver, OnCut, OnStop}
use Rattle.rz_player.specs.declared.lines.PlayEnd.{PlayEnd}
use Rattle.rz_player.specs.declared.lines.PlayEnd.TheVariants.{Ended, TooManyTurns}
use Rattle.rz_player.specs.declared.turns.CutCause.{CutCause}
use Rattle.rz_player.specs.declared.turns.CutCause.TheVariants as cut
use Rattle.rz_player.proofs.Refused.{cut-none, cut-on, cut-over}
use Rattle.rz_player.proofs.Scripts.{lines-at, script-cut, script-refused, script-stopped, told}
use Rattle.rz_player.proofs.lines.play.Goals as goal

stop-over : goal.returns-in-Err-TooManyTurns-clause-over
stop-over g c b held =
    let tells = g.S.Stage.tells in
    let volume = g.S.Stage.volume in
    let world = g.S.Stage.world in
    let i = c.loop-line.invariant in
    let e = c.in-Err-TooManyTurns.ensures in
    let mid = behind b.log (world c.loop-line.stage) in
    let next = behind b.log (world c.play_line.new.stage) in
    let at_end = subst (λ (v : Volume). IsLinePlayed v c.line-item.result tells mid (Err cut.TooManyTurns) next) i.volume
    (subst (λ (k : CutCause). IsLinePlayed (volume c.loop-line.stage) c.line-item.result tells mid (Err k) next) c.in-Err-TooManyTurns.field-0-is (e.played b (i.held b held))) in
    let at_line = subst (λ (x : Line). IsLinePlayed (volume c.args.stage.now) x tells mid (Err cut.TooManyTurns) next) c.line-item.is at_end in
    let lost = g.L.Link.lost in
    let so_far = i.lost in
    let then = e.lost in
    let few : (world c.play_line.new.stage).lost ≤ (world c.args.stage.now).lost + (lost c.play_line.new.link - lost c.args.link.now) = omega (arith, so_far, then) in
    script-stopped (volume c.args.stage.now) tells c.args.lines.now c.loop-line.line-index c.line-item.result (behind b.log (world c.args.stage.now)) mid next
    ((world c.args.stage.now).lost + (lost c.play_line.new.link - lost c.args.link.now)) c.loop-line-test.true (i.played b held) at_line few

pub returns-in-Err-TooManyTurns-clause-over : goal.returns-in-Err-TooManyTurns-clause-over
returns-in-Err-TooManyTurns-clause-over = stop-over

pub returns-in-Err-TooManyTurns-clause-played : goal.returns-in-Err-TooManyTurns-clause-played
returns-in-Err-TooManyTurns-clause-played g c b held is = told _ _ _ _ _ _ _ is (stop-over g c b held)

pub returns-in-Err-TooManyTurns-clause-left : goal.returns-in-Err-TooManyTurns-clause-left
returns-in-Err-TooManyTurns-clause-left g c =
    let holds = g.S.Stage.holds in
    let stage = c.play_line.new.stage in
    let e = c.in-Err-TooManyTurns.ensures in
    let i = c.loop-line.invariant in
    let so = subst (λ (k : CutCause). OnStop {A = Unit {0}} (Err k) (g.S.Stage.is_ready stage × StaysTrue (holds c.loop-line.stage) (holds stage))) c.in-Err-TooManyTurns.field-0-is e.stopped in
    cut-none TooManyTurns (holds c.args.stage.now) (g.S.Stage.leaves stage) _ refl (λ b held. g.S.Stage.ends stage b (so.1 b (i.held b held)))

-- what is left where it was cut off
cut-left : goal.returns-in-Err-NoMemory-clause-left
cut-left g c =
    let tells = g.S.Stage.tells in
    let volume = g.S.Stage.volume in
    let world = g.S.Stage.world in
    let holds = g.S.Stage.holds in
    let stage = c.play_line.new.stage in
    let i = c.loop-line.invariant in
    let e = c.in-Err-NoMemory.ensures in
    let lost = g.L.Link.lost in
    let so_far = i.lost in
    let then = e.lost in
    let few : (world stage).lost ≤ (world c.args.stage.now).lost + (lost c.play_line.new.link - lost c.args.link.now) = omega (arith, so_far, then) in
    let Stops : Line → Volume → Call → Before → Type 0 = λ x v refused b. IsLogOf (StopsLineOver v (JournalRefused refused) x tells (behind b.log (world c.loop-line.stage))) (behind b.log (world stage)) in
    let at_end = subst (λ (k : CutCause). OnCut {A = Unit {0}} (Err k) (IsCut (g.S.Stage.cut_off stage) (holds c.loop-line.stage) (g.S.Stage.leaves stage) (Stops c.line-item.result (volume c.loop-line.stage)))) c.in-Err-NoMemory.field-0-is e.cut in
    let here = cut-on (g.S.Stage.cut_off stage) (holds c.args.stage.now) (holds c.loop-line.stage) (g.S.Stage.leaves stage) (Stops c.line-item.result (volume c.loop-line.stage)) _ i.held
    (λ refused b held stops. script-refused (volume c.args.stage.now) tells c.args.lines.now c.loop-line.line-index c.line-item.result (behind b.log (world c.args.stage.now)) (behind b.log (world c.loop-line.stage)) (behind b.log (world stage))
    refused ((world c.args.stage.now).lost + (lost c.play_line.new.link - lost c.args.link.now)) c.loop-line-test.true (i.played b held)
    (subst (λ (x : Line). Stops x (volume c.args.stage.now) refused b) c.line-item.is (subst (λ (v : Volume). Stops c.line-item.result v refused b) i.volume stops)) few)
    at_end in
    let Told : Call → Before → Type 0 = λ refused b. IsStoppedOver tells (volume c.args.stage.now) (JournalRefused refused) (behind b.log (world c.args.stage.now)) c.args.lines.now
    ((world c.args.stage.now).lost + (lost c.play_line.new.link - lost c.args.link.now)) ((world stage).log ++ b.log) in
    subst (λ (end : PlayEnd). IsCut end (holds c.args.stage.now) (g.S.Stage.leaves stage) Told) (sym c.cut_off.ensures.value) here

pub returns-in-Err-NoMemory-clause-left : goal.returns-in-Err-NoMemory-clause-left
returns-in-Err-NoMemory-clause-left = cut-left

cut-ended : goal.returns-in-Err-NoMemory-clause-over
cut-ended g c b held =
    let tells = g.S.Stage.tells in
    let volume = g.S.Stage.volume in
    let world = g.S.Stage.world in
    let i = c.loop-line.invariant in
    let e = c.in-Err-NoMemory.ensures in
    let left = cut-left g c in
    let mid = behind b.log (world c.loop-line.stage) in
    let next = behind b.log (world c.play_line.new.stage) in
    let at_end = subst (λ (v : Volume). IsLinePlayed v c.line-item.result tells mid (Err cut.NoMemory) next) i.volume
    (subst (λ (k : CutCause). IsLinePlayed (volume c.loop-line.stage) c.line-item.result tells mid (Err k) next) c.in-Err-NoMemory.field-0-is (e.played b (i.held b held))) in
    let at_line = subst (λ (x : Line). IsLinePlayed (volume c.args.stage.now) x tells mid (Err cut.NoMemory) next) c.line-item.is at_end in
    let lost = g.L.Link.lost in
    let so_far = i.lost in
    let then = e.lost in
    let most = (world c.args.stage.now).lost + (lost c.play_line.new.link - lost c.args.link.now) in
    let few : (world c.play_line.new.stage).lost ≤ most = omega (arith, so_far, then) in
    cut-over tells (volume c.args.stage.now) (behind b.log (world c.args.stage.now)) c.args.lines.now most next.log (g.S.Stage.journaled c.play_line.new.stage) c.cut_off.result c.cut_off.ensures.cause left.refused left.ends
    (λ refused is. left.stopped refused is b held)
    (script-cut (volume c.args.stage.now) tells c.args.lines.now c.loop-line.line-index c.line-item.result (behind b.log (world c.args.stage.now)) mid next most c.loop-line-test.true (i.played b held) at_line few)

pub returns-in-Err-NoMemory-clause-over : goal.returns-in-Err-NoMemory-clause-over
returns-in-Err-NoMemory-clause-over = cut-ended

pub returns-in-Err-NoMemory-clause-played : goal.returns-in-Err-NoMemory-clause-played
returns-in-Err-NoMemory-clause-played g c b held is = told _ _ _ _ _ _ _ is (cut-ended g c b held)

pub loop-line-preserved : goal.loop-line-preserved
loop-line-preserved g c =
    let tells = g.S.Stage.tells in
    let volume = g.S.Stage.volume in
    let world = g.S.Stage.world in
    let i = c.loop-line.invariant in
    let e = c.in-Ok.ensures in
    record {
      ready = e.ready;
      volume = e.volume ∙ i.volume;
      journal = e.journal ∙ i.journal;
      few = e.few;
      lost = (let so_far = i.lost in let then = e.lost in omega (arith, so_far, then));
      faults = λ first had. e.faults first (i.faults first had);
      held = λ b held. e.held b (i.held b held);
      played = λ b held.
          let mid = behind b.log (world c.loop-line.stage) in
          let next = behind b.log (world c.play_line.new.stage) in
          let played = rw i.volume at (e.played b (i.held b held)).0 in
          let played_at = subst (λ (x : Line). PlaysLineOver (volume c.args.stage.now) x tells mid next) c.line-item.is played in
          lines-at (volume c.args.stage.now) tells c.args.lines.now c.loop-line.line-index c.line-item.result (behind b.log (world c.args.stage.now)) mid next
          c.loop-line-test.true (i.played b held) played_at;
    }

whole-over : goal.returns-clause-over
whole-over g c b held =
    let tells = g.S.Stage.tells in
    let world = g.S.Stage.world in
    let i = c.loop-line.invariant in
    let whole = take_all c.loop-line.line-index c.args.lines.now c.loop-line-test.false in
    let so_far = i.lost in
    record {
      last = behind b.log (world c.loop-line.stage);
      played = (subst (λ (xs : List Line). PlaysLinesOver (g.S.Stage.volume c.args.stage.now) xs tells (behind b.log (world c.args.stage.now)) (behind b.log (world c.loop-line.stage))) whole (i.played b held), i.few);
      losses = omega (arith, so_far);
      log_is = refl;
    }

pub returns-clause-over : goal.returns-clause-over
returns-clause-over = whole-over

pub returns-clause-played : goal.returns-clause-played
returns-clause-played g c b held is = told _ _ _ _ _ _ _ is (whole-over g c b held)

pub returns-clause-whole : goal.returns-clause-whole
returns-clause-whole g c ended b held =
    let whole = take_all c.loop-line.line-index c.args.lines.now c.loop-line-test.false in
    subst (λ (xs : List Line). PlaysLinesOver (g.S.Stage.volume c.args.stage.now) xs g.S.Stage.tells (behind b.log (g.S.Stage.world c.args.stage.now)) (behind b.log (g.S.Stage.world c.loop-line.stage))) whole
    (c.loop-line.invariant.played b held)

pub returns-clause-left : goal.returns-clause-left
returns-clause-left g c = cut-none Ended (g.S.Stage.holds c.args.stage.now) (g.S.Stage.leaves c.loop-line.stage) _ refl (λ b held. g.S.Stage.ends c.loop-line.stage b (c.loop-line.invariant.held b held))
