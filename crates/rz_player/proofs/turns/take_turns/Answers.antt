use Rattle.std.proofs.Common.{◌∙◌, subst, arith}
use Rattle.std.proofs.lemmas.Result.{err_from_is_err_and}
use Rattle.rz_events.specs.Volume.{Volume}
use Rattle.rz_play.specs.Free.{IsTurnOver}
use Rattle.rz_player.specs.Behind.{behind}
use Rattle.rz_player.proofs.Sequences.{turns-more}
use Rattle.rz_player.proofs.Cuts.{turns-cut, turns-refused}
use Rattle.rz_player.proofs.Stops.{stopped-after}
use Rattle.rz_player.specs.Ends.{IsTurnRefused}
use Rattle.rz_player.proofs.Refused.{cut-on, halted}
use Rattle.rz_player.proofs.turns.take_turns.Goals as goal

pub returns-in_err-take_turn-clause-played : goal.returns-in_err-take_turn-clause-played
returns-in_err-take_turn-clause-played g c b held =
    let volume = g.S.Stage.volume in
    let world = g.S.Stage.world in
    let i = c.loop.invariant in
    let p = err_from_is_err_and c.from_residual.result c.from_residual.ensures.1 in
    rw (p.1, p.2) (turns-cut (volume c.args.stage.now) (volume c.loop.stage) g.S.Stage.tells c.args.by c.loop.counter c.args.count (behind b.log (world c.args.stage.now)) (behind b.log (world c.loop.stage)) (behind b.log (world c.take_turn.new.stage))
    c.in_err-take_turn.field-0.0 c.loop-test.true i.few (i.played b held) (c.in_err-take_turn.ensures.taken b (i.held b held)))

pub loop-preserved : goal.loop-preserved
loop-preserved g c =
    let volume = g.S.Stage.volume in
    let world = g.S.Stage.world in
    let i = c.loop.invariant in
    let e = c.in_ok-take_turn.ensures in
    record {
      ready = e.ready;
      volume = e.volume ∙ i.volume;
      journal = e.journal ∙ i.journal;
      few = e.few;
      lost = (let so_far = i.lost in let then = e.lost in omega (arith, so_far, then));
      faults = λ first had. e.faults first (i.faults first had);
      held = λ b held. e.held b (i.held b held);
      played = λ b held.
          let turn = subst (λ (v : Volume). IsTurnOver v c.args.by g.S.Stage.tells (behind b.log (world c.loop.stage)) (behind b.log (world c.take_turn.new.stage))) i.volume (e.taken b (i.held b held)).0 in
          turns-more (volume c.args.stage.now) g.S.Stage.tells c.args.by c.loop.counter (behind b.log (world c.args.stage.now)) (behind b.log (world c.loop.stage)) (behind b.log (world c.take_turn.new.stage)) (i.played b held) turn;
    }

pub returns-in_err-take_turn-clause-stopped : goal.returns-in_err-take_turn-clause-stopped
returns-in_err-take_turn-clause-stopped g c =
    let holds = g.S.Stage.holds in
    let p = err_from_is_err_and c.from_residual.result c.from_residual.ensures.1 in
    rw (p.1, p.2) (stopped-after (Unit {0}) (Unit {0}) (g.S.Stage.is_ready c.take_turn.new.stage) (holds c.args.stage.now) (holds c.loop.stage) (holds c.take_turn.new.stage) c.in_err-take_turn.field-0.0
    c.loop.invariant.held c.in_err-take_turn.ensures.stopped)

pub returns-in_err-take_turn-clause-cut : goal.returns-in_err-take_turn-clause-cut
returns-in_err-take_turn-clause-cut g c =
    let volume = g.S.Stage.volume in
    let world = g.S.Stage.world in
    let holds = g.S.Stage.holds in
    let i = c.loop.invariant in
    let p = err_from_is_err_and c.from_residual.result c.from_residual.ensures.1 in
    rw (p.1, p.2) (halted (Unit {0}) (Unit {0}) c.in_err-take_turn.field-0.0 _ _
    (cut-on (g.S.Stage.cut_off c.take_turn.new.stage) (holds c.args.stage.now) (holds c.loop.stage) (g.S.Stage.leaves c.take_turn.new.stage) _ _ i.held
    (λ refused b held turn. turns-refused (volume c.args.stage.now) g.S.Stage.tells c.args.by c.loop.counter c.args.count (behind b.log (world c.args.stage.now)) (behind b.log (world c.loop.stage)) (behind b.log (world c.take_turn.new.stage)) refused
    c.loop-test.true i.few (i.played b held)
    (subst (λ (v : Volume). IsTurnRefused v c.args.by refused (behind b.log (world c.loop.stage)) (behind b.log (world c.take_turn.new.stage))) i.volume turn)))
    c.in_err-take_turn.ensures.cut)
