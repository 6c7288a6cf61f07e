use Rattle.std.proofs.Common.{Bool, Ok, Err, ◌+◌, ◌∙◌, subst, arith}
use Rattle.std.proofs.lemmas.Result.{err_from_is_err_and}
use Rattle.rz_events.specs.Volume.{Volume}
use Rattle.rz_play.specs.World.{actors}
use Rattle.rz_player.specs.Behind.{behind}
use Rattle.rz_player.specs.Ends.{IsRoundPlayed}
use Rattle.rz_player.proofs.Sequences.{rounds-more}
use Rattle.rz_player.proofs.Cuts.{rest-cut, rest-done, rest-refused}
use Rattle.rz_player.proofs.Stops.{stopped-after}
use Rattle.rz_play.specs.Stops.{JournalRefused}
use Rattle.rz_player.specs.Ends.{IsLogOf, StopsAmong}
use Rattle.rz_player.proofs.Refused.{cut-on, halted}
use Rattle.rz_player.proofs.rounds.play_to_rest.Goals as goal

pub returns-in_err-play_round-clause-played : goal.returns-in_err-play_round-clause-played
returns-in_err-play_round-clause-played g c b held =
    let volume = g.S.Stage.volume in
    let world = g.S.Stage.world in
    let i = c.loop.invariant in
    let p = err_from_is_err_and c.from_residual.result c.from_residual.ensures.1 in
    let cut = subst (λ (v : Volume). IsRoundPlayed v actors g.S.Stage.tells (behind b.log (world c.loop.stage)) (Err c.in_err-play_round.field-0.0) (behind b.log (world c.play_round.new.stage))) i.volume
    (c.in_err-play_round.ensures.played b (i.held b held)) in
    let so_far = i.played b held in
    rw (p.1, p.2) (rest-cut (volume c.args.stage.now) g.S.Stage.tells so_far.0 (behind b.log (world c.args.stage.now)) (behind b.log (world c.loop.stage)) (behind b.log (world c.play_round.new.stage)) c.in_err-play_round.field-0.0 so_far.1 cut)

pub loop-preserved : goal.loop-preserved
loop-preserved g c =
    let volume = g.S.Stage.volume in
    let world = g.S.Stage.world in
    let i = c.loop.invariant in
    let e = c.in_ok-play_round.ensures in
    record {
      ready = e.ready;
      volume = e.volume ∙ i.volume;
      journal = e.journal ∙ i.journal;
      few = e.few;
      lost = (let so_far = i.lost in let then = e.lost in omega (arith, so_far, then));
      faults = λ first had. e.faults first (i.faults first had);
      held = λ b held. e.held b (i.held b held);
      played = λ b held.
          let played = subst (λ (v : Volume). IsRoundPlayed v actors g.S.Stage.tells (behind b.log (world c.loop.stage)) (Ok c.in_ok-play_round.field-0) (behind b.log (world c.play_round.new.stage))) i.volume
          (e.played b (i.held b held)) in
          let so_far = i.played b held in
          (so_far.0 + 1, rounds-more (volume c.args.stage.now) g.S.Stage.tells so_far.0 (behind b.log (world c.args.stage.now)) (behind b.log (world c.loop.stage)) (behind b.log (world c.play_round.new.stage)) so_far.1 played.0);
    }

pub returns-clause-played : goal.returns-clause-played
returns-clause-played g c b held =
    let volume = g.S.Stage.volume in
    let world = g.S.Stage.world in
    let i = c.loop.invariant in
    let e = c.in_ok-play_round.ensures in
    let played = subst (λ (v : Volume). IsRoundPlayed v actors g.S.Stage.tells (behind b.log (world c.loop.stage)) (Ok c.in_ok-play_round.field-0) (behind b.log (world c.play_round.new.stage))) i.volume
    (e.played b (i.held b held)) in
    let so_far = i.played b held in
    rest-done (volume c.args.stage.now) g.S.Stage.tells so_far.0 (behind b.log (world c.args.stage.now)) (behind b.log (world c.loop.stage)) (behind b.log (world c.play_round.new.stage)) c.in_ok-play_round.field-0 c.if-branch.false so_far.1 played

pub returns-in_err-play_round-clause-stopped : goal.returns-in_err-play_round-clause-stopped
returns-in_err-play_round-clause-stopped g c =
    let holds = g.S.Stage.holds in
    let p = err_from_is_err_and c.from_residual.result c.from_residual.ensures.1 in
    rw (p.1, p.2) (stopped-after Bool (Unit {0}) (g.S.Stage.is_ready c.play_round.new.stage) (holds c.args.stage.now) (holds c.loop.stage) (holds c.play_round.new.stage) c.in_err-play_round.field-0.0
    c.loop.invariant.held c.in_err-play_round.ensures.stopped)

pub returns-in_err-play_round-clause-cut : goal.returns-in_err-play_round-clause-cut
returns-in_err-play_round-clause-cut g c =
    let volume = g.S.Stage.volume in
    let world = g.S.Stage.world in
    let holds = g.S.Stage.holds in
    let i = c.loop.invariant in
    let p = err_from_is_err_and c.from_residual.result c.from_residual.ensures.1 in
    rw (p.1, p.2) (halted Bool (Unit {0}) c.in_err-play_round.field-0.0 _ _
    (cut-on (g.S.Stage.cut_off c.play_round.new.stage) (holds c.args.stage.now) (holds c.loop.stage) (g.S.Stage.leaves c.play_round.new.stage) _ _ i.held
    (λ refused b held stops. rest-refused (volume c.args.stage.now) g.S.Stage.tells (i.played b held).0 (behind b.log (world c.args.stage.now)) (behind b.log (world c.loop.stage)) (behind b.log (world c.play_round.new.stage)) refused
    (i.played b held).1
    (subst (λ (v : Volume). IsLogOf (StopsAmong v (JournalRefused refused) actors g.S.Stage.tells (behind b.log (world c.loop.stage))) (behind b.log (world c.play_round.new.stage))) i.volume stops)))
    c.in_err-play_round.ensures.cut)
