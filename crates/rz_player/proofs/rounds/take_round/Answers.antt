use Rattle.std.proofs.Common.{Bool, Err, ◌∙◌, get_or, subst, sym, arith}
use Rattle.std.proofs.lemmas.Result.{err_from_is_err_and}
use Rattle.rz_events.specs.Volume.{Volume}
use Rattle.rz_events.specs.declared.keys.Actor.TheVariants.{Client}
use Rattle.rz_player.specs.Behind.{behind}
use Rattle.rz_player.specs.Ends.{IsTurnTaken}
use Rattle.rz_player.proofs.Amongs.{cut-at, refused-at, skipped-at, taken-at}
use Rattle.rz_player.proofs.Stops.{stopped-after}
use Rattle.rz_player.specs.Ends.{IsTurnRefused}
use Rattle.rz_player.proofs.Refused.{cut-on, halted}
use Rattle.rz_player.proofs.rounds.take_round.Goals as goal
use Rattle.rz_player.proofs.rounds.take_round.Goals.{then-is_busy+in_ok-take_turn, else-is_busy}

pub returns-in_err-take_turn-clause-played : goal.returns-in_err-take_turn-clause-played
returns-in_err-take_turn-clause-played g c b held =
    let world = g.S.Stage.world in
    let i = c.loop-by.invariant in
    let p = err_from_is_err_and c.from_residual.result c.from_residual.ensures.1 in
    let by = get_or c.args.actors.now c.loop-by.by-index (Client 0) in
    let turn = subst (λ (v : Volume). IsTurnTaken v by g.S.Stage.tells (behind b.log (world c.loop-by.stage)) (Err c.in_err-take_turn.field-0.0) (behind b.log (world c.take_turn.new.stage))) i.volume
    (c.in_err-take_turn.ensures.taken b (i.held b held)) in
    rw (p.1, p.2) (cut-at (g.S.Stage.volume c.args.stage.now) g.S.Stage.tells c.args.actors.now c.loop-by.by-index _ (behind b.log (world c.args.stage.now)) c.loop-by.any (behind b.log (world c.loop-by.stage)) (behind b.log (world c.take_turn.new.stage))
    c.in_err-take_turn.field-0.0 c.loop-by-test.true (i.up_to b held) (sym c.if-is_busy.ensures) turn)

pub loop-by-preserved : goal.loop-by-preserved
loop-by-preserved g c =
    let volume = g.S.Stage.volume in
    let world = g.S.Stage.world in
    let i = c.loop-by.invariant in
    elim c.if-is_busy.branch [
      | then-is_busy+in_ok-take_turn w ↦
          let one = w.in_ok-take_turn.ensures.counted in
          let least = i.least in
          rw (w.stage-is, w.link-is, w.any-is) (record {
            ready = w.in_ok-take_turn.ensures.ready;
            volume = w.in_ok-take_turn.ensures.volume ∙ i.volume;
            journal = w.in_ok-take_turn.ensures.journal ∙ i.journal;
            few = w.in_ok-take_turn.ensures.few;
            counted = omega (arith, one, least);
            least = omega (arith, one, least);
            lost = (let so_far = i.lost in let then = w.in_ok-take_turn.ensures.lost in omega (arith, so_far, then));
            faults = λ first had. w.in_ok-take_turn.ensures.faults first (i.faults first had);
            held = λ b held. w.in_ok-take_turn.ensures.held b (i.held b held);
            up_to = λ b held.
                let turn = rw i.volume at (w.in_ok-take_turn.ensures.taken b (i.held b held)) in
                taken-at (volume c.args.stage.now) g.S.Stage.tells c.args.actors.now c.loop-by.by-index _ (behind b.log (world c.args.stage.now)) c.loop-by.any (behind b.log (world c.loop-by.stage))
                (behind b.log (world w.take_turn.new.stage)) c.loop-by-test.true (i.up_to b held) (sym w.if-is_busy.ensures) turn;
          })
      | else-is_busy w ↦
          rw (w.stage-is, w.link-is, w.any-is) (record {
            ready = i.ready;
            volume = i.volume;
            journal = i.journal;
            few = i.few;
            counted = i.counted;
            least = i.least;
            lost = i.lost;
            faults = i.faults;
            held = i.held;
            up_to = λ b held.
                skipped-at (volume c.args.stage.now) g.S.Stage.tells c.args.actors.now c.loop-by.by-index _ (behind b.log (world c.args.stage.now)) c.loop-by.any (behind b.log (world c.loop-by.stage))
                c.loop-by-test.true (i.up_to b held) (sym w.if-is_busy.ensures);
          })
    ]

pub returns-in_err-take_turn-clause-stopped : goal.returns-in_err-take_turn-clause-stopped
returns-in_err-take_turn-clause-stopped g c =
    let holds = g.S.Stage.holds in
    let p = err_from_is_err_and c.from_residual.result c.from_residual.ensures.1 in
    rw (p.1, p.2) (stopped-after (Unit {0}) Bool (g.S.Stage.is_ready c.take_turn.new.stage) (holds c.args.stage.now) (holds c.loop-by.stage) (holds c.take_turn.new.stage) c.in_err-take_turn.field-0.0
    c.loop-by.invariant.held c.in_err-take_turn.ensures.stopped)

pub returns-in_err-take_turn-clause-cut : goal.returns-in_err-take_turn-clause-cut
returns-in_err-take_turn-clause-cut g c =
    let volume = g.S.Stage.volume in
    let world = g.S.Stage.world in
    let holds = g.S.Stage.holds in
    let i = c.loop-by.invariant in
    let p = err_from_is_err_and c.from_residual.result c.from_residual.ensures.1 in
    let by = get_or c.args.actors.now c.loop-by.by-index (Client 0) in
    rw (p.1, p.2) (halted (Unit {0}) Bool c.in_err-take_turn.field-0.0 _ _
    (cut-on (g.S.Stage.cut_off c.take_turn.new.stage) (holds c.args.stage.now) (holds c.loop-by.stage) (g.S.Stage.leaves c.take_turn.new.stage) _ _ i.held
    (λ refused b held turn. refused-at (volume c.args.stage.now) g.S.Stage.tells c.args.actors.now c.loop-by.by-index _ (behind b.log (world c.args.stage.now)) c.loop-by.any (behind b.log (world c.loop-by.stage))
    (behind b.log (world c.take_turn.new.stage)) refused c.loop-by-test.true (i.up_to b held) (sym c.if-is_busy.ensures)
    (subst (λ (v : Volume). IsTurnRefused v by refused (behind b.log (world c.loop-by.stage)) (behind b.log (world c.take_turn.new.stage))) i.volume turn)))
    c.in_err-take_turn.ensures.cut)
