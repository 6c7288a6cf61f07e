use Rattle.std.proofs.lemmas.Result.{err_from_is_err_and}
use Rattle.rz_player.proofs.Behind.{tells-behind}
use Rattle.rz_player.proofs.Refused.{cut-on}
use Rattle.rz_player.proofs.turns.take_turn.Goals as goal

pub returns-in_err-turn-clause-taken : goal.returns-in_err-turn-clause-taken
returns-in_err-turn-clause-taken g c b held =
    let p = err_from_is_err_and c.from_residual.result c.from_residual.ensures.1 in
    rw (p.1, p.2) (tells-behind b.log (g.S.Stage.world c.args.stage.now) (g.S.Stage.world c.turn.new.self) c.in_err-turn.ensures.log)

pub returns-in_err-turn-clause-stopped : goal.returns-in_err-turn-clause-stopped
returns-in_err-turn-clause-stopped g c = let p = err_from_is_err_and c.from_residual.result c.from_residual.ensures.1 in rw (p.1, p.2) tt

pub returns-in_err-turn-clause-cut : goal.returns-in_err-turn-clause-cut
returns-in_err-turn-clause-cut g c =
    let S = g.S.Stage in
    let p = err_from_is_err_and c.from_residual.result c.from_residual.ensures.1 in
    rw (p.1, p.2) (cut-on (S.cut_off c.turn.new.self) (S.holds c.args.stage.now) (S.holds c.args.stage.now) (S.leaves c.turn.new.self) _ _ (λ b held. held)
    (λ refused b held cause. (cause, tells-behind b.log (S.world c.args.stage.now) (S.world c.turn.new.self) c.in_err-turn.ensures.log)) c.in_err-turn.ensures.left)
