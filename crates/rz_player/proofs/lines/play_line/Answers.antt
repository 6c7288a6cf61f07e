use Rattle.std.proofs.Common.{◌≡◌, arith, rules}
use Rattle.std.proofs.lemmas.Result.{err_from_is_err_and}
use Rattle.rz_play.specs.Lines.{TakesNoTurn}
use Rattle.rz_player.specs.Behind.{behind}
use Rattle.rz_player.proofs.Behind.{line-behind, tells-behind}
use Rattle.rz_player.proofs.Counts.{line-counts}
use Rattle.rz_player.proofs.Scripts.{order-cut}
use Rattle.rz_player.proofs.Refused.{cut-on}
use Rattle.rz_player.proofs.lines.play_line.Goals as goal

pub returns-in_err-order-in-Op-clause-played : goal.returns-in_err-order-in-Op-clause-played
returns-in_err-order-in-Op-clause-played g c b held =
    let world = g.S.Stage.world in
    let calm : TakesNoTurn c.args.line.now = search rules in
    let p = err_from_is_err_and c.from_residual-in_err-order-in-Op.result c.from_residual-in_err-order-in-Op.ensures.1 in
    rw (p.1, p.2) (order-cut (g.S.Stage.volume c.args.stage.now) c.args.line.now g.S.Stage.tells (behind b.log (world c.args.stage.now)) (behind b.log (world c.order.new.self)) calm c.requires.few
    (tells-behind b.log (world c.args.stage.now) (world c.order.new.self) (c.in_err-order-in-Op.ensures.log, c.in_err-order-in-Op.ensures.lost)))

pub returns-in_ok-order-in-Op-clause-played : goal.returns-in_ok-order-in-Op-clause-played
returns-in_ok-order-in-Op-clause-played g c b held =
    let world = g.S.Stage.world in
    let e = c.in_ok-order-in-Op.ensures in
    let calm : TakesNoTurn c.args.line.now = search rules in
    let same = line-counts (g.S.Stage.volume c.args.stage.now) c.args.line.now g.S.Stage.tells (world c.args.stage.now) (world c.order.new.self) calm e.played in
    let few = c.requires.few in
    (line-behind (g.S.Stage.volume c.args.stage.now) c.args.line.now g.S.Stage.tells b.log (world c.args.stage.now) (world c.order.new.self) calm e.played, omega (arith, same, few))

pub returns-in_err-order-in-Op-clause-cut : goal.returns-in_err-order-in-Op-clause-cut
returns-in_err-order-in-Op-clause-cut g c =
    let S = g.S.Stage in
    let p = err_from_is_err_and c.from_residual-in_err-order-in-Op.result c.from_residual-in_err-order-in-Op.ensures.1 in
    rw (p.1, p.2) (cut-on (S.cut_off c.order.new.self) (S.holds c.args.stage.now) (S.holds c.args.stage.now) (S.leaves c.order.new.self) _ _ (λ b held. held) (λ refused b held never. absurd never) c.in_err-order-in-Op.ensures.left)

pub returns-in_err-take_turns-in-Turn-clause-cut : goal.returns-in_err-take_turns-in-Turn-clause-cut
returns-in_err-take_turns-in-Turn-clause-cut g c =
    let p = err_from_is_err_and c.from_residual.result c.from_residual.ensures.1 in rw (p.1, p.2, c.in-Turn.is) c.in_err-take_turns-in-Turn.ensures.cut

pub returns-in_err-play_rounds-in-Rounds-clause-cut : goal.returns-in_err-play_rounds-in-Rounds-clause-cut
returns-in_err-play_rounds-in-Rounds-clause-cut g c =
    let p = err_from_is_err_and c.from_residual-in_err-play_rounds-in-Rounds.result c.from_residual-in_err-play_rounds-in-Rounds.ensures.1 in rw (p.1, p.2, c.in-Rounds.is) c.in_err-play_rounds-in-Rounds.ensures.cut

pub returns-in_err-play_to_rest-in-Rest-clause-cut : goal.returns-in_err-play_to_rest-in-Rest-clause-cut
returns-in_err-play_to_rest-in-Rest-clause-cut g c =
    let p = err_from_is_err_and c.from_residual-in_err-play_to_rest-in-Rest.result c.from_residual-in_err-play_to_rest-in-Rest.ensures.1 in rw (p.1, p.2, c.in-Rest.is) c.in_err-play_to_rest-in-Rest.ensures.cut
