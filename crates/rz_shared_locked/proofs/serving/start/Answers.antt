use Rattle.std.proofs.Common.{rules, ◌≡◌, ◌∙◌, ap, subst}
use Rattle.rz_events.specs.declared.nodes.Phase.TheVariants.{Down}
use Rattle.rz_disk.specs.Meter.{Meter}
use Rattle.rz_events.specs.declared.nodes.NodeAsk.TheVariants as ask
use Rattle.rz_events.specs.declared.nodes.NodeAnswer.TheVariants as answer
use Rattle.rz_cells_slots.specs.Opening.{opening_calls}
use Rattle.rz_node_model.specs.States.{NodeState}
use Rattle.rz_node_model.specs.Answers.{IsNodeAnswer}
use Rattle.rz_node_model.specs.Afterwards.{after_start}
use Rattle.rz_node.specs.Opens.{Opens}
use Rattle.rz_shared_locked.proofs.Meters.{start-goes}
use Rattle.rz_shared_locked.proofs.serving.start.Goals as goal

pub returns-clause-imaged : goal.returns-clause-imaged
returns-clause-imaged g c = λ tells v f n imaged. c.rearm.ensures.imaged tells v f n (c.open_disk-answer.ensures.imaged tells v f n (c.lose_power.ensures.imaged tells v f n imaged))

pub returns-clause-counts : goal.returns-clause-counts
returns-clause-counts g c = λ first n w by_word was.
    let meter = g.D.Disk.meter in
    let old = c.args.node.now in
    let mid = c.lose_power.new.node in
    let open_ = c.open_disk-answer.new.node in
    let new = c.rearm.new.node in
    let given = c.open_disk-answer.result in
    let k = opening_calls mid.geometry in
    let is : IsNodeAnswer old.geometry.cells old.state ask.Start (answer.Start given) = subst (λ (s : NodeState). IsNodeAnswer old.geometry.cells s ask.Start (answer.Start given)) c.lose_power.ensures.state c.open_disk-answer.ensures.answer in
    let opens : Opens k given _ (meter open_.disk) = subst (λ (m : Meter). Opens k given m (meter open_.disk)) c.lose_power.ensures.meter c.open_disk-answer.ensures.opens in
    let phase : new.state.phase ≡ (after_start given old.state).phase = ap (λ (s : NodeState). s.phase) c.rearm.ensures.state ∙ c.open_disk-answer.ensures.phase ∙ ap (λ (s : NodeState). (after_start given s).phase) c.lose_power.ensures.state in
    let down : old.state.phase ≡ Down = search rules in
    start-goes meter c.started.ensures first n k old.geometry.cells w c.args.left given old new (meter open_.disk) is down by_word opens c.rearm.ensures.meter phase was
