use Rattle.std.proofs.Common.{ℕ, None, refl, sym, subst}
use Rattle.std.proofs.lemmas.Result.{on_ok_weaker}
use Rattle.rz_operation_model.specs.Ask.{Ask}
use Rattle.rz_core.specs.History.{of_actor}
use Rattle.rz_player.specs.Messages.{IsAskSent, IsSent}
use Rattle.rz_threads_steps.specs.Acted.{IsWorkRight, HasActed}
use Rattle.rz_threads_steps.proofs.Acts.{on-ok, still-stopped}
use Rattle.rz_threads_steps.proofs.stepping.step.Goals as goal

pub returns-in-Rest-clause-stopped : goal.returns-in-Rest-clause-stopped
returns-in-Rest-clause-stopped g c = still-stopped g.J.Naming.kind c.args.number c.args.pass.now c.args.machine.now

pub returns-in-Node-clause-acted : goal.returns-in-Node-clause-acted
returns-in-Node-clause-acted g c = on_ok_weaker c.message.result
    (λ (acted : (number : ℕ) → IsWorkRight g.J.Naming.kind g.J.Naming.earlier c.args.pass.now number c.args.machine.now → HasActed g.J.Naming.kind g.J.Naming.earlier number c.args.pass.now c.message.new.pass c.args.machine.now c.message.new.machine). acted c.args.number c.requires.right)
    c.message.ensures.acted

-- of anything but a message to a node the link is not asked

pub returns-in-Export-clause-sent : goal.returns-in-Export-clause-sent
returns-in-Export-clause-sent g c =
    let by = c.args.pass.now.actor in
    on-ok c.ask_export.result
    (subst (λ (a : Ask). IsAskSent g.L.Link.says a None by c.args.link.now c.args.link.now (of_actor by c.args.pass.now.log) (of_actor by c.ask_export.new.pass.log)) (sym c.in-Export.ensures.1) refl)

pub returns-in-Say-clause-sent : goal.returns-in-Say-clause-sent
returns-in-Say-clause-sent g c =
    let by = c.args.pass.now.actor in
    on-ok c.say.result
    (subst (λ (a : Ask). IsAskSent g.L.Link.says a None by c.args.link.now c.args.link.now (of_actor by c.args.pass.now.log) (of_actor by c.say.new.pass.log)) (sym c.in-Say.ensures.1) refl)

pub returns-in-Node-clause-sent : goal.returns-in-Node-clause-sent
returns-in-Node-clause-sent g c =
    let by = c.args.pass.now.actor in
    let own = of_actor by c.args.pass.now.log in
    let new = of_actor by c.message.new.pass.log in
    on_ok_weaker c.message.result
    (λ (sent : IsSent g.L.Link.says None by c.in-Node.node c.in-Node.ask c.args.link.now c.message.new.link own new).
    subst (λ (a : Ask). IsAskSent g.L.Link.says a None by c.args.link.now c.message.new.link own new) (sym c.in-Node.ensures) sent)
    c.message.ensures.sent
