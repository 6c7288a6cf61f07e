use Rattle.std.proofs.Common.{sym, subst}
use Rattle.mj_angles.specs.declared.layout.Layout.{Layout}
use Rattle.rz_operation.specs.Answers.{ComeWith, IsAnswer}
use Rattle.rz_operation_model.specs.Ask.{Ask, ask_of}
use Rattle.rz_operation.proofs.NodeAsks.{come-with}
use Rattle.rz_driver_nodes.proofs.messages.tell.Goals as goal

pub tell_answer-requires-clause-asked : goal.tell_answer-requires-clause-asked
tell_answer-requires-clause-asked c =
    let m = c.args.machine.now in
    subst (λ (y : Layout). IsAnswer y (ask_of m.layout m.work) c.args.answer) (sym c.requires.machine)
    (subst (λ (a : Ask). IsAnswer c.args.layout a c.args.answer) (sym c.requires.asked.1) c.requires.answers)

pub tell_answer-requires-clause-bins : goal.tell_answer-requires-clause-bins
tell_answer-requires-clause-bins c =
    let m = c.args.machine.now in
    subst (λ (y : Layout). ComeWith y (ask_of m.layout m.work) c.args.answer c.args.bins.now) (sym c.requires.machine)
    (come-with c.args.layout (ask_of m.layout m.work) c.requires.asked.0 c.args.ask.now c.args.answer c.args.bins.now c.requires.asked.1 c.requires.placed c.requires.bins)
