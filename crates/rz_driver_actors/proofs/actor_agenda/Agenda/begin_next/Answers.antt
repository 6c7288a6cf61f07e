use Rattle.std.proofs.Common.{refl, sym, ◌∙◌, ap, subst, arith}
use Rattle.std.specs.List.{AllByRecursion}
use Rattle.rz_operation.specs.Answers.{IsWithinLayout}
use Rattle.rz_driver_actors.specs.Hands.{HasTrueHand}
use Rattle.rz_driver_actors.specs.Agendas.{agenda_of, LosesNext}
use Rattle.rz_operation.specs.Machine.{work_in, HasLayout}
use Rattle.rz_driver_nodes.proofs.CoherenceLemmas.{on-err}
use Rattle.rz_driver_actors.proofs.AgendaLemmas.{over-now, taken-up}
use Rattle.rz_driver_actors.proofs.actor_agenda.Agenda.begin_next.Goals as goal

pub returns-clause-ok : goal.returns-clause-ok
returns-clause-ok c =
    let s = agenda_of c.args.self.now in
    taken-up s c.in-Some.op c.pop_front.new.self.items c.in-Some-checked_add.number (work_in c.replace.new.self) (over-now _ (sym c.is_at_work.ensures ∙ c.if-is_at_work.false))
    c.in-Some.ensures.items c.in-Some-checked_add.ensures.1 (ap work_in c.replace.ensures.after ∙ c.in_ok-machine.ensures.work)

pub returns-clause-agenda : goal.returns-clause-agenda
returns-clause-agenda c = record {
  machine = subst (HasLayout c.args.layout) (sym c.replace.ensures.after) c.in_ok-machine.ensures.layout;
  todo = (subst (AllByRecursion (IsWithinLayout c.args.layout)) c.in-Some.ensures.items c.requires.todo).1;
}

pub returns-clause-hand : goal.returns-clause-hand
returns-clause-hand c = λ v f hand. subst (HasTrueHand v f) (sym c.replace.ensures.after) (c.beginning.ensures v f c.in-Some.op c.in_ok-machine.machine c.in_ok-machine.ensures.work)

pub returns-clause-stays : goal.returns-clause-stays
returns-clause-stays c = λ same. let next = c.in-Some-checked_add.ensures.1 in absurd (omega (arith, same, next))

-- The operation that was to begin is gone.

pub returns-in_default-checked_add-clause-err : goal.returns-in_default-checked_add-clause-err
returns-in_default-checked_add-clause-err c = record {
  over = over-now _ (sym c.is_at_work.ensures ∙ c.if-is_at_work.false);
  next = c.in-Some.op;
  todo = c.in-Some.ensures.items;
  number = refl;
}

pub returns-in_err-machine-clause-err : goal.returns-in_err-machine-clause-err
returns-in_err-machine-clause-err c =
    on-err {P = LosesNext c.args.self.now _} c.from_residual.result (record {
      over = over-now _ (sym c.is_at_work.ensures ∙ c.if-is_at_work.false);
      next = c.in-Some.op;
      todo = c.in-Some.ensures.items;
      number = refl;
    })
