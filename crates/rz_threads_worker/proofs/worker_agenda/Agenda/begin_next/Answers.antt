use Rattle.std.proofs.Common.{◌≡◌, ◌++◌, Option, refl, sym, ◌∙◌, ap}
use Rattle.std.specs.Option.{option_to_list}
use Rattle.rz_events.specs.declared.operations.Operation.{Operation}
use Rattle.rz_threads_worker.specs.Workers.{Works, Rests, Begins}
use Rattle.rz_threads_worker.proofs.Agendas.{negated, negated-too, none-left}
use Rattle.rz_threads_worker.proofs.worker_agenda.Agenda.begin_next.Goals as goal

pub returns-then-is_at_work : goal.returns-then-is_at_work
returns-then-is_at_work g c = Works (negated-too _ (sym c.if-is_at_work.true ∙ c.is_at_work.ensures)) refl

pub returns : goal.returns
returns g c =
    Begins c.in-Some.op c.in_ok-machine.machine (negated _ (sym c.if-is_at_work.false ∙ c.is_at_work.ensures)) c.in-Some.ensures.items c.in-Some-checked_add.ensures.1 c.replace.ensures.after c.in_ok-machine.ensures.layout c.in_ok-machine.ensures.work

pub returns-in_default : goal.returns-in_default
returns-in_default g c =
    let same : c.args.self.now.todo.items ≡ c.pop_front.new.self.items = c.pop_front.ensures.items ∙ ap (λ (o : Option Operation). option_to_list o ++ c.pop_front.new.self.items) c.in_default.is in
    let none = none-left c.args.self.now.todo.items c.pop_front.new.self.items same c.pop_front.ensures.rest in
    Rests none (sym same ∙ none) refl refl
