use Rattle.std.proofs.Common.{◌≡◌, ◌<◌, [], ◌∷◌, ◌++◌, length, get_or, Some, refl, sym, ◌∙◌, ap, arith}
use Rattle.std.proofs.lemmas.Option.{slice_get_read}
use Rattle.rz_events.specs.declared.operations.Operation.{Operation}
use Rattle.rz_operation.specs.Machine.{work_in}
use Rattle.rz_play.specs.Lines.{with_operation}
use Rattle.rz_driver_actors.specs.declared.actor_agenda.Agenda.{Agenda}
use Rattle.rz_driver_actors.specs.Agendas.{agenda_of}
use Rattle.rz_driver_asks.specs.Locking.{lock_of}
use Rattle.rz_driver.specs.Worlds.{place_of}
use Rattle.rz_driver.proofs.ActorOrders.{place-low}
use Rattle.rz_driver.proofs.orders.add_operation.Goals as goal

added : (s b : Agenda) (op : Operation) → b.todo.items ≡ s.todo.items ++ op ∷ [] → b.number ≡ s.number → b.machine ≡ s.machine → b.lock ≡ s.lock → b.miss ≡ s.miss → agenda_of b ≡ with_operation (agenda_of s) op
added s b op todo number machine lock miss = λ i. record { todo = todo i; number = number i; work = work_in (machine i); lock = lock_of (lock i); miss = miss i }

pub returns : goal.returns
returns c =
    let found = c.index-agendas-place.result in
    let s = get_or c.args.agendas.now c.in-Some.place found in
    let at : place_of c.args.by ≡ Some c.in-Some.place = sym c.place.ensures ∙ c.in-Some.is in
    let row = place-low c.args.by c.in-Some.place at in
    let count : length c.args.agendas.now ≡ 80 = c.requires.each in
    let low : c.in-Some.place < length c.args.agendas.now = omega (arith, row, count) in
    let e = c.in_ok-add.ensures in
    record {
      place = c.in-Some.place;
      agenda = s;
      after = c.add.new.self;
      at = at;
      is = slice_get_read c.args.agendas.now (length c.args.agendas.now) c.in-Some.place found refl low c.index-agendas-place.is ∙ ap Some c.index-agendas-place.is;
      agendas = refl;
      machine = e.machine;
      lock = e.lock;
      ordered = added s c.add.new.self c.args.op.now (e.todo ∙ ap (λ (o : Operation). s.todo.items ++ o ∷ []) c.in_ok-op.ensures) e.number e.machine e.lock e.miss;
    }
