use Rattle.std.proofs.Common.{◌∙◌, List, sym, ap, subst}
use Rattle.rz_events.specs.declared.events.Event.{Event}
use Rattle.rz_core.specs.Own.{IsBetween}
use Rattle.rz_show.specs.Shown.{shown_of}
use Rattle.rz_threads_worker.proofs.worker.Worker.new.Goals as goal

pub returns-clause-ready : goal.returns-clause-ready
returns-clause-ready g c =
    record {
      actor = c.requires.actor;
      todo = c.requires.todo;
      machine = tt;
      at_hand = λ honest. subst (λ (o : List Event). IsBetween o) (sym c.requires.fresh) tt;
      room = c.requires.room;
      shows = c.new.ensures.items ∙ sym (ap shown_of c.requires.fresh);
    }
