use Rattle.std.proofs.Common.{[], List, sym, subst}
use Rattle.rz_events.specs.declared.events.Event.{Event}
use Rattle.rz_core.specs.Legal.{IsLegalInRuns}
use Rattle.rz_chronicle.specs.Kinds.{volume_in}
use Rattle.rz_run.proofs.setting_up.name_book.Goals as goal

pub named-requires-clause-legal : goal.named-requires-clause-legal
named-requires-clause-legal g c = λ on. subst (λ (e : List Event). IsLegalInRuns (volume_in g.J.Naming.kind) e) (sym g.met.J.Counting.anew) tt
