-- Operations that are done are begun.
use Rattle.std.proofs.Common.{Bool, List}
use Rattle.mj_angles.specs.declared.layout.Layout.{Layout}
use Rattle.rz_events.specs.declared.keys.Actor.{Actor}
use Rattle.rz_events.specs.declared.events.Event.{Event}
use Rattle.rz_play.specs.World.{Agenda}
use Rattle.rz_threads_worker.specs.Doing.{IsSomeDone}
use Rattle.rz_threads_worker.specs.Workers.{IsAllDone}

pub all_begun : (honest : Bool) (layout : Layout) (by : Actor) (from : Agenda) (old new : List Event) → IsAllDone honest layout by from old new → IsSomeDone honest layout by from old new
all_begun honest layout by from old new all = (all.last, all.done)
