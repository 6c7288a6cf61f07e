-- What the log of a whole play says of each worker.
use Rattle.std.specs.Prelude.{ℕ, List}
use Rattle.rz_events.specs.declared.events.Event.{Event}
use Rattle.rz_core.specs.History.{of_actor}
use Rattle.rz_chronicle.specs.Kinds.{is_honest, volume_in}
use Rattle.rz_show.specs.Shown.{shown_of}
use Rattle.rz_threads_steps.specs.Turned.{AreLost}
use Rattle.rz_threads_worker.specs.Doing.{IsSomeDone}
use Rattle.rz_threads_worker.specs.Workers.{IsAllDone, agenda_of}
use Rattle.rz_threads_workers.specs.declared.pool_worker.PoolWorker.{PoolWorker}
use Rattle.rz_threads_workers.specs.WorkerPool.{actor_of}

-- The worker stands here as it came to work.

-- its events in the log are those of some of its operations, and of a beginning of one
abbrev pub HasBegun : {J L : Type 0} → List ℕ → List Event → PoolWorker J L → Type 0
HasBegun kind log m = IsSomeDone (is_honest kind) (volume_in kind).layout (actor_of m) (agenda_of m.worker.agenda) m.worker.pass.log log

-- they are those of all its operations
abbrev pub HasFinished : {J L : Type 0} → List ℕ → List Event → PoolWorker J L → Type 0
HasFinished kind log m = IsAllDone (is_honest kind) (volume_in kind).layout (actor_of m) (agenda_of m.worker.agenda) m.worker.pass.log log

-- no more of its messages were lost than this link, which it gave back, has counted since, where `count` is what a link has counted
abbrev pub HasLost : {J L : Type 0} → (L → ℕ) → List Event → PoolWorker J L → L → Type 0
HasLost count log m link = AreLost (actor_of m) m.worker.pass.log log (count m.worker.link) (count link)

-- its events in the log that are shown
abbrev pub shown_for : {J L : Type 0} → List Event → PoolWorker J L → List Event
shown_for log m = shown_of (of_actor (actor_of m) log)
