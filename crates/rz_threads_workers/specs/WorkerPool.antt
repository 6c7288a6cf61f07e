-- The workers of a pool: before they have their links, at work, and in the end.
use Rattle.std.specs.Prelude.{ℕ, false, ◌≡◌, ◌≤◌, List, [], length}
use Rattle.std.specs.List.{AllByRecursion}
use Rattle.std.specs.Vec.{vec_len, vec_capacity}
use Rattle.std.specs.Global.{Vec}
use Rattle.mj_angles.specs.Layout.{max_bins_of}
use Rattle.rz_events.specs.declared.keys.Actor.{Actor}
use Rattle.rz_events.specs.declared.keys.Actor.TheVariants.{Admin}
use Rattle.rz_events.specs.declared.events.Event.{Event}
use Rattle.rz_script.specs.declared.line.Line.{Line}
use Rattle.rz_script.specs.Lines.{IsOperation}
use Rattle.rz_core.specs.History.{of_actor}
use Rattle.rz_play_locks.specs.Operations.{given}
use Rattle.rz_chronicle.specs.Keys.{IsLater}
use Rattle.rz_chronicle.specs.Kinds.{is_honest, volume_in}
use Rattle.rz_chronicle.specs.Rules.{PassView}
use Rattle.rz_show.specs.Shown.{shown_of}
use Rattle.rz_threads_steps.specs.Turned.{AreLost}
use Rattle.rz_threads_worker.specs.Doing.{IsSomeDone}
use Rattle.rz_threads_worker.specs.Workers.{IsAllDone, IsWorkerReady, agenda_of, agenda_with}
use Rattle.rz_threads_workers.specs.declared.pool_worker.PoolWorker.{PoolWorker}
use Rattle.rz_threads_workers.specs.declared.pool_worker.Results.{Results}
use Rattle.rz_threads_workers.specs.declared.worker_parts.WorkerParts.{WorkerParts}

-- What a worker has.

abbrev pub pass_of : {J L : Type 0} → PoolWorker J L → PassView
pass_of m = m.worker.pass

abbrev pub actor_of : {J L : Type 0} → PoolWorker J L → Actor
actor_of m = m.worker.pass.actor

abbrev pub link_of : {J L : Type 0} → PoolWorker J L → L
link_of m = m.worker.link

abbrev pub shown_by : {J L : Type 0} → PoolWorker J L → Vec Event
shown_by m = m.worker.shown

-- it can take its next turn
abbrev pub CanWork : {J L : Type 0} → List ℕ → PoolWorker J L → Type 0
CanWork kind m = IsWorkerReady kind m.worker.pass m.worker.agenda m.worker.bins.items m.worker.shown.items

-- memory was not wanting for it
abbrev pub WantsNothing : {J L : Type 0} → PoolWorker J L → Type 0
WantsNothing m = m.wanting ≡ false

-- How a worker comes to work.

-- the pass of a client or a rebuilder that has done nothing
abbrev pub IsNewPass : PassView → Type 0
IsNewPass p = (¬ (p.actor ≡ Admin)) × (of_actor p.actor p.log ≡ [])

-- one with a link can work
pub record CanJoin {J : Type 0} (kind : List ℕ) (r : WorkerParts J) : Type 0 where
  pub new : IsNewPass r.pass
  pub limits : AllByRecursion (IsOperation (volume_in kind) r.pass.actor) r.todo.items
  pub room : max_bins_of (volume_in kind).layout ≤ length r.bins.items

-- it has this pass, and what the lines give its actor
pub record AreWorkerParts {J : Type 0} (kind : List ℕ) (lines : List Line) (p : PassView) (r : WorkerParts J) : Type 0 where
  pub pass : r.pass ≡ p
  pub todo : r.todo.items ≡ given p.actor lines
  pub can : CanJoin kind r

-- it became a worker that can work, and has done nothing yet
pub record IsMadeOf {J L : Type 0} (kind : List ℕ) (r : WorkerParts J) (m : PoolWorker J L) : Type 0 where
  pub pass : m.worker.pass ≡ r.pass
  pub ready : CanWork kind m
  pub agenda : agenda_of m.worker.agenda ≡ agenda_with r.todo.items
  pub wants : WantsNothing m

-- A worker with this pass, that can work and has yet to do all that the lines give its actor.
pub record IsPoolWorker {J L : Type 0} (kind : List ℕ) (lines : List Line) (p : PassView) (m : PoolWorker J L) : Type 0 where
  pub pass : m.worker.pass ≡ p
  pub ready : CanWork kind m
  pub agenda : agenda_of m.worker.agenda ≡ agenda_with (given p.actor lines)
  pub wants : WantsNothing m

-- Workers at work.

-- A worker has worked, where `count` says how many messages a link has lost. Its events in the log are those of turns from where it
-- was, each once, and all its operations are done unless memory was wanting.
pub record HasWorked {J L : Type 0} (count : L → ℕ) (kind : List ℕ) (old new : PoolWorker J L) : Type 0 where
  pub actor : actor_of new ≡ actor_of old
  pub keys : new.worker.pass.keys ≡ old.worker.pass.keys
  pub later : IsLater old.worker.pass.log new.worker.pass.log
  pub done : WantsNothing new → IsAllDone (is_honest kind) (volume_in kind).layout (actor_of old) (agenda_of old.worker.agenda) old.worker.pass.log new.worker.pass.log
  pub begun : IsSomeDone (is_honest kind) (volume_in kind).layout (actor_of old) (agenda_of old.worker.agenda) old.worker.pass.log new.worker.pass.log
  pub lost : AreLost (actor_of old) old.worker.pass.log new.worker.pass.log (count old.worker.link) (count new.worker.link)
  pub shown : new.worker.shown.items ≡ shown_of (of_actor (actor_of old) new.worker.pass.log)

-- What comes back.

-- an empty row with room for so many
abbrev pub IsRowFor : {A : Type 0} → ℕ → Vec A → Type 0
IsRowFor n row = (vec_len row ≡ 0) × (n ≤ vec_capacity row)

-- room for what comes back from so many workers
pub record IsRoomFor {J L : Type 0} (n : ℕ) (room : Results J L) : Type 0 where
  pub links : IsRowFor n room.links
  pub passes : IsRowFor n room.passes
  pub shown : IsRowFor n room.shown
