-- What a view has seen so far.
use Rattle.std.specs.Prelude.{ℕ, min, ◌≡◌, ◌<◌, ◌+◌, ◌-◌, ◌/◌, List, Some}
use Rattle.mj_angles.specs.declared.layout.Layout.{Layout}
use Rattle.mj_angles.specs.Layout.{block_bytes_of}
use Rattle.rz_events.specs.declared.keys.Actor.{Actor}
use Rattle.rz_events.specs.declared.events.Event.{Event}
use Rattle.rz_core.specs.History.{of_actor}
use Rattle.rz_events.specs.declared.operations.Operation.{Operation}
use Rattle.rz_events.specs.declared.operations.Operation.TheVariants as operation
use Rattle.rz_operation_model.specs.Ranges.{RangeState, Taking}
use Rattle.rz_operation_model.specs.Work.{Work, Within, Reading, Ending}
use Rattle.rz_play.specs.World.{World}
use Rattle.rz_script.specs.Lines.{IsActor}
use Rattle.rz_play_locks.specs.Operations.{in_hand}
use Rattle.rz_play_locks.specs.Promises.{published_text, last_open, key_at, file_bytes, AllGuarded, IsViewedAt, AreWhole}
use Rattle.rz_play_locks.specs.Texts.{IsSafe}

-- The range is that of the actor's newest open. Where its blocks are guarded, what is published of each is what was
-- published then, and the bytes that came so far are those of these texts.
pub record IsSoFar (layout : Layout) (ops : Actor → List Operation) (old run h : List Event) (a : Actor) (offset count : ℕ) (r : RangeState) : Type 0 where
  pub before : List Event
  pub opened : last_open a old run ≡ Some (r.info, before)
  pub size_is : r.size ≡ min count (r.info.size - offset)
  pub texts : AllGuarded layout ops run r.info offset r.size → (i : ℕ) → i < r.size
      → published_text h (key_at r.info ((offset + i) / block_bytes_of layout)) ≡ published_text before (key_at r.info ((offset + i) / block_bytes_of layout))
  pub bytes : List ℕ
  pub aim_is : r.aim ≡ Taking bytes
  pub bytes_are : AllGuarded layout ops run r.info offset r.size → bytes ≡ file_bytes layout (λ block. published_text before (key_at r.info block)) offset r.done

abbrev pub IsSeenAt : Layout → (Actor → List Operation) → (old run h : List Event) → Actor → (offset count : ℕ) → Work → Type 0
IsSeenAt layout ops old run h a offset count (Reading (Within r) s) = IsSoFar layout ops old run h a offset count r
IsSeenAt layout ops old run h a offset count (Ending answer) = IsViewedAt layout ops run offset count (last_open a old run) answer
IsSeenAt layout ops old run h a offset count _ = Unit {0}

-- Between two turns.
pub record IsSeeing (layout : Layout) (ops more : Actor → List Operation) (old run : List Event) (w : World) : Type 0 where
  pub safe : IsSafe layout ops more old run w
  pub seen : (by : Actor) → IsActor by → (path : List ℕ) (offset count : ℕ) → in_hand (ops by) (of_actor by run) ≡ Some (operation.View path offset count)
      → IsSeenAt layout ops old run w.log by offset count (w.agendas by).work
  pub whole : AreWhole layout ops old run
