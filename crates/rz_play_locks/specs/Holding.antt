-- Which locks are held between two turns.
use Rattle.std.specs.Prelude.{◌∷◌, ℕ, false, ◌≡◌, ◌<◌, ◌≤◌, ◌+◌, ◌*◌, ◌⊎◌, ◌++◌, List, Option, Some, None, length, drop}
use Rattle.mj_angles.specs.declared.layout.Layout.{Layout}
use Rattle.mj_angles.specs.Layout.{block_bytes_of}
use Rattle.rz_events.specs.declared.keys.Actor.{Actor}
use Rattle.rz_events.specs.declared.keys.Key.{Key}
use Rattle.rz_events.specs.declared.events.Answer.{Answer}
use Rattle.rz_events.specs.declared.events.Event.{Event}
use Rattle.rz_events.specs.declared.events.Event.TheVariants as e
use Rattle.rz_events.specs.Events.{same_actor}
use Rattle.rz_core.specs.History.{of_actor}
use Rattle.rz_events.specs.declared.operations.Operation.{Operation}
use Rattle.rz_operation_model.specs.Ranges.{RangeState, Aim, Taking, Giving, key_in, start_in}
use Rattle.rz_operation_model.specs.Work.{Work, OnBlock, OnRange, RangePlan, PutBlock, WriteBytes, ReadBytes, Course, Alone, Within, Calling, Dropping, Opening, Locking, Writing, Reading, Rebuilding, Ending, Over}
use Rattle.rz_operation_model.specs.Ask.{Ask, AskLock, lock_asks}
use Rattle.rz_operation_model.specs.Steps.{begun}
use Rattle.rz_play.specs.World.{World, Agenda}
use Rattle.rz_play.specs.Turns.{kind_of}
use Rattle.rz_locks.specs.declared.conflict.Lock.{Lock}
use Rattle.rz_locks.specs.Conflicts.{HasByte, Conflict}
use Rattle.rz_script.specs.Lines.{IsActor}
use Rattle.rz_play_locks.specs.Operations.{ended, in_hand}

-- No two locks that are held conflict.
abbrev pub AreLocksApart : World → Type 0
AreLocksApart w = (a b : Actor) (x y : Lock) → IsActor a → IsActor b → same_actor a b ≡ false → (w.agendas a).lock ≡ Some x → (w.agendas b).lock ≡ Some y → ¬ Conflict x y

-- the lock is on the block
abbrev pub HasBlock : Layout → Lock → Key → Type 0
HasBlock layout lock key = (lock.range.fid ≡ key.fid) × HasByte lock.range (key.block * block_bytes_of layout)

-- the lock that an ask wants on this file
abbrev pub lock_in : Ask → ℕ → Option Lock
lock_in (AskLock path exclusive from count) fid = Some (record { range = record { fid = fid; from = from; length = count }; kind = kind_of exclusive })
lock_in _ fid = None

-- the lock of an operation with this plan
abbrev pub lock_for : Layout → List ℕ → RangePlan → ℕ → Option Lock
lock_for layout path plan fid = lock_in (lock_asks layout path plan) fid

-- the range is that of a plan to write bytes, or to read them
abbrev pub IsGiving : Aim → List ℕ → Type 0
IsGiving aim bytes = aim ≡ Giving bytes

abbrev pub IsTaking : Aim → Type 0
IsTaking (Taking bytes) = Unit {0}
IsTaking (Giving bytes) = ⊥

abbrev pub OfPlan : RangePlan → RangeState → Type 0
OfPlan (WriteBytes offset bytes) r = (r.offset ≡ offset) × (r.size ≡ length bytes) × IsGiving r.aim bytes
OfPlan (ReadBytes offset count) r = (r.offset ≡ offset) × (r.size ≤ count) × IsTaking r.aim

-- The operation opened its file with this plan: without a lock, and holds none, or with one, and holds it.
abbrev pub IsPlanLocked : Layout → Operation → Option Lock → List ℕ → RangePlan → ℕ → Type 0
IsPlanLocked layout op lock path plan fid =
    ((begun op ≡ Opening path (OnRange plan)) × (lock ≡ None)) ⊎ ((begun op ≡ Locking path plan) × (lock ≡ lock_for layout path plan fid))

-- the range is at its beginning, or at that of a block
abbrev pub IsAligned : Layout → RangeState → Type 0
IsAligned layout r = (r.done ≡ 0) ⊎ (start_in layout r ≡ 0)

-- a block of the range, which is that of the operation's plan, is in hand
pub record IsRange (layout : Layout) (op : Operation) (lock : Option Lock) (r : RangeState) (key : Key) : Type 0 where
  pub path : List ℕ
  pub plan : RangePlan
  pub held : IsPlanLocked layout op lock path plan r.info.fid
  pub range : OfPlan plan r
  pub left : r.done < r.size
  pub aligned : IsAligned layout r
  pub key_is : key ≡ key_in layout r

-- a block that is written alone is that of a `put`
abbrev pub IsPut : Operation → Type 0
IsPut op = (path : List ℕ) × (block : ℕ) × (text : List ℕ) × (begun op ≡ Opening path (OnBlock (PutBlock block text)))

abbrev pub IsCourseLock : Layout → Operation → Option Lock → Course → Key → Type 0
IsCourseLock layout op lock Alone key = lock ≡ None
IsCourseLock layout op lock (Within r) key = IsRange layout op lock r key

-- and a block of a range is written where bytes are given
abbrev pub IsToGive : Aim → Type 0
IsToGive (Giving bytes) = Unit {0}
IsToGive (Taking bytes) = ⊥

abbrev pub IsAlone : Operation → Course → Type 0
IsAlone op Alone = IsPut op
IsAlone op (Within r) = IsToGive r.aim

-- which lock an operation holds where it stands
abbrev pub IsHolding : Layout → Operation → Option Lock → Work → Type 0
IsHolding layout op lock (Calling c) = Unit {0}
IsHolding layout op lock (Dropping fid n places) = Unit {0}
IsHolding layout op lock (Opening path plan) = (begun op ≡ Opening path plan) × (lock ≡ None)
IsHolding layout op lock (Locking path plan) = (begun op ≡ Locking path plan) × (lock ≡ None)
IsHolding layout op lock (Writing course text s) = IsCourseLock layout op lock course s.key × IsAlone op course
IsHolding layout op lock (Reading course s) = IsCourseLock layout op lock course s.key
IsHolding layout op lock (Rebuilding n s) = Unit {0}
IsHolding layout op lock (Ending answer) = Unit {0}
IsHolding layout op lock Over = ⊥

-- No operation is in hand, and no lock is held; or the operation in hand holds what it has to. `o` has the own events.
abbrev pub InHand : Layout → (Actor → List Operation) → List Event → Actor → ℕ → Option Lock → Work → Type 0
InHand layout ops o by number lock Over = (ended o ≡ number) × (lock ≡ None)
InHand layout ops o by number lock work =
    (ended o + 1 ≡ number) × ((op : Operation) × (in_hand (ops by) o ≡ Some op) × IsHolding layout op lock work)

-- An actor: what is left to do are the last ones of its operations, and what it has in hand is the one before them.
pub record IsAgendaOf (layout : Layout) (ops : Actor → List Operation) (run : List Event) (by : Actor) (more : List Operation) (s : Agenda) : Type 0 where
  pub rest : s.todo ++ more ≡ drop s.number (ops by)
  pub hand : InHand layout ops (of_actor by run) by s.number s.lock s.work

-- Between two turns; `more` has the operations that each actor is still to be given, and `run` the events of this run.
pub record IsKeeping (layout : Layout) (ops more : Actor → List Operation) (run : List Event) (w : World) : Type 0 where
  pub apart : AreLocksApart w
  pub agendas : (by : Actor) → IsActor by → IsAgendaOf layout ops run by (more by) (w.agendas by)

-- After a turn the actor still holds the lock, or the turn was the `Done` of its operation.
abbrev pub IsLockKept : World → World → Actor → Lock → Type 0
IsLockKept w next a lock = ((next.agendas a).lock ≡ Some lock) ⊎ ((number : ℕ) × (answer : Answer) × (next.log ≡ e.Done a number answer ∷ w.log))
