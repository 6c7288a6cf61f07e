-- When an event of an actor's own word is allowed, as far as the actor's own events and the permanent facts go. `o` has
-- the events by the actor, `f` the permanent facts, and `v` is the volume. No row reads another word.
use Rattle.std.specs.Prelude.{ℕ, Bool, true, false, ◌≡◌, ◌⊎◌, ◌<◌, ◌-◌, List, Option, Some, None, count_by, drop}
use Rattle.mj_angles.specs.Layout.{inverse_of, forward_of, safe_of}
use Rattle.rz_events.specs.Volume.{Volume}
use Rattle.rz_events.specs.Masks.{stamp_told}
use Rattle.rz_events.specs.declared.keys.Key.{Key}
use Rattle.rz_events.specs.declared.keys.Actor.{Actor}
use Rattle.rz_events.specs.declared.files.Published.{Published}
use Rattle.rz_events.specs.declared.files.Listed.{Listed}
use Rattle.rz_events.specs.declared.records.Change.TheVariants as change
use Rattle.rz_events.specs.declared.ends.Denial.{Denial}
use Rattle.rz_events.specs.declared.ends.Seen.{Seen}
use Rattle.rz_events.specs.declared.ends.Why.{Why}
use Rattle.rz_events.specs.declared.ends.Why.TheVariants as why
use Rattle.rz_events.specs.declared.ends.ReadEnd.{ReadEnd}
use Rattle.rz_events.specs.declared.ends.ReadEnd.TheVariants as read
use Rattle.rz_events.specs.declared.ends.WriteEnd.{WriteEnd}
use Rattle.rz_events.specs.declared.ends.WriteEnd.TheVariants as write
use Rattle.rz_events.specs.declared.ends.LeftWhy.{LeftWhy}
use Rattle.rz_events.specs.declared.ends.LeftWhy.TheVariants as left
use Rattle.rz_events.specs.declared.export.Asked.TheVariants as asked
use Rattle.rz_events.specs.declared.events.Event.{Event}
use Rattle.rz_events.specs.declared.events.Event.TheVariants as e
use Rattle.rz_core.specs.History.{Facts, Begun}
use Rattle.rz_core.specs.Own.{last, since, newest, is_begin, is_publish, is_look, is_next, is_recheck, is_export, fetched_at, HasDistinct, IsListing}
use Rattle.rz_core.specs.Outcomes.{IsShort, IsEnough, whys, is_failure}

-- Reads.

-- The text of the one write whose stamp the actor's newest look was told, of which enough distinct positions gave the
-- record since.
pub record FoundRow (v : Volume) (f : Facts) (o : List Event) (by : Actor) (key : Key) (s : ℕ) (text : List ℕ) : Type 0 where
  pub looked : (p : Published) × (last is_look o ≡ Some (e.Look by key (Some p))) × (p.stamp ≡ s)
  pub enough : HasDistinct (inverse_of v.layout) (fetched_at key s (since is_look o))
  pub wrote : (b : Begun) × (f.wrote s ≡ Some b) × (b.text ≡ text)

-- too few records came, and the export still told the stamp that the look was told
pub record TooFewRow (v : Volume) (f : Facts) (o : List Event) (by : Actor) (key : Key) (seen : List Seen) : Type 0 where
  pub published : Published
  pub looked : last is_look o ≡ Some (e.Look by key (Some published))
  pub short : IsShort v f is_look o key published.stamp seen
  pub now : Option Published
  pub again : last is_recheck (since is_look o) ≡ Some (e.Recheck by key now)
  pub same : stamp_told now ≡ published.stamp

-- too few records came, and the export told another stamp
pub record MovedRow (v : Volume) (f : Facts) (o : List Event) (by : Actor) (key : Key) (was now : ℕ) : Type 0 where
  pub looked : (p : Published) × (last is_look o ≡ Some (e.Look by key (Some p))) × (p.stamp ≡ was)
  pub short : (seen : List Seen) × IsShort v f is_look o key was seen
  pub again : (told : Option Published) × (last is_recheck (since is_look o) ≡ Some (e.Recheck by key told)) × (stamp_told told ≡ now)
  pub moved : ¬ (now ≡ was)

-- the look was denied, or the recheck of a look
abbrev pub DeniedReadRow : List Event → Actor → Key → Denial → Type 0
DeniedReadRow o by key cause =
    (last is_export o ≡ Some (e.Denied by (asked.Look key) cause))
    ⊎ ((last is_export o ≡ Some (e.Denied by (asked.Recheck key) cause))
    × ((answer : Option Published) × (last is_look o ≡ Some (e.Look by key answer))))

abbrev pub GotRow : Volume → Facts → List Event → Actor → Key → ReadEnd → Type 0
GotRow v f o by key (read.Found stamp text) = FoundRow v f o by key stamp text
GotRow v f o by key read.Hole = last is_look o ≡ Some (e.Look by key None)
GotRow v f o by key (read.TooFew seen) = TooFewRow v f o by key seen
GotRow v f o by key (read.Moved was now) = MovedRow v f o by key was now
GotRow v f o by key (read.Denied cause) = DeniedReadRow o by key cause
GotRow v f o by key read.Inconsistent = ⊥

-- Writes.

-- more positions failed than the layout has to spare
pub record WriteFewRow (v : Volume) (f : Facts) (o : List Event) (by : Actor) (key : Key) (causes : List Why) : Type 0 where
  pub stamp : ℕ
  pub base : ℕ
  pub text : List ℕ
  pub begun : last is_begin o ≡ Some (e.Begin by key stamp base text)
  pub places : List ℕ
  pub placed : f.places key.fid ≡ Some places
  pub causes_are : causes ≡ whys key stamp (since is_begin o) 0 places
  pub many : safe_of v.layout - forward_of v.layout < count_by is_failure causes

-- the begin was denied, or the publish
abbrev pub DeniedWriteRow : List Event → Actor → Key → Denial → Type 0
DeniedWriteRow o by key cause =
    (last is_export o ≡ Some (e.Denied by (asked.Begin key) cause)) ⊎ (last is_export o ≡ Some (e.Denied by (asked.Publish key) cause))

abbrev pub GaveRow : Volume → Facts → List Event → Actor → Key → WriteEnd → Type 0
GaveRow v f o by key (write.Acked stamp mask) = last is_publish o ≡ Some (e.Publish by key stamp mask None)
GaveRow v f o by key (write.TooFew causes) = WriteFewRow v f o by key causes
GaveRow v f o by key (write.Denied cause) = DeniedWriteRow o by key cause
GaveRow v f o by key (write.Revoked later) = (stamp : ℕ) × (last is_export o ≡ Some (e.Revoked by key stamp later))

-- Blocks that a rebuild leaves.

-- the newest `Next` told this block, and too few records of the listed stamp came since
pub record IsShortCopy (v : Volume) (f : Facts) (o : List Event) (by : Actor) (key : Key) : Type 0 where
  pub node : ℕ
  pub told : Listed
  pub listed : IsListing o by node key told
  pub seen : List Seen
  pub short : IsShort v f is_next o key told.published.stamp seen

-- and the export still told that stamp
pub record LeftFewRow (v : Volume) (f : Facts) (o : List Event) (by : Actor) (key : Key) : Type 0 where
  pub copy : IsShortCopy v f o by key
  pub now : Option Published
  pub again : last is_recheck (since is_next o) ≡ Some (e.Recheck by key now)
  pub same : stamp_told now ≡ copy.told.published.stamp

-- or the recheck was denied
pub record LeftDeniedRow (v : Volume) (f : Facts) (o : List Event) (by : Actor) (key : Key) (cause : Denial) : Type 0 where
  pub copy : IsShortCopy v f o by key
  pub denied : last is_recheck (since is_next o) ≡ Some (e.Denied by (asked.Recheck key) cause)

-- The newest `Next` told this block, and by these events enough records of the listed stamp came since, so that the
-- actor's next call of a node is the refill of this one.
pub record IsRefilling (v : Volume) (f : Facts) (o : List Event) (by : Actor) (node : ℕ) (key : Key) (told : Listed) : Type 0 where
  pub listed : IsListing o by node key told
  pub enough : IsEnough v f is_next o key told.published.stamp

-- a lost message is one event, and two where the answer was lost after the node gave it
abbrev pub lost_events : Bool → ℕ
lost_events true = 2
lost_events false = 1

-- The refill's own events are the newest: a lost message, ..
pub record LeftMissedRow (v : Volume) (f : Facts) (o : List Event) (by : Actor) (key : Key) : Type 0 where
  pub node : ℕ
  pub told : Listed
  pub lost : Bool
  pub missed : newest o ≡ Some (e.Missed by node lost)
  pub refilling : IsRefilling v f (drop (lost_events lost) o) by node key told

-- .. a refusal with this cause, ..
pub record LeftRefusedRow (v : Volume) (f : Facts) (o : List Event) (by : Actor) (key : Key) (cause : Why) : Type 0 where
  pub node : ℕ
  pub told : Listed
  pub refused : newest o ≡ Some (e.Refused by node cause 0)
  pub refilling : IsRefilling v f (drop 1 o) by node key told

-- .. or a disk fault.
pub record LeftFaultRow (v : Volume) (f : Facts) (o : List Event) (by : Actor) (key : Key) : Type 0 where
  pub node : ℕ
  pub told : Listed
  pub fence : ℕ
  pub position : ℕ
  pub broke : newest o ≡ Some (e.Broke by node (Some (change.Refill fence key told.published.stamp position)))
  pub refilling : IsRefilling v f (drop 1 o) by node key told

abbrev pub LeftRow : Volume → Facts → List Event → Actor → Key → LeftWhy → Type 0
LeftRow v f o by key left.TooFew = LeftFewRow v f o by key
LeftRow v f o by key (left.Denied cause) = LeftDeniedRow v f o by key cause
LeftRow v f o by key left.Missed = LeftMissedRow v f o by key
LeftRow v f o by key left.Down = LeftRefusedRow v f o by key why.Down
LeftRow v f o by key left.Full = LeftRefusedRow v f o by key why.Full
LeftRow v f o by key left.DiskFault = LeftFaultRow v f o by key
LeftRow v f o by key left.Inconsistent = ⊥
