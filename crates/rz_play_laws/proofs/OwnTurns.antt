-- Each operation: what it asks is proper, its own events say where it stands after each answer, and nothing that others do
-- changes that.
use Rattle.std.proofs.Common.{◌≡◌, ℕ, Bool, List, [], ◌++◌, length, refl, sym, ◌∙◌, ap, subst}
use Rattle.rz_events.specs.Volume.{Volume}
use Rattle.rz_events.specs.declared.keys.Key.{Key}
use Rattle.rz_events.specs.declared.keys.Actor.{Actor}
use Rattle.rz_events.specs.declared.ends.ReadMark.{ReadMark}
use Rattle.rz_events.specs.declared.ends.ReadMark.TheVariants as mark
use Rattle.rz_events.specs.declared.events.Event.{Event}
use Rattle.rz_events.specs.declared.events.Event.TheVariants as e
use Rattle.rz_core.specs.History.{Facts, text_in}
use Rattle.rz_core.specs.OwnRows.{GotRow}
use Rattle.rz_core.proofs.Extends.{Extends}
use Rattle.rz_core.proofs.Rows.{row-extends, got-extends, gave-extends}
use Rattle.rz_client_model.specs.declared.reading.ReadStage.{ReadStage}
use Rattle.rz_client_model.specs.declared.reading.ReadStage.TheVariants as reading
use Rattle.rz_client_model.specs.declared.writing.WriteStage.{WriteStage}
use Rattle.rz_client_model.specs.declared.writing.WriteStage.TheVariants as writing
use Rattle.rz_operation_model.specs.Work.{Work, RangePlan, WriteBytes, ReadBytes, Calling, Dropping, Opening, Locking, Writing, Reading, Rebuilding, Ending, Over}
use Rattle.rz_operation_model.specs.Ask.{ask_of}
use Rattle.rz_operation_model.specs.Steps.{Told, told, read_end}
use Rattle.rz_play.specs.Turns.{found_text}
use Rattle.rz_play_laws.specs.Own.{AreToldBy, IsFetching, IsWriteStage, IsReadStage, HasRebuildEvents, IsOwnOf, IsProper}
use Rattle.rz_operation_model.specs.Turns.{IsStep}
use Rattle.rz_operation_model.specs.Rebuild.{RebuildState, Probing, Enrolling, Replacing, Listing, Copying, Refilling, Leaving}
use Rattle.rz_core.specs.Courses.{IsCourse}
use Rattle.rz_core.specs.Own.{is_look, is_next}
use Rattle.rz_client_model.specs.declared.reading.Fetches.{Fetches}
use Rattle.rz_play_laws.proofs.Writes.{own-write, proper-write}
use Rattle.rz_play_laws.proofs.Blocks.{placing-more, course-more}
use Rattle.rz_play_laws.proofs.Rebuilds.{own-rebuilding, proper-rebuilding, listed-more, first-more}
use Rattle.rz_play_laws.proofs.Readings.{own-read, proper-read}
use Rattle.rz_play_laws.proofs.Drops.{own-calling, own-opening, own-locking, own-dropping, own-ending}

lock-proper : (v : Volume) (f : Facts) (o run : List Event) (by : Actor) (number : ℕ) (path : List ℕ) (plan : RangePlan) → IsProper v f o run by number (ask_of v.layout (Locking path plan))
lock-proper v f o run by number path (WriteBytes offset bytes) = tt
lock-proper v f o run by number path (ReadBytes offset count) = tt

-- what an operation asks is proper
pub proper : (v : Volume) (f : Facts) (o run : List Event) (by : Actor) (number : ℕ) (work : Work) → IsOwnOf v f o run by work → IsCourse v.layout by number run work
    → IsProper v f o run by number (ask_of v.layout work)
proper v f o run by number (Calling c) own course = tt
proper v f o run by number (Dropping fid n places) own course = (own.1, own.2.0, tt, λ link. own.0)
proper v f o run by number (Opening path plan) own course = tt
proper v f o run by number (Locking path plan) own course = lock-proper v f o run by number path plan
proper v f o run by number (Writing c text s) own course = proper-write v f o run by number c text s own.0 own.1 course
proper v f o run by number (Reading c s) own course = proper-read v f o run by number c s own.0 own.1 course
proper v f o run by number (Rebuilding n state) own course = proper-rebuilding v f o run by number n own.0 state own.1
proper v f o run by number (Ending answer) own course = record { work = Ending answer; course = course; asks = refl }
proper v f o run by number Over own course = tt

-- after an answer its own events say where it stands
pub own-turn : (v : Volume) (f g : Facts) → Extends f g → (o run : List Event) (by : Actor) (number : ℕ) (work : Work) → IsOwnOf v f o run by work → (t : Told) (xs : List Event)
    → IsStep by number (ask_of v.layout work) t xs → AreToldBy v g xs → IsOwnOf v g (xs ++ o) (xs ++ run) by (told v.layout work t)
own-turn v f g ext o run by number (Calling c) own t xs step = own-calling v f g ext o run by number c own t xs step
own-turn v f g ext o run by number (Dropping fid n places) own t xs step = own-dropping v f g ext o run by number fid n places own t xs step
own-turn v f g ext o run by number (Opening path plan) own t xs step = own-opening v f g ext o run by number path plan own t xs step
own-turn v f g ext o run by number (Locking path plan) own t xs step = own-locking v f g ext o run by number path plan t xs step
own-turn v f g ext o run by number (Writing c text s) own t xs step = own-write v f g ext o run by number c text s own.1 own.2 t xs step
own-turn v f g ext o run by number (Reading c s) own t xs step = own-read v f g ext o run by number c s own.1 own.2 t xs step
own-turn v f g ext o run by number (Rebuilding n state) own t xs step = own-rebuilding v f g ext o run by number n own.0 state own.1 t xs step
own-turn v f g ext o run by number (Ending answer) own t xs step = own-ending v f g ext o run by number answer t xs step
own-turn v f g ext o run by number Over own t xs step = absurd step

-- Others' turns: the facts grow.

write-grows : (v : Volume) (f g : Facts) → Extends f g → (o : List Event) (by : Actor) (key : Key) (places text : List ℕ) (stage : WriteStage)
    → IsWriteStage v f o by key places text stage → IsWriteStage v g o by key places text stage
write-grows v f g ext o by key places text writing.Beginning is = tt
write-grows v f g ext o by key places text (writing.Sending t) h = record {
  begun = h.begun;
  wrote = ext.wrote t.stamp _ h.wrote;
  why_is = h.why_is;
  kept_is = h.kept_is;
  failed_is = h.failed_is;
  kept_at = h.kept_at;
  ahead = h.ahead;
  few = h.few;
  spare = h.spare;
}
write-grows v f g ext o by key places text (writing.Ended end) h = gave-extends v f g ext o by key end h

same-text : (v : Volume) (f g : Facts) → Extends f g → (o : List Event) (by : Actor) (key : Key) (mark : ReadMark)
    → GotRow v f o by key (read_end (found_text f mark) mark) → found_text f mark ≡ found_text g mark
same-text v f g ext o by key (mark.Found stamp length) h =
    let w = h.wrote in ap text_in (w.1 ∙ sym (ext.wrote stamp w.0 w.1))
same-text v f g ext o by key (_) h = refl

fetching-grows : (v : Volume) (f g : Facts) → Extends f g → (o : List Event) (start : Event → Bool) (key : Key) (places : List ℕ) (t : Fetches)
    → IsFetching v f o start key places t → IsFetching v g o start key places t
fetching-grows v f g ext o start key places t h = record {
  known = (h.known.0, ext.wrote t.stamp h.known.0 h.known.1);
  seen_is = h.seen_is;
  given_is = h.given_is;
  fetched = h.fetched;
  few = h.few;
  low = h.low;
  asked = h.asked;
  ahead = h.ahead;
}

read-grows : (v : Volume) (f g : Facts) → Extends f g → (o : List Event) (by : Actor) (key : Key) (places : List ℕ) (stage : ReadStage)
    → IsReadStage v f o by key places stage → IsReadStage v g o by key places stage
read-grows v f g ext o by key places reading.Looking is = tt
read-grows v f g ext o by key places (reading.Fetching t) h = (h.0, fetching-grows v f g ext o is_look key places t h.1)
read-grows v f g ext o by key places (reading.Ended mark) h =
    subst (λ (text : List ℕ). GotRow v g o by key (read_end text mark)) (same-text v f g ext o by key mark h)
    (got-extends v f g ext o by key (read_end (found_text f mark) mark) h)

rebuild-grows : (v : Volume) (f g : Facts) → Extends f g → (o run : List Event) (by : Actor) (n : ℕ) (state : RebuildState)
    → HasRebuildEvents v f o run by n state → HasRebuildEvents v g o run by n state
rebuild-grows v f g ext o run by n (Copying t l base s) own = (
  own.0,
  (
    own.1.0,
    record {
      listing = own.1.1.listing;
      replaced = own.1.1.replaced;
      listed = listed-more v f g ext n l own.1.1.listed;
      stamp_is = own.1.1.stamp_is;
      state_is = own.1.1.state_is;
      fetching = fetching-grows v f g ext o is_next l.key l.info.places own.1.0 own.1.1.fetching;
      first = λ some. first-more f g ext own.1.0.stamp own.1.0.length base own.1.1.fetching.known (own.1.1.first some);
    },
  ),
)
rebuild-grows v f g ext o run by n (Refilling t l size base) own = (
  own.0,
  record {
    listing = own.1.listing;
    replaced = own.1.replaced;
    listed = listed-more v f g ext n l own.1.listed;
    enough = own.1.enough;
    many = own.1.many;
    first = first-more f g ext l.published.stamp size base own.1.listed.known own.1.first;
  },
)
rebuild-grows v f g ext o run by n (Leaving t key why) own = (own.0, row-extends v f g ext [] o run (e.Left by key why) tt own.1)
rebuild-grows v f g ext o run by n Probing own = own
rebuild-grows v f g ext o run by n (Enrolling loss) own = own
rebuild-grows v f g ext o run by n (Replacing loss fence) own = own
rebuild-grows v f g ext o run by n (Listing t) own = own

-- what others do changes nothing
pub own-others : (v : Volume) (f g : Facts) → Extends f g → (o run : List Event) (by : Actor) (work : Work) → IsOwnOf v f o run by work → IsOwnOf v g o run by work
own-others v f g ext o run by (Writing c text s) own = (
  own.0,
  record {
    layout_is = own.1.layout_is;
    placing = placing-more v f g ext s.key.fid s.places own.1.placing;
    size = own.1.size;
    short = own.1.short;
    stage = write-grows v f g ext o by s.key s.places text s.stage own.1.stage;
  },
  course-more v f g ext c own.2,
)
own-others v f g ext o run by (Reading c s) own = (
  own.0,
  record {
    layout_is = own.1.layout_is;
    placing = placing-more v f g ext s.key.fid s.places own.1.placing;
    stage = read-grows v f g ext o by s.key s.places s.stage own.1.stage;
  },
  course-more v f g ext c own.2,
)
own-others v f g ext o run by (Rebuilding n state) own = (own.0, rebuild-grows v f g ext o run by n state own.1)
own-others v f g ext o run by (Calling c) own = own
own-others v f g ext o run by (Dropping fid n places) own = own
own-others v f g ext o run by (Opening path plan) own = own
own-others v f g ext o run by (Locking path plan) own = own
own-others v f g ext o run by (Ending answer) own = own
own-others v f g ext o run by Over own = own
