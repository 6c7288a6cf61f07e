-- What an actor's own events say at each state of its operation. `o` has the events by the actor, the newest first, `run`
-- those of this run of the program, which are the newest of them, and `f` the permanent facts. Nothing else is read here,
-- so it is the same for the driver of a script and for threads, and for a run that goes on after an earlier log.
use Rattle.std.specs.List.{AllByRecursion}
use Rattle.std.specs.Prelude.{ℕ, Bool, true, ◌≡◌, ◌⊎◌, ◌<◌, ◌≤◌, ◌+◌, ◌^◌, List, [], ◌∷◌, ◌++◌, Some, length, slice_get, slice_index_or, count_by}
use Rattle.std.specs.Int.{bit_at}
use Rattle.mj_angles.specs.Layout.{inverse_of, forward_of, safe_of, block_bytes_of}
use Rattle.rz_events.specs.Volume.{Volume}
use Rattle.rz_events.specs.declared.keys.Key.{Key}
use Rattle.rz_events.specs.declared.keys.Actor.{Actor}
use Rattle.rz_events.specs.declared.files.Listed.{Listed}
use Rattle.rz_events.specs.declared.files.Published.{Published}
use Rattle.rz_events.specs.declared.ends.Why.TheVariants as why
use Rattle.rz_events.specs.declared.ends.Seen.TheVariants as seen
use Rattle.rz_events.specs.declared.tree.TreeCall.{TreeCall}
use Rattle.rz_events.specs.declared.tree.TreeCall.TheVariants as tree
use Rattle.rz_events.specs.declared.tree.TreeReply.{TreeReply}
use Rattle.rz_events.specs.declared.tree.TreeReply.TheVariants as reply
use Rattle.rz_events.specs.declared.nodes.NodeAsk.{NodeAsk}
use Rattle.rz_events.specs.declared.nodes.NodeAsk.TheVariants as ask
use Rattle.rz_events.specs.declared.events.Event.{Event}
use Rattle.rz_events.specs.declared.events.Event.TheVariants as e
use Rattle.rz_node_model.specs.Versions.{Stands}
use Rattle.rz_core.specs.History.{Facts, Begun, Has, length_in}
use Rattle.rz_core.specs.NodeWord.{base_begun}
use Rattle.rz_core.specs.Courses.{IsCourse}
use Rattle.rz_log_laws.specs.Places.{IsApart}
use Rattle.rz_events.specs.Masks.{HasBit}
use Rattle.rz_core.specs.ExportRows.{HasKept}
use Rattle.rz_core.specs.NodeRows.{HasGone, IsRecord, IsNodeOf}
use Rattle.rz_core.specs.Legal.{Row}
use Rattle.rz_core.specs.Tied.{IsProperCall, IsProperAsk}
use Rattle.rz_core.specs.Own.{last, since, before, is_begin, is_look, is_next, fetched_at, HasDistinct, IsListing, IsOpen, IsBetween}
use Rattle.rz_core.specs.Outcomes.{seens, whys, is_held, is_asked, is_failure}
use Rattle.rz_core.specs.OwnRows.{GotRow, GaveRow, LeftRow}
use Rattle.rz_client_model.specs.declared.reading.ReaderState.{ReaderState}
use Rattle.rz_client_model.specs.declared.reading.ReadStage.{ReadStage}
use Rattle.rz_client_model.specs.declared.reading.ReadStage.TheVariants as reading
use Rattle.rz_client_model.specs.declared.reading.Fetches.{Fetches}
use Rattle.rz_client_model.specs.declared.writing.WriterState.{WriterState}
use Rattle.rz_client_model.specs.declared.writing.WriteStage.{WriteStage}
use Rattle.rz_client_model.specs.declared.writing.WriteStage.TheVariants as writing
use Rattle.rz_client_model.specs.declared.writing.SentRecords.{SentRecords}
use Rattle.rz_client_model.specs.Write.{is_kept}
use Rattle.rz_operation_model.specs.Work.{Work, Plan, OnBlock, PutBlock, Course, Alone, Within, Calling, Dropping, Opening, Locking, Writing, Reading, Rebuilding, Ending, Over}
use Rattle.rz_operation_model.specs.Rebuild.{RebuildState, Tally, Probing, Enrolling, Replacing, Listing, Copying, Refilling, Leaving, position_of}
use Rattle.rz_operation_model.specs.Turns.{said_event, goes_by_link, IsStep}
use Rattle.rz_operation_model.specs.Ask.{Ask, AskExport, AskNode, AskLock, Say, Rest, ask_of}
use Rattle.rz_operation_model.specs.Steps.{Told, told, read_end}
use Rattle.rz_play.specs.Turns.{found_text, text_said}
use Rattle.rz_events.specs.declared.ends.ReadEnd.TheVariants as read

-- What an event says for good.

-- the file lies at these nodes, one for each position of the layout
pub record IsPlacing (v : Volume) (f : Facts) (fid : ℕ) (places : List ℕ) : Type 0 where
  pub placed : f.places fid ≡ Some places
  pub many : length places ≡ safe_of v.layout
  pub apart : IsApart places
  pub nodes : AllByRecursion (IsNodeOf v) places

-- An open is answered with a file, or is refused, and nothing else is answered with a file. A file that lost its last name
-- lies at nodes of the volume.
abbrev pub IsOpenReply : Volume → Facts → TreeCall → TreeReply → Type 0
IsOpenReply v f (tree.OpenFile path) (reply.File info) = IsPlacing v f info.fid info.places
IsOpenReply v f (tree.OpenFile path) (reply.Refused fault) = Unit {0}
IsOpenReply v f (tree.OpenFile path) answer = ⊥
IsOpenReply v f c (reply.File info) = ⊥
IsOpenReply v f c (reply.Gone (Some info)) = AllByRecursion (IsNodeOf v) info.places
IsOpenReply v f c answer = Unit {0}

-- a block that a node has to hold, of a file that lies at these nodes, this one among them
pub record IsListedAt (v : Volume) (f : Facts) (node : ℕ) (l : Listed) : Type 0 where
  pub placing : IsPlacing v f l.key.fid l.info.places
  pub known : (b : Begun) × (f.wrote l.published.stamp ≡ Some b)
  pub at : slice_get l.info.places (position_of node l) ≡ Some node

-- an event of a legal log says what the permanent facts are, or what its row says of it alone
abbrev pub IsToldBy : Volume → Facts → Event → Type 0
IsToldBy v f (e.Meta by c answer) = IsOpenReply v f c answer
IsToldBy v f (e.Begin by key stamp base text) = f.wrote stamp ≡ Some (record { by = by; key = key; base = base; text = text })
IsToldBy v f (e.Publish by key stamp mask (Some refused)) = HasBit mask refused.0
IsToldBy v f (e.Look by key (Some p)) = (b : Begun) × (f.wrote p.stamp ≡ Some b)
IsToldBy v f (e.Fetch by node key position stamp (Some r)) = (b : Begun) × IsRecord f stamp r b
IsToldBy v f (e.Next by node after (Some l)) = IsListedAt v f node l
IsToldBy v f (e.Got by number key part (read.Found stamp text)) = length text ≤ block_bytes_of v.layout
IsToldBy v f _ = Unit {0}

abbrev pub AreToldBy : Volume → Facts → List Event → Type 0
AreToldBy v f [] = Unit {0}
AreToldBy v f (x ∷ xs) = IsToldBy v f x × AreToldBy v f xs

-- a call that no administrator makes
abbrev pub IsOfActor : NodeAsk → Type 0
IsOfActor ask.Stop = ⊥
IsOfActor ask.Start = ⊥
IsOfActor ask.Lose = ⊥
IsOfActor _ = Unit {0}

-- What an ask needs of the actor's own events: a call is one that the laws of a node or of the export speak of, and a word
-- is allowed.
abbrev pub IsProper : Volume → Facts → List Event → List Event → Actor → ℕ → Ask → Type 0
IsProper v f o run by number (AskExport c) = IsProperCall v f o by c
IsProper v f o run by number (AskNode n question) =
    IsProperAsk v f o by n question × IsNodeOf v n × IsOfActor question × (goes_by_link question ≡ true → IsOpen run)
IsProper v f o run by number (AskLock path exclusive from count) = Unit {0}
IsProper v f o run by number (Say said) = Row v f [] o run (said_event by number (text_said f said) said)
IsProper v f o run by number Rest = Unit {0}

-- The write of a block.

-- records were sent: each outcome is the one that the events since the begin say
pub record IsSending (v : Volume) (f : Facts) (o : List Event) (by : Actor) (key : Key) (places text : List ℕ) (t : SentRecords) : Type 0 where
  pub begun : last is_begin o ≡ Some (e.Begin by key t.stamp t.base text)
  pub wrote : f.wrote t.stamp ≡ Some (record { by = by; key = key; base = t.base; text = text })
  pub why_is : t.why ≡ whys key t.stamp (since is_begin o) 0 places
  pub kept_is : t.kept ≡ count_by is_kept t.why
  pub failed_is : t.failed ≡ count_by is_failure t.why
  pub kept_at : (p : ℕ) → is_kept (slice_index_or t.why p why.NotAsked) ≡ true
      → (n : ℕ) × (slice_get places p ≡ Some n) × HasKept o by n key t.stamp p
  pub ahead : (p : ℕ) → t.kept + t.failed ≤ p → slice_index_or t.why p why.NotAsked ≡ why.NotAsked
  pub few : t.kept ≤ forward_of v.layout
  pub spare : t.failed + forward_of v.layout ≤ safe_of v.layout

abbrev pub IsWriteStage : Volume → Facts → List Event → Actor → Key → List ℕ → List ℕ → WriteStage → Type 0
IsWriteStage v f o by key places text writing.Beginning = Unit {0}
IsWriteStage v f o by key places text (writing.Sending t) = IsSending v f o by key places text t
IsWriteStage v f o by key places text (writing.Ended end) = GaveRow v f o by key end

pub record HasWriteEvents (v : Volume) (f : Facts) (o : List Event) (by : Actor) (text : List ℕ) (s : WriterState) : Type 0 where
  pub layout_is : s.layout ≡ v.layout
  pub placing : IsPlacing v f s.key.fid s.places
  pub size : s.length ≡ length text
  pub short : length text ≤ block_bytes_of v.layout
  pub stage : IsWriteStage v f o by s.key s.places text s.stage

-- The read of a block.

-- positions were asked since the event that passes the test `start`: each outcome is the one that the events since then say
pub record IsFetching (v : Volume) (f : Facts) (o : List Event) (start : Event → Bool) (key : Key) (places : List ℕ) (t : Fetches) : Type 0 where
  pub known : (b : Begun) × (f.wrote t.stamp ≡ Some b)
  pub seen_is : t.seen ≡ seens key t.stamp (since start o) 0 places
  pub given_is : t.given ≡ count_by is_held t.seen
  pub fetched : (p : ℕ) → is_held (slice_index_or t.seen p seen.NotAsked) ≡ true → Stands p (fetched_at key t.stamp (since start o))
  pub few : t.given < inverse_of v.layout
  pub low : t.left < 2 ^ safe_of v.layout
  pub asked : (p : ℕ) → p < safe_of v.layout → bit_at t.left p ≡ 0 → is_asked (slice_index_or t.seen p seen.NotAsked) ≡ true
  pub ahead : (p : ℕ) → bit_at t.left p ≡ 1 → slice_index_or t.seen p seen.NotAsked ≡ seen.NotAsked

abbrev pub IsLookedUp : List Event → Actor → Key → ℕ → Type 0
IsLookedUp o by key stamp = (p : Published) × (last is_look o ≡ Some (e.Look by key (Some p))) × (p.stamp ≡ stamp)

abbrev pub IsReadStage : Volume → Facts → List Event → Actor → Key → List ℕ → ReadStage → Type 0
IsReadStage v f o by key places reading.Looking = Unit {0}
IsReadStage v f o by key places (reading.Fetching t) = IsLookedUp o by key t.stamp × IsFetching v f o is_look key places t
IsReadStage v f o by key places (reading.Ended mark) = GotRow v f o by key (read_end (found_text f mark) mark)

pub record HasReadEvents (v : Volume) (f : Facts) (o : List Event) (by : Actor) (s : ReaderState) : Type 0 where
  pub layout_is : s.layout ≡ v.layout
  pub placing : IsPlacing v f s.key.fid s.places
  pub stage : IsReadStage v f o by s.key s.places s.stage

-- Ranges.

-- a range lies in a file of the volume
abbrev pub InCourse : Volume → Facts → Course → Type 0
InCourse v f Alone = Unit {0}
InCourse v f (Within r) = IsPlacing v f r.info.fid r.info.places

-- The rebuild of a node.

-- the actor replaced the disk of node n under this fence
abbrev pub HasReplaced : List Event → Actor → ℕ → ℕ → Type 0
HasReplaced o by n fence = (loss : ℕ) × Has o (e.Replace by n loss fence)

-- the length and the base that the first record told are those of the write
pub record IsOfFirst (f : Facts) (stamp length base : ℕ) : Type 0 where
  pub length_is : length ≡ length_in (f.wrote stamp)
  pub base_is : base ≡ base_begun f stamp

-- the block that was listed last is being read
pub record IsCopying (v : Volume) (f : Facts) (o : List Event) (by : Actor) (n : ℕ) (t : Tally) (l : Listed) (base : ℕ) (s : ReaderState) (ft : Fetches) : Type 0 where
  pub listing : IsListing o by n l.key l
  pub replaced : HasReplaced (before is_next o) by n t.fence
  pub listed : IsListedAt v f n l
  pub stamp_is : ft.stamp ≡ l.published.stamp
  pub state_is : s ≡ record { layout = v.layout; key = l.key; places = l.info.places; stage = reading.Fetching ft }
  pub fetching : IsFetching v f o is_next l.key l.info.places ft
  pub first : 0 < ft.given → IsOfFirst f ft.stamp ft.length base

pub record IsFilling (v : Volume) (f : Facts) (o : List Event) (by : Actor) (n : ℕ) (t : Tally) (l : Listed) (length base : ℕ) : Type 0 where
  pub listing : IsListing o by n l.key l
  pub replaced : HasReplaced (before is_next o) by n t.fence
  pub listed : IsListedAt v f n l
  pub enough : HasDistinct (inverse_of v.layout) (fetched_at l.key l.published.stamp (since is_next o))
  pub many : inverse_of v.layout ≤ count_by is_held (seens l.key l.published.stamp (since is_next o) 0 l.info.places)
  pub first : IsOfFirst f l.published.stamp length base

abbrev pub HasRebuildEvents : Volume → Facts → List Event → List Event → Actor → ℕ → RebuildState → Type 0
HasRebuildEvents v f o run by n Probing = Unit {0}
HasRebuildEvents v f o run by n (Enrolling loss) = Has o (e.Probe by n (Some loss))
HasRebuildEvents v f o run by n (Replacing loss fence) = Has o (e.Enroll by n loss fence)
HasRebuildEvents v f o run by n (Listing t) = HasReplaced o by n t.fence
HasRebuildEvents v f o run by n (Copying t l base s) = IsOpen run × ((ft : Fetches) × IsCopying v f o by n t l base s ft)
HasRebuildEvents v f o run by n (Refilling t l length base) = IsOpen run × IsFilling v f o by n t l length base
HasRebuildEvents v f o run by n (Leaving t key why) = HasReplaced o by n t.fence × LeftRow v f o by key why

-- Operations.

-- a block that is written is no longer than a block
abbrev pub IsBlockPlan : Volume → Plan → Type 0
IsBlockPlan v (OnBlock (PutBlock block text)) = length text ≤ block_bytes_of v.layout
IsBlockPlan v _ = Unit {0}

-- no call on names opens a file
abbrev pub IsOnNames : TreeCall → Type 0
IsOnNames (tree.OpenFile path) = ⊥
IsOnNames c = Unit {0}

-- What the own events of an actor say at each state.
abbrev pub IsOwnOf : Volume → Facts → List Event → List Event → Actor → Work → Type 0
IsOwnOf v f o run by (Calling c) = IsOnNames c
IsOwnOf v f o run by (Dropping fid n places) = IsOpen run × HasGone o by fid × AllByRecursion (IsNodeOf v) (n ∷ places)
IsOwnOf v f o run by (Opening path plan) = IsBlockPlan v plan
IsOwnOf v f o run by (Locking path plan) = Unit {0}
IsOwnOf v f o run by (Writing course text s) = IsOpen run × HasWriteEvents v f o by text s × InCourse v f course
IsOwnOf v f o run by (Reading course s) = IsOpen run × HasReadEvents v f o by s × InCourse v f course
IsOwnOf v f o run by (Rebuilding n s) = IsNodeOf v n × HasRebuildEvents v f o run by n s
IsOwnOf v f o run by (Ending answer) = Unit {0}
IsOwnOf v f o run by Over = IsBetween run

-- The newest own events of the run are those of the operation in hand, or none is in hand.
abbrev pub HasOwnEvents : Volume → Actor → ℕ → List Event → Work → Type 0
HasOwnEvents v by number run work = (work ≡ Over) ⊎ IsCourse v.layout by number run work

-- The laws of an operation, as the driver of a script and threads use them. `f` has the facts before, and `g` those of the
-- log with the events of the turn.

pub record GrowsTo (f g : Facts) : Type 0 where
  pub wrote : (s : ℕ) (b : Begun) → f.wrote s ≡ Some b → g.wrote s ≡ Some b
  pub places : (fid : ℕ) (places : List ℕ) → f.places fid ≡ Some places → g.places fid ≡ Some places

-- what an operation asks is proper
abbrev pub IsOwnProper : Volume → Type 0
IsOwnProper v = (f : Facts) (o run : List Event) (by : Actor) (number : ℕ) (work : Work)
    → IsOwnOf v f o run by work → IsCourse v.layout by number run work → IsProper v f o run by number (ask_of v.layout work)

-- after an answer the actor's own events say again how far its operation has come
abbrev pub IsOwnTurn : Volume → Type 0
IsOwnTurn v = (f g : Facts) → GrowsTo f g → (o run : List Event) (by : Actor) (number : ℕ) (work : Work) → IsOwnOf v f o run by work
    → (t : Told) (xs : List Event) → IsStep by number (ask_of v.layout work) t xs → AreToldBy v g xs
    → IsOwnOf v g (xs ++ o) (xs ++ run) by (told v.layout work t)

-- what others do changes nothing
abbrev pub IsOwnKept : Volume → Type 0
IsOwnKept v = (f g : Facts) → GrowsTo f g → (o run : List Event) (by : Actor) (work : Work) → IsOwnOf v f o run by work → IsOwnOf v g o run by work
