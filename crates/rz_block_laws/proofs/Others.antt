-- What an operation has in hand after anything but a fetch.
use Rattle.std.proofs.Common.{◌≡◌, ℕ, Bool, true, false, cond, ◌==◌, List, [], ◌∷◌, length, Option, Some, None, refl, sym, ◌∙◌, ap, subst}
use Rattle.std.specs.Prelude.{IsSomeAnd, min, ◌-◌, ◌++◌}
use Rattle.std.specs.List.{AllByRecursion}
use Rattle.mj_angles.specs.declared.layout.Layout.{Layout}
use Rattle.mj_inverse.specs.Fits.{Pair}
use Rattle.rz_words.specs.Grid.{Grid}
use Rattle.rz_events.specs.Volume.{Volume}
use Rattle.rz_events.specs.Masks.{stamp_told}
use Rattle.rz_events.specs.declared.keys.Key.{Key}
use Rattle.rz_events.specs.declared.keys.Actor.{Actor}
use Rattle.rz_events.specs.declared.files.FileInfo.{FileInfo}
use Rattle.rz_events.specs.declared.files.Listed.{Listed}
use Rattle.rz_events.specs.declared.records.Head.{Head}
use Rattle.rz_events.specs.declared.ends.ReadMark.{ReadMark}
use Rattle.rz_events.specs.declared.ends.ReadMark.TheVariants as mark
use Rattle.rz_events.specs.declared.ends.WriteEnd.{WriteEnd}
use Rattle.rz_events.specs.declared.ends.WriteEnd.TheVariants as write
use Rattle.rz_events.specs.declared.ends.LeftWhy.{LeftWhy}
use Rattle.rz_events.specs.declared.ends.LeftWhy.TheVariants as left
use Rattle.rz_events.specs.declared.export.Reply.TheVariants as reply
use Rattle.rz_events.specs.declared.tree.TreeCall.{TreeCall}
use Rattle.rz_events.specs.declared.tree.TreeReply.{TreeReply}
use Rattle.rz_events.specs.declared.tree.TreeReply.TheVariants as tree
use Rattle.rz_events.specs.declared.nodes.NodeAnswer.{NodeAnswer}
use Rattle.rz_events.specs.declared.nodes.NodeAnswer.TheVariants as answer
use Rattle.rz_events.specs.declared.nodes.DropAnswer.{DropAnswer}
use Rattle.rz_events.specs.declared.nodes.DropAnswer.TheVariants as drop
use Rattle.rz_events.specs.declared.nodes.FetchAnswer.{FetchAnswer}
use Rattle.rz_events.specs.declared.nodes.RefillAnswer.{RefillAnswer}
use Rattle.rz_events.specs.declared.nodes.RefillAnswer.TheVariants as refill
use Rattle.rz_events.specs.declared.nodes.ReplaceAnswer.TheVariants as replace
use Rattle.rz_events.specs.declared.nodes.NodeAsk.TheVariants as ask
use Rattle.rz_events.specs.declared.machines.FileEnd.TheVariants as file
use Rattle.rz_events.specs.declared.machines.RebuildAnswer.{RebuildAnswer}
use Rattle.rz_events.specs.declared.machines.RebuildAnswer.TheVariants as rebuild
use Rattle.rz_events.specs.declared.operations.Operation.{Operation}
use Rattle.rz_events.specs.declared.operations.Operation.TheVariants as operation
use Rattle.rz_events.specs.declared.events.Answer.{Answer}
use Rattle.rz_events.specs.declared.events.Event.{Event}
use Rattle.rz_node_model.specs.NodeEvents.{node_event}
use Rattle.rz_client_model.specs.declared.reading.ReaderState.{ReaderState}
use Rattle.rz_client_model.specs.declared.reading.ReadStage.{ReadStage}
use Rattle.rz_client_model.specs.declared.reading.ReadStage.TheVariants.{Looking, Fetching, Ended}
use Rattle.rz_client_model.specs.declared.reading.Fetches.{Fetches}
use Rattle.rz_client_model.specs.declared.writing.WriterState.{WriterState}
use Rattle.rz_client_model.specs.Write.{writer_end}
use Rattle.rz_operation_model.specs.Ranges.{Aim, Taking, Giving, RangeState, is_whole, passed, cut, start_in, count_in}
use Rattle.rz_operation_model.specs.Files.{FileState, next_block, go_on, with_text, after_part, after_block}
use Rattle.rz_operation_model.specs.Files as files
use Rattle.rz_operation_model.specs.Work.{Work, PutBlock, GetBlock, Plan, OnBlock, OnRange, RangePlan, WriteBytes, ReadBytes, Course, Alone, Within, Calling, Dropping, Opening, Locking, Writing, Reading, Rebuilding, Ending, Over}
use Rattle.rz_operation_model.specs.Rebuild.{RebuildState, Tally, Probing, Enrolling, Replacing, Listing, Copying, Refilling, Leaving, rebuild_told, after_refill, after_read, position_of}
use Rattle.rz_operation_model.specs.Ask.{ask_of, refill_head}
use Rattle.rz_operation_model.specs.Steps.{Told, Replied, Locked, Answered, Missed, Noted, begun, told, in_range, in_rebuild, planned, after_open, after_lock, after_call, drop_at, after_drop, after_got, after_gave, said_writing}
use Rattle.rz_operation_model.specs.Turns.{IsStep, IsNodeStep, Through, ReplyLost, RequestLost}
use Rattle.rz_operation.specs.Answers.{pairs_in}
use Rattle.rz_core.specs.History.{Facts}
use Rattle.rz_play_laws.specs.Own.{GrowsTo, IsOwnOf, IsCopying}
use Rattle.rz_block_laws.specs.InHand.{IsInHand, IsReadInHand, IsRebuildInHand, IsPairOf, IsWriteBlock}
use Rattle.rz_block_laws.specs.Laws.{IsNoFetch, IsGoingLaw, IsGrowingLaw, IsBeginningLaw}

module _ (y : Layout) (f : Facts) (had : List Pair) where
  -- it is true of a work with the pairs that are left to it
  abbrev Holds : Work → Type 0
  Holds work = (ps : List Pair) (block : Option Grid) → ps ≡ pairs_in work had → IsInHand y f work ps block

  -- ---- ranges

  next-holds : (z : Layout) (r : RangeState) (aim : Aim) → Holds (in_range (next_block z r aim))
  next-holds z r (Taking bytes) = λ ps block is. is
  next-holds z r (Giving bytes) = go (is_whole z r)
    where
      go : (b : Bool) → Holds (in_range (cond b (files.writes_block z r (cut r.done (count_in z r) bytes)) (files.reads_block z r)))
      go true = λ ps block is. tt
      go false = λ ps block is. is

  go-on-holds : (z : Layout) (r : RangeState) → Holds (in_range (go_on z r))
  go-on-holds z r = go (r.done == r.size)
    where
      go : (b : Bool) → Holds (in_range (cond b (files.Ended r (file.Whole r.done)) (next_block z r r.aim)))
      go true = λ ps block is. tt
      go false = next-holds z r r.aim

  text-holds : (z : Layout) (r : RangeState) (text : List ℕ) (aim : Aim) → Holds (in_range (with_text z r text aim))
  text-holds z r text (Taking bytes) = go-on-holds z (passed z r (Taking (bytes ++ cut (start_in z r) (count_in z r) text)))
  text-holds z r text (Giving bytes) = λ ps block is. tt

  part-holds : (z : Layout) (r : RangeState) (text : List ℕ) (m : ReadMark) → Holds (in_range (after_part z r text m))
  part-holds z r text (mark.Found stamp size) = text-holds z r text r.aim
  part-holds z r text mark.Hole = text-holds z r [] r.aim
  part-holds z r text _ = λ ps block is. tt

  block-holds : (z : Layout) (r : RangeState) (e : WriteEnd) → Holds (in_range (after_block z r e))
  block-holds z r (write.Acked stamp mask) = go-on-holds z (passed z r r.aim)
  block-holds z r _ = λ ps block is. tt

  -- ---- the file is open

  planned-holds : (z : Layout) (info : FileInfo) (plan : Plan) → Holds (planned z info plan)
  planned-holds z info (OnBlock (PutBlock block text)) = λ ps b is. tt
  planned-holds z info (OnBlock (GetBlock block)) = λ ps b is. is
  planned-holds z info (OnRange (WriteBytes offset bytes)) = go-on-holds z (record { info = info; offset = offset; size = length bytes; done = 0; aim = Giving bytes })
  planned-holds z info (OnRange (ReadBytes offset count)) = go-on-holds z (record { info = info; offset = offset; size = min count (info.size - offset); done = 0; aim = Taking [] })

  open-holds : (z : Layout) (plan : Plan) (r : TreeReply) → Holds (after_open z plan r)
  open-holds z plan (tree.File info) = planned-holds z info plan
  open-holds z plan (tree.Refused fault) = λ ps block is. tt
  open-holds z plan _ = λ ps block is. tt

  lock-holds : (z : Layout) (path : List ℕ) (plan : RangePlan) (granted : Bool) (r : TreeReply) → Holds (after_lock z path plan granted r)
  lock-holds z path plan true r = open-holds z (OnRange plan) r
  lock-holds z path plan false (tree.File info) = λ ps block is. tt
  lock-holds z path plan false (tree.Refused fault) = λ ps block is. tt
  lock-holds z path plan false _ = λ ps block is. tt

  -- ---- calls on names

  drop-at-holds : (fid : ℕ) (places : List ℕ) → Holds (drop_at fid places)
  drop-at-holds fid [] = λ ps block is. tt
  drop-at-holds fid (n ∷ places) = λ ps block is. tt

  call-holds : (r : TreeReply) → Holds (after_call r)
  call-holds (tree.Gone None) = λ ps block is. tt
  call-holds (tree.Gone (Some info)) = drop-at-holds info.fid info.places
  call-holds _ = λ ps block is. tt

  drop-holds : (fid n : ℕ) (places : List ℕ) (a : DropAnswer) → Holds (after_drop fid n places a)
  drop-holds fid n places (drop.Dropped block stamp true) = λ ps b is. tt
  drop-holds fid n places (drop.Dropped block stamp false) = drop-at-holds fid places
  drop-holds fid n places _ = drop-at-holds fid places

  -- ---- the end of a block

  got-holds : (z : Layout) (course : Course) (text : List ℕ) (m : ReadMark) → Holds (after_got z course text m)
  got-holds z Alone text m = λ ps block is. tt
  got-holds z (Within r) text m = part-holds z r text m

  gave-holds : (z : Layout) (course : Course) (e : WriteEnd) → Holds (after_gave z course e)
  gave-holds z Alone e = λ ps block is. tt
  gave-holds z (Within r) e = block-holds z r e

  said-holds : (z : Layout) (course : Course) (text : List ℕ) (s : WriterState) (e : Option WriteEnd) → Holds (said_writing z course text s e)
  said-holds z course text s None = λ ps block is. tt
  said-holds z course text s (Some e) = gave-holds z course e

  -- ---- works that have no block in hand

  calling-holds : (z : Layout) (c : TreeCall) (t : Told) → Holds (told z (Calling c) t)
  calling-holds z c (Replied (reply.Tree r)) = call-holds r
  calling-holds z c _ = λ ps block is. tt

  dropping-holds : (z : Layout) (fid n : ℕ) (places : List ℕ) (t : Told) → Holds (told z (Dropping fid n places) t)
  dropping-holds z fid n places (Answered fits (answer.Drop a)) = drop-holds fid n places a
  dropping-holds z fid n places Missed = drop-at-holds fid places
  dropping-holds z fid n places _ = λ ps block is. tt

  opening-holds : (z : Layout) (path : List ℕ) (plan : Plan) (t : Told) → Holds (told z (Opening path plan) t)
  opening-holds z path plan (Replied (reply.Tree r)) = open-holds z plan r
  opening-holds z path plan _ = λ ps block is. tt

  locking-holds : (z : Layout) (path : List ℕ) (plan : RangePlan) (t : Told) → Holds (told z (Locking path plan) t)
  locking-holds z path plan (Locked granted (reply.Tree r)) = lock-holds z path plan granted r
  locking-holds z path plan _ = λ ps block is. tt

  writing-holds : (z : Layout) (course : Course) (text : List ℕ) (s : WriterState) (t : Told) → Holds (told z (Writing course text s) t)
  writing-holds z course text s (Noted found) = said-holds z course text s (writer_end s)
  writing-holds z course text s _ = λ ps block is. tt

  ending-holds : (z : Layout) (a : Answer) (t : Told) → Holds (told z (Ending a) t)
  ending-holds z a (Noted text) = λ ps block is. tt
  ending-holds z a _ = λ ps block is. tt

  -- ---- a read

  recheck-holds : (course : Course) (key : Key) (places : List ℕ) (z : Layout) (t : Fetches) (now : ℕ) (b : Bool)
      → Holds (Reading course (record { layout = z; key = key; places = places; stage = Ended (cond b (mark.TooFew t.seen) (mark.Moved t.stamp now)) }))
  recheck-holds course key places z t now true = λ ps block is. tt
  recheck-holds course key places z t now false = λ ps block is. tt

  -- before it has come to its end
  looking-holds : (y' z : Layout) (course : Course) (key : Key) (places : List ℕ) (t : Told) → had ≡ [] → Holds (told y' (Reading course (record { layout = z; key = key; places = places; stage = Looking })) t)
  looking-holds y' z course key places (Replied (reply.Looked None)) none = λ ps block is. tt
  looking-holds y' z course key places (Replied (reply.Looked (Some p))) none = λ ps block is.
      (ap (λ (l : List Pair). length l) (is ∙ none), subst (λ (l : List Pair). AllByRecursion (IsPairOf y f key p.stamp) l) (sym (is ∙ none)) tt)
  looking-holds y' z course key places (Replied (reply.Denied cause)) none = λ ps block is. tt
  looking-holds y' z course key places (Answered fits (answer.Fetch a)) none = λ ps block is. is
  looking-holds y' z course key places _ none = λ ps block is. is

  fetching-same : (key : Key) (t : Fetches) (block : Option Grid) → IsReadInHand y f key had block (Fetching t) → (ps : List Pair) → ps ≡ had → (length ps ≡ t.given) × AllByRecursion (IsPairOf y f key t.stamp) ps
  fetching-same key t block hand ps is = subst (λ (l : List Pair). (length l ≡ t.given) × AllByRecursion (IsPairOf y f key t.stamp) l) (sym is) hand

  fetching-holds : (y' z : Layout) (course : Course) (key : Key) (places : List ℕ) (f' : Fetches) (t : Told) → IsNoFetch t → IsReadInHand y f key had None (Fetching f')
      → Holds (told y' (Reading course (record { layout = z; key = key; places = places; stage = Fetching f' })) t)
  fetching-holds y' z course key places f' (Replied (reply.Looked p)) other hand = recheck-holds course key places z f' (stamp_told p) (stamp_told p == f'.stamp)
  fetching-holds y' z course key places f' (Replied (reply.Denied cause)) other hand = λ ps block is. tt
  fetching-holds y' z course key places f' (Answered fits (answer.Fetch a)) other hand = absurd other
  fetching-holds y' z course key places f' _ other hand = λ ps block is. fetching-same key f' None hand ps is

  -- ---- a rebuild

  -- what it was told is an answer to it, or changes nothing
  by-answer : (z : Layout) (n : ℕ) (s : RebuildState) → Holds (Rebuilding n s) → ((fits : Bool) (a : RebuildAnswer) → ((x : FetchAnswer) → a ≡ rebuild.Fetched x → ⊥) → Holds (in_rebuild n (rebuild_told z fits s a)))
      → (t : Told) → IsNoFetch t → Holds (told z (Rebuilding n s) t)
  by-answer z n s same each (Replied (reply.Fence fence)) other = each true (rebuild.Enrolled fence) (λ x is. absurd (cc))
  by-answer z n s same each (Replied (reply.Denied cause)) other = each true (rebuild.Denied cause) (λ x is. absurd (cc))
  by-answer z n s same each (Replied (reply.Listed l)) other = each true (rebuild.Listed l) (λ x is. absurd (cc))
  by-answer z n s same each (Replied (reply.Looked p)) other = each true (rebuild.Rechecked p) (λ x is. absurd (cc))
  by-answer z n s same each (Answered fits (answer.Probe a)) other = each fits (rebuild.Probed a) (λ x is. absurd (cc))
  by-answer z n s same each (Answered fits (answer.Replace a)) other = each fits (rebuild.Replaced a) (λ x is. absurd (cc))
  by-answer z n s same each (Answered fits (answer.Fetch a)) other = absurd other
  by-answer z n s same each (Answered fits (answer.Refill a)) other = each fits (rebuild.Refilled a) (λ x is. absurd (cc))
  by-answer z n s same each Missed other = each true rebuild.Missed (λ x is. absurd (cc))
  by-answer z n s same each (Noted text) other = each true rebuild.Noted (λ x is. absurd (cc))
  by-answer z n s same each _ other = same

  probing-holds : (z : Layout) (n : ℕ) (fits : Bool) (a : RebuildAnswer) → Holds (in_rebuild n (rebuild_told z fits Probing a))
  probing-holds z n fits (rebuild.Probed None) = λ ps block is. tt
  probing-holds z n fits (rebuild.Probed (Some loss)) = λ ps block is. tt
  probing-holds z n fits _ = λ ps block is. tt

  enrolling-holds : (z : Layout) (n loss : ℕ) (fits : Bool) (a : RebuildAnswer) → Holds (in_rebuild n (rebuild_told z fits (Enrolling loss) a))
  enrolling-holds z n loss fits (rebuild.Enrolled fence) = λ ps block is. tt
  enrolling-holds z n loss fits (rebuild.Denied cause) = λ ps block is. tt
  enrolling-holds z n loss fits _ = λ ps block is. tt

  replacing-holds : (z : Layout) (n loss fence : ℕ) (fits : Bool) (a : RebuildAnswer) → Holds (in_rebuild n (rebuild_told z fits (Replacing loss fence) a))
  replacing-holds z n loss fence fits (rebuild.Replaced replace.Replaced) = λ ps block is. is
  replacing-holds z n loss fence fits (rebuild.Replaced replace.NotLost) = λ ps block is. tt
  replacing-holds z n loss fence fits (rebuild.Replaced (replace.OtherLoss now)) = λ ps block is. tt
  replacing-holds z n loss fence fits (rebuild.Replaced replace.DiskFault) = λ ps block is. tt
  replacing-holds z n loss fence fits (rebuild.Replaced replace.NoMemory) = λ ps block is. tt
  replacing-holds z n loss fence fits _ = λ ps block is. tt

  listing-holds : (z : Layout) (n : ℕ) (t : Tally) → had ≡ [] → (fits : Bool) (a : RebuildAnswer) → Holds (in_rebuild n (rebuild_told z fits (Listing t) a))
  listing-holds z n t none fits (rebuild.Listed None) = λ ps block is. tt
  listing-holds z n t none fits (rebuild.Listed (Some l)) = λ ps block is.
      (ap (λ (q : List Pair). length q) (is ∙ none), subst (λ (q : List Pair). AllByRecursion (IsPairOf y f l.key l.published.stamp) q) (sym (is ∙ none)) tt)
  listing-holds z n t none fits _ = λ ps block is. is

  after-recheck-holds : (n : ℕ) (t : Tally) (l : Listed) (base : ℕ) (s : ReaderState) (ft : Fetches) (now : ℕ) (b : Bool)
      → Holds (Rebuilding n (after_read t l base s (Some (cond b (mark.TooFew ft.seen) (mark.Moved ft.stamp now)))))
  after-recheck-holds n t l base s ft now true = λ ps block is. tt
  after-recheck-holds n t l base s ft now false = λ ps block is. is

  copying-holds : (z : Layout) (n : ℕ) (t : Tally) (l : Listed) (base : ℕ) (y' : Layout) (key : Key) (places : List ℕ) (ft : Fetches) → IsReadInHand y f l.key had None (Fetching ft)
      → (fits : Bool) (a : RebuildAnswer) → ((x : FetchAnswer) → a ≡ rebuild.Fetched x → ⊥)
      → Holds (in_rebuild n (rebuild_told z fits (Copying t l base (record { layout = y'; key = key; places = places; stage = Fetching ft })) a))
  copying-holds z n t l base y' key places ft hand fits (rebuild.Fetched a) other = absurd (other a refl)
  copying-holds z n t l base y' key places ft hand fits rebuild.Missed other = λ ps block is. fetching-same l.key ft None hand ps is
  copying-holds z n t l base y' key places ft hand fits (rebuild.Rechecked p) other = after-recheck-holds n t l base (record { layout = y'; key = key; places = places; stage = Ended (cond (stamp_told p == ft.stamp) (mark.TooFew ft.seen) (mark.Moved ft.stamp (stamp_told p))) }) ft (stamp_told p) (stamp_told p == ft.stamp)
  copying-holds z n t l base y' key places ft hand fits (rebuild.Denied cause) other = λ ps block is. tt
  copying-holds z n t l base y' key places ft hand fits _ other = λ ps block is. fetching-same l.key ft None hand ps is

  refilled-holds : (n : ℕ) (t : Tally) (l : Listed) (a : RefillAnswer) → Holds (in_rebuild n (after_refill t l a))
  refilled-holds n t l refill.Kept = λ ps block is. is
  refilled-holds n t l (refill.Passed held) = λ ps block is. is
  refilled-holds n t l refill.Lost = λ ps block is. tt
  refilled-holds n t l (refill.OtherFence fence) = λ ps block is. tt
  refilled-holds n t l refill.Down = λ ps block is. tt
  refilled-holds n t l refill.Full = λ ps block is. tt
  refilled-holds n t l refill.DiskFault = λ ps block is. tt

  -- a refill is answered, or its message is lost
  refilling-holds : (z : Layout) (n : ℕ) (t : Tally) (l : Listed) (size base : ℕ) (by : Actor) (m fence : ℕ) (head : Head) (u : Told) (xs : List Event) → IsNodeStep by m (ask.Refill fence head) u xs
      → Holds (told z (Rebuilding n (Refilling t l size base)) u)
  refilling-holds z n t l size base by m fence head _ _ (Through given x is) = through given is
    where
      through : (a : NodeAnswer) → node_event by m (ask.Refill fence head) a ≡ Some x → Holds (told z (Rebuilding n (Refilling t l size base)) (Answered true a))
      through (answer.Refill a) is = refilled-holds n t l a
      through _ is = absurd (cc)
  refilling-holds z n t l size base by m fence head _ _ (ReplyLost given x is loses) = λ ps block is. tt
  refilling-holds z n t l size base by m fence head _ _ (RequestLost loses) = λ ps block is. tt

  leaving-same : (t : Tally) (key : Key) (why : LeftWhy) (p q : List Pair) (b c : Option Grid) → IsRebuildInHand y f p b (Leaving t key why) → IsRebuildInHand y f q c (Leaving t key why)
  leaving-same t key left.Inconsistent p q b c hand = hand
  leaving-same t key _ p q b c hand = tt

  leaving-holds : (z : Layout) (n : ℕ) (t : Tally) (key : Key) (why : LeftWhy) (block : Option Grid) → IsRebuildInHand y f had block (Leaving t key why) → (fits : Bool) (a : RebuildAnswer)
      → Holds (in_rebuild n (rebuild_told z fits (Leaving t key why) a))
  leaving-holds z n t key why block hand fits rebuild.Noted = λ ps b is. is
  leaving-holds z n t key why block hand fits _ = λ ps b is. leaving-same t key why had ps block b hand

  -- ---- any work

  module _ (o run : List Event) (by : Actor) (number : ℕ) (block : Option Grid) (xs : List Event) where
    reading : (course : Course) (key : Key) (places : List ℕ) (z : Layout) (stage : ReadStage) (t : Told) → IsReadInHand y f key had block stage
        → IsStep by number (ask_of y (Reading course (record { layout = z; key = key; places = places; stage = stage }))) t xs → IsNoFetch t
        → Holds (told y (Reading course (record { layout = z; key = key; places = places; stage = stage })) t)
    reading course key places z Looking t hand step other = looking-holds y z course key places t hand
    reading course key places z (Fetching ft) t hand step other = fetching-holds y z course key places ft t other hand
    reading course key places z (Ended e) t hand step other =
        subst (λ (u : Told). Holds (told y (Reading course (record { layout = z; key = key; places = places; stage = Ended e })) u)) (sym step.1) (got-holds y course step.0 e)

    pub holds : (v : Volume) → v.layout ≡ y → (work : Work) (t : Told) → IsOwnOf v f o run by work → IsInHand y f work had block → IsStep by number (ask_of y work) t xs → IsNoFetch t → Holds (told y work t)
    holds v same (Calling c) t own hand step other = calling-holds y c t
    holds v same (Dropping fid n places) t own hand step other = dropping-holds y fid n places t
    holds v same (Opening path plan) t own hand step other = opening-holds y path plan t
    holds v same (Locking path plan) t own hand step other = locking-holds y path plan t
    holds v same (Writing course text s) t own hand step other = writing-holds y course text s t
    holds v same (Reading course s) t own hand step other = reading course s.key s.places s.layout s.stage t hand step other
    holds v same (Rebuilding n Probing) t own hand step other = by-answer y n Probing (λ ps b is. tt) (λ fits a none. probing-holds y n fits a) t other
    holds v same (Rebuilding n (Enrolling loss)) t own hand step other = by-answer y n (Enrolling loss) (λ ps b is. tt) (λ fits a none. enrolling-holds y n loss fits a) t other
    holds v same (Rebuilding n (Replacing loss fence)) t own hand step other = by-answer y n (Replacing loss fence) (λ ps b is. tt) (λ fits a none. replacing-holds y n loss fence fits a) t other
    holds v same (Rebuilding n (Listing tally)) t own hand step other = by-answer y n (Listing tally) (λ ps b is. is) (λ fits a none. listing-holds y n tally hand fits a) t other
    holds v same (Rebuilding n (Copying tally l base s)) t own hand step other = copying tally l base s own.1.1.0 own.1.1.1 hand
      where
        copying : (tally : Tally) (l : Listed) (base : ℕ) (s : ReaderState) (ft : Fetches) → IsCopying v f o by n tally l base s ft → IsReadInHand y f l.key had block s.stage → Holds (told y (Rebuilding n (Copying tally l base s)) t)
        copying tally l base s ft own = subst (λ (r : ReaderState). IsReadInHand y f l.key had block r.stage → Holds (told y (Rebuilding n (Copying tally l base r)) t)) (sym own.state_is)
            (λ (hand : IsReadInHand y f l.key had block (Fetching ft)).
            by-answer y n (Copying tally l base (record { layout = v.layout; key = l.key; places = l.info.places; stage = Fetching ft })) (λ ps b is. fetching-same l.key ft None hand ps is)
            (λ fits a none. copying-holds y n tally l base v.layout l.key l.info.places ft hand fits a none) t other)
    holds v same (Rebuilding n (Refilling tally l size base)) t own hand step other = refilling-holds y n tally l size base by n tally.fence (refill_head y (position_of n l) l.published.stamp size base l.key) t xs step
    holds v same (Rebuilding n (Leaving tally key why)) t own hand step other =
        by-answer y n (Leaving tally key why) (λ ps b is. leaving-same tally key why had ps block b hand) (λ fits a none. leaving-holds y n tally key why block hand fits a) t other
    holds v same (Ending a) t own hand step other = ending-holds y a t
    holds v same Over t own hand step other = absurd step

pub going-law : (v : Volume) → IsGoingLaw v
going-law v f o run by number m new t xs true_to step other goes =
    let old = m.layout in
    let held : Holds v.layout f m.pairs (told v.layout m.work t) =
    holds v.layout f m.pairs o run by number m.block xs v refl m.work t true_to.own true_to.hand (subst (λ (z : Layout). IsStep by number (ask_of z m.work) t xs) true_to.layout_is step) other in
    let work : new.work ≡ told v.layout m.work t = goes.work ∙ ap (λ (z : Layout). told z m.work t) true_to.layout_is in
    subst (λ (w : Work). IsInHand v.layout f w new.pairs new.block) (sym work) (held new.pairs new.block (goes.pairs ∙ ap (λ (w : Work). pairs_in w m.pairs) work))

-- ---- the log grew

module _ (y : Layout) (f g : Facts) (grows : GrowsTo f g) where
  block-grows : (key : Key) (stamp : ℕ) (b : Grid) → IsWriteBlock y f key stamp b → IsWriteBlock y g key stamp b
  block-grows key stamp b is = record { begun = is.begun; wrote = grows.wrote stamp is.begun is.wrote; key_is = is.key_is; block_is = is.block_is }

  pairs-grow : (key : Key) (stamp : ℕ) (pairs : List Pair) → AllByRecursion (IsPairOf y f key stamp) pairs → AllByRecursion (IsPairOf y g key stamp) pairs
  pairs-grow key stamp [] all = tt
  pairs-grow key stamp (p ∷ pairs) all = ((all.0.0, block-grows key stamp all.0.0 all.0.1, all.0.2), pairs-grow key stamp pairs all.1)

  found-grows : (key : Key) (stamp : ℕ) (block : Option Grid) → IsSomeAnd block (IsWriteBlock y f key stamp) → IsSomeAnd block (IsWriteBlock y g key stamp)
  found-grows key stamp None is = is
  found-grows key stamp (Some b) is = block-grows key stamp b is

  read-grows : (key : Key) (pairs : List Pair) (block : Option Grid) (stage : ReadStage) → IsReadInHand y f key pairs block stage → IsReadInHand y g key pairs block stage
  read-grows key pairs block Looking hand = hand
  read-grows key pairs block (Fetching t) hand = (hand.0, pairs-grow key t.stamp pairs hand.1)
  read-grows key pairs block (Ended (mark.Found stamp size)) hand = found-grows key stamp block hand
  read-grows key pairs block (Ended mark.Inconsistent) hand = hand
  read-grows key pairs block (Ended _) hand = tt

  left-grows : (pairs : List Pair) (block : Option Grid) (t : Tally) (key : Key) (why : LeftWhy) → IsRebuildInHand y f pairs block (Leaving t key why) → IsRebuildInHand y g pairs block (Leaving t key why)
  left-grows pairs block t key left.Inconsistent hand = hand
  left-grows pairs block t key _ hand = tt

  rebuild-grows : (pairs : List Pair) (block : Option Grid) (s : RebuildState) → IsRebuildInHand y f pairs block s → IsRebuildInHand y g pairs block s
  rebuild-grows pairs block (Listing t) hand = hand
  rebuild-grows pairs block (Copying t l base s) hand = read-grows l.key pairs block s.stage hand
  rebuild-grows pairs block (Refilling t l size base) hand = found-grows l.key l.published.stamp block hand
  rebuild-grows pairs block (Leaving t key why) hand = left-grows pairs block t key why hand
  rebuild-grows pairs block _ hand = tt

  pub hand-grows : (work : Work) (pairs : List Pair) (block : Option Grid) → IsInHand y f work pairs block → IsInHand y g work pairs block
  hand-grows (Reading course s) pairs block hand = read-grows s.key pairs block s.stage hand
  hand-grows (Rebuilding n s) pairs block hand = rebuild-grows pairs block s hand
  hand-grows _ pairs block hand = tt

pub growing-law : (v : Volume) → IsGrowingLaw v
growing-law v f g grows m hand = hand-grows v.layout f g grows m.work m.pairs m.block hand

-- ---- the beginning

begun-hand : (y : Layout) (f : Facts) (op : Operation) (pairs : List Pair) (block : Option Grid) → IsInHand y f (begun op) pairs block
begun-hand y f (operation.Tree c) pairs block = tt
begun-hand y f (operation.Rebuild n) pairs block = tt
begun-hand y f _ pairs block = tt

pub beginning-law : (v : Volume) → IsBeginningLaw v
beginning-law v f op m is = subst (λ (w : Work). IsInHand v.layout f w m.pairs m.block) (sym is) (begun-hand v.layout f op m.pairs m.block)
