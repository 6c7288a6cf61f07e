-- What the events of an operation say of its answer.
use Rattle.std.proofs.Common.{ℕ, Bool, true, false, ◌≡◌, ◌==◌, List, [], ◌∷◌, ◌++◌, Option, Some, None, cond, refl, sym, ap, subst}
use Rattle.mj_angles.specs.declared.layout.Layout.{Layout}
use Rattle.rz_events.specs.Volume.{Volume}
use Rattle.rz_events.specs.declared.keys.Key.{Key}
use Rattle.rz_events.specs.declared.keys.Actor.{Actor}
use Rattle.rz_events.specs.declared.keys.Actor.TheVariants.{Rebuilder}
use Rattle.rz_events.specs.declared.operations.Operation.{Operation}
use Rattle.rz_events.specs.declared.operations.Operation.TheVariants as operation
use Rattle.rz_events.specs.declared.export.Call.{Call}
use Rattle.rz_events.specs.declared.export.Call.TheVariants as call
use Rattle.rz_events.specs.declared.export.Reply.{Reply}
use Rattle.rz_events.specs.declared.export.Reply.TheVariants as reply
use Rattle.rz_events.specs.declared.tree.TreeCall.{TreeCall}
use Rattle.rz_events.specs.declared.tree.TreeCall.TheVariants as tree_call
use Rattle.rz_events.specs.declared.tree.TreeReply.{TreeReply}
use Rattle.rz_events.specs.declared.nodes.NodeAsk.{NodeAsk}
use Rattle.rz_events.specs.declared.nodes.NodeAsk.TheVariants as ask
use Rattle.rz_events.specs.declared.nodes.NodeAnswer.{NodeAnswer}
use Rattle.rz_events.specs.declared.nodes.NodeAnswer.TheVariants as node
use Rattle.rz_events.specs.declared.nodes.DropAnswer.{DropAnswer}
use Rattle.rz_events.specs.declared.nodes.DropAnswer.TheVariants as drops
use Rattle.rz_events.specs.declared.ends.Why.TheVariants as why
use Rattle.rz_events.specs.declared.ends.ReadMark.{ReadMark}
use Rattle.rz_events.specs.declared.ends.ReadMark.TheVariants as mark
use Rattle.rz_events.specs.declared.ends.WriteEnd.{WriteEnd}
use Rattle.rz_events.specs.declared.ends.WriteEnd.TheVariants as write
use Rattle.rz_events.specs.declared.machines.FileEnd.TheVariants as end
use Rattle.rz_events.specs.declared.machines.ReaderAsk.{ReaderAsk}
use Rattle.rz_events.specs.declared.machines.ReaderAsk.TheVariants as readers
use Rattle.rz_events.specs.declared.machines.WriterAsk.{WriterAsk}
use Rattle.rz_events.specs.declared.machines.WriterAsk.TheVariants as writers
use Rattle.rz_events.specs.declared.machines.RebuildAsk.{RebuildAsk}
use Rattle.rz_events.specs.declared.machines.RebuildAsk.TheVariants as rebuilds
use Rattle.rz_events.specs.declared.events.Answer.{Answer}
use Rattle.rz_events.specs.declared.events.Answer.TheVariants as answers
use Rattle.rz_events.specs.declared.events.Event.{Event}
use Rattle.rz_events.specs.declared.events.Event.TheVariants as e
use Rattle.rz_node_model.specs.NodeEvents.{node_event, drop_event}
use Rattle.rz_export_model.specs.ExportEvents.{export_event}
use Rattle.rz_client_model.specs.declared.reading.ReaderState.{ReaderState}
use Rattle.rz_client_model.specs.declared.writing.WriterState.{WriterState}
use Rattle.rz_client_model.specs.Read.{reader_ask, reader_end}
use Rattle.rz_client_model.specs.Write.{writer_ask, writer_end}
use Rattle.rz_operation_model.specs.Ranges.{Aim, Taking, Giving, RangeState, start_in, count_in, passed, cut}
use Rattle.rz_operation_model.specs.Files.{Ended as FileEnded, go_on, next_block, with_text}
use Rattle.rz_operation_model.specs.Rebuild.{Rebuild, Going, Ended as RebuildEnded, rebuild_ask}
use Rattle.rz_operation_model.specs.Work.{Work, RangePlan, WriteBytes, ReadBytes, Course, Alone, Within, Calling, Dropping, Opening, Locking, Writing, Reading, Rebuilding, Ending, Over}
use Rattle.rz_operation_model.specs.Ask.{Say, SayDone, ask_of, is_part, got, read_asks, gave, write_asks, rebuild_asks}
use Rattle.rz_operation_model.specs.Steps.{Told, Replied, Locked, Answered, Missed, Noted, begun, told, read_end, in_range, range_answer, after_got, after_gave, said_reading, said_writing, after_drop, drop_at, rebuild_after, in_rebuild}
use Rattle.rz_operation_model.specs.Turns.{IsStep, IsNodeStep, Through, ReplyLost, RequestLost, IsExportStep, IsLockStep}
use Rattle.rz_core.specs.Courses.{does as does_operation, IsCourse, Begun, Went, IsSaying}
use Rattle.rz_safety.proofs.CourseLaws.{some_is}

-- Turns, by what was asked.

export-turn : (by : Actor) (c : Call) (P : Told → List Event → Type 0) → ((r : Reply) (x : Event) → export_event by c r ≡ Some x → P (Replied r) (x ∷ []))
    → (t : Told) (xs : List Event) → IsExportStep by c t xs → P t xs
export-turn by c P replied t xs (r, x, t_is, is, xs_is) = subst (λ z. P z xs) (sym t_is) (subst (P (Replied r)) (sym xs_is) (replied r x is))

node-turn : (by : Actor) (n : ℕ) (question : NodeAsk) (P : Told → List Event → Type 0)
    → ((given : NodeAnswer) (x : Event) → node_event by n question given ≡ Some x → P (Answered true given) (x ∷ []))
    → ((xs : List Event) (reply : Bool) → P Missed (e.Missed by n reply ∷ xs)) → (t : Told) (xs : List Event) → IsNodeStep by n question t xs → P t xs
node-turn by n question P through missed _ _ (Through given x is) = through given x is
node-turn by n question P through missed _ _ (ReplyLost given x is link) = missed (x ∷ []) true
node-turn by n question P through missed _ _ (RequestLost link) = missed [] false

-- a turn of a read: it says how it ended, or it hears of something else
pub reading-turn : (by : Actor) (number : ℕ) (course : Course) (s : ReaderState) (P : Told → List Event → Type 0)
    → ((m : ReadMark) → reader_end s ≡ Some m → (text : List ℕ) → P (Noted text) (e.Got by number s.key (is_part course) (read_end text m) ∷ []))
    → ((r : Reply) (xs : List Event) → P (Replied r) xs) → ((fits : Bool) (given : NodeAnswer) (xs : List Event) → P (Answered fits given) xs)
    → ((xs : List Event) → P Missed xs)
    → (t : Told) (xs : List Event) → IsStep by number (read_asks (is_part course) s.key (reader_end s) (reader_ask s)) t xs → P t xs
reading-turn by number course s P said replied answered missed t xs step = go (reader_ask s) (reader_end s) refl step
  where
    go : (asks : ReaderAsk) (m : Option ReadMark) → reader_end s ≡ m → IsStep by number (read_asks (is_part course) s.key m asks) t xs → P t xs
    go readers.Look m is step = export-turn by (call.Look s.key) P (λ r x event. replied r (x ∷ [])) t xs step
    go readers.Recheck m is step = export-turn by (call.Recheck s.key) P (λ r x event. replied r (x ∷ [])) t xs step
    go (readers.Fetch position n stamp) m is step =
        node-turn by n (ask.Fetch s.key position stamp) P (λ given x event. answered true given (x ∷ [])) (λ ys reply. missed (e.Missed by n reply ∷ ys)) t xs step
    go readers.End None is step = absurd step
    go readers.End (Some m) is (text, t_is, xs_is) = subst (λ z. P z xs) (sym t_is) (subst (P (Noted text)) (sym xs_is) (said m is text))

pub writing-turn : (by : Actor) (number : ℕ) (course : Course) (text : List ℕ) (s : WriterState) (P : Told → List Event → Type 0)
    → ((w : WriteEnd) → writer_end s ≡ Some w → (found : List ℕ) → P (Noted found) (e.Gave by number s.key (is_part course) w ∷ []))
    → ((r : Reply) (xs : List Event) → P (Replied r) xs) → ((fits : Bool) (given : NodeAnswer) (xs : List Event) → P (Answered fits given) xs)
    → ((xs : List Event) → P Missed xs)
    → (t : Told) (xs : List Event) → IsStep by number (write_asks (is_part course) text s (writer_ask s)) t xs → P t xs
writing-turn by number course text s P said replied answered missed t xs step = go (writer_ask s) (writer_end s) refl step
  where
    ended : (w : Option WriteEnd) → writer_end s ≡ w → IsStep by number (gave (is_part course) s.key w) t xs → P t xs
    ended None is step = absurd step
    ended (Some w) is (found, t_is, xs_is) = subst (λ z. P z xs) (sym t_is) (subst (P (Noted found)) (sym xs_is) (said w is found))

    go : (asks : WriterAsk) (w : Option WriteEnd) → writer_end s ≡ w → IsStep by number (write_asks (is_part course) text s asks) t xs → P t xs
    go (writers.Begin size) w is step = export-turn by (call.Begin s.key text) P (λ r x event. replied r (x ∷ [])) t xs step
    go (writers.Publish stamp mask) w is step = export-turn by (call.Publish s.key stamp mask s.length) P (λ r x event. replied r (x ∷ [])) t xs step
    go (writers.Keep position n stamp base) w is step =
        node-turn by n _ P (λ given x event. answered true given (x ∷ [])) (λ ys reply. missed (e.Missed by n reply ∷ ys)) t xs step
    go writers.End w is step = ended (writer_end s) refl step

-- The newest event of an operation that has come to an answer. Bytes are written where the last block is acknowledged, or
-- where there was none to write; and no drop is passed over for a fence.
abbrev pub IsLastWritten : List Event → Type 0
IsLastWritten (e.Gave by number key part (write.Acked s m) ∷ run) = Unit {0}
IsLastWritten (e.Meta by c r ∷ run) = Unit {0}
IsLastWritten _ = ⊥

abbrev pub IsLastDropped : List Event → Type 0
IsLastDropped (e.Refused by n why.Fenced fence ∷ run) = ⊥
IsLastDropped _ = Unit {0}

abbrev pub IsLastOf : List Event → Answer → Type 0
IsLastOf run (answers.Wrote k) = IsLastWritten run
IsLastOf run answers.Plain = IsLastDropped run
IsLastOf run _ = Unit {0}

abbrev IsLast : List Event → Work → Type 0
IsLast run (Ending answer) = IsLastOf run answer
IsLast run _ = Unit {0}

call-last : (by : Actor) (c : TreeCall) (r : TreeReply) (run : List Event) (work : Work) → IsLast (e.Meta by c r ∷ run) work
call-last by c r run (Ending (answers.Wrote k)) = tt
call-last by c r run (Ending answers.Plain) = tt
call-last by c r run (Ending (_)) = tt
call-last by c r run (_) = tt

call-ended : (layout : Layout) (by : Actor) (run : List Event) (work : Work) (c : TreeCall) (t : Told) (xs : List Event) → IsExportStep by (call.Tree c) t xs
    → IsLast (xs ++ run) (told layout work t)
call-ended layout by run work c = export-turn by (call.Tree c) (λ t xs. IsLast (xs ++ run) (told layout work t)) replied
  where
    replied : (r : Reply) (x : Event) → export_event by (call.Tree c) r ≡ Some x → IsLast (x ∷ run) (told layout work (Replied r))
    replied (reply.Tree r) x is =
        subst (λ y. IsLast (y ∷ run) (told layout work (Replied (reply.Tree r)))) (some_is (e.Meta by c r) x is) (call-last by c r run (told layout work (Replied (reply.Tree r))))
    replied (_) x is = cc

lock-ended : (layout : Layout) (by : Actor) (run : List Event) (path : List ℕ) (plan : RangePlan) (t : Told) (xs : List Event) → IsLockStep by path t xs
    → IsLast (xs ++ run) (told layout (Locking path plan) t)
lock-ended layout by run path plan t xs (granted, r, x, t_is, is, xs_is) =
    subst (λ z. IsLast (xs ++ run) (told layout (Locking path plan) z)) (sym t_is)
    (subst (λ ys. IsLast (ys ++ run) (told layout (Locking path plan) (Locked granted r))) (sym xs_is) (replied r is))
  where
    replied : (r : Reply) → export_event by (call.Tree (tree_call.OpenFile path)) r ≡ Some x → IsLast (x ∷ run) (told layout (Locking path plan) (Locked granted r))
    replied (reply.Tree r) is =
        subst (λ y. IsLast (y ∷ run) (told layout (Locking path plan) (Locked granted (reply.Tree r)))) (some_is (e.Meta by (tree_call.OpenFile path) r) x is)
        (call-last by (tree_call.OpenFile path) r run (told layout (Locking path plan) (Locked granted (reply.Tree r))))
    replied (_) is = cc

-- after the last node nothing is left to drop
dropped-last : (run : List Event) (fid : ℕ) (places : List ℕ) → IsLastOf run answers.Plain → IsLast run (drop_at fid places)
dropped-last run fid [] last = last
dropped-last run fid (n ∷ places) last = tt

drop-ended : (layout : Layout) (by : Actor) (run : List Event) (fid n : ℕ) (places : List ℕ) (t : Told) (xs : List Event) → IsNodeStep by n (ask.Drop fid) t xs
    → IsLast (xs ++ run) (told layout (Dropping fid n places) t)
drop-ended layout by run fid n places =
    node-turn by n (ask.Drop fid) (λ t xs. IsLast (xs ++ run) (told layout (Dropping fid n places) t)) through
    (λ xs reply. dropped-last (e.Missed by n reply ∷ (xs ++ run)) fid places tt)
  where
    answered : (a : DropAnswer) → IsLast (drop_event by n fid a ∷ run) (after_drop fid n places a)
    answered (drops.Dropped block stamp true) = tt
    answered (drops.Dropped block stamp false) = dropped-last (drop_event by n fid (drops.Dropped block stamp false) ∷ run) fid places tt
    answered drops.Nothing = dropped-last (drop_event by n fid drops.Nothing ∷ run) fid places tt
    answered drops.Lost = dropped-last (drop_event by n fid drops.Lost ∷ run) fid places tt
    answered drops.Down = dropped-last (drop_event by n fid drops.Down ∷ run) fid places tt
    answered (drops.DiskFault block stamp) = dropped-last (drop_event by n fid (drops.DiskFault block stamp) ∷ run) fid places tt

    through : (given : NodeAnswer) (x : Event) → node_event by n (ask.Drop fid) given ≡ Some x → IsLast (x ∷ run) (told layout (Dropping fid n places) (Answered true given))
    through (node.Drop a) x is =
        subst (λ y. IsLast (y ∷ run) (told layout (Dropping fid n places) (Answered true (node.Drop a)))) (some_is (drop_event by n fid a) x is) (answered a)
    through (_) x is = cc

-- the block was acknowledged, so any work may follow
acked-last : (by : Actor) (number : ℕ) (key : Key) (part : Bool) (s m : ℕ) (run : List Event) (work : Work) → IsLast (e.Gave by number key part (write.Acked s m) ∷ run) work
acked-last by number key part s m run (Ending (answers.Wrote k)) = tt
acked-last by number key part s m run (Ending answers.Plain) = tt
acked-last by number key part s m run (Ending (_)) = tt
acked-last by number key part s m run (_) = tt

gave-last : (layout : Layout) (by : Actor) (number : ℕ) (key : Key) (part : Bool) (run : List Event) (course : Course) (w : WriteEnd)
    → IsLast (e.Gave by number key part w ∷ run) (after_gave layout course w)
gave-last layout by number key part run Alone w = tt
gave-last layout by number key part run (Within r) (write.Acked s m) = acked-last by number key part s m run (after_gave layout (Within r) (write.Acked s m))
gave-last layout by number key part run (Within r) (write.TooFew why) = tt
gave-last layout by number key part run (Within r) (write.Denied cause) = tt
gave-last layout by number key part run (Within r) (write.Revoked later) = tt

-- a range that is read comes to no other answer than the bytes, or how far it came
taken-last : (layout : Layout) (run : List Event) (r : RangeState) (bytes : List ℕ) → r.aim ≡ Taking bytes → IsLast run (in_range (go_on layout r))
taken-last layout run r bytes aim = go (r.done == r.size)
  where
    go : (b : Bool) → IsLast run (in_range (cond b (FileEnded r (end.Whole r.done)) (next_block layout r r.aim)))
    go true = subst (λ z. IsLast run (Ending (range_answer z (end.Whole r.done)))) (sym aim) tt
    go false = subst (λ z. IsLast run (in_range (next_block layout r z))) (sym aim) tt

text-last : (layout : Layout) (run : List Event) (r : RangeState) (text : List ℕ) (aim : Aim) → IsLast run (in_range (with_text layout r text aim))
text-last layout run r text (Taking bytes) =
    taken-last layout run (passed layout r (Taking (bytes ++ cut (start_in layout r) (count_in layout r) text))) (bytes ++ cut (start_in layout r) (count_in layout r) text) refl
text-last layout run r text (Giving bytes) = tt

got-last : (layout : Layout) (run : List Event) (course : Course) (text : List ℕ) (m : ReadMark) → IsLast run (after_got layout course text m)
got-last layout run Alone text m = tt
got-last layout run (Within r) text (mark.Found stamp size) = text-last layout run r text r.aim
got-last layout run (Within r) text mark.Hole = text-last layout run r [] r.aim
got-last layout run (Within r) text (_) = tt

rebuild-last : (run : List Event) (n : ℕ) (s : Rebuild) → IsLast run (in_rebuild n s)
rebuild-last run n (Going s) = tt
rebuild-last run n (RebuildEnded end) = tt

last-step : (layout : Layout) (by : Actor) (number : ℕ) (run : List Event) (work : Work) (t : Told) (xs : List Event) → IsStep by number (ask_of layout work) t xs → IsLast (xs ++ run) (told layout work t)
last-step layout by number run (Calling c) t xs step = call-ended layout by run (Calling c) c t xs step
last-step layout by number run (Dropping fid n places) t xs step = drop-ended layout by run fid n places t xs step
last-step layout by number run (Opening path plan) t xs step = call-ended layout by run (Opening path plan) (tree_call.OpenFile path) t xs step
last-step layout by number run (Locking path (WriteBytes offset bytes)) t xs step = lock-ended layout by run path (WriteBytes offset bytes) t xs step
last-step layout by number run (Locking path (ReadBytes offset count)) t xs step = lock-ended layout by run path (ReadBytes offset count) t xs step
last-step layout by number run (Writing course text s) t xs step =
    writing-turn by number course text s (λ z ys. IsLast (ys ++ run) (told layout (Writing course text s) z))
    (λ w is found. subst (λ z. IsLast (e.Gave by number s.key (is_part course) w ∷ run) (said_writing layout course text s z)) (sym is) (gave-last layout by number s.key (is_part course) run course w))
    (λ r ys. tt) (λ fits given ys. tt) (λ ys. tt) t xs step
last-step layout by number run (Reading course s) t xs step =
    reading-turn by number course s (λ z ys. IsLast (ys ++ run) (told layout (Reading course s) z))
    (λ m is text. subst (λ z. IsLast (e.Got by number s.key (is_part course) (read_end text m) ∷ run) (said_reading layout course s text z)) (sym is) (got-last layout (e.Got by number s.key (is_part course) (read_end text m) ∷ run) course text m))
    (λ r ys. tt) (λ fits given ys. tt) (λ ys. tt) t xs step
last-step layout by number run (Rebuilding n s) t xs step = rebuild-last (xs ++ run) n (rebuild_after layout s t)
last-step layout by number run (Ending answer) t xs (text, t_is, xs_is) = subst (λ z. IsLast (xs ++ run) (told layout (Ending answer) z)) (sym t_is) tt
last-step layout by number run Over t xs step = absurd step

course-last : (layout : Layout) (by : Actor) (number : ℕ) (run : List Event) (work : Work) → IsCourse layout by number run work → IsLast run work
course-last layout by number _ _ (Begun run op does between) = begun-last run op
  where
    begun-last : (run : List Event) (op : Operation) → IsLast run (begun op)
    begun-last run (operation.Tree c) = tt
    begun-last run (operation.Put path block datum) = tt
    begun-last run (operation.Get path block) = tt
    begun-last run (operation.Write path offset datum) = tt
    begun-last run (operation.Read path offset count) = tt
    begun-last run (operation.Rebuild n) = tt
    begun-last run (operation.Update path offset datum) = tt
    begun-last run (operation.View path offset count) = tt
course-last layout by number _ _ (Went run work t xs course step) = last-step layout by number run work t xs step

-- The answer is said by the work that ends with it.
pub asks-ending : (layout : Layout) (work : Work) (answer : Answer) → ask_of layout work ≡ Say (SayDone answer) → work ≡ Ending answer
asks-ending layout (Calling c) answer is = cc
asks-ending layout (Dropping fid n places) answer is = cc
asks-ending layout (Opening path plan) answer is = cc
asks-ending layout (Locking path (WriteBytes offset bytes)) answer is = cc
asks-ending layout (Locking path (ReadBytes offset count)) answer is = cc
asks-ending layout (Writing course text s) answer is = absurd (go (writer_ask s) is)
  where
    ended : (w : Option WriteEnd) → gave (is_part course) s.key w ≡ Say (SayDone answer) → ⊥
    ended None is = cc
    ended (Some w) is = cc

    go : (asks : WriterAsk) → write_asks (is_part course) text s asks ≡ Say (SayDone answer) → ⊥
    go writers.End is = ended (writer_end s) is
    go (writers.Begin size) is = cc
    go (writers.Keep position n stamp base) is = cc
    go (writers.Publish stamp mask) is = cc
asks-ending layout (Reading course s) answer is = absurd (go (reader_ask s) (reader_end s) is)
  where
    ended : (m : Option ReadMark) → got (is_part course) s.key m ≡ Say (SayDone answer) → ⊥
    ended None is = cc
    ended (Some m) is = cc

    go : (asks : ReaderAsk) (m : Option ReadMark) → read_asks (is_part course) s.key m asks ≡ Say (SayDone answer) → ⊥
    go readers.End m is = ended m is
    go readers.Look m is = cc
    go readers.Recheck m is = cc
    go (readers.Fetch position n stamp) m is = cc
asks-ending layout (Rebuilding n s) answer is = absurd (go (rebuild_ask n s) is)
  where
    go : (asks : RebuildAsk) → rebuild_asks layout n asks ≡ Say (SayDone answer) → ⊥
    go rebuilds.Probe is = cc
    go (rebuilds.Enroll loss) is = cc
    go (rebuilds.Replace loss fence) is = cc
    go (rebuilds.Next after) is = cc
    go (rebuilds.Fetch key position from stamp) is = cc
    go (rebuilds.Refill fence key stamp size position base) is = cc
    go (rebuilds.Recheck key) is = cc
    go (rebuilds.Left key why) is = cc
    go rebuilds.End is = cc
asks-ending layout (Ending said) answer is = let same : said ≡ answer = cc in ap Ending same
asks-ending layout Over answer is = cc

-- an answer that is said has its newest event
pub said-last : (v : Volume) (by : Actor) (number : ℕ) (run : List Event) (answer : Answer) → IsSaying v by number run (SayDone answer) → IsLastOf run answer
said-last v by number run answer s = subst (IsLast run) (asks-ending v.layout s.work answer s.asks) (course-last v.layout by number run s.work s.course)

-- Rebuilders.

abbrev IsRebuildersWork : Work → Type 0
IsRebuildersWork (Rebuilding n s) = Unit {0}
IsRebuildersWork (Ending (answers.Rebuild end)) = Unit {0}
IsRebuildersWork Over = Unit {0}
IsRebuildersWork _ = ⊥

rebuilders-step : (layout : Layout) (work : Work) (t : Told) → IsRebuildersWork work → IsRebuildersWork (told layout work t)
rebuilders-step layout (Rebuilding n s) t k = go (rebuild_after layout s t)
  where
    go : (r : Rebuild) → IsRebuildersWork (in_rebuild n r)
    go (Going s) = tt
    go (RebuildEnded end) = tt
rebuilders-step layout (Ending (answers.Rebuild end)) (Noted text) k = tt
rebuilders-step layout (Ending (answers.Rebuild end)) (_) k = tt
rebuilders-step layout Over t k = tt
rebuilders-step layout (_) t k = absurd k

rebuilders-course : (layout : Layout) (i number : ℕ) (run : List Event) (work : Work) → IsCourse layout (Rebuilder i) number run work → IsRebuildersWork work
rebuilders-course layout i number _ _ (Begun run op does between) = begun-by op does
  where
    begun-by : (op : Operation) → does_operation (Rebuilder i) op ≡ true → IsRebuildersWork (begun op)
    begun-by (operation.Rebuild n) is = tt
    begun-by (operation.Tree c) is = cc
    begun-by (operation.Put path block datum) is = cc
    begun-by (operation.Get path block) is = cc
    begun-by (operation.Write path offset datum) is = cc
    begun-by (operation.Read path offset count) is = cc
    begun-by (operation.Update path offset datum) is = cc
    begun-by (operation.View path offset count) is = cc
rebuilders-course layout i number _ _ (Went run work t xs course step) = rebuilders-step layout work t (rebuilders-course layout i number run work course)

-- a rebuilder says nothing but how a rebuild ended
pub said-rebuilder : (v : Volume) (i number : ℕ) (run : List Event) (answer : Answer) → IsSaying v (Rebuilder i) number run (SayDone answer) → IsRebuildersWork (Ending answer)
said-rebuilder v i number run answer s = subst IsRebuildersWork (asks-ending v.layout s.work answer s.asks) (rebuilders-course v.layout i number run s.work s.course)
