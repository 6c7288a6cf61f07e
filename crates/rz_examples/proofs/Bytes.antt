-- Whence the bytes come that a range answers which is read.
use Rattle.std.proofs.Common.{ℕ, zero, suc, Bool, true, false, ◌≡◌, ◌⊎◌, inl, inr, ◌==◌, List, [], ◌∷◌, ◌++◌, Some, None, cond, refl, sym, subst, take, drop, replicate}
use Rattle.std.specs.List.{AllByRecursion}
use Rattle.mj_angles.specs.declared.layout.Layout.{Layout}
use Rattle.rz_events.specs.Volume.{Volume}
use Rattle.rz_events.specs.declared.keys.Key.{Key}
use Rattle.rz_events.specs.declared.keys.Actor.{Actor}
use Rattle.rz_events.specs.declared.files.FileInfo.{FileInfo}
use Rattle.rz_events.specs.declared.operations.Operation.{Operation}
use Rattle.rz_events.specs.declared.operations.Operation.TheVariants as operation
use Rattle.rz_events.specs.declared.export.Reply.TheVariants as reply
use Rattle.rz_events.specs.declared.tree.TreeReply.{TreeReply}
use Rattle.rz_events.specs.declared.tree.TreeReply.TheVariants as tree
use Rattle.rz_events.specs.declared.nodes.DropAnswer.{DropAnswer}
use Rattle.rz_events.specs.declared.nodes.DropAnswer.TheVariants as drops
use Rattle.rz_events.specs.declared.nodes.NodeAnswer.TheVariants as node
use Rattle.rz_events.specs.declared.ends.ReadMark.{ReadMark}
use Rattle.rz_events.specs.declared.ends.ReadMark.TheVariants as mark
use Rattle.rz_events.specs.declared.ends.ReadEnd.TheVariants as read
use Rattle.rz_events.specs.declared.ends.WriteEnd.{WriteEnd}
use Rattle.rz_events.specs.declared.ends.WriteEnd.TheVariants as write
use Rattle.rz_events.specs.declared.machines.FileEnd.TheVariants as end
use Rattle.rz_events.specs.declared.events.Answer.TheVariants as answers
use Rattle.rz_events.specs.declared.events.Event.{Event}
use Rattle.rz_events.specs.declared.events.Event.TheVariants as e
use Rattle.rz_node_model.specs.Versions.{Stands}
use Rattle.rz_client_model.specs.declared.reading.ReaderState.{ReaderState}
use Rattle.rz_client_model.specs.declared.writing.WriterState.{WriterState}
use Rattle.rz_operation_model.specs.Ranges.{Aim, Taking, Giving, RangeState, start_in, count_in, is_whole, passed, cut}
use Rattle.rz_operation_model.specs.Files.{FileState, Reads, Writes, Ended as FileEnded, go_on, next_block, with_text, write_start, read_start, reads_block, writes_block}
use Rattle.rz_operation_model.specs.Rebuild.{Rebuild, Going, Ended as RebuildEnded}
use Rattle.rz_operation_model.specs.Work.{Work, PutBlock, GetBlock, RangePlan, WriteBytes, ReadBytes, Plan, OnBlock, OnRange, Course, Alone, Within, Calling, Dropping, Opening, Locking, Writing, Reading, Rebuilding, Ending, Over}
use Rattle.rz_operation_model.specs.Ask.{SayDone, ask_of, is_part}
use Rattle.rz_operation_model.specs.Steps.{Told, Replied, Locked, Answered, Missed, begun, told, read_end, in_range, whole_answer, reader_after, writer_after, after_got, after_gave, said_reading, said_writing, planned, after_open, after_lock, after_call, after_drop, drop_at, rebuild_after, in_rebuild}
use Rattle.rz_operation_model.specs.Turns.{IsStep}
use Rattle.rz_core.specs.Courses.{IsCourse, Begun, Went, IsSaying}
use Rattle.rz_examples.proofs.Endings.{reading-turn, writing-turn, asks-ending}

-- some text that the actor found has this byte
abbrev pub IsFound : List Event → ℕ → Type 0
IsFound [] b = ⊥
IsFound (e.Got by number key part (read.Found s text) ∷ run) b = Stands b text ⊎ IsFound run b
IsFound (_ ∷ run) b = IsFound run b

-- each of these bytes is a zero, or one that was found
abbrev pub AreFound : List Event → List ℕ → Type 0
AreFound run bytes = AllByRecursion (λ b. (b ≡ 0) ⊎ IsFound run b) bytes

abbrev OfAim : List Event → Aim → Type 0
OfAim run (Taking bytes) = AreFound run bytes
OfAim run (Giving bytes) = Unit {0}

abbrev InFile : List Event → FileState → Type 0
InFile run (Reads r s) = OfAim run r.aim
InFile run (Writes r text s) = OfAim run r.aim
InFile run (FileEnded r end) = OfAim run r.aim

abbrev InWork : List Event → Work → Type 0
InWork run (Reading (Within r) s) = OfAim run r.aim
InWork run (Writing (Within r) text s) = OfAim run r.aim
InWork run (Ending (answers.Read bytes)) = AreFound run bytes
InWork run _ = Unit {0}

-- More events find no less.

found-more : (x : Event) (run : List Event) (b : ℕ) → IsFound run b → IsFound (x ∷ run) b
found-more (e.Got by number key part (read.Found s text)) run b k = inr k
found-more (e.Got by number key part read.Hole) run b k = k
found-more (e.Got by number key part read.Inconsistent) run b k = k
found-more (e.Got by number key part (read.TooFew seen)) run b k = k
found-more (e.Got by number key part (read.Moved was now)) run b k = k
found-more (e.Got by number key part (read.Denied cause)) run b k = k
found-more (_) run b k = k

all-map : (P Q : ℕ → Type 0) → ((b : ℕ) → P b → Q b) → (bytes : List ℕ) → AllByRecursion P bytes → AllByRecursion Q bytes
all-map P Q more [] all = tt
all-map P Q more (b ∷ bytes) all = (more b all.0, all-map P Q more bytes all.1)

are-found-more : (x : Event) (run : List Event) (bytes : List ℕ) → AreFound run bytes → AreFound (x ∷ run) bytes
are-found-more x run bytes all =
    all-map (λ b. (b ≡ 0) ⊎ IsFound run b) (λ b. (b ≡ 0) ⊎ IsFound (x ∷ run) b) (λ b k. elim k [ inl none ↦ inl none | inr found ↦ inr (found-more x run b found) ]) bytes all

aim-more : (xs run : List Event) (aim : Aim) → OfAim run aim → OfAim (xs ++ run) aim
aim-more [] run aim k = k
aim-more (x ∷ xs) run (Taking bytes) k = are-found-more x (xs ++ run) bytes (aim-more xs run (Taking bytes) k)
aim-more (x ∷ xs) run (Giving bytes) k = tt

-- A part of a text, with zeros past its end.

all-drop : (P : ℕ → Type 0) (n : ℕ) (xs : List ℕ) → AllByRecursion P xs → AllByRecursion P (drop n xs)
all-drop P zero xs all = all
all-drop P (suc n) [] all = tt
all-drop P (suc n) (x ∷ xs) all = all-drop P n xs all.1

all-take : (P : ℕ → Type 0) (n : ℕ) (xs : List ℕ) → AllByRecursion P xs → AllByRecursion P (take n xs)
all-take P zero xs all = tt
all-take P (suc n) [] all = tt
all-take P (suc n) (x ∷ xs) all = (all.0, all-take P n xs all.1)

all-join : (P : ℕ → Type 0) (xs ys : List ℕ) → AllByRecursion P xs → AllByRecursion P ys → AllByRecursion P (xs ++ ys)
all-join P [] ys all more = more
all-join P (x ∷ xs) ys all more = (all.0, all-join P xs ys all.1 more)

all-zeros : (P : ℕ → Type 0) → P 0 → (n : ℕ) → AllByRecursion P (replicate n 0)
all-zeros P none zero = tt
all-zeros P none (suc n) = (none, all-zeros P none n)

all-cut : (P : ℕ → Type 0) → P 0 → (start count : ℕ) (text : List ℕ) → AllByRecursion P text → AllByRecursion P (cut start count text)
all-cut P none start count text all = all-take P count (drop start text ++ replicate count 0) (all-join P (drop start text) (replicate count 0) (all-drop P start text all) (all-zeros P none count))

-- each byte of a text is found where the text is
text-found : (by : Actor) (number : ℕ) (key : Key) (part : Bool) (s : ℕ) (text : List ℕ) (run : List Event) → AreFound (e.Got by number key part (read.Found s text) ∷ run) text
text-found by number key part s text run = go text (λ b k. k)
  where
    go : (some : List ℕ) → ((b : ℕ) → Stands b some → Stands b text) → AllByRecursion (λ b. (b ≡ 0) ⊎ (Stands b text ⊎ IsFound run b)) some
    go [] all = tt
    go (b ∷ more) all = (inr (inl (all b (inl refl))), go more (λ c k. all c (inr k)))

-- Ranges.

in-range : (run : List Event) (s : FileState) → InFile run s → InWork run (in_range s)
in-range run (Reads r s) k = k
in-range run (Writes r text s) k = k
in-range run (FileEnded r (end.Whole done)) k = go r.aim k
  where
    go : (aim : Aim) → OfAim run aim → InWork run (Ending (whole_answer aim done))
    go (Taking bytes) k = k
    go (Giving bytes) k = tt
in-range run (FileEnded r (end.ShortWrite done cause)) k = tt
in-range run (FileEnded r (end.ShortRead done m)) k = tt

next-in : (layout : Layout) (run : List Event) (r : RangeState) (aim : Aim) → OfAim run r.aim → InFile run (next_block layout r aim)
next-in layout run r (Taking bytes) k = k
next-in layout run r (Giving bytes) k = go (is_whole layout r)
  where
    go : (b : Bool) → InFile run (cond b (writes_block layout r (cut r.done (count_in layout r) bytes)) (reads_block layout r))
    go true = k
    go false = k

go-in : (layout : Layout) (run : List Event) (r : RangeState) → OfAim run r.aim → InFile run (go_on layout r)
go-in layout run r k = go (r.done == r.size)
  where
    go : (b : Bool) → InFile run (cond b (FileEnded r (end.Whole r.done)) (next_block layout r r.aim))
    go true = k
    go false = next-in layout run r r.aim k

text-in : (layout : Layout) (run : List Event) (r : RangeState) (text : List ℕ) (aim : Aim) → OfAim run aim → OfAim run r.aim → AreFound run text → InFile run (with_text layout r text aim)
text-in layout run r text (Taking bytes) k whole found =
    go-in layout run (passed layout r (Taking (bytes ++ cut (start_in layout r) (count_in layout r) text)))
    (all-join (λ b. (b ≡ 0) ⊎ IsFound run b) bytes (cut (start_in layout r) (count_in layout r) text) k
    (all-cut (λ b. (b ≡ 0) ⊎ IsFound run b) (inl refl) (start_in layout r) (count_in layout r) text found))
text-in layout run r text (Giving bytes) k whole found = whole

got-in : (layout : Layout) (by : Actor) (number : ℕ) (key : Key) (part : Bool) (run : List Event) (course : Course) (s : ReaderState) (text : List ℕ) (m : ReadMark) → InWork run (Reading course s)
    → InWork (e.Got by number key part (read_end text m) ∷ run) (after_got layout course text m)
got-in layout by number key part run Alone s text m k = tt
got-in layout by number key part run (Within r) s text (mark.Found stamp size) k =
    let x = e.Got by number key part (read.Found stamp text) in
    let more = aim-more (x ∷ []) run r.aim k in
    in-range (x ∷ run) (with_text layout r text r.aim) (text-in layout (x ∷ run) r text r.aim more more (text-found by number key part stamp text run))
got-in layout by number key part run (Within r) s text mark.Hole k =
    let x = e.Got by number key part read.Hole in
    let more = aim-more (x ∷ []) run r.aim k in
    in-range (x ∷ run) (with_text layout r [] r.aim) (text-in layout (x ∷ run) r [] r.aim more more tt)
got-in layout by number key part run (Within r) s text (_) k = tt

gave-in : (layout : Layout) (run : List Event) (course : Course) (text : List ℕ) (s : WriterState) (w : WriteEnd) → InWork run (Writing course text s) → InWork run (after_gave layout course w)
gave-in layout run Alone text s w k = tt
gave-in layout run (Within r) text s (write.Acked stamp mask) k = in-range run (go_on layout (passed layout r r.aim)) (go-in layout run (passed layout r r.aim) k)
gave-in layout run (Within r) text s (_) k = tt

-- Other works.

plan-in : (layout : Layout) (run : List Event) (info : FileInfo) (plan : Plan) → InWork run (planned layout info plan)
plan-in layout run info (OnBlock (PutBlock block text)) = tt
plan-in layout run info (OnBlock (GetBlock block)) = tt
plan-in layout run info (OnRange (WriteBytes offset bytes)) = in-range run (write_start layout info offset bytes) (go-in layout run _ tt)
plan-in layout run info (OnRange (ReadBytes offset count)) = in-range run (read_start layout info offset count) (go-in layout run _ tt)

open-in : (layout : Layout) (run : List Event) (plan : Plan) (answer : TreeReply) → InWork run (after_open layout plan answer)
open-in layout run plan (tree.File info) = plan-in layout run info plan
open-in layout run plan (_) = tt

lock-in : (layout : Layout) (run : List Event) (path : List ℕ) (plan : RangePlan) (granted : Bool) (answer : TreeReply) → InWork run (after_lock layout path plan granted answer)
lock-in layout run path plan true answer = open-in layout run (OnRange plan) answer
lock-in layout run path plan false (tree.File info) = tt
lock-in layout run path plan false (tree.Refused fault) = tt
lock-in layout run path plan false (_) = tt

drop-in : (run : List Event) (fid : ℕ) (places : List ℕ) → InWork run (drop_at fid places)
drop-in run fid [] = tt
drop-in run fid (n ∷ places) = tt

dropped-in : (run : List Event) (fid n : ℕ) (places : List ℕ) (answer : DropAnswer) → InWork run (after_drop fid n places answer)
dropped-in run fid n places (drops.Dropped block stamp true) = tt
dropped-in run fid n places (drops.Dropped block stamp false) = drop-in run fid places
dropped-in run fid n places (_) = drop-in run fid places

call-in : (run : List Event) (answer : TreeReply) → InWork run (after_call answer)
call-in run (tree.Gone (Some info)) = drop-in run info.fid info.places
call-in run (tree.Gone None) = tt
call-in run (_) = tt

work-in : (layout : Layout) (by : Actor) (number : ℕ) (run : List Event) (work : Work) → InWork run work → (t : Told) (xs : List Event)
    → IsStep by number (ask_of layout work) t xs → InWork (xs ++ run) (told layout work t)
work-in layout by number run (Calling c) k t xs step = go t
  where
    go : (t : Told) → InWork (xs ++ run) (told layout (Calling c) t)
    go (Replied (reply.Tree answer)) = call-in (xs ++ run) answer
    go (_) = tt
work-in layout by number run (Dropping fid n places) k t xs step = go t
  where
    go : (t : Told) → InWork (xs ++ run) (told layout (Dropping fid n places) t)
    go (Answered fits (node.Drop answer)) = dropped-in (xs ++ run) fid n places answer
    go Missed = drop-in (xs ++ run) fid places
    go (_) = tt
work-in layout by number run (Opening path plan) k t xs step = go t
  where
    go : (t : Told) → InWork (xs ++ run) (told layout (Opening path plan) t)
    go (Replied (reply.Tree answer)) = open-in layout (xs ++ run) plan answer
    go (_) = tt
work-in layout by number run (Locking path plan) k t xs step = go t
  where
    go : (t : Told) → InWork (xs ++ run) (told layout (Locking path plan) t)
    go (Locked granted (reply.Tree answer)) = lock-in layout (xs ++ run) path plan granted answer
    go (_) = tt
work-in layout by number run (Writing course text s) k t xs step =
    writing-turn by number course text s (λ z ys. InWork (ys ++ run) (told layout (Writing course text s) z))
    (λ w is found. subst (λ z. InWork (e.Gave by number s.key (is_part course) w ∷ run) (said_writing layout course text s z)) (sym is)
    (gave-in layout (e.Gave by number s.key (is_part course) w ∷ run) course text s w (still course s (e.Gave by number s.key (is_part course) w ∷ []) k)))
    (λ r ys. still course (writer_after s (Replied r)) ys k) (λ fits given ys. still course (writer_after s (Answered fits given)) ys k)
    (λ ys. still course (writer_after s Missed) ys k) t xs step
  where
    still : (course : Course) (u : WriterState) (ys : List Event) → InWork run (Writing course text s) → InWork (ys ++ run) (Writing course text u)
    still Alone u ys k = tt
    still (Within r) u ys k = aim-more ys run r.aim k
work-in layout by number run (Reading course s) k t xs step =
    reading-turn by number course s (λ z ys. InWork (ys ++ run) (told layout (Reading course s) z))
    (λ m is text. subst (λ z. InWork (e.Got by number s.key (is_part course) (read_end text m) ∷ run) (said_reading layout course s text z)) (sym is)
    (got-in layout by number s.key (is_part course) run course s text m k))
    (λ r ys. still course (reader_after s (Replied r)) ys k) (λ fits given ys. still course (reader_after s (Answered fits given)) ys k)
    (λ ys. still course (reader_after s Missed) ys k) t xs step
  where
    still : (course : Course) (u : ReaderState) (ys : List Event) → InWork run (Reading course s) → InWork (ys ++ run) (Reading course u)
    still Alone u ys k = tt
    still (Within r) u ys k = aim-more ys run r.aim k
work-in layout by number run (Rebuilding n s) k t xs step = go (rebuild_after layout s t)
  where
    go : (r : Rebuild) → InWork (xs ++ run) (in_rebuild n r)
    go (Going s) = tt
    go (RebuildEnded end) = tt
work-in layout by number run (Ending answer) k t xs (text, t_is, xs_is) = subst (λ z. InWork (xs ++ run) (told layout (Ending answer) z)) (sym t_is) tt
work-in layout by number run Over k t xs step = absurd step

course-in : (layout : Layout) (by : Actor) (number : ℕ) (run : List Event) (work : Work) → IsCourse layout by number run work → InWork run work
course-in layout by number _ _ (Begun run op does between) = begun-in op
  where
    begun-in : (op : Operation) → InWork run (begun op)
    begun-in (operation.Tree c) = tt
    begun-in (operation.Put path block datum) = tt
    begun-in (operation.Get path block) = tt
    begun-in (operation.Write path offset datum) = tt
    begun-in (operation.Read path offset count) = tt
    begun-in (operation.Rebuild n) = tt
    begun-in (operation.Update path offset datum) = tt
    begun-in (operation.View path offset count) = tt
course-in layout by number _ _ (Went run work t xs course step) = work-in layout by number run work (course-in layout by number run work course) t xs step

-- the bytes of an answer were found by its actor, or are zeros
pub said-found : (v : Volume) (by : Actor) (number : ℕ) (run : List Event) (bytes : List ℕ) → IsSaying v by number run (SayDone (answers.Read bytes)) → AreFound run bytes
said-found v by number run bytes s = subst (InWork run) (asks-ending v.layout s.work (answers.Read bytes) s.asks) (course-in v.layout by number run s.work s.course)
