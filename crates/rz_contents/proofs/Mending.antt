-- The events of a rebuild: they change nothing that users see, and what they leave at the node.
use Rattle.std.proofs.Common.{ℕ, Bool, true, false, ◌≡◌, inl, inr, List, [], ◌∷◌, ◌++◌, Option, Some, None, cond, refl, sym, ◌∙◌, ap, subst}
use Rattle.std.specs.List.{AllByRecursion}
use Rattle.mj_angles.specs.declared.layout.Layout.{Layout}
use Rattle.rz_events.specs.Volume.{Volume}
use Rattle.rz_events.specs.declared.keys.Key.{Key}
use Rattle.rz_events.specs.declared.keys.Actor.{Actor}
use Rattle.rz_events.specs.declared.records.Change.TheVariants as change
use Rattle.rz_events.specs.declared.operations.Operation.TheVariants as operation
use Rattle.rz_events.specs.declared.ends.RebuildEnd.{RebuildEnd}
use Rattle.rz_events.specs.declared.ends.RebuildEnd.TheVariants as ends
use Rattle.rz_events.specs.declared.events.Answer.{Answer}
use Rattle.rz_events.specs.declared.events.Answer.TheVariants as answers
use Rattle.rz_events.specs.declared.export.Call.{Call}
use Rattle.rz_events.specs.declared.export.Call.TheVariants as call
use Rattle.rz_events.specs.declared.export.Reply.{Reply}
use Rattle.rz_events.specs.declared.export.Reply.TheVariants as reply
use Rattle.rz_events.specs.declared.nodes.RefillAnswer.{RefillAnswer}
use Rattle.rz_events.specs.declared.nodes.RefillAnswer.TheVariants as refill
use Rattle.rz_events.specs.declared.nodes.FetchAnswer.{FetchAnswer}
use Rattle.rz_events.specs.declared.nodes.FetchAnswer.TheVariants as fetch
use Rattle.rz_events.specs.declared.nodes.ReplaceAnswer.{ReplaceAnswer}
use Rattle.rz_events.specs.declared.nodes.ReplaceAnswer.TheVariants as replace
use Rattle.rz_events.specs.declared.nodes.NodeAsk.{NodeAsk}
use Rattle.rz_events.specs.declared.nodes.NodeAsk.TheVariants as ask
use Rattle.rz_events.specs.declared.nodes.NodeAnswer.{NodeAnswer}
use Rattle.rz_events.specs.declared.nodes.NodeAnswer.TheVariants as answer
use Rattle.rz_events.specs.declared.machines.ReaderAsk.{ReaderAsk}
use Rattle.rz_events.specs.declared.machines.ReaderAsk.TheVariants as reads
use Rattle.rz_events.specs.declared.machines.RebuildAsk.{RebuildAsk}
use Rattle.rz_events.specs.declared.machines.RebuildAsk.TheVariants as asks
use Rattle.rz_events.specs.declared.events.Event.{Event}
use Rattle.rz_events.specs.declared.events.Event.TheVariants as e
use Rattle.rz_events.specs.Events.{by_of, same_actor}
use Rattle.rz_client_model.specs.Read.{reader_ask}
use Rattle.rz_node_model.specs.NodeEvents.{node_event, refill_event, fetch_event, replace_event}
use Rattle.rz_export_model.specs.ExportEvents.{export_event, enroll_event, next_event, recheck_event}
use Rattle.rz_operation_model.specs.Rebuild.{Rebuild, Going, Ended, RebuildState, Probing, Enrolling, Replacing, Listing, Copying, Refilling, Leaving, ask_to_copy, rebuild_ask}
use Rattle.rz_operation_model.specs.Work.{Work, Rebuilding, Ending, Over}
use Rattle.rz_operation_model.specs.Ask.{Say, SayDone, ask_of, rebuild_asks}
use Rattle.rz_operation_model.specs.Steps.{Told, Replied, Answered, Missed, begun, told, in_rebuild, rebuild_after}
use Rattle.rz_operation_model.specs.Turns.{IsStep, IsExportStep, IsNodeStep, Through, ReplyLost, RequestLost}
use Rattle.rz_core.specs.History.{of_actor}
use Rattle.rz_core.specs.NodeWord.{losses}
use Rattle.rz_core.specs.Legal.{IsLegalInRuns}
use Rattle.rz_core.proofs.NodeSteps.{the_some}
use Rattle.rz_core.proofs.NodeLaws.{node, at-node}
use Rattle.rz_safety.specs.Rebuilt.{Stage, Ready, Told as Asked, Ended as Finished, IsRun, IsRebuilt, IsRebuildDone, AreRebuilt, IsComplete}
use Rattle.rz_contents.specs.Model.{changes, IsStill}
use Rattle.rz_contents.specs.Putting.{IsCourseFrom, Starts, Goes}
use Rattle.rz_contents.specs.Mending.{IsRebuildCourse, AreRebuildsStill, IsRebuildAlone, IsRebuildWhole}
use Rattle.rz_contents.proofs.Gets.{same_actor-refl}
use Rattle.rz_contents.proofs.Stillness.{still}

-- Its events.

-- a rebuild may bring this event, beside the replacement of the disk
abbrev tends : Event → Bool
tends (e.Meta by call reply) = false
tends (e.Publish by key stamp mask refused) = false
tends (e.Lose node loss) = false
tends (e.Replace by node loss fence) = false
tends _ = true

-- the actor's own, beside that replacement
abbrev IsOwn : Actor → Event → Type 0
IsOwn by x = (by_of x ≡ by) × (tends x ≡ true)

-- the actor's own, and users see nothing of it
abbrev IsMine : Actor → Event → Type 0
IsMine by x = (by_of x ≡ by) × (changes x ≡ false)

quiet : (x : Event) → tends x ≡ true → changes x ≡ false
quiet (e.Meta by call reply) is = cc
quiet (e.Publish by key stamp mask refused) is = cc
quiet x is = refl

all-mine : (by : Actor) (ys : List Event) → AllByRecursion (IsOwn by) ys → AllByRecursion (IsMine by) ys
all-mine by [] own = tt
all-mine by (y ∷ ys) own = ((own.0.0, quiet y own.0.1), all-mine by ys own.1)

-- What a rebuild asks of nodes.

replaced : (by : Actor) (n loss fence : ℕ) (given : ReplaceAnswer) (x : Event) → replace_event by n loss fence given ≡ Some x → IsMine by x
replaced by n loss fence replace.Replaced x is = subst (IsMine by) (the_some _ x is) (refl, refl)
replaced by n loss fence replace.NotLost x is = subst (IsMine by) (the_some _ x is) (refl, refl)
replaced by n loss fence (replace.OtherLoss now) x is = subst (IsMine by) (the_some _ x is) (refl, refl)
replaced by n loss fence replace.NoMemory x is = cc
replaced by n loss fence replace.DiskFault x is = subst (IsMine by) (the_some _ x is) (refl, refl)

refilled : (by : Actor) (n fence : ℕ) (key : Key) (stamp position : ℕ) (given : RefillAnswer) → IsOwn by (refill_event by n fence key stamp position given)
refilled by n fence key stamp position refill.Kept = (refl, refl)
refilled by n fence key stamp position (refill.Passed held) = (refl, refl)
refilled by n fence key stamp position refill.Lost = (refl, refl)
refilled by n fence key stamp position refill.Down = (refl, refl)
refilled by n fence key stamp position (refill.OtherFence now) = (refl, refl)
refilled by n fence key stamp position refill.Full = (refl, refl)
refilled by n fence key stamp position refill.DiskFault = (refl, refl)

fetched : (by : Actor) (n : ℕ) (key : Key) (position stamp : ℕ) (given : FetchAnswer) → IsOwn by (fetch_event by n key position stamp given)
fetched by n key position stamp (fetch.Held r) = (refl, refl)
fetched by n key position stamp fetch.Nothing = (refl, refl)
fetched by n key position stamp fetch.Lost = (refl, refl)
fetched by n key position stamp fetch.Down = (refl, refl)
fetched by n key position stamp fetch.DiskFault = (refl, refl)

-- the rebuild may ask this, beside the replacement
abbrev IsAsked : NodeAsk → Type 0
IsAsked ask.Probe = Unit {0}
IsAsked (ask.Fetch key position stamp) = Unit {0}
IsAsked (ask.Refill fence head) = Unit {0}
IsAsked _ = ⊥

answered : (by : Actor) (n : ℕ) (q : NodeAsk) (given : NodeAnswer) (x : Event) → IsAsked q → node_event by n q given ≡ Some x → IsOwn by x
answered by n ask.Probe (answer.Probe given) x asked is = subst (IsOwn by) (the_some _ x is) (refl, refl)
answered by n (ask.Fetch key position stamp) (answer.Fetch given) x asked is = subst (IsOwn by) (the_some _ x is) (fetched by n key position stamp given)
answered by n (ask.Refill fence head) (answer.Refill given) x asked is =
    subst (IsOwn by) (the_some _ x is) (refilled by n fence head.key head.stamp head.position given)
answered by n ask.Probe (_) x asked is = cc
answered by n (ask.Fetch key position stamp) (_) x asked is = cc
answered by n (ask.Refill fence head) (_) x asked is = cc
answered by n (_) given x asked is = absurd asked

node-own : (by : Actor) (n : ℕ) (q : NodeAsk) (t : Told) (ys : List Event) → IsAsked q → IsNodeStep by n q t ys → AllByRecursion (IsOwn by) ys
node-own by n q t ys asked (Through given x is) = (answered by n q given x asked is, tt)
node-own by n q t ys asked (ReplyLost given x is lossy) = ((refl, refl), (answered by n q given x asked is, tt))
node-own by n q t ys asked (RequestLost lossy) = ((refl, refl), tt)

replacement : (by : Actor) (n loss fence : ℕ) (given : NodeAnswer) (x : Event) → node_event by n (ask.Replace loss fence) given ≡ Some x → IsMine by x
replacement by n loss fence (answer.Replace given) x is = replaced by n loss fence given x is
replacement by n loss fence (_) x is = cc

replace-mine : (by : Actor) (n loss fence : ℕ) (t : Told) (ys : List Event) → IsNodeStep by n (ask.Replace loss fence) t ys → AllByRecursion (IsMine by) ys
replace-mine by n loss fence t ys (Through given x is) = (replacement by n loss fence given x is, tt)
replace-mine by n loss fence t ys (ReplyLost given x is lossy) = cc
replace-mine by n loss fence t ys (RequestLost lossy) = cc

-- What it asks of the export.

enrolled : (by : Actor) (node loss : ℕ) (r : Reply) (x : Event) → enroll_event by (call.Enroll node loss) r ≡ Some x → IsOwn by x
enrolled by node loss (reply.Fence fence) x is = subst (IsOwn by) (the_some _ x is) (refl, refl)
enrolled by node loss (reply.Denied why) x is = subst (IsOwn by) (the_some _ x is) (refl, refl)
enrolled by node loss (_) x is = cc

listed : (by : Actor) (node : ℕ) (after : Option Key) (r : Reply) (x : Event) → next_event by (call.Next node after) r ≡ Some x → IsOwn by x
listed by node after (reply.Listed given) x is = subst (IsOwn by) (the_some _ x is) (refl, refl)
listed by node after (_) x is = cc

rechecked : (by : Actor) (key : Key) (r : Reply) (x : Event) → recheck_event by (call.Recheck key) r ≡ Some x → IsOwn by x
rechecked by key (reply.Looked given) x is = subst (IsOwn by) (the_some _ x is) (refl, refl)
rechecked by key (reply.Denied why) x is = subst (IsOwn by) (the_some _ x is) (refl, refl)
rechecked by key (_) x is = cc

export-own : (by : Actor) (c : Call) → ((r : Reply) (x : Event) → export_event by c r ≡ Some x → IsOwn by x)
    → (t : Told) (ys : List Event) → IsExportStep by c t ys → AllByRecursion (IsOwn by) ys
export-own by c own t ys step = subst (AllByRecursion (IsOwn by)) (sym step.4) (own step.0 step.1 step.3, tt)

-- Each turn.

abbrev IsNoReplacement : RebuildAsk → Type 0
IsNoReplacement (asks.Replace loss fence) = ⊥
IsNoReplacement q = Unit {0}

copies : (key : Key) (a : ReaderAsk) → IsNoReplacement (ask_to_copy key a)
copies key (reads.Fetch position n stamp) = tt
copies key reads.Recheck = tt
copies key (_) = tt

asked-own : (by : Actor) (number : ℕ) (layout : Layout) (n : ℕ) (q : RebuildAsk) (t : Told) (ys : List Event) → IsNoReplacement q → IsStep by number (rebuild_asks layout n q) t ys
    → AllByRecursion (IsOwn by) ys
asked-own by number layout n asks.Probe t ys other step = node-own by n ask.Probe t ys tt step
asked-own by number layout n (asks.Enroll loss) t ys other step = export-own by (call.Enroll n loss) (enrolled by n loss) t ys step
asked-own by number layout n (asks.Replace loss fence) t ys other step = absurd other
asked-own by number layout n (asks.Next after) t ys other step = export-own by (call.Next n after) (listed by n after) t ys step
asked-own by number layout n (asks.Fetch key position from stamp) t ys other step = node-own by from (ask.Fetch key position stamp) t ys tt step
asked-own by number layout n (asks.Refill fence key stamp length position base) t ys other step = node-own by n _ t ys tt step
asked-own by number layout n (asks.Recheck key) t ys other step = export-own by (call.Recheck key) (rechecked by key) t ys step
asked-own by number layout n (asks.Left key why) t ys other step = subst (AllByRecursion (IsOwn by)) (sym step.2) ((refl, refl), tt)
asked-own by number layout n asks.End t ys other step = absurd step

asked-mine : (by : Actor) (number : ℕ) (layout : Layout) (n : ℕ) (q : RebuildAsk) (t : Told) (ys : List Event) → IsStep by number (rebuild_asks layout n q) t ys → AllByRecursion (IsMine by) ys
asked-mine by number layout n (asks.Replace loss fence) t ys step = replace-mine by n loss fence t ys step
asked-mine by number layout n (q) t ys step = all-mine by ys (asked-own by number layout n q t ys tt step)

-- What has become of the node.

-- the newest replacement among these events is that of the node after this loss, and no disk was lost since
abbrev IsReplaced : ℕ → ℕ → List Event → Type 0
IsReplaced n loss [] = ⊥
IsReplaced n loss (e.Replace by m l fence ∷ xs) = (m ≡ n) × (l ≡ loss)
IsReplaced n loss (e.Lose m l ∷ xs) = ⊥
IsReplaced n loss (_ ∷ xs) = IsReplaced n loss xs

abbrev HasReplaced : ℕ → List Event → Type 0
HasReplaced n xs = (loss : ℕ) × IsReplaced n loss xs

abbrev IsAtState : ℕ → List Event → RebuildState → Type 0
IsAtState n xs Probing = Unit {0}
IsAtState n xs (Enrolling loss) = Unit {0}
IsAtState n xs (Replacing loss fence) = Unit {0}
IsAtState n xs _ = HasReplaced n xs

abbrev IsAtEnd : ℕ → List Event → RebuildEnd → Type 0
IsAtEnd n xs (ends.Rebuilt fence refilled) = HasReplaced n xs
IsAtEnd n xs _ = Unit {0}

abbrev IsAt : ℕ → List Event → Rebuild → Type 0
IsAt n xs (Going s) = IsAtState n xs s
IsAt n xs (Ended end) = IsAtEnd n xs end

replaced-still : (n loss : ℕ) (y : Event) (xs : List Event) → tends y ≡ true → IsReplaced n loss xs → IsReplaced n loss (y ∷ xs)
replaced-still n loss (e.Replace by m l fence) xs is k = cc
replaced-still n loss (e.Lose m l) xs is k = cc
replaced-still n loss (y) xs is k = k

replaced-on : (by : Actor) (n loss : ℕ) (ys xs : List Event) → AllByRecursion (IsOwn by) ys → IsReplaced n loss xs → IsReplaced n loss (ys ++ xs)
replaced-on by n loss [] xs own k = k
replaced-on by n loss (y ∷ ys) xs own k = replaced-still n loss y (ys ++ xs) own.0.1 (replaced-on by n loss ys xs own.1 k)

any-at : (n : ℕ) (xs : List Event) (r : Rebuild) → HasReplaced n xs → IsAt n xs r
any-at n xs (Going Probing) k = tt
any-at n xs (Going (Enrolling loss)) k = tt
any-at n xs (Going (Replacing loss fence)) k = tt
any-at n xs (Going (_)) k = k
any-at n xs (Ended (ends.Rebuilt fence refilled)) k = k
any-at n xs (Ended (_)) k = tt

probed : (layout : Layout) (n : ℕ) (p : List Event) (given : NodeAnswer) → IsAt n p (rebuild_after layout Probing (Answered true given))
probed layout n p (answer.Probe None) = tt
probed layout n p (answer.Probe (Some loss)) = tt
probed layout n p (_) = tt

probing : (layout : Layout) (by : Actor) (n : ℕ) (xs : List Event) (t : Told) (ys : List Event) → IsNodeStep by n ask.Probe t ys → IsAt n (ys ++ xs) (rebuild_after layout Probing t)
probing layout by n xs t ys (Through given x is) = probed layout n (x ∷ xs) given
probing layout by n xs t ys (ReplyLost given x is lossy) = tt
probing layout by n xs t ys (RequestLost lossy) = tt

enrolling : (layout : Layout) (n loss : ℕ) (p : List Event) (r : Reply) → IsAt n p (rebuild_after layout (Enrolling loss) (Replied r))
enrolling layout n loss p (reply.Fence fence) = tt
enrolling layout n loss p (reply.Denied why) = tt
enrolling layout n loss p (_) = tt

replacing : (layout : Layout) (by : Actor) (n loss fence : ℕ) (xs : List Event) (t : Told) (ys : List Event) → IsNodeStep by n (ask.Replace loss fence) t ys
    → IsAt n (ys ++ xs) (rebuild_after layout (Replacing loss fence) t)
replacing layout by n loss fence xs t ys (Through given x is) = through given is
  where
    through : (g : NodeAnswer) → node_event by n (ask.Replace loss fence) g ≡ Some x → IsAt n (x ∷ xs) (rebuild_after layout (Replacing loss fence) (Answered true g))
    through (answer.Replace replace.Replaced) at = (loss, subst (λ (y : Event). IsReplaced n loss (y ∷ xs)) (the_some _ x at) (refl, refl))
    through (answer.Replace replace.NotLost) at = tt
    through (answer.Replace (replace.OtherLoss now)) at = tt
    through (answer.Replace replace.NoMemory) at = tt
    through (answer.Replace replace.DiskFault) at = tt
    through (_) at = tt
replacing layout by n loss fence xs t ys (ReplyLost given x is lossy) = tt
replacing layout by n loss fence xs t ys (RequestLost lossy) = tt

next-at : (layout : Layout) (by : Actor) (number n : ℕ) (xs : List Event) (s : RebuildState) → IsAtState n xs s → (t : Told) (ys : List Event)
    → IsStep by number (rebuild_asks layout n (rebuild_ask n s)) t ys → IsAt n (ys ++ xs) (rebuild_after layout s t)
next-at layout by number n xs Probing at t ys step = probing layout by n xs t ys step
next-at layout by number n xs (Enrolling loss) at t ys step =
    subst (λ (u : Told). IsAt n (ys ++ xs) (rebuild_after layout (Enrolling loss) u)) (sym step.2) (enrolling layout n loss (ys ++ xs) step.0)
next-at layout by number n xs (Replacing loss fence) at t ys step = replacing layout by n loss fence xs t ys step
next-at layout by number n xs (Copying tally l base s) at t ys step =
    let own = asked-own by number layout n (ask_to_copy l.key (reader_ask s)) t ys (copies l.key (reader_ask s)) step in
    any-at n (ys ++ xs) (rebuild_after layout (Copying tally l base s) t) (at.0, replaced-on by n at.0 ys xs own at.1)
next-at layout by number n xs (s) at t ys step =
    let own = asked-own by number layout n (rebuild_ask n s) t ys tt step in
    any-at n (ys ++ xs) (rebuild_after layout s t) (at.0, replaced-on by n at.0 ys xs own at.1)

-- A rebuild of the node stands at one of these works.

abbrev IsAtAnswer : ℕ → List Event → Answer → Type 0
IsAtAnswer n xs (answers.Rebuild end) = IsAtEnd n xs end
IsAtAnswer n xs _ = ⊥

abbrev IsMending : ℕ → List Event → Work → Type 0
IsMending n xs (Rebuilding m s) = (m ≡ n) × IsAtState m xs s
IsMending n xs (Ending answer) = IsAtAnswer n xs answer
IsMending n xs Over = Unit {0}
IsMending n xs _ = ⊥

mending : (n m : ℕ) (xs : List Event) (r : Rebuild) → m ≡ n → IsAt m xs r → IsMending n xs (in_rebuild m r)
mending n m xs (Going s) is at = (is, at)
mending n m xs (Ended end) is at = subst (λ (k : ℕ). IsAtEnd k xs end) is at

more : (by : Actor) (ys xs : List Event) → AllByRecursion (IsMine by) ys → AllByRecursion (IsMine by) xs → AllByRecursion (IsMine by) (ys ++ xs)
more by [] xs a b = b
more by (y ∷ ys) xs a b = (a.0, more by ys xs a.1 b)

turn : (layout : Layout) (by : Actor) (number n : ℕ) (xs : List Event) (work : Work) → IsMending n xs work → AllByRecursion (IsMine by) xs
    → (t : Told) (ys : List Event) → IsStep by number (ask_of layout work) t ys → IsMending n (ys ++ xs) (told layout work t) × AllByRecursion (IsMine by) (ys ++ xs)
turn layout by number n xs (Rebuilding m s) is all t ys step = (
  mending n m (ys ++ xs) (rebuild_after layout s t) is.0 (next-at layout by number m xs s is.1 t ys step),
  more by ys xs (asked-mine by number layout m (rebuild_ask m s) t ys step) all,
)
turn layout by number n xs (Ending a) is all t ys step = (
  subst (λ u. IsMending n (ys ++ xs) (told layout (Ending a) u)) (sym step.1) tt,
  more by ys xs (subst (AllByRecursion (IsMine by)) (sym step.2) ((refl, refl), tt)) all,
)
turn layout by number n xs Over is all t ys step = absurd step
turn layout by number n xs (_) is all t ys step = absurd is

mends : (layout : Layout) (by : Actor) (number n : ℕ) (xs : List Event) (work : Work)
    → IsRebuildCourse layout by number n xs work → IsMending n xs work × AllByRecursion (IsMine by) xs
mends layout by number n xs work (Starts) = ((refl, tt), tt)
mends layout by number n xs work (Goes before was t ys course step) =
    let so = mends layout by number n before was course in turn layout by number n before was so.0 so.1 t ys step

-- What users see of it.

are-still : (by : Actor) (xs : List Event) → AllByRecursion (IsMine by) xs → IsStill xs
are-still by [] all = tt
are-still by (x ∷ xs) all = (all.0.1, are-still by xs all.1)

pub rebuild_still : AreRebuildsStill
rebuild_still layout by number n xs work course = are-still by xs (mends layout by number n xs work course).1

pub rebuild_alone : (v : Volume) → IsRebuildAlone v
rebuild_alone v old xs by number node work legal course = still v xs old legal (rebuild_still v.layout by number node xs work course)

-- The node that was rebuilt.

-- no disk of it was lost since
losses-since : (v : Volume) (n loss : ℕ) (xs old : List Event) → IsLegalInRuns v (xs ++ old) → IsReplaced n loss xs → losses (node n (xs ++ old)) ≡ loss
losses-since v n loss [] old legal k = absurd k
losses-since v n loss (e.Replace by m l fence ∷ xs) old legal k =
    let x : Event = e.Replace by m l fence in
    let row = legal.1.row.loss_is in
    let now : losses (node n (xs ++ old)) ≡ loss = subst (λ (i : ℕ). losses (node i (xs ++ old)) ≡ loss) k.0 (sym row ∙ k.1) in
    at-node x (xs ++ old) n (λ w. losses w ≡ loss) (λ is. now) now
losses-since v n loss (e.Lose m l ∷ xs) old legal k = absurd k
losses-since v n loss (x ∷ xs) old legal k =
    let now = losses-since v n loss xs old legal.0 k in at-node x (xs ++ old) n (λ w. losses w ≡ loss) (λ is. now) now

-- what a run begins with is the newest replacement
run-of : (n loss : ℕ) (xs o : List Event) (m l fence count : ℕ) (stage : Stage) → IsReplaced n loss xs → IsRun (xs ++ o) m l fence count stage → (m ≡ n) × (l ≡ loss)
run-of n loss [] o m l fence count stage k r = absurd k
run-of n loss (e.Replace by i j f ∷ xs) o m l fence count stage k r = (sym r.0 ∙ k.0, sym r.1 ∙ k.1)
run-of n loss (e.Lose i j ∷ xs) o m l fence count stage k r = absurd k
run-of n loss (e.Next by i after None ∷ xs) o m l fence count stage k r = run-of n loss xs o m l fence count (Ready after) k r.2
run-of n loss (e.Next by i after (Some next) ∷ xs) o m l fence count stage k r = run-of n loss xs o m l fence count (Ready after) k r.2
run-of n loss (e.Did by i (change.Refill f key s p) ∷ xs) o m l fence count stage k (inl (other, r)) = run-of n loss xs o m l fence count stage k r
run-of n loss (e.Did by i (change.Refill f key s p) ∷ xs) o m l fence count stage k (inr (there, is, (a, done, one, r))) = run-of n loss xs o m l fence done (Asked a key s) k r
run-of n loss (e.Passed by i key s now ∷ xs) o m l fence count stage k (inl r) = run-of n loss xs o m l fence count stage k r
run-of n loss (e.Passed by i key s now ∷ xs) o m l fence count stage k (inr (there, is, (a, done, one, r))) = run-of n loss xs o m l fence done (Asked a key s) k r
run-of n loss (e.Recheck by key told ∷ xs) o m l fence count stage k (inl r) = run-of n loss xs o m l fence count stage k r
run-of n loss (e.Recheck by key told ∷ xs) o m l fence count stage k (inr (a, s, is, other, r)) = run-of n loss xs o m l fence count (Asked a key s) k r
run-of n loss (x ∷ xs) o m l fence count stage k r = run-of n loss xs o m l fence count stage k r

all-own : (by : Actor) (xs old : List Event) → AllByRecursion (IsMine by) xs → of_actor by (xs ++ old) ≡ xs ++ of_actor by old
all-own by [] old all = refl
all-own by (x ∷ xs) old all =
    ap (λ b. cond b (x ∷ of_actor by (xs ++ old)) (of_actor by (xs ++ old))) (ap (same_actor by) all.0.0 ∙ same_actor-refl by)
    ∙ ap (λ (z : List Event). x ∷ z) (all-own by xs old all.1)

-- it is at its end where it is about to say so
ending : (layout : Layout) (n : ℕ) (xs : List Event) (end : RebuildEnd) (work : Work) → IsMending n xs work → ask_of layout work ≡ Say (SayDone (answers.Rebuild end)) → IsAtEnd n xs end
ending layout n xs end (Rebuilding m s) at is = absurd (go (rebuild_ask m s) is)
  where
    go : (q : RebuildAsk) → rebuild_asks layout m q ≡ Say (SayDone (answers.Rebuild end)) → ⊥
    go asks.Probe same = cc
    go (asks.Enroll loss) same = cc
    go (asks.Replace loss fence) same = cc
    go (asks.Next after) same = cc
    go (asks.Fetch key position from stamp) same = cc
    go (asks.Refill fence key stamp length position base) same = cc
    go (asks.Recheck key) same = cc
    go (asks.Left key why) same = cc
    go asks.End same = cc
ending layout n xs end (Ending answer) at is = (let same : answer ≡ answers.Rebuild end = cc in subst (IsAtAnswer n xs) same at)
ending layout n xs end Over at is = cc
ending layout n xs end (_) at is = absurd at

pub rebuild_whole : (v : Volume) → ((h : List Event) → IsLegalInRuns v h → AreRebuilt h) → ((h : List Event) → IsLegalInRuns v h → IsComplete h) → IsRebuildWhole v
rebuild_whole v are-rebuilt complete old xs by number n fence refilled legal course =
    let x : Event = e.Done by number (answers.Rebuild (ends.Rebuilt fence refilled)) in
    let so = mends v.layout by number n xs course.0 course.1 in
    let has = ending v.layout n xs (ends.Rebuilt fence refilled) course.0 so.0 course.2 in
    let loss : ℕ = has.0 in
    let done : IsRebuildDone (xs ++ old) by fence refilled = (are-rebuilt (x ∷ xs ++ old) legal).1 in
    let run : IsRebuilt (xs ++ of_actor by old) done.node done.loss fence refilled =
    subst (λ (o : List Event). IsRebuilt o done.node done.loss fence refilled) (all-own by xs old so.1) done.rebuilt in
    let same = run-of n loss xs (of_actor by old) done.node done.loss fence refilled Finished has.1 run in
    let its : IsRebuilt (of_actor by (xs ++ old)) n loss fence refilled =
    subst (λ (i : ℕ). IsRebuilt (of_actor by (xs ++ old)) i loss fence refilled) same.0
    (subst (λ (i : ℕ). IsRebuilt (of_actor by (xs ++ old)) done.node i fence refilled) same.1 done.rebuilt) in
    let said : IsRebuilt (of_actor by (x ∷ xs ++ old)) n loss fence refilled =
    subst (λ (o : List Event). IsRebuilt o n loss fence refilled) (sym (all-own by (x ∷ []) (xs ++ old) ((refl, refl), tt))) its in
    let since = losses-since v n loss xs old legal.0 has.1 in
    complete (x ∷ xs ++ old) legal by n loss fence refilled said (at-node x (xs ++ old) n (λ w. losses w ≡ loss) (λ is. since) since)
