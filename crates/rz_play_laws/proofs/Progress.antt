-- A play can go on: an actor in a world that is in order has a turn, whatever it asks.
use Rattle.std.proofs.Common.{◌≡◌, ◌⊎◌, inl, inr, ◌<◌, ◌≤◌, arith, ℕ, Bool, true, false, cond, nat_lt, List, [], ◌∷◌, ◌+◌, ◌==◌, ◌&&◌, refl, sym, subst, Option, Some, None}
use Rattle.std.specs.Prelude.{unwrap_or}
use Rattle.std.specs.Option.{option_map_or}
use Rattle.std.specs.FinMap as maps
use Rattle.rz_events.specs.Volume.{Volume}
use Rattle.rz_events.specs.declared.keys.Key.{Key}
use Rattle.rz_events.specs.declared.keys.Actor.{Actor}
use Rattle.rz_events.specs.declared.records.Held.{Held}
use Rattle.rz_events.specs.declared.ends.Denial.{Denial}
use Rattle.rz_events.specs.declared.ends.Denial.TheVariants as denial
use Rattle.rz_events.specs.declared.nodes.Phase.{Phase}
use Rattle.rz_events.specs.declared.nodes.Phase.TheVariants.{Up, Down, Lost}
use Rattle.rz_events.specs.declared.nodes.KeepAnswer.TheVariants as keep
use Rattle.rz_events.specs.declared.nodes.RefillAnswer.TheVariants as refill
use Rattle.rz_events.specs.declared.nodes.NodeAsk.{NodeAsk}
use Rattle.rz_events.specs.declared.nodes.NodeAsk.TheVariants as ask
use Rattle.rz_events.specs.declared.nodes.NodeAnswer.{NodeAnswer}
use Rattle.rz_events.specs.declared.nodes.NodeAnswer.TheVariants as answer
use Rattle.rz_events.specs.declared.export.Call.{Call}
use Rattle.rz_events.specs.declared.export.Call.TheVariants as call
use Rattle.rz_events.specs.declared.export.Reply.{Reply}
use Rattle.rz_events.specs.declared.export.Reply.TheVariants as reply
use Rattle.rz_events.specs.declared.events.Event.{Event}
use Rattle.rz_node_model.specs.States.{NodeState}
use Rattle.rz_node_model.specs.Records.{Records, held_of, key_at}
use Rattle.rz_node_model.specs.Versions.{lesser_of}
use Rattle.rz_node_model.specs.Answers.{IsNodeAnswer, IsKeepAnswer, IsFetchAnswer, IsRefillAnswer, IsDropAnswer, IsReplaceAnswer, keep_in, keep_unless, keep_room, keep_answer, fetch_in, fetch_found, fetch_answer, refill_in, refill_unless, refill_room, refill_answer, drop_in, drop_least, drop_lesser, drop_answer, probe_answer, replace_in, replace_answer}
use Rattle.rz_node_model.specs.NodeEvents.{node_event, replace_event}
use Rattle.rz_export_model.specs.Export.{Export as ExportState, Enrolled, export_reply, no_begin, no_look, barred, fence_of, enroll_reply, new_fence, spent, published_stamp, published_of}
use Rattle.rz_export_model.specs.ExportEvents.{export_event, begin_event, publish_event, look_event, recheck_event, enroll_event}
use Rattle.rz_core.specs.NodeRows.{cells_of}
use Rattle.rz_core.proofs.ExportPublish.{publish_cases}
use Rattle.rz_operation_model.specs.Ask.{Ask, AskExport, AskNode, AskLock, Say, Rest}
use Rattle.rz_operation_model.specs.Turns.{goes_by_link}
use Rattle.rz_events.specs.declared.tree.TreeCall.TheVariants as tree
use Rattle.std.specs.List.{AllByRecursion}
use Rattle.std.proofs.lemmas.Bool.{eqb-true, eq-eqb, cases_lt}
use Rattle.rz_events.specs.Events.{same_actor}
use Rattle.rz_locks.specs.declared.conflict.Range.{Range}
use Rattle.rz_locks.specs.declared.conflict.Lock.{Lock}
use Rattle.rz_locks.specs.declared.conflict.LockKind.{LockKind}
use Rattle.rz_locks.specs.declared.conflict.LockKind.TheVariants.{Shared, Exclusive}
use Rattle.rz_locks.specs.Conflicts.{HasByte, Conflict}
use Rattle.rz_core.specs.History.{Facts, facts, of_actor}
use Rattle.rz_operation_model.specs.Ask.{ask_of}
use Rattle.rz_events.specs.Masks.{has_bit}
use Rattle.rz_play.specs.World.{World, Agenda, actors, Bars, IsFree, at_work}
use Rattle.rz_play.specs.Turns.{IsTurn, IsAskTurn, IsThrough, IsLost, Through, ReplyLost, RequestLost, IsGranted, lock_on, counted}
use Rattle.rz_play_laws.specs.Own.{IsOfActor, IsProper, HasOwnEvents}
use Rattle.rz_play_laws.specs.Fine.{IsFine, IsSeated}
use Rattle.rz_play_laws.proofs.OwnTurns.{proper}
use Rattle.rz_play_laws.proofs.Plays.{IsAtWork, working}

-- a node has an answer without a fault

keep-sure : (p : Phase) (b : Bool) (o : Option ℕ) (full : Bool) (fence : ℕ) → (let a = keep_in p (cond b (keep.Fenced fence) (keep_unless o (keep_room full))) in IsKeepAnswer a a)
keep-sure Lost b o full fence = refl
keep-sure Down b o full fence = refl
keep-sure Up true o full fence = refl
keep-sure Up false (Some held) full fence = refl
keep-sure Up false None true fence = refl
keep-sure Up false None false fence = refl

refill-sure : (p : Phase) (b : Bool) (o : Option ℕ) (full : Bool) (fence : ℕ) → (let a = refill_in p (cond b (refill_unless o (refill_room full)) (refill.OtherFence fence)) in IsRefillAnswer a a)
refill-sure Lost b o full fence = refl
refill-sure Down b o full fence = refl
refill-sure Up false o full fence = refl
refill-sure Up true (Some held) full fence = refl
refill-sure Up true None true fence = refl
refill-sure Up true None false fence = refl

fetch-sure : (p : Phase) (o : Option Held) → (let a = fetch_in p (fetch_found o) in IsFetchAnswer a a)
fetch-sure Lost o = refl
fetch-sure Down o = refl
fetch-sure Up None = refl
fetch-sure Up (Some r) = refl

drop-sure : (p : Phase) (held : Records) (fid : ℕ) (o : Option ℕ) → (let a = drop_in p (drop_least held fid o) in IsDropAnswer a a)
drop-sure Lost held fid o = refl
drop-sure Down held fid o = refl
drop-sure Up held fid None = refl
drop-sure Up held fid (Some block) = go (lesser_of (held_of held (key_at fid block)))
  where
    go : (o : Option Held) → (let a = drop_lesser held fid block o in IsDropAnswer a a)
    go None = refl
    go (Some r) = refl

replace-sure : (by : Actor) (n loss fence : ℕ) (p : Phase) (b : Bool) (losses : ℕ)
    → (let a = replace_in p b losses in IsReplaceAnswer a a × ((x : Event) × (replace_event by n loss fence a ≡ Some x)))
replace-sure by n loss fence Lost true losses = (refl, (_, refl))
replace-sure by n loss fence Lost false losses = (refl, (_, refl))
replace-sure by n loss fence Down b losses = (refl, (_, refl))
replace-sure by n loss fence Up b losses = (refl, (_, refl))

pub node-goes : (cells : ℕ) (s : NodeState) (by : Actor) (n : ℕ) (question : NodeAsk) → IsOfActor question
    → (given : NodeAnswer) × (x : Event) × IsNodeAnswer cells s question given × (node_event by n question given ≡ Some x)
node-goes cells s by n (ask.Keep head) ok = (answer.Keep (keep_answer cells s head.key head.stamp), _, keep-sure s.phase _ _ _ _, refl)
node-goes cells s by n (ask.Fetch key position stamp) ok = (answer.Fetch (fetch_answer s key stamp), _, fetch-sure s.phase _, refl)
node-goes cells s by n (ask.Refill fence head) ok = (answer.Refill (refill_answer cells s fence head.key head.stamp), _, refill-sure s.phase _ _ _ _, refl)
node-goes cells s by n (ask.Drop fid) ok = (answer.Drop (drop_answer s fid), _, drop-sure s.phase s.held fid _, refl)
node-goes cells s by n ask.Probe ok = (answer.Probe (probe_answer s), _, refl, refl)
node-goes cells s by n (ask.Replace loss fence) ok =
    let r = replace-sure by n loss fence s.phase (loss == s.losses) s.losses in (answer.Replace (replace_answer s loss), r.1.0, r.0, r.1.1)
node-goes cells s by n ask.Stop ok = absurd ok
node-goes cells s by n ask.Start ok = absurd ok
node-goes cells s by n ask.Lose ok = absurd ok

-- the export answers each call by an event

barred-event : (by : Actor) (key : Key) (s : ExportState) (mask stamp size i : ℕ) (places : List ℕ)
    → (x : Event) × (publish_event by (call.Publish key stamp mask size) (unwrap_or (barred s mask stamp i places) reply.Accepted) ≡ Some x)
barred-event by key s mask stamp size i [] = (_, refl)
barred-event by key s mask stamp size i (n ∷ places) = go (has_bit mask i && nat_lt stamp (fence_of s n)) (barred-event by key s mask stamp size (i + 1) places)
  where
    go : (b : Bool) → ((x : Event) × (publish_event by (call.Publish key stamp mask size) (unwrap_or (barred s mask stamp (i + 1) places) reply.Accepted) ≡ Some x))
        → (x : Event) × (publish_event by (call.Publish key stamp mask size) (unwrap_or (cond b (Some (reply.Enrolled i (fence_of s n))) (barred s mask stamp (i + 1) places)) reply.Accepted) ≡ Some x)
    go true rest = (_, refl)
    go false rest = rest

pub export-goes : (by : Actor) (s : ExportState) (c : Call) → (x : Event) × (export_event by c (export_reply s c) ≡ Some x)
export-goes by s (call.Tree c) = (_, refl)
export-goes by s (call.Begin key text) = go (no_begin s key)
  where
    go : (o : Option Denial) → (x : Event) × (begin_event by (call.Begin key text) (option_map_or reply.Denied o (reply.Begun (s.last + 1) (published_stamp s.blocks key))) ≡ Some x)
    go None = (_, refl)
    go (Some why) = (_, refl)
export-goes by s (call.Publish key stamp mask size) =
    publish_cases s key stamp mask (λ o. (x : Event) × (publish_event by (call.Publish key stamp mask size) (unwrap_or o reply.Accepted) ≡ Some x))
    (λ none. (_, refl)) (λ info there late. (_, refl)) (λ info there low. barred-event by key s mask stamp size 0 info.places)
export-goes by s (call.Look key) = go (no_look s key)
  where
    go : (o : Option Denial) → (x : Event) × (look_event by (call.Look key) (option_map_or reply.Denied o (reply.Looked (published_of s.blocks key))) ≡ Some x)
    go None = (_, refl)
    go (Some why) = (_, refl)
export-goes by s (call.Recheck key) = go (no_look s key)
  where
    go : (o : Option Denial) → (x : Event) × (recheck_event by (call.Recheck key) (option_map_or reply.Denied o (reply.Looked (published_of s.blocks key))) ≡ Some x)
    go None = (_, refl)
    go (Some why) = (_, refl)
export-goes by s (call.Next node after) = (_, refl)
export-goes by s (call.Enroll node loss) = by_entry (maps.get s.enrolled node)
  where
    IsEvent : Reply → Type 0
    IsEvent r = (x : Event) × (enroll_event by (call.Enroll node loss) r ≡ Some x)

    fenced : (o : Option Denial) → (x : Event) × (enroll_event by (call.Enroll node loss) (option_map_or reply.Denied o (reply.Fence (s.last + 1))) ≡ Some x)
    fenced None = (_, refl)
    fenced (Some why) = (_, refl)

    by_entry : (o : Option Enrolled) → (x : Event) × (enroll_event by (call.Enroll node loss) (enroll_reply s loss o) ≡ Some x)
    by_entry None = fenced (spent s)
    by_entry (Some r) = by_loss (nat_lt loss r.loss) (loss == r.loss)
      where
        by_loss : (a b : Bool) → (x : Event) × (enroll_event by (call.Enroll node loss) (cond a (reply.Denied (denial.OldLoss r.loss)) (cond b (reply.Fence r.fence) (new_fence s))) ≡ Some x)
        by_loss true b = (_, refl)
        by_loss false true = (_, refl)
        by_loss false false = fenced (spent s)

-- Whether a lock is free can be told.

-- two ranges, of which m begins later, have a byte in common if they have that one
bytes-at : (a b : Range) (m : ℕ) → a.from ≤ m → b.from ≤ m → (m ≡ a.from) ⊎ (m ≡ b.from)
    → ((byte : ℕ) × HasByte a byte × HasByte b byte) ⊎ (((byte : ℕ) × HasByte a byte × HasByte b byte) → ⊥)
bytes-at a b m low_a low_b first = go (cases_lt m (a.from + a.length)) (cases_lt m (b.from + b.length))
  where
    later : (byte : ℕ) → a.from ≤ byte → b.from ≤ byte → (m ≡ a.from) ⊎ (m ≡ b.from) → m ≤ byte
    later byte x y (inl is) = omega (arith, x, is)
    later byte x y (inr is) = omega (arith, y, is)

    go : (m < a.from + a.length) ⊎ (a.from + a.length ≤ m) → (m < b.from + b.length) ⊎ (b.from + b.length ≤ m)
        → ((byte : ℕ) × HasByte a byte × HasByte b byte) ⊎ (((byte : ℕ) × HasByte a byte × HasByte b byte) → ⊥)
    go (inl x) (inl y) = inl (m, (low_a, x), (low_b, y))
    go (inr x) y = inr (λ s. (let l = later s.0 s.1.0 s.2.0 first in let h = s.1.1 in omega (arith, l, h, x)))
    go (inl x) (inr y) = inr (λ s. (let l = later s.0 s.1.0 s.2.0 first in let h = s.2.1 in omega (arith, l, h, y)))

share-byte : (a b : Range) → ((byte : ℕ) × HasByte a byte × HasByte b byte) ⊎ (((byte : ℕ) × HasByte a byte × HasByte b byte) → ⊥)
share-byte a b = go (cases_lt a.from b.from)
  where
    go : (a.from < b.from) ⊎ (b.from ≤ a.from) → ((byte : ℕ) × HasByte a byte × HasByte b byte) ⊎ (((byte : ℕ) × HasByte a byte × HasByte b byte) → ⊥)
    go (inl low) = bytes-at a b b.from (omega (arith, low)) (omega arith) (inr refl)
    go (inr high) = bytes-at a b a.from (omega arith) high (inl refl)

is-exclusive : (a b : LockKind) → ((a ≡ Exclusive) ⊎ (b ≡ Exclusive)) ⊎ (((a ≡ Exclusive) ⊎ (b ≡ Exclusive)) → ⊥)
is-exclusive Exclusive b = inl (inl refl)
is-exclusive Shared Exclusive = inl (inr refl)
is-exclusive Shared Shared = inr (λ is. neither is)
  where
    neither : (Shared ≡ Exclusive) ⊎ (Shared ≡ Exclusive) → ⊥
    neither (inl is) = cc
    neither (inr is) = cc

conflicts : (a b : Lock) → Conflict a b ⊎ (Conflict a b → ⊥)
conflicts a b = go (a.range.fid == b.range.fid) refl (share-byte a.range b.range) (is-exclusive a.kind b.kind)
  where
    go : (t : Bool) → (a.range.fid == b.range.fid) ≡ t
        → ((byte : ℕ) × HasByte a.range byte × HasByte b.range byte) ⊎ (((byte : ℕ) × HasByte a.range byte × HasByte b.range byte) → ⊥)
        → ((a.kind ≡ Exclusive) ⊎ (b.kind ≡ Exclusive)) ⊎ (((a.kind ≡ Exclusive) ⊎ (b.kind ≡ Exclusive)) → ⊥) → Conflict a b ⊎ (Conflict a b → ⊥)
    go true is (inl share) (inl one) = inl ((eqb-true a.range.fid b.range.fid is, share), one)
    go true is (inl share) (inr none) = inr (λ c. none c.1)
    go true is (inr apart) one = inr (λ c. apart c.0.1)
    go false is share one = inr (λ c. (let z : (a.range.fid == b.range.fid) ≡ true = eq-eqb a.range.fid b.range.fid c.0.0 in cc))

bars : (o : Option Lock) (lock : Lock) → Bars o lock ⊎ (Bars o lock → ⊥)
bars None lock = inr (λ is. is)
bars (Some held) lock = conflicts held lock

abbrev pub IsOut : World → Actor → Lock → Actor → Type 0
IsOut w by lock other = same_actor other by ≡ false → Bars (w.agendas other).lock lock → ⊥

is-out : (w : World) (by : Actor) (lock : Lock) (other : Actor) (b : Bool) → same_actor other by ≡ b → Bars (w.agendas other).lock lock ⊎ (Bars (w.agendas other).lock lock → ⊥)
    → IsOut w by lock other ⊎ (IsOut w by lock other → ⊥)
is-out w by lock other true is decided = inl (λ apart. cc)
is-out w by lock other false is (inl barred) = inr (λ free. free is barred)
is-out w by lock other false is (inr free) = inl (λ apart. free)

both-out : (w : World) (by : Actor) (lock : Lock) (other : Actor) (more : List Actor) → IsOut w by lock other ⊎ (IsOut w by lock other → ⊥)
    → AllByRecursion (IsOut w by lock) more ⊎ (AllByRecursion (IsOut w by lock) more → ⊥)
    → AllByRecursion (IsOut w by lock) (other ∷ more) ⊎ (AllByRecursion (IsOut w by lock) (other ∷ more) → ⊥)
both-out w by lock other more (inl here) (inl rest) = inl (here, rest)
both-out w by lock other more (inl here) (inr none) = inr (λ all. none all.1)
both-out w by lock other more (inr none) rest = inr (λ all. none all.0)

all-out : (w : World) (by : Actor) (lock : Lock) (l : List Actor) → AllByRecursion (IsOut w by lock) l ⊎ (AllByRecursion (IsOut w by lock) l → ⊥)
all-out w by lock [] = inl tt
all-out w by lock (other ∷ more) =
    both-out w by lock other more (is-out w by lock other (same_actor other by) refl (bars (w.agendas other).lock lock)) (all-out w by lock more)

is-free : (w : World) (by : Actor) (lock : Lock) → IsFree w by lock ⊎ (IsFree w by lock → ⊥)
is-free w by lock = all-out w by lock actors

granted-or-not : (w : World) (by : Actor) (o : Option Lock) → (granted : Bool) × IsGranted w by o granted
granted-or-not w by None = (false, refl)
granted-or-not w by (Some lock) = go (is-free w by lock)
  where
    go : IsFree w by lock ⊎ (IsFree w by lock → ⊥) → (granted : Bool) × IsGranted w by (Some lock) granted
    go (inl free) = (true, (λ is. free, λ f. refl))
    go (inr busy) = (false, (λ is. cc, λ f. absurd (busy f)))

-- Each ask: one of a node is an actor's.

abbrev pub IsGoing : Ask → Type 0
IsGoing (AskNode n question) = IsOfActor question
IsGoing _ = Unit {0}

-- a message is lost where a line says so, and comes through otherwise
message-goes : (v : Volume) (w : World) (by : Actor) (s : Agenda) (n : ℕ) (question : NodeAsk) → IsOfActor question → (m : Option Bool) → s.miss ≡ m → (b : Bool) → goes_by_link question ≡ b
    → (next : World) × IsAskTurn v w by s (AskNode n question) next
message-goes v w by s n question ok None is b link =
    let g = node-goes (cells_of v n) (w.nodes n) by n question ok in
    (_, Through (g.0, g.1, record { given_is = g.2; event = g.3 }, subst (λ z. IsThrough z question) (sym is) tt, refl))
message-goes v w by s n question ok (Some planned) is false link =
    let g = node-goes (cells_of v n) (w.nodes n) by n question ok in
    (_, Through (g.0, g.1, record { given_is = g.2; event = g.3 }, subst (λ z. IsThrough z question) (sym is) link, refl))
message-goes v w by s n question ok (Some true) is true link =
    let g = node-goes (cells_of v n) (w.nodes n) by n question ok in
    (_, ReplyLost (g.0, g.1, record { given_is = g.2; event = g.3 }, subst (λ z. IsLost z question true) (sym is) (link, refl), refl))
message-goes v w by s n question ok (Some false) is true link = (_, RequestLost (subst (λ z. IsLost z question false) (sym is) (link, refl), refl))

pub goes-on : (v : Volume) (w : World) (by : Actor) (s : Agenda) (a : Ask) → IsGoing a → (next : World) × IsAskTurn v w by s a next
goes-on v w by s (AskExport c) ok = let x = export-goes by w.export c in (_, (x.0, x.1, refl))
goes-on v w by s (AskNode n question) ok = message-goes v w by s n question ok s.miss refl (goes_by_link question) refl
goes-on v w by s (AskLock path exclusive from count) ok =
    let c = call.Tree (tree.OpenFile path) in
    let x = export-goes by w.export c in
    let g = granted-or-not w by (lock_on (export_reply w.export c) exclusive from count) in
    (_, (x.0, x.1, g.0, g.1, refl))
goes-on v w by s (Say said) ok = (_, refl)
goes-on v w by s Rest ok = (_, refl)

-- what is proper is asked by an actor
going : (v : Volume) (f : Facts) (o run : List Event) (by : Actor) (number : ℕ) (a : Ask) → IsProper v f o run by number a → IsGoing a
going v f o run by number (AskExport c) is = tt
going v f o run by number (AskNode n question) is = is.2
going v f o run by number (AskLock path exclusive from count) is = tt
going v f o run by number (Say said) is = tt
going v f o run by number Rest is = tt

pub turns-on : (v : Volume) (old : List Event) (w : World) → IsFine v old w → (by : Actor) → IsSeated by → (next : World) × IsTurn v by w next
turns-on v old w fine by ok = go (working v old w fine by ok) (working v old w fine by ok).way
  where
    go : IsAtWork v (facts w.log) (of_actor by w.log) (of_actor by fine.run) by (at_work (w.agendas by)) → HasOwnEvents v by (at_work (w.agendas by)).number (of_actor by fine.run) (at_work (w.agendas by)).work
        → (next : World) × IsTurn v by w next
    go t (inl over) = (counted w, subst (λ z. IsAskTurn v (counted w) by (at_work (w.agendas by)) (ask_of v.layout z) (counted w)) (sym over) refl)
    go t (inr course) =
        goes-on v (counted w) by (at_work (w.agendas by)) (ask_of v.layout (at_work (w.agendas by)).work)
        (going v (facts w.log) (of_actor by w.log) (of_actor by fine.run) by (at_work (w.agendas by)).number (ask_of v.layout (at_work (w.agendas by)).work)
        (proper v (facts w.log) (of_actor by w.log) (of_actor by fine.run) by (at_work (w.agendas by)).number (at_work (w.agendas by)).work t.own course))
