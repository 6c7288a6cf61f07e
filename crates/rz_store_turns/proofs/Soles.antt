-- Who has no operation open.
use Rattle.std.proofs.Common.{ℕ, true, inl, inr, ◌≡◌, ◌+◌, ◌≤◌, List, [], ◌++◌, length, take, drop, refl, sym, ◌∙◌, ap, subst, arith, length-append}
use Rattle.std.proofs.lemmas.Bool.{cases_lt}
use Rattle.std.proofs.lemmas.List.{length-take, length-drop}
use Rattle.rz_events.specs.declared.keys.Actor.{Actor}
use Rattle.rz_events.specs.declared.keys.Actor.TheVariants.{Client, Rebuilder, Admin}
use Rattle.rz_events.specs.declared.operations.Operation.{Operation}
use Rattle.rz_events.specs.declared.operations.Operation.TheVariants as operation
use Rattle.rz_events.specs.declared.tree.TreeCall.TheVariants as call
use Rattle.rz_events.specs.declared.events.Event.{Event}
use Rattle.rz_events.specs.Volume.{Volume}
use Rattle.rz_core.specs.Courses.{does}
use Rattle.rz_operation_model.specs.Work.{Work, Over}
use Rattle.rz_operation.specs.Machine.{Machine, is_over}
use Rattle.mj_angles.specs.Layout.{max_bins_of}
use Rattle.rz_core.specs.History.{Facts, of_actor}
use Rattle.rz_core.specs.Own.{IsBetween}
use Rattle.rz_play_laws.specs.Own.{IsOwnOf}
use Rattle.rz_block_laws.specs.ActingLaws.{MayDo}
use Rattle.rz_chronicle.specs.Holds.{HasAllActors, Stays}
use Rattle.rz_chronicle.specs.Kinds.{HavePlaces, volume_in}
use Rattle.rz_chronicle.specs.Keys.{IsLater}
use Rattle.rz_chronicle.specs.Laws.{IsAddedAlone}
use Rattle.rz_chronicle.specs.Rules.{PassView}
use Rattle.rz_threads_steps.specs.Acted.{IsWorkRight}
use Rattle.rz_store_turns.specs.Sole.{HoldsAll, AreFree, IsTaken, IsSole, IsInHand, IsSameTurn, SoleView}
use Rattle.rz_store_turns.specs.Runs.{GoesAlone}

-- with the tokens of all actors in hand nothing was added while the pass was turned to another one
pub unmoved : (kind ks : List ℕ) (old new : List Event) → IsAddedAlone → HoldsAll ks → HavePlaces kind new → IsLater old new → Stays ks old new → new ≡ old
unmoved kind ks old new alone all places later stays = alone kind ks old new (λ a member. (all a member).0) places later stays

-- so the pass is as it was
pub same-pass : (p q : PassView) → (q.actor ≡ p.actor) × (q.keys ≡ p.keys) → q.log ≡ p.log → q ≡ p
same-pass p q same log =
    ap (λ (a : Actor). record { actor = a; log = q.log; keys = q.keys }) same.0
    ∙ ap (λ (ks : List ℕ). record { actor = p.actor; log = q.log; keys = ks }) same.1
    ∙ ap (λ (h : List Event). record { actor = p.actor; log = h; keys = p.keys }) log

-- at first nobody has one open
pub none-open : (client rebuilder : ℕ) → AreFree [] client rebuilder
none-open client rebuilder = record { clients = λ n low. tt; rebuilders = λ n low. tt }

pub one-taken : (h : List Event) (client rebuilder : ℕ) → AreFree h client rebuilder → AreFree h (client + 1) rebuilder
one-taken h client rebuilder free = record { clients = λ n low. free.clients n (omega (arith, low)); rebuilders = free.rebuilders }

-- what one client may do each one may
any-client : (n : ℕ) (op : Operation) → does (Client 1) op ≡ true → does (Client n) op ≡ true
any-client n (operation.Rebuild node) is = cc
any-client n (operation.Tree (call.OpenFile path)) is = cc
any-client n (operation.Tree (_)) is = refl
any-client n (_) is = refl

pub may-any : (v : Volume) (n : ℕ) (op : Operation) → MayDo v (Client 1) op → MayDo v (Client n) op
may-any v n op may = record { does_it = any-client n op may.does_it; takes = may.takes; of_volume = may.of_volume }

-- who is not taken has its events as they were

client-apart : (s : SoleView) (n : ℕ) → IsTaken s s.pass.actor → s.client ≤ n → ¬ (Client n ≡ s.pass.actor)
client-apart s n taken low same = (let next : n + 1 ≡ s.client = subst (IsTaken s) (sym same) taken in absurd (omega (arith, next, low)))

rebuilder-apart : (s : SoleView) (n : ℕ) → IsTaken s s.pass.actor → s.rebuilder ≤ n → ¬ (Rebuilder n ≡ s.pass.actor)
rebuilder-apart s n taken low same = (let next : n + 1 ≡ s.rebuilder = subst (IsTaken s) (sym same) taken in absurd (omega (arith, next, low)))

pub others-free : (s : SoleView) (new : PassView) → GoesAlone s.pass new → IsTaken s s.pass.actor → AreFree s.pass.log s.client s.rebuilder → AreFree new.log s.client s.rebuilder
others-free s new alone taken free = record {
  clients = λ n low. subst IsBetween (sym (alone.others (Client n) (client-apart s n taken low))) (free.clients n low);
  rebuilders = λ n low. subst IsBetween (sym (alone.others (Rebuilder n) (rebuilder-apart s n taken low))) (free.rebuilders n low);
}

-- the actor whose operation is over is free again

pub over-between : (v : Volume) (f : Facts) (own run : List Event) (by : Actor) (work : Work) → is_over work ≡ true → IsOwnOf v f own run by work → IsBetween run
over-between v f own run by Over over is = is
over-between v f own run by (_) over is = cc

pub client-back : (s : SoleView) (n : ℕ) → IsBetween (of_actor (Client n) s.pass.log) → n + 1 ≡ s.client → AreFree s.pass.log s.client s.rebuilder → AreFree s.pass.log n s.rebuilder
client-back s n between last free = record {
  clients = λ k low. elim (cases_lt n k) [
    | inl above ↦ free.clients k (omega (arith, above, last))
    | inr under ↦ (let same : n ≡ k = omega (arith, low, under) in subst (λ (i : ℕ). IsBetween (of_actor (Client i) s.pass.log)) same between)
  ];
  rebuilders = free.rebuilders;
}

pub rebuilder-back : (s : SoleView) (n : ℕ) → IsBetween (of_actor (Rebuilder n) s.pass.log) → n + 1 ≡ s.rebuilder → AreFree s.pass.log s.client s.rebuilder → AreFree s.pass.log s.client n
rebuilder-back s n between last free = record {
  clients = free.clients;
  rebuilders = λ k low. elim (cases_lt n k) [
    | inl above ↦ free.rebuilders k (omega (arith, above, last))
    | inr under ↦ (let same : n ≡ k = omega (arith, low, under) in subst (λ (i : ℕ). IsBetween (of_actor (Rebuilder i) s.pass.log)) same between)
  ];
}

-- A turn of an operation in hand.

pub all-actors : (ks : List ℕ) → HoldsAll ks → HasAllActors ks
all-actors ks all a member = (all a member).0

pub no-admin : (s : SoleView) → IsTaken s s.pass.actor → ¬ (s.pass.actor ≡ Admin)
no-admin s taken is = absurd (subst (IsTaken s) is taken)

pub sole-then : (kind : List ℕ) (earlier : List Event) (volume cluster : Volume) (s : SoleView) (new : PassView) (bins bins' : List ℕ) → GoesAlone s.pass new → IsTaken s s.pass.actor
    → max_bins_of (volume_in kind).layout ≤ length bins' → IsSole kind earlier volume cluster s bins
    → IsSole kind earlier volume cluster (record { pass = new; number = s.number; client = s.client; rebuilder = s.rebuilder }) bins'
sole-then kind earlier volume cluster s new bins bins' alone taken room is = record {
  volume_is = is.volume_is;
  cluster_is = is.cluster_is;
  tokens = subst HoldsAll (sym alone.keys) is.tokens;
  room = room;
  texts = is.texts;
  free = λ legal. others-free s new alone taken (is.free legal);
  clients = is.clients;
  rebuilders = is.rebuilders;
}

pub hand-then : (kind : List ℕ) (earlier : List Event) (s : SoleView) (new : PassView) (m m' : Machine) → IsInHand kind earlier s m → GoesAlone s.pass new → m'.layout ≡ m.layout
    → IsWorkRight kind earlier new s.number m' → IsInHand kind earlier (record { pass = new; number = s.number; client = s.client; rebuilder = s.rebuilder }) m'
hand-then kind earlier s new m m' hand alone layout right = record {
  taken = subst (IsTaken s) (sym alone.actor) hand.taken;
  layout = layout ∙ hand.layout;
  right = right;
}

pub same-turn : (s : SoleView) (new : PassView) (was : SoleView) → s ≡ was → GoesAlone s.pass new → IsSameTurn was (record { pass = new; number = s.number; client = s.client; rebuilder = s.rebuilder })
same-turn s new was is alone = record {
  actor = alone.actor ∙ ap (λ (z : SoleView). z.pass.actor) is;
  number = ap (λ (z : SoleView). z.number) is;
  client = ap (λ (z : SoleView). z.client) is;
  rebuilder = ap (λ (z : SoleView). z.rebuilder) is;
}

-- what contracts see of it is what it has inside
pub hand-inside : (kind : List ℕ) (earlier : List Event) (s was : SoleView) (m : Machine) → s ≡ was → IsInHand kind earlier was m → IsInHand kind earlier s m
hand-inside kind earlier s was m is hand = subst (λ (z : SoleView). IsInHand kind earlier z m) (sym is) hand

-- the room for a record stays
pub bins-room : (most size : ℕ) (new old : List ℕ) → size ≡ length old → most ≤ length old → most ≤ length (take size (new ++ drop (length new) old))
bins-room most size new old is low =
    let taken = length-take size (new ++ drop (length new) old) in
    let both = length-append new (drop (length new) old) in
    let rest = length-drop (length new) old in
    omega (arith, taken, both, rest, is, low)
