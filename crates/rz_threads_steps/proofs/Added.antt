-- What a call adds to the own events of an actor.
use Rattle.std.proofs.Common.{◌≡◌, ◌≢◌, ◌+◌, ℕ, Bool, true, false, cond, IsTrue, List, [], ◌∷◌, ◌++◌, length, Option, Some, None, refl, sym, ◌∙◌, ap, subst, arith}
use Rattle.std.specs.Prelude.{IfSome}
use Rattle.std.proofs.lemmas.List.Sums.{sum_by-cons}
use Rattle.rz_events.specs.declared.keys.Actor.{Actor}
use Rattle.rz_events.specs.declared.keys.Actor.TheVariants.{Admin}
use Rattle.rz_events.specs.declared.nodes.NodeAsk.{NodeAsk}
use Rattle.rz_events.specs.declared.nodes.NodeAsk.TheVariants as ask
use Rattle.rz_events.specs.declared.events.Word.{Word}
use Rattle.rz_events.specs.declared.events.Word.TheVariants.{Export, Node, Own}
use Rattle.rz_events.specs.declared.events.Event.{Event}
use Rattle.rz_events.specs.declared.events.Event.TheVariants as e
use Rattle.rz_events.specs.Events.{by_of, word_of}
use Rattle.rz_events.specs.declared.export.Call.{Call}
use Rattle.rz_events.specs.declared.export.Reply.{Reply}
use Rattle.rz_export_model.specs.ExportEvents.{export_event}
use Rattle.rz_operation.specs.Answers.{IsReplyTo}
use Rattle.rz_core.specs.History.{facts, of_actor}
use Rattle.rz_core.specs.Legal.{IsLegalInRuns}
use Rattle.rz_core.specs.Longer.{IsNextRun}
use Rattle.rz_operation_model.specs.Ask.{Saying, SayGot, SayGave, SayLeft, SayDone}
use Rattle.rz_operation_model.specs.Turns.{said_event}
use Rattle.rz_play.specs.Faults.{is_missed, missed}
use Rattle.rz_play.specs.Lines.{noted}
use Rattle.rz_play_laws.specs.Own.{IsToldBy, IsOfActor}
use Rattle.rz_play_laws.specs.Fine.{IsTelling}
use Rattle.rz_play_laws.proofs.Events.{export-event}
use Rattle.rz_play_laws.proofs.Frames.{of_actor-mine}
use Rattle.rz_block_laws.specs.Laws.{IsRepliedLaw}
use Rattle.rz_chronicle.specs.Keys.{IsOneOf, touches, count_at, events_at, actor_key, word_key}
use Rattle.rz_chronicle.specs.Kinds.{Fits, HasEarlierLog, HavePlaces, keeps_legal, volume_in}
use Rattle.rz_chronicle.specs.Holds.{Commits}
use Rattle.rz_chronicle.specs.Laws.{IsAddedAlone, IsOneRule}
use Rattle.rz_chronicle.specs.Rules.{PassView}
use Rattle.rz_chronicle.proofs.Keys.{touches-other}
use Rattle.rz_shared_locked.specs.Adding.{AddsEvent}
use Rattle.rz_shared_locked.specs.LockedNodes.{IsAskerRight}
use Rattle.rz_threads_steps.specs.Adding.{AddsOwn}

abbrev pub AreKept : Type 0
AreKept = (a : Actor) (h g : List Event) → events_at (actor_key a) h ≡ events_at (actor_key a) g → of_actor a h ≡ of_actor a g

-- What is known of a pass before and after an act.
pub record Knows (kind : List ℕ) (earlier : List Event) (old new : PassView) : Type 0 where
  pub kept : AreKept
  pub telling : IsTelling (volume_in kind)
  pub rule : IsOneRule
  pub next : IsNextRun (volume_in kind)
  pub alone : IsAddedAlone
  pub mine : IsOneOf (actor_key old.actor) old.keys
  pub same : (new.actor ≡ old.actor) × (new.keys ≡ old.keys)
  pub has : HasEarlierLog kind earlier
  pub fits : Fits kind new.log
  pub places : HavePlaces kind new.log

module _ (kind : List ℕ) (earlier : List Event) (old new : PassView) (k : Knows kind earlier old new) where
  legal : IsTrue (keeps_legal kind) → IsLegalInRuns (volume_in kind) (new.log ++ earlier)
  legal keeps = k.next earlier new.log (k.rule.legal kind earlier new.log k.has keeps k.fits)

  -- an event was added
  one-more : (x : Event) → by_of x ≡ old.actor → AddsEvent old.keys old.log (Some x) new.log → AddsOwn kind earlier old (Some x) new
  one-more x by_is it = record {
    lasts = record { actor = k.same.0; keys = k.same.1; later = (x ∷ it.later.0, it.last ∙ ap (λ (h : List Event). x ∷ h) it.later.1) };
    own = ap (of_actor old.actor) it.last ∙ of_actor-mine old.actor (x ∷ []) it.before (by_is, tt) ∙ ap (λ (h : List Event). x ∷ h) (k.kept old.actor it.before old.log (it.stays (actor_key old.actor) k.mine));
    alone = λ all. it.last ∙ ap (λ (h : List Event). x ∷ h) (k.alone kind old.keys old.log it.before all (subst (HavePlaces kind) it.last k.places).1 it.later it.stays);
    said = λ keeps. subst (λ (h : List Event). IsToldBy (volume_in kind) (facts (h ++ earlier)) x) (sym it.last)
        (k.telling (it.before ++ earlier) x (subst (λ (h : List Event). IsLegalInRuns (volume_in kind) (h ++ earlier)) it.last (legal keeps)));
  }

  -- none was
  none-more : AddsEvent old.keys old.log None new.log → AddsOwn kind earlier old None new
  none-more it = record {
    lasts = record { actor = k.same.0; keys = k.same.1; later = (it.later.0, it.last ∙ it.later.1) };
    own = ap (of_actor old.actor) it.last ∙ k.kept old.actor it.before old.log (it.stays (actor_key old.actor) k.mine);
    alone = λ all. it.last ∙ k.alone kind old.keys old.log it.before all (subst (HavePlaces kind) it.last k.places) it.later it.stays;
    said = λ keeps. tt;
  }

  pub adds-own : (event : Option Event) → ((x : Event) → event ≡ Some x → by_of x ≡ old.actor) → AddsEvent old.keys old.log event new.log → AddsOwn kind earlier old event new
  adds-own (Some x) mine it = one-more x (mine x refl) it
  adds-own None mine it = none-more it

  -- a reply whose event was added belongs to its call
  pub replied-as : IsRepliedLaw (volume_in kind) → (c : Call) (r : Reply) → AddsEvent old.keys old.log (export_event old.actor c r) new.log → IsTrue (keeps_legal kind)
      → IfSome (export_event old.actor c r) (λ x. IsReplyTo (volume_in kind).layout c r)
  replied-as replied c r it keeps = go (export_event old.actor c r) refl it
    where
      go : (o : Option Event) → export_event old.actor c r ≡ o → AddsEvent old.keys old.log o new.log → IfSome o (λ x. IsReplyTo (volume_in kind).layout c r)
      go None is it = tt
      go (Some x) is it = replied (it.before ++ earlier) old.actor c r x (subst (λ (h : List Event). IsLegalInRuns (volume_in kind) (h ++ earlier)) it.last (legal keeps)) is

  pub commits-own : (x : Event) → by_of x ≡ old.actor → Commits old.keys old.log x new.log → AddsOwn kind earlier old (Some x) new
  commits-own x by_is it = one-more x by_is (record { before = it.before; later = it.later; stays = it.stays; last = it.last })

-- The actor's own word does not move with an event of a node.

pub count-length : (k : ℕ) (xs : List Event) → count_at k xs ≡ length (events_at k xs)
count-length k [] = refl
count-length k (x ∷ xs) = sum_by-cons (λ (e : Event). cond (touches k e) 1 0) x xs ∙ go (touches k x) (count-length k xs)
  where
    go : (b : Bool) → count_at k xs ≡ length (events_at k xs) → cond b 1 0 + count_at k xs ≡ length (cond b (x ∷ events_at k xs) (events_at k xs))
    go true rest = omega (arith, rest)
    go false rest = omega (arith, rest)

count-same : (k : ℕ) (xs ys : List Event) → events_at k xs ≡ events_at k ys → count_at k xs ≡ count_at k ys
count-same k xs ys same = count-length k xs ∙ ap (λ (es : List Event). length es) same ∙ sym (count-length k ys)

count-other : (by : Actor) (n : ℕ) (x : Event) (h : List Event) → word_of x ≡ Node n → count_at (word_key (Own by)) (x ∷ h) ≡ count_at (word_key (Own by)) h
count-other by n x h is =
    let k = word_key (Own by) in
    let away : word_key (Own by) ≢ word_key (word_of x) = subst (λ (w : Word). word_key (Own by) ≢ word_key w) (sym is) (λ same. omega (arith, same)) in
    let c = sum_by-cons (λ (e : Event). cond (touches k e) 1 0) x h in
    let z : ◌≡◌ {A = ℕ} (cond (touches k x) 1 0) 0 = ap (λ b. cond {A = ℕ} b 1 0) (touches-other (Own by) x away) in
    omega (arith, c, z)

pub node-moves : (by : Actor) (n : ℕ) (ks : List ℕ) (old : List Event) (event : Option Event) (new : List Event) → IsOneOf (word_key (Own by)) ks → ((x : Event) → event ≡ Some x → word_of x ≡ Node n) → AddsEvent ks old event new
    → count_at (word_key (Own by)) new ≡ count_at (word_key (Own by)) old
node-moves by n ks old (Some x) new has word it =
    ap (count_at (word_key (Own by))) it.last ∙ count-other by n x it.before (word x refl) ∙ count-same (word_key (Own by)) it.before old (it.stays (word_key (Own by)) has)
node-moves by n ks old None new has word it = ap (count_at (word_key (Own by))) it.last ∙ count-same (word_key (Own by)) it.before old (it.stays (word_key (Own by)) has)

-- Events that are no loss.

quiet-count : (x : Event) (h : List Event) → is_missed x ≡ false → missed (x ∷ h) ≡ missed h
quiet-count x h quiet =
    let c = sum_by-cons (λ (y : Event). cond (is_missed y) 1 0) x h in
    let z : ◌≡◌ {A = ℕ} (cond (is_missed x) 1 0) 0 = ap (λ b. cond {A = ℕ} b 1 0) quiet in
    omega (arith, c, z)

pub lost-count : (by : Actor) (n : ℕ) (reply : Bool) (h : List Event) → missed (e.Missed by n reply ∷ h) ≡ missed h + 1
lost-count by n reply h = let c = sum_by-cons (λ (y : Event). cond (is_missed y) 1 0) (e.Missed by n reply) h in omega (arith, c)

pub noted-quiet : (event : Option Event) (h : List Event) → ((x : Event) → event ≡ Some x → is_missed x ≡ false) → missed (noted event h) ≡ missed h
noted-quiet (Some x) h quiet = quiet-count x h (quiet x refl)
noted-quiet None h quiet = refl

export-quiet : (x : Event) → word_of x ≡ Export → is_missed x ≡ false
export-quiet (e.Missed by n reply) is = cc
export-quiet (_) is = refl

pub export-same : (kind : List ℕ) (earlier : List Event) (p q : PassView) (c : Call) (r : Reply) → AddsOwn kind earlier p (export_event p.actor c r) q → missed (of_actor p.actor q.log) ≡ missed (of_actor p.actor p.log)
export-same kind earlier p q c r adds =
    ap missed adds.own ∙ noted-quiet (export_event p.actor c r) (of_actor p.actor p.log) (λ x is. export-quiet x (export-event p.actor c r x is).word_is)

pub node-quiet : (x : Event) (n : ℕ) → word_of x ≡ Node n → is_missed x ≡ false
node-quiet (e.Missed by m reply) n is = cc
node-quiet (_) n is = refl

-- what an actor asks of a node, the administrator does not
pub for-actor : (by : Actor) (question : NodeAsk) → ¬ (by ≡ Admin) → IsOfActor question → IsAskerRight by question
for-actor by (ask.Keep head) other of = other
for-actor by (ask.Fetch key position stamp) other of = other
for-actor by (ask.Refill fence head) other of = other
for-actor by (ask.Drop fid) other of = other
for-actor by ask.Probe other of = other
for-actor by (ask.Replace loss fence) other of = other
for-actor by ask.Stop other of = absurd of
for-actor by ask.Start other of = absurd of
for-actor by ask.Lose other of = absurd of

-- a word of an operation is no loss
pub word-quiet : (by : Actor) (number : ℕ) (text : List ℕ) (said : Saying) (x y : Event) → x ≡ said_event by number text said → Some x ≡ Some y → is_missed y ≡ false
word-quiet by number text said x y is same = let at : x ≡ y = cc (same) in subst (λ (z : Event). is_missed z ≡ false) (sym is ∙ at) (said-quiet said)
  where
    said-quiet : (said : Saying) → is_missed (said_event by number text said) ≡ false
    said-quiet (SayGot key part mark) = refl
    said-quiet (SayGave key part end) = refl
    said-quiet (SayLeft key why) = refl
    said-quiet (SayDone answer) = refl
