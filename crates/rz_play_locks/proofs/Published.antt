-- What is published stays published until the key is published again.
use Rattle.std.proofs.Common.{◌≡◌, ◌⊎◌, inl, inr, ◌≤◌, ◌&&◌, ℕ, Bool, true, false, cond, List, [], ◌∷◌, ◌++◌, length, Option, Some, None, refl, sym, ◌∙◌, ap, subst, arith}
use Rattle.std.specs.List.{AllByRecursion}
use Rattle.mj_angles.specs.Layout.{block_bytes_of}
use Rattle.rz_events.specs.Volume.{Volume}
use Rattle.rz_events.specs.declared.keys.Actor.{Actor}
use Rattle.rz_events.specs.declared.keys.Key.{Key}
use Rattle.rz_events.specs.declared.export.Call.TheVariants as call
use Rattle.rz_events.specs.declared.tree.TreeCall.TheVariants as tree
use Rattle.rz_events.specs.declared.nodes.NodeAsk.{NodeAsk}
use Rattle.rz_events.specs.declared.events.Word.TheVariants.{Export, Node}
use Rattle.rz_events.specs.declared.events.Event.{Event}
use Rattle.rz_events.specs.declared.events.Event.TheVariants as e
use Rattle.rz_events.specs.Events.{by_of, word_of, same_key}
use Rattle.rz_core.specs.History.{Facts, facts, of_word, text_in}
use Rattle.rz_core.specs.Legal.{IsLegalInRuns}
use Rattle.rz_core.specs.ExportWord.{accepted, is_newer}
use Rattle.rz_core.proofs.Stamps.{accepted-begun, same_key-true}
use Rattle.rz_core.proofs.Extends.{wrote-more}
use Rattle.rz_operation_model.specs.Ask.{Ask, AskExport, AskNode, AskLock, Say, Rest, Saying, SayGot, SayGave, SayLeft, SayDone}
use Rattle.rz_operation_model.specs.Steps.{Told}
use Rattle.rz_operation_model.specs.Turns.{IsStep, IsNodeStep, said_event}
use Rattle.rz_play_laws.specs.Own.{IsProper, IsOfActor}
use Rattle.rz_play_laws.proofs.Steps.{export-step, node-step, lock-step, say-step}
use Rattle.rz_play_laws.proofs.Events.{export-event, node-event}
use Rattle.rz_play_laws.proofs.Telling.{wrote-short}
use Rattle.rz_play_locks.specs.Promises.{text_of, published_text}

-- the event publishes the key
abbrev pub publishes : Key → Event → Bool
publishes key (e.Publish by at s mask None) = same_key key at
publishes key _ = false

abbrev pub AreSilent : Key → List Event → Type 0
AreSilent key xs = AllByRecursion (λ x. publishes key x ≡ false) xs

accepted-one : (x : Event) (h : List Event) (key : Key) → publishes key x ≡ false → accepted (of_word Export (x ∷ h)) key ≡ accepted (of_word Export h) key
accepted-one (e.Publish by at s mask None) h key is =
    ap (λ b. cond (b && is_newer s (accepted (of_word Export h) key)) (Some (s, mask)) (accepted (of_word Export h) key)) is
accepted-one (e.Publish by at s mask (Some refused)) h key is = refl
accepted-one (_) h key is = refl

pub accepted-same : (xs h : List Event) (key : Key) → AreSilent key xs → accepted (of_word Export (xs ++ h)) key ≡ accepted (of_word Export h) key
accepted-same [] h key all = refl
accepted-same (x ∷ xs) h key all = accepted-one x (xs ++ h) key all.0 ∙ accepted-same xs h key all.1

pub text-same : (v : Volume) (xs h : List Event) (key : Key) → IsLegalInRuns v h → accepted (of_word Export (xs ++ h)) key ≡ accepted (of_word Export h) key
    → published_text (xs ++ h) key ≡ published_text h key
text-same v xs h key legal same = ap (text_of (facts (xs ++ h))) same ∙ go (accepted (of_word Export h) key) refl
  where
    go : (a : Option (ℕ × ℕ)) → accepted (of_word Export h) key ≡ a → text_of (facts (xs ++ h)) a ≡ text_of (facts h) a
    go None is = refl
    go (Some a) is =
        let b = accepted-begun v h legal key a is in
        ap text_in (wrote-more xs h a.0 b.0 b.1 ∙ sym b.1)

pub text-short : (v : Volume) (h : List Event) (key : Key) → IsLegalInRuns v h → length (published_text h key) ≤ block_bytes_of v.layout
text-short v h key legal = go (accepted (of_word Export h) key) refl
  where
    go : (a : Option (ℕ × ℕ)) → accepted (of_word Export h) key ≡ a → length (text_of (facts h) a) ≤ block_bytes_of v.layout
    go None is = omega arith
    go (Some a) is =
        let b = accepted-begun v h legal key a is in
        subst (λ z. length (text_in z) ≤ block_bytes_of v.layout) (sym b.1) (wrote-short v h legal a.0 b.0 b.1)

-- A turn publishes the key, by this actor, or does not.
pub record IsPublished (by : Actor) (key : Key) (xs : List Event) : Type 0 where
  pub stamp : ℕ
  pub mask : ℕ
  pub is : xs ≡ e.Publish by key stamp mask None ∷ []

abbrev pub MayPublish : Actor → Key → List Event → Type 0
MayPublish by key xs = AreSilent key xs ⊎ IsPublished by key xs

node-silent : (x : Event) (key : Key) (n : ℕ) → word_of x ≡ Node n → publishes key x ≡ false
node-silent (e.Publish by at s mask refused) key n is = cc
node-silent (_) key n is = refl

-- a node's events publish nothing
pub node-quiet : (by : Actor) (n : ℕ) (question : NodeAsk) (key : Key) → IsOfActor question → (t : Told) (xs : List Event) → IsNodeStep by n question t xs → AreSilent key xs
node-quiet by n question key ok t xs step =
    node-step by n question (λ t xs. AreSilent key xs)
    (λ given x is. (node-silent x key n (node-event by n question given x ok is).word_is, tt))
    (λ given x is link. (refl, (node-silent x key n (node-event by n question given x ok is).word_is, tt)))
    (λ link. (refl, tt)) t xs step

one-published : (by : Actor) (key : Key) (x : Event) → by_of x ≡ by → MayPublish by key (x ∷ [])
one-published by key (e.Publish b at s mask None) by_is = go (same_key key at) refl
  where
    go : (t : Bool) → same_key key at ≡ t → MayPublish by key (e.Publish b at s mask None ∷ [])
    go true is = inr (record { stamp = s; mask = mask; is = ap (λ (k : Key). e.Publish b k s mask None ∷ []) (sym (same_key-true key at is)) ∙ ap (λ (z : Actor). e.Publish z key s mask None ∷ []) by_is })
    go false is = inl (is, tt)
one-published by key (e.Publish b at s mask (Some refused)) by_is = inl (refl, tt)
one-published by key (_) by_is = inl (refl, tt)

pub may-publish : (v : Volume) (f : Facts) (o run : List Event) (by : Actor) (number : ℕ) (key : Key) (a : Ask) → IsProper v f o run by number a → (t : Told) (xs : List Event) → IsStep by number a t xs → MayPublish by key xs
may-publish v f o run by number key (AskExport c) ok t xs step = export-step by c (λ t xs. MayPublish by key xs) (λ r x is. one-published by key x (export-event by c r x is).by_is) t xs step
may-publish v f o run by number key (AskNode n question) ok t xs step =
    node-step by n question (λ t xs. MayPublish by key xs)
    (λ given x is. inl (node-silent x key n (node-event by n question given x ok.2 is).word_is, tt))
    (λ given x is link. inl (refl, (node-silent x key n (node-event by n question given x ok.2 is).word_is, tt)))
    (λ link. inl (refl, tt)) t xs step
may-publish v f o run by number key (AskLock path exclusive from count) ok t xs step =
    lock-step by path (λ t xs. MayPublish by key xs) (λ granted r x is. one-published by key x (export-event by (call.Tree (tree.OpenFile path)) r x is).by_is) t xs step
may-publish v f o run by number key (Say said) ok t xs step = say-step by number said (λ t xs. MayPublish by key xs) (λ text. inl (silent said text, tt)) t xs step
  where
    silent : (said : Saying) (text : List ℕ) → publishes key (said_event by number text said) ≡ false
    silent (SayGot k part m) text = refl
    silent (SayGave k part end) text = refl
    silent (SayLeft k why) text = refl
    silent (SayDone answer) text = refl
may-publish v f o run by number key Rest ok t xs step = absurd step
