-- A call under the lock of a node: the log before it, its event, and the node after it.
use Rattle.std.proofs.Common.{◌≡◌, ◌<◌, ◌-◌, ◌^◌, ℕ, Bool, true, false, IsTrue, IfSome, List, [], ◌∷◌, ◌++◌, length, Option, Some, None, refl, sym, ap, ◌∙◌, subst, inl, inr}
use Rattle.rz_events.specs.Volume.{Volume}
use Rattle.rz_events.specs.declared.keys.Actor.{Actor}
use Rattle.rz_events.specs.declared.nodes.NodeAsk.{NodeAsk}
use Rattle.rz_events.specs.declared.nodes.NodeAnswer.{NodeAnswer}
use Rattle.rz_events.specs.declared.events.Word.TheVariants.{Node}
use Rattle.rz_events.specs.declared.events.Event.{Event}
use Rattle.rz_events.specs.Events.{by_of, word_of}
use Rattle.rz_node_model.specs.States.{NodeState}
use Rattle.rz_node_model.specs.Answers.{IsNodeAnswer}
use Rattle.rz_node_model.specs.Afterwards.{after_answer}
use Rattle.rz_node_model.specs.NodeEvents.{node_event}
use Rattle.rz_core.specs.History.{Facts, facts, of_word}
use Rattle.rz_core.specs.NodeRows.{cells_of, IsNodeOf}
use Rattle.rz_core.specs.Legal.{IsLegalAfter}
use Rattle.rz_core.specs.Tied.{IsNode, IsOpening}
use Rattle.rz_play.specs.Lines.{noted}
use Rattle.rz_node_laws.specs.Images.{IsImaged}
use Rattle.rz_node_laws.specs.Laws.{IsLongerLaw}
use Rattle.rz_chronicle.specs.Keys.{IsLater, IsOneOf, events_at, word_key, actor_key}
use Rattle.rz_chronicle.specs.Kinds.{keeps_legal, volume_in}
use Rattle.rz_shared_locked.specs.Adding.{AddsEvent, MayBeNext}
use Rattle.rz_shared_locked.specs.LockedNodes.{MayAsk, IsAskerRight, Answered}
use Rattle.rz_shared_locked.specs.declared.occupant.Occupant.{Occupant}
use Rattle.rz_shared_locked.specs.declared.occupant.Occupant.TheVariants.{Here, Away}
use Rattle.rz_shared_locked.specs.Occupants.{IsIn, AreImaged, IsBehindLock}
use Rattle.rz_shared_locked.specs.Laws.{IsLockedNodeKept, IsAllowedLater, IsAnswerLaw}
use Rattle.rz_shared_locked.proofs.Logs.{later-trans, later-event, adds-fewer}
use Rattle.rz_shared_locked.proofs.Behind.{later-behind}
use Rattle.rz_shared_locked.proofs.Events.{event-of, event-none}
use Rattle.rz_shared_locked.proofs.Lasting.{AreWordsKept}
use Rattle.rz_shared_locked.proofs.Meters.{noted-own}

pub if-some : {A : Type 0} (P : A → Type 0) (o : Option A) → ((x : A) → o ≡ Some x → P x) → IfSome o P
if-some P None all = tt
if-some P (Some x) all = all x refl

-- the whole log after an event goes on from the one before
pub later-noted : (h : List Event) (event : Option Event) → IsLater h (noted event h)
later-noted h None = ([], refl)
later-noted h (Some x) = later-event h x

pub later-adds : (ks : List ℕ) (old : List Event) (event : Option Event) (new : List Event) → AddsEvent ks old event new → IsLater old new
later-adds ks old event new adds =
    subst (IsLater old) (sym adds.last) (later-trans old adds.before (noted event adds.before) adds.later (later-noted adds.before event))

-- Who stands behind the lock, while the log grows by other events.

pub imaged-later : {D : Type 0} (image : D → List ℕ → Type 0) → IsLongerLaw image → (v : Volume) (earlier old new : List Event) (n : ℕ) (who : Occupant D) → IsLater old new
    → AreImaged image v (facts (old ++ earlier)) n who → AreImaged image v (facts (new ++ earlier)) n who
imaged-later image longer v earlier old new n (Here node) later imaged =
    subst (λ (g : List Event). IsImaged v (facts g) n node.state node.geometry (image node.disk)) (sym (later-behind old new earlier later))
    (longer v (old ++ earlier) later.0 n node.geometry node.state node.disk imaged)
imaged-later image longer v earlier old new n (Away a) later imaged = tt

pub behind-later : {D : Type 0} (tells : Bool) (image : D → List ℕ → Type 0) (kind : List ℕ) (earlier : List Event) (n : ℕ) (who : Occupant D) (old new : List Event) → IsLockedNodeKept (volume_in kind) → IsLongerLaw image
    → (IsTrue (keeps_legal kind) → IsLegalAfter (volume_in kind) earlier old) → IsLater old new → events_at (word_key (Node n)) new ≡ events_at (word_key (Node n)) old
    → IsBehindLock tells image kind (old ++ earlier) n who → IsBehindLock tells image kind (new ++ earlier) n who
behind-later tells image kind earlier n who old new kept longer fit later same it = record {
  state = it.state;
  is_in = it.is_in;
  tied = λ keeps. kept earlier old new n it.state (fit keeps) later same (it.tied keeps);
  imaged = λ keeps. ((it.imaged keeps).0, imaged-later image longer (volume_in kind) earlier old new n who later (it.imaged keeps).1);
}

-- What is known once a node has answered: `h` is the log that the pass and the locked node have seen.
pub record Served (kind : List ℕ) (earlier h : List Event) (by : Actor) (n : ℕ) (question : NodeAsk) (given : NodeAnswer) (s : NodeState) : Type 0 where
  pub of_volume : IsNodeOf (volume_in kind) n
  pub asker : IsAskerRight by question
  pub fit : IsTrue (keeps_legal kind) → IsLegalAfter (volume_in kind) earlier h
  pub tied : IsTrue (keeps_legal kind) → IsNode (facts (h ++ earlier)) (of_word (Node n) (h ++ earlier)) s
  pub room : length (of_word (Node n) (h ++ earlier)) < 2 ^ 64 - 1
  pub right : IsNodeAnswer (cells_of (volume_in kind) n) s question given
  pub opening : IsTrue (keeps_legal kind) → IsOpening given

module _ (kind : List ℕ) (earlier h : List Event) (by : Actor) (n : ℕ) (question : NodeAsk) (given : NodeAnswer) (s : NodeState) (bins : List ℕ) (answers : IsAnswerLaw (volume_in kind)) (it : Served kind earlier h by n question given s)
    (may : IsTrue (keeps_legal kind) → MayAsk (volume_in kind) (h ++ earlier) by n question bins) where
  pub step-of : (x : Event) → node_event by n question given ≡ Some x → IsTrue (keeps_legal kind) → IsAllowedLater (volume_in kind) earlier h by n x (after_answer question given s)
  step-of x is keeps = answers earlier h by n question s given x (record { legal = it.fit keeps; of_volume = it.of_volume; tied = it.tied keeps; room = it.room }) (may keeps).proper it.right (it.opening keeps) is

  -- the event may be added
  pub its-event : IfSome (node_event by n question given) (λ x. (word_of x ≡ Node n) × (by_of x ≡ by))
  its-event = if-some (λ x. (word_of x ≡ Node n) × (by_of x ≡ by)) (node_event by n question given) (λ x is. (let of = event-of by n question given x it.asker is in of))

  pub may-come : IfSome (node_event by n question given) (λ x. MayBeNext kind earlier h x)
  may-come = if-some (λ x. MayBeNext kind earlier h x) (node_event by n question given) (λ x is keeps. (step-of x is keeps).allowed)

  module _ (kept : IsLockedNodeKept (volume_in kind)) (ks : List ℕ) (new : List Event) (adds : AddsEvent (word_key (Node n) ∷ ks) h (node_event by n question given) new) (own : IsOneOf (actor_key by) ks)
      (fit : IsTrue (keeps_legal kind) → IsLegalAfter (volume_in kind) earlier new) where
    same-word : events_at (word_key (Node n)) adds.before ≡ events_at (word_key (Node n)) h
    same-word = adds.stays (word_key (Node n)) (inl refl)

    -- just before the event the node is still in its state
    before-tied : IsTrue (keeps_legal kind) → IsNode (facts (adds.before ++ earlier)) (of_word (Node n) (adds.before ++ earlier)) s
    before-tied keeps = kept earlier h adds.before n s (it.fit keeps) adds.later same-word (it.tied keeps)

    pub tied-after : IsTrue (keeps_legal kind) → IsNode (facts (new ++ earlier)) (of_word (Node n) (new ++ earlier)) (after_answer question given s)
    tied-after keeps = go (node_event by n question given) refl adds.last
      where
        go : (o : Option Event) → node_event by n question given ≡ o → new ≡ noted o adds.before → IsNode (facts (new ++ earlier)) (of_word (Node n) (new ++ earlier)) (after_answer question given s)
        go None is last = subst (IsNode (facts (new ++ earlier)) (of_word (Node n) (new ++ earlier))) (sym (event-none by n (cells_of (volume_in kind) n) question given s it.right is))
            (subst (λ (g : List Event). IsNode (facts (g ++ earlier)) (of_word (Node n) (g ++ earlier)) s) (sym last) (before-tied keeps))
        go (Some x) is last = subst (λ (g : List Event). IsNode (facts (g ++ earlier)) (of_word (Node n) (g ++ earlier)) (after_answer question given s)) (sym last)
            ((step-of x is keeps).tied adds.before adds.later same-word (adds.stays (actor_key by) (inr own)) (subst (IsLegalAfter (volume_in kind) earlier) last (fit keeps)))

    pub answered : Answered kind earlier n question given (node_event by n question given) ks h new
    answered = record {
      adds = adds-fewer (word_key (Node n)) ks h new (node_event by n question given) adds;
      right = record { state = s; is = it.right; tied = before-tied; opening = it.opening };
    }

    -- who stands there then is in the state that the log gives
    pub behind-after : {D : Type 0} (tells : Bool) (image : D → List ℕ → Type 0) → IsLongerLaw image → (was after : Occupant D) → IsIn was s → (IsTrue (keeps_legal kind) → IsTrue tells)
        → (IsTrue tells → IsIn was s → IsIn after (after_answer question given s)) → (IsIn was s → (t : NodeState) × IsIn after t)
        → (IsTrue (keeps_legal kind) → AreImaged image (volume_in kind) (facts (h ++ earlier)) n after) → IsBehindLock tells image kind (new ++ earlier) n after
    behind-after tells image longer was after is_in telling goes some imaged = go (keeps_legal kind) refl
      where
        later : IsLater h new
        later = later-adds (word_key (Node n) ∷ ks) h (node_event by n question given) new adds

        go : (b : Bool) → keeps_legal kind ≡ b → IsBehindLock tells image kind (new ++ earlier) n after
        go true keeps = record {
          state = after_answer question given s;
          is_in = goes (telling keeps) is_in;
          tied = tied-after;
          imaged = λ there. (telling there, imaged-later image longer (volume_in kind) earlier h new n after later (imaged there));
        }
        go false not = record {
          state = (some is_in).0;
          is_in = (some is_in).1;
          tied = λ there. absurd (cc);
          imaged = λ there. absurd (cc);
        }

-- A fuse that was armed leaves who stands there as the log gives him.
pub armed-behind : {D : Type 0} (tells : Bool) (image : D → List ℕ → Type 0) (kind : List ℕ) (earlier h : List Event) (by : Actor) (n : ℕ) (x : Event) (was after : Occupant D) → IsLongerLaw image
    → (it : IsBehindLock tells image kind (h ++ earlier) n was) → (IsTrue (keeps_legal kind) → IsAllowedLater (volume_in kind) earlier h by n x it.state) → ((s : NodeState) → IsIn was s → IsIn after s)
    → ((f : Facts) → AreImaged image (volume_in kind) f n was → AreImaged image (volume_in kind) f n after) → (ks : List ℕ) (new : List Event) → AddsEvent (word_key (Node n) ∷ ks) h (Some x) new
    → IsOneOf (actor_key by) ks → (IsTrue (keeps_legal kind) → IsLegalAfter (volume_in kind) earlier new) → IsBehindLock tells image kind (new ++ earlier) n after
armed-behind tells image kind earlier h by n x was after longer it step state imaged ks new adds own legal =
    let later = later-adds (word_key (Node n) ∷ ks) h (Some x) new adds in record {
      state = it.state;
      is_in = state it.state it.is_in;
      tied = λ keeps. subst (λ (g : List Event). IsNode (facts (g ++ earlier)) (of_word (Node n) (g ++ earlier)) it.state) (sym adds.last)
          ((step keeps).tied adds.before adds.later (adds.stays (word_key (Node n)) (inl refl)) (adds.stays (actor_key by) (inr own)) (subst (IsLegalAfter (volume_in kind) earlier) adds.last (legal keeps)));
      imaged = λ keeps. ((it.imaged keeps).0, imaged-later image longer (volume_in kind) earlier h new n after later (imaged (facts (h ++ earlier)) (it.imaged keeps).1));
    }

-- The word of a node after an event of it.

some-part : {A : Type 0} (P Q : A → Type 0) (o : Option A) → IfSome o (λ x. P x × Q x) → IfSome o P
some-part P Q None all = tt
some-part P Q (Some x) all = all.0

pub word-after : AreWordsKept → (by : Actor) (n : ℕ) (ks : List ℕ) (l h new : List Event) (event : Option Event) → l ≡ h → AddsEvent (word_key (Node n) ∷ ks) h event new → IfSome event (λ x. (word_of x ≡ Node n) × (by_of x ≡ by))
    → of_word (Node n) new ≡ noted event (of_word (Node n) l)
word-after words by n ks l h new event same adds own =
    ap (of_word (Node n)) adds.last ∙ noted-own n event adds.before (some-part (λ x. word_of x ≡ Node n) (λ x. by_of x ≡ by) event own)
    ∙ ap (noted event) (words (Node n) adds.before h (adds.stays (word_key (Node n)) (inl refl)) ∙ ap (of_word (Node n)) (sym same))
