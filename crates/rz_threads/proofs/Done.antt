-- What the administrator did, beside others who go on.
use Rattle.std.proofs.Common.{ℕ, true, false, ◌≡◌, ◌≢◌, ◌+◌, ◌<◌, List, [], ◌∷◌, ◌++◌, Option, Some, None, length, get_or, take, drop, refl, sym, subst, ap, ◌∙◌, take-append-drop}
use Rattle.std.proofs.lemmas.List.{take_more}
use Rattle.rz_events.specs.declared.keys.Actor.TheVariants.{Admin}
use Rattle.rz_events.specs.declared.nodes.NodeAsk.{NodeAsk}
use Rattle.rz_events.specs.declared.nodes.NodeAsk.TheVariants as ask
use Rattle.rz_events.specs.declared.nodes.NodeAnswer.{NodeAnswer}
use Rattle.rz_events.specs.declared.nodes.NodeAnswer.TheVariants as answer
use Rattle.rz_events.specs.declared.nodes.StartAnswer.TheVariants as start
use Rattle.rz_events.specs.declared.events.Word.TheVariants.{Node}
use Rattle.rz_events.specs.declared.events.Event.{Event}
use Rattle.rz_events.specs.declared.events.Event.TheVariants as e
use Rattle.rz_node_model.specs.NodeEvents.{node_event}
use Rattle.rz_core.specs.History.{facts, of_word}
use Rattle.rz_core.specs.Tied.{IsNode}
use Rattle.rz_script.specs.declared.line.Line.{Line}
use Rattle.rz_script.specs.declared.line.Line.TheVariants as line
use Rattle.rz_play.specs.Lines.{noted}
use Rattle.rz_chronicle.specs.Keys.{IsLater, IsOneOf, actor_key}
use Rattle.rz_chronicle.specs.Holds.{Stays}
use Rattle.rz_chronicle.proofs.Settling.{later-still}
use Rattle.rz_shared_locked.proofs.Behind.{alone, honest-keeps}
use Rattle.rz_shared_locked.specs.LockedNodes.{Answered, IsAnswerAt, IsAskerRight}
use Rattle.rz_threads_steps.proofs.Added.{AreKept}
use Rattle.rz_threads.specs.Orders.{IsAdminAsk, is_want, Waits, IsOrderAnswered, IsNodeCalled, IsArmingDone, IsLineDone, AreDone, AreLinesBegun}

-- Waiting.

pub waits-none : (h : List Event) → Waits h h
waits-none h = record { later = ([], refl); own = refl }

pub waits-on : (a b c : List Event) → Waits a b → Waits b c → Waits a c
waits-on a b c p q = record { later = later-still a b c p.later q.later; own = q.own ∙ p.own }

-- One call.

-- the administrator alone calls a node so
pub for-admin : (question : NodeAsk) → IsAdminAsk question → IsAskerRight Admin question
for-admin ask.Stop is = refl
for-admin ask.Start is = refl
for-admin ask.Lose is = refl
for-admin (ask.Keep head) is = absurd is
for-admin (ask.Fetch key position stamp) is = absurd is
for-admin (ask.Refill fence head) is = absurd is
for-admin (ask.Drop fid) is = absurd is
for-admin ask.Probe is = absurd is
for-admin (ask.Replace loss fence) is = absurd is

-- no want of memory
told : (given : NodeAnswer) → is_want given ≡ false → given ≢ answer.Start start.NoMemory
told given other is = cc

pub waits-kept : AreKept → (ks : List ℕ) → IsOneOf (actor_key Admin) ks → (old new : List Event) → IsLater old new → Stays ks old new → Waits old new
waits-kept kept ks has old new later stays = record { later = later; own = kept Admin new old (stays (actor_key Admin) has) }

-- in a book whose log begins anew
anew-answer : (kind : List ℕ) (earlier h : List Event) (n : ℕ) (question : NodeAsk) (given : NodeAnswer) → earlier ≡ [] → IsAnswerAt kind earlier h n question given → IsOrderAnswered kind h n question given
anew-answer kind earlier h n question given anew it = record {
  state = it.state;
  is = it.is;
  tied = λ honest. subst (λ (l : List Event). IsNode (facts l) (of_word (Node n) l) it.state) (alone h earlier anew) (it.tied (honest-keeps kind honest));
  opening = λ honest. it.opening (honest-keeps kind honest);
}

pub called : AreKept → (kind : List ℕ) (earlier : List Event) → earlier ≡ [] → (ks : List ℕ) → IsOneOf (actor_key Admin) ks → (n : ℕ) (question : NodeAsk) (given : NodeAnswer) (old new : List Event) → is_want given ≡ false
    → Answered kind earlier n question given (node_event Admin n question given) ks old new → IsNodeCalled kind n question old new
called kept kind earlier anew ks has n question given old new other it = record {
  before = it.adds.before;
  waits = waits-kept kept ks has old it.adds.before it.adds.later it.adds.stays;
  given = given;
  right = anew-answer kind earlier it.adds.before n question given anew it.right;
  answered = told given other;
  new_is = it.adds.last;
}

-- a want of memory has no event
no-event : (n : ℕ) (question : NodeAsk) (given : NodeAnswer) (h : List Event) → IsAdminAsk question → is_want given ≡ true → noted (node_event Admin n question given) h ≡ h
no-event n ask.Start (answer.Start start.NoMemory) h is want = refl
no-event n ask.Stop (answer.Start start.NoMemory) h is want = refl
no-event n ask.Lose (answer.Start start.NoMemory) h is want = refl
no-event n (ask.Keep head) given h is want = absurd is
no-event n (ask.Fetch key position stamp) given h is want = absurd is
no-event n (ask.Refill fence head) given h is want = absurd is
no-event n (ask.Drop fid) given h is want = absurd is
no-event n ask.Probe given h is want = absurd is
no-event n (ask.Replace loss fence) given h is want = absurd is
no-event n _ _ h is want = cc

pub idle : AreKept → (kind : List ℕ) (earlier : List Event) (ks : List ℕ) → IsOneOf (actor_key Admin) ks → (n : ℕ) (question : NodeAsk) (given : NodeAnswer) (old new : List Event) → IsAdminAsk question → is_want given ≡ true
    → Answered kind earlier n question given (node_event Admin n question given) ks old new → Waits old new
idle kept kind earlier ks has n question given old new order want it =
    subst (λ (h : List Event). Waits old h) (sym (it.adds.last ∙ no-event n question given it.adds.before order want))
    (waits-kept kept ks has old it.adds.before it.adds.later it.adds.stays)

-- Lines.

called-earlier : (kind : List ℕ) (n : ℕ) (question : NodeAsk) (a b c : List Event) → Waits a b → IsNodeCalled kind n question b c → IsNodeCalled kind n question a c
called-earlier kind n question a b c w it = record { before = it.before; waits = waits-on a b it.before w it.waits; given = it.given; right = it.right; answered = it.answered; new_is = it.new_is }

armed-earlier : (n passes pick : ℕ) (a b c : List Event) → Waits a b → IsArmingDone n passes pick b c → IsArmingDone n passes pick a c
armed-earlier n passes pick a b c w it = record { before = it.before; waits = waits-on a b it.before w it.waits; new_is = it.new_is }

passed : (a b c : List Event) → Waits a b → c ≡ b → Waits a c
passed a b c w is = subst (λ (h : List Event). Waits a h) (sym is) w

-- a line before which others went on
earlier : (kind : List ℕ) (l : Line) (a b c : List Event) → Waits a b → IsLineDone kind l b c → AreDone kind (l ∷ []) a c
earlier kind (line.Stop n) a b c w it = (c, called-earlier kind n ask.Stop a b c w it, waits-none c)
earlier kind (line.Start n) a b c w it = (c, called-earlier kind n ask.Start a b c w it, waits-none c)
earlier kind (line.Lose n) a b c w it = (c, called-earlier kind n ask.Lose a b c w it, waits-none c)
earlier kind (line.Break n passes pick) a b c w it = (c, armed-earlier n passes pick a b c w it, waits-none c)
earlier kind (line.Op by op) a b c w it = (a, refl, passed a b c w it)
earlier kind (line.Turn by k) a b c w it = (a, refl, passed a b c w it)
earlier kind (line.Rounds k) a b c w it = (a, refl, passed a b c w it)
earlier kind line.Rest a b c w it = (a, refl, passed a b c w it)
earlier kind (line.Miss by reply) a b c w it = (a, refl, passed a b c w it)

done-more : (kind : List ℕ) (lines : List Line) (l : Line) (old mid new : List Event) → AreDone kind lines old mid → IsLineDone kind l mid new → AreDone kind (lines ++ l ∷ []) old new
done-more kind [] l old mid new w it = earlier kind l old mid new w it
done-more kind (x ∷ lines) l old mid new h it = (h.0, h.1, done-more kind lines l h.0 mid new h.2 it)

-- what others do afterwards changes nothing
pub done-on : (kind : List ℕ) (lines : List Line) (old mid new : List Event) → AreDone kind lines old mid → Waits mid new → AreDone kind lines old new
done-on kind [] old mid new w next = waits-on old mid new w next
done-on kind (l ∷ lines) old mid new h next = (h.0, h.1, done-on kind lines h.0 mid new h.2 next)

pub begun-on : (kind : List ℕ) (lines : List Line) (old mid new : List Event) → AreLinesBegun kind lines old mid → Waits mid new → AreLinesBegun kind lines old new
begun-on kind lines old mid new h next = (h.0, h.1, h.2, done-on kind h.0 old mid new h.3 next)

-- one line more is done
pub done-at : (kind : List ℕ) (lines : List Line) (i : ℕ) (l : Line) (old mid new : List Event) → i < length lines → l ≡ get_or lines i l → AreDone kind (take i lines) old mid → IsLineDone kind l mid new
    → AreDone kind (take (i + 1) lines) old new
done-at kind lines i l old mid new within is h it =
    subst (λ (ls : List Line). AreDone kind ls old new) (sym (take_more lines i l within ∙ ap (λ (x : Line). take i lines ++ x ∷ []) (sym is)))
    (done-more kind (take i lines) l old mid new h it)

-- the lines before one are done
pub begun-at : (kind : List ℕ) (lines : List Line) (i : ℕ) (old mid new : List Event) → AreDone kind (take i lines) old mid → Waits mid new → AreLinesBegun kind lines old new
begun-at kind lines i old mid new h next = (take i lines, drop i lines, sym (take-append-drop i lines), done-on kind (take i lines) old mid new h next)

-- The log grows.

noted-later : (old before new : List Event) (x : Option Event) → IsLater old before → new ≡ noted x before → IsLater old new
noted-later old before new None p is = later-still old before new p ([], is)
noted-later old before new (Some x) p is = later-still old before new p (x ∷ [], is)

called-later : (kind : List ℕ) (n : ℕ) (question : NodeAsk) (old new : List Event) → IsNodeCalled kind n question old new → IsLater old new
called-later kind n question old new it = noted-later old it.before new (node_event Admin n question it.given) it.waits.later it.new_is

line-later : (kind : List ℕ) (l : Line) (old new : List Event) → IsLineDone kind l old new → IsLater old new
line-later kind (line.Stop n) old new it = called-later kind n ask.Stop old new it
line-later kind (line.Start n) old new it = called-later kind n ask.Start old new it
line-later kind (line.Lose n) old new it = called-later kind n ask.Lose old new it
line-later kind (line.Break n passes pick) old new it = noted-later old it.before new (Some (e.Armed n passes pick)) it.waits.later it.new_is
line-later kind (line.Op by op) old new it = ([], it)
line-later kind (line.Turn by k) old new it = ([], it)
line-later kind (line.Rounds k) old new it = ([], it)
line-later kind line.Rest old new it = ([], it)
line-later kind (line.Miss by reply) old new it = ([], it)

pub done-later : (kind : List ℕ) (lines : List Line) (old new : List Event) → AreDone kind lines old new → IsLater old new
done-later kind [] old new w = w.later
done-later kind (l ∷ lines) old new h = later-still old h.0 new (line-later kind l old h.0 h.1) (done-later kind lines h.0 new h.2)
