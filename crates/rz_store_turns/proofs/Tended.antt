-- The administrator's events among those of others, who add nothing.
use Rattle.std.proofs.Common.{ℕ, false, ◌≡◌, List, [], ◌∷◌, ◌++◌, Option, Some, None, cond, refl, sym, ap, ◌∙◌, subst}
use Rattle.std.specs.Prelude.{IsTrue, IfSome}
use Rattle.rz_events.specs.Volume.{Volume}
use Rattle.rz_events.specs.declared.keys.Actor.{Actor}
use Rattle.rz_events.specs.declared.keys.Actor.TheVariants.{Client, Rebuilder, Admin}
use Rattle.rz_events.specs.declared.nodes.NodeAsk.{NodeAsk}
use Rattle.rz_events.specs.declared.nodes.NodeAsk.TheVariants as ask
use Rattle.rz_events.specs.declared.nodes.NodeAnswer.{NodeAnswer}
use Rattle.rz_events.specs.declared.nodes.NodeAnswer.TheVariants as answer
use Rattle.rz_events.specs.declared.nodes.StartAnswer.{StartAnswer}
use Rattle.rz_events.specs.declared.nodes.StartAnswer.TheVariants as start
use Rattle.rz_events.specs.declared.nodes.Phase.TheVariants.{Lost}
use Rattle.rz_events.specs.declared.events.Event.{Event}
use Rattle.rz_events.specs.Events.{by_of, same_actor}
use Rattle.rz_node_model.specs.NodeEvents.{node_event, start_event, lose_event}
use Rattle.rz_core.specs.History.{of_actor}
use Rattle.rz_core.specs.Own.{IsBetween}
use Rattle.rz_core.specs.NodeWord.{phase}
use Rattle.rz_core.specs.Legal.{IsLegalInRuns}
use Rattle.rz_core.proofs.NodeLaws.{node}
use Rattle.rz_play.specs.Lines.{noted}
use Rattle.rz_chronicle.specs.Kinds.{HavePlaces, keeps_legal, volume_in}
use Rattle.rz_chronicle.specs.Laws.{IsAddedAlone}
use Rattle.rz_chronicle.specs.Rules.{PassView}
use Rattle.rz_contents.specs.Model.{IsStill, changes}
use Rattle.rz_shared_locked.specs.Adding.{AddsEvent}
use Rattle.rz_shared_locked.specs.LockedNodes.{Answered, IsAnswerAt}
use Rattle.rz_store_turns.specs.Performed.{IsQuiet}
use Rattle.rz_store_turns.specs.Sole.{HoldsAll, AreFree, IsSole, SoleView}
use Rattle.rz_store_turns.proofs.Soles.{unmoved}
use Rattle.rz_store_turns.proofs.Losses.{lost-if-none, lost-after}

-- it is the administrator's, and users see nothing of it
abbrev pub IsTending : Event → Type 0
IsTending x = (by_of x ≡ Admin) × (changes x ≡ false)

pub start-tends : (n : ℕ) (a : StartAnswer) → IfSome (start_event n a) IsTending
start-tends n (start.Started took) = (refl, refl)
start-tends n start.NotDown = tt
start-tends n start.NoMemory = tt
start-tends n (start.Unopened fault) = (refl, refl)

pub lose-tends : (n : ℕ) (loss : Option ℕ) → IfSome (lose_event n loss) IsTending
lose-tends n (Some loss) = (refl, refl)
lose-tends n None = tt

-- It is no event of a client or a rebuilder.

tended-other : (a : Actor) (x : Event) (h : List Event) → same_actor a Admin ≡ false → by_of x ≡ Admin → of_actor a (x ∷ h) ≡ of_actor a h
tended-other a x h apart by = ap (λ b. cond b (x ∷ of_actor a h) (of_actor a h)) (ap (same_actor a) by ∙ apart)

pub tended-free : (x : Option Event) (h : List Event) (client rebuilder : ℕ) → IfSome x IsTending → AreFree h client rebuilder → AreFree (noted x h) client rebuilder
tended-free None h client rebuilder is free = free
tended-free (Some x) h client rebuilder is free = record {
  clients = λ k low. subst IsBetween (sym (tended-other (Client k) x h refl is.0)) (free.clients k low);
  rebuilders = λ k low. subst IsBetween (sym (tended-other (Rebuilder k) x h refl is.0)) (free.rebuilders k low);
}

pub sole-tended : (kind : List ℕ) (earlier : List Event) (volume cluster : Volume) (s : SoleView) (new : PassView) (bins : List ℕ) (x : Option Event) → IfSome x IsTending
    → new.keys ≡ s.pass.keys → new.log ≡ noted x s.pass.log → IsSole kind earlier volume cluster s bins
    → IsSole kind earlier volume cluster (record { pass = new; number = s.number; client = s.client; rebuilder = s.rebuilder }) bins
sole-tended kind earlier volume cluster s new bins x tends keys log is = record {
  volume_is = is.volume_is;
  cluster_is = is.cluster_is;
  tokens = subst HoldsAll (sym keys) is.tokens;
  room = is.room;
  texts = is.texts;
  free = λ legal. subst (λ (h : List Event). AreFree h s.client s.rebuilder) (sym log) (tended-free x s.pass.log s.client s.rebuilder tends (is.free legal));
  clients = is.clients;
  rebuilders = is.rebuilders;
}

-- Users see nothing of it.

abbrev events_in : Option Event → List Event
events_in None = []
events_in (Some x) = x ∷ []

noted-on : (x : Option Event) (h : List Event) → noted x h ≡ events_in x ++ h
noted-on None h = refl
noted-on (Some x) h = refl

tended-still : (x : Option Event) → IfSome x IsTending → IsStill (events_in x)
tended-still None is = tt
tended-still (Some x) is = (is.1, tt)

pub tended-quiet : (kind : List ℕ) (earlier : List Event) (old new : SoleView) (x : Option Event) → IfSome x IsTending → new.pass.log ≡ noted x old.pass.log
    → (IsTrue (keeps_legal kind) → IsLegalInRuns (volume_in kind) (new.pass.log ++ earlier)) → IsQuiet kind earlier old new
tended-quiet kind earlier old new x is log legal = record {
  events = events_in x;
  log = λ keeps. log ∙ noted-on x old.pass.log;
  still = tended-still x is;
  legal = legal;
}

-- Who holds the tokens of all actors added that event alone.
module _ (kind : List ℕ) (alone : IsAddedAlone) (ks : List ℕ) (all : HoldsAll ks) (old mid new : List Event) (mid-is : mid ≡ old) (places : HavePlaces kind new) where
  places-before : (x : Option Event) (h : List Event) → HavePlaces kind (noted x h) → HavePlaces kind h
  places-before None h has = has
  places-before (Some x) h has = has.1

  before-is : (x : Option Event) (adds : AddsEvent ks mid x new) → adds.before ≡ old
  before-is x adds = unmoved kind ks mid adds.before alone all (places-before x adds.before (subst (HavePlaces kind) adds.last places)) adds.later adds.stays ∙ mid-is

  pub added-log : (x : Option Event) (adds : AddsEvent ks mid x new) → new ≡ noted x old
  added-log x adds = adds.last ∙ ap (noted x) (before-is x adds)

  pub added-right : (earlier : List Event) (n : ℕ) (question : NodeAsk) (given : NodeAnswer) (x : Option Event) → Answered kind earlier n question given x ks mid new
      → IsAnswerAt kind earlier old n question given
  added-right earlier n question given x it = subst (λ (h : List Event). IsAnswerAt kind earlier h n question given) (before-is x it.adds) it.right

-- A node whose disk was swapped is lost.
pub swapped-lost : (kind : List ℕ) (earlier old new : List Event) (n : ℕ) (loss : Option ℕ) → new ≡ noted (lose_event n loss) old
    → IsAnswerAt kind earlier old n ask.Lose (answer.Lose loss) → IsTrue (keeps_legal kind) → IsLegalInRuns (volume_in kind) (old ++ earlier)
    → phase (node n (new ++ earlier)) ≡ Lost
swapped-lost kind earlier old new n (Some loss) log right keeps legal =
    subst (λ (h : List Event). phase (node n (h ++ earlier)) ≡ Lost) (sym log) (lost-after n loss (old ++ earlier))
swapped-lost kind earlier old new n None log right keeps legal =
    subst (λ (h : List Event). phase (node n (h ++ earlier)) ≡ Lost) (sym log)
    (lost-if-none (volume_in kind) (old ++ earlier) legal n right.state (right.tied keeps) right.is)

pub started-tends : (by : Actor) (n : ℕ) (given : NodeAnswer) → IfSome (node_event by n ask.Start given) IsTending
started-tends by n (answer.Start given) = start-tends n given
started-tends by n given = tt
