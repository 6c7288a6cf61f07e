-- What a turn leaves of the metadata, and of the events of the export's word.
use Rattle.std.proofs.Common.{◌≡◌, ℕ, Bool, true, false, List, ◌∷◌, Option, Some, IfSome, refl, sym, ◌∙◌, ap, subst}
use Rattle.rz_disk.specs.Meter.{Meter}
use Rattle.rz_events.specs.declared.keys.Actor.{Actor}
use Rattle.rz_events.specs.declared.nodes.NodeAnswer.{NodeAnswer}
use Rattle.rz_events.specs.declared.nodes.NodeAsk.{NodeAsk}
use Rattle.rz_events.specs.declared.events.Event.{Event}
use Rattle.rz_events.specs.declared.events.Event.TheVariants as e
use Rattle.rz_events.specs.declared.events.Word.TheVariants.{Export, Node, Own}
use Rattle.rz_events.specs.Events.{word_of}
use Rattle.rz_node_model.specs.NodeEvents.{node_event}
use Rattle.rz_core.specs.History.{of_word}
use Rattle.rz_operation.specs.Machine.{Machine, text_of, work_in, HasLayout}
use Rattle.rz_operation_model.specs.Ask.{Ask, Saying, SayGot, SayGave, SayLeft, SayDone, ask_of}
use Rattle.rz_operation_model.specs.Turns.{said_event}
use Rattle.mj_angles.specs.declared.layout.Layout.{Layout}
use Rattle.rz_driver_asks.specs.Asked.{LeavesAsked}
use Rattle.rz_driver_asks.proofs.Keeping.{leaves-unasked}
use Rattle.rz_driver_asks.specs.Parts.{IsSayPart}
use Rattle.rz_metadata.specs.declared.metadata.Metadata.{Metadata}
use Rattle.rz_metadata.specs.Stands.{CountsFaults, IsJournalOpen, export_in, is_journaled}
use Rattle.rz_nodes.specs.declared.formatting.Server.{Server}
use Rattle.rz_driver_nodes.proofs.EventWords.{node-word}
use Rattle.rz_driver_actors.specs.declared.shared.Shared.{Shared}
use Rattle.rz_driver_actors.specs.Acts.{IsFate, Through, ReplyLost, RequestLost}
use Rattle.rz_driver_actors.specs.Stores.{IsSameStore}
use Rattle.rz_driver_actors.proofs.ExportEvents.{node-stays, own-stays}

-- ---- events that are no word of the export

-- the event of a node's answer
answer-stays : (by : Actor) (n : ℕ) (question : NodeAsk) (given : NodeAnswer) (x : Event) (h : List Event) → node_event by n question given ≡ Some x → of_word Export (x ∷ h) ≡ of_word Export h
answer-stays by n question given x h is = node-stays n x h (subst (λ (o : Option Event). IfSome o (λ y. word_of y ≡ Node n)) is (node-word by n question given))

-- a message to a node
pub fate-stays : {D J : Type 0} {by : Actor} {n : ℕ} {question : NodeAsk} {s s' : Server D} {old new : Machine} {miss miss' : Option Bool} {p q : Shared D J} → IsFate by n question s s' old new miss miss' p q
    → of_word Export q.log.events ≡ of_word Export p.log.events
fate-stays {by = by} {n = n} {question = question} {p = p} (Through part comes miss lost) =
    ap (of_word Export) part.noted.2 ∙ answer-stays by n question part.given part.noted.0 p.log.events part.noted.1
fate-stays {by = by} {n = n} {question = question} {p = p} (ReplyLost part lost_so miss lost) =
    ap (of_word Export) part.noted ∙ own-stays by (e.Missed by n true) (part.event ∷ p.log.events) refl ∙ answer-stays by n question part.given part.event p.log.events part.event_is
fate-stays {by = by} {n = n} {p = p} (RequestLost stays part lost_so miss lost) =
    ap (of_word Export) part.noted ∙ own-stays by (e.Missed by n false) p.log.events refl

-- a word of the actor's own
said-own : (by : Actor) (number : ℕ) (text : List ℕ) (said : Saying) → word_of (said_event by number text said) ≡ Own by
said-own by number text (SayGot key part mark) = refl
said-own by number text (SayGave key part end) = refl
said-own by number text (SayLeft key why) = refl
said-own by number text (SayDone answer) = refl

pub said-stays-export : (by : Actor) (number : ℕ) (done : Bool) (old new : Machine) (h h' : List Event) → IsSayPart by number done old new h h' → of_word Export h' ≡ of_word Export h
said-stays-export by number done old new h h' (said, asks, part) =
    ap (of_word Export) part.noted ∙ own-stays by (said_event by number (text_of old) said) h (said-own by number (text_of old) said)

-- ---- the metadata beside them

pub same-store : {D : Type 0} (meter : D → Meter) (m m' : Metadata D) → m' ≡ m → IsSameStore meter m m'
same-store meter m m' is = record {
  journal = ap is_journaled is;
  volume = ap (λ (x : Metadata _). (export_in x).volume) is;
  counted = λ is_open first. subst (CountsFaults meter first) (sym is);
}

-- nothing was asked of them, and they stand as they did
pub leaves-with-it : {D : Type 0} (tells : Bool) (meter : D → Meter) (image : D → List ℕ → Type 0) (ask : Ask) (m m' : Metadata D) → m' ≡ m → IsJournalOpen m → LeavesAsked tells meter image ask m m'
leaves-with-it tells meter image ask m m' is is_open = subst (LeavesAsked tells meter image ask m) (sym is) (leaves-unasked tells meter image m ask is_open)

-- what the machine of an actor asks
pub ask-there : (layout : Layout) (o : Option Machine) (m : Machine) → o ≡ Some m → HasLayout layout o → ask_of m.layout m.work ≡ ask_of layout (work_in o)
ask-there layout o m is has =
    let same : m.layout ≡ layout = subst (HasLayout layout) is has in
    ap (λ (y : Layout). ask_of y m.work) same ∙ ap (λ (x : Option Machine). ask_of layout (work_in x)) (sym is)
