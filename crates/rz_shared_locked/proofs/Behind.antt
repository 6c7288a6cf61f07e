-- A log of this run behind which an earlier one stands.
use Rattle.std.proofs.Common.{ℕ, Bool, ◌≡◌, ◌&&◌, IsTrue, List, [], ◌++◌, sym, ◌∙◌, ap, ap₂, subst, append_assoc, append-nil}
use Rattle.std.proofs.lemmas.Bool.{and_parts}
use Rattle.std.proofs.lemmas.List.Elements.{filter-append}
use Rattle.rz_events.specs.declared.keys.Actor.{Actor}
use Rattle.rz_events.specs.declared.events.Word.{Word}
use Rattle.rz_events.specs.declared.events.Event.{Event}
use Rattle.rz_events.specs.Events.{by_of, word_of, same_actor, same_word}
use Rattle.rz_core.specs.History.{of_word, of_actor}
use Rattle.rz_chronicle.specs.Keys.{IsLater}
use Rattle.rz_chronicle.specs.Kinds.{keeps_legal, is_honest, is_none, HasEarlierLog}

pub word-behind : (w : Word) (earlier a b : List Event) → of_word w a ≡ of_word w b → of_word w (a ++ earlier) ≡ of_word w (b ++ earlier)
word-behind w earlier a b same =
    filter-append (λ x. same_word w (word_of x)) a earlier ∙ ap (λ (l : List Event). l ++ of_word w earlier) same ∙ sym (filter-append (λ x. same_word w (word_of x)) b earlier)

pub actor-behind : (by : Actor) (earlier a b : List Event) → of_actor by a ≡ of_actor by b → of_actor by (a ++ earlier) ≡ of_actor by (b ++ earlier)
actor-behind by earlier a b same =
    filter-append (λ x. same_actor by (by_of x)) a earlier ∙ ap (λ (l : List Event). l ++ of_actor by earlier) same ∙ sym (filter-append (λ x. same_actor by (by_of x)) b earlier)

pub later-behind : (old new earlier : List Event) (later : IsLater old new) → new ++ earlier ≡ later.0 ++ (old ++ earlier)
later-behind old new earlier later = ap (λ (h : List Event). h ++ earlier) later.1 ∙ append_assoc later.0 old earlier

-- ---- no earlier log

pub alone : (h earlier : List Event) → earlier ≡ [] → h ++ earlier ≡ h
alone h earlier none = ap (λ (l : List Event). h ++ l) none ∙ append-nil h

-- then a book that keeps its log legal is honest
pub honest-keeps : (kind : List ℕ) → IsTrue (is_honest kind) → IsTrue (keeps_legal kind)
honest-keeps kind honest = (and_parts _ _ honest).0

pub keeps-honest : (kind : List ℕ) (earlier : List Event) → HasEarlierLog kind earlier → earlier ≡ [] → IsTrue (keeps_legal kind) → IsTrue (is_honest kind)
keeps-honest kind earlier has none keeps =
    let it = subst (HasEarlierLog kind) none has in
    ap₂ (λ (a b : Bool). a && b) keeps (ap is_none it.numbers)
