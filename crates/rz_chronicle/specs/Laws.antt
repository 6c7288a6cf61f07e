-- Who adds alone, and what is said of a log that goes on after an earlier one. A history has the newest event first.
use Rattle.std.specs.Prelude.{ℕ, ◌≡◌, ◌<◌, ◌+◌, ◌-◌, ◌^◌, IsTrue, List, [], ◌∷◌, ◌++◌, length}
use Rattle.std.specs.List.{AllByRecursion}
use Rattle.rz_events.specs.Volume.{Volume}
use Rattle.rz_events.specs.declared.events.Word.{Word}
use Rattle.rz_events.specs.declared.events.Event.{Event}
use Rattle.rz_events.specs.Events.{by_of}
use Rattle.rz_core.specs.History.{of_word, of_actor}
use Rattle.rz_core.specs.Legal.{IsLegalAfter, IsAllowedIn, IsForeign}
use Rattle.rz_chronicle.specs.Keys.{IsLater, count_at, word_key}
use Rattle.rz_chronicle.specs.Kinds.{Fits, HavePlaces, HasEarlierLog, MayComeAfter, MayFit, keeps_legal, volume_in}
use Rattle.rz_chronicle.specs.Holds.{HasAllActors, Stays}

-- Where the tokens of all actors are held, a later history in which the events of their keys are the old ones has no event more.
abbrev pub IsAddedAlone : Type 0
IsAddedAlone = (kind ks : List ℕ) (old new : List Event) → HasAllActors ks → HavePlaces kind new → IsLater old new → Stays ks old new → new ≡ old

-- What may come in a run after an earlier log may still come, whatever others did meanwhile: `h` has what the caller has seen of the
-- run, and `more` what others added.
abbrev pub IsLocalAfter : Volume → Type 0
IsLocalAfter v = (earlier h more : List Event) (x : Event) → IsLegalAfter v earlier (more ++ h) → AllByRecursion (IsForeign x) more
    → IsAllowedIn v (h ++ earlier) (of_actor (by_of x) h) x → IsLegalAfter v earlier (x ∷ more ++ h)

-- A word that moved fewer than 2 ^ 62 times in this run can take one event more.
abbrev pub IsRoomy : Type 0
IsRoomy = (kind : List ℕ) (w : Word) (h earlier : List Event) → HasEarlierLog kind earlier → count_at (word_key w) h + 1 < 2 ^ 62
    → length (of_word w (h ++ earlier)) < 2 ^ 64 - 1

-- In a book whose log begins anew nothing is asked of the earlier one.
abbrev pub IsAnew : Type 0
IsAnew = (kind : List ℕ) (h : List Event) (x : Event) → HasEarlierLog kind [] → MayComeAfter kind h x

-- One rule for all books that keep their logs legal: what their histories are, and what may come.
pub record IsOneRule : Type 0 where
  pub legal : (kind : List ℕ) (earlier h : List Event) → HasEarlierLog kind earlier → IsTrue (keeps_legal kind) → Fits kind h
      → IsLegalAfter (volume_in kind) earlier h
  pub may : (kind : List ℕ) (earlier h : List Event) (x : Event) → HasEarlierLog kind earlier
      → (IsTrue (keeps_legal kind) → IsAllowedIn (volume_in kind) (h ++ earlier) (of_actor (by_of x) h) x) → MayFit kind h x
