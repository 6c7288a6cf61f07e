-- The rule of the book, and what its steps tell.
use Rattle.std.specs.Prelude.{ℕ, ◌≡◌, ◌==◌, ◌<◌, true, List, [], ◌∷◌, ◌++◌, length, MatchBool, Some, slice_index_or}
use mathlib.Core.List.{IsPrefix}
use Rattle.logbook.specs.Pages.{Cell, cell, Step, View, Book, Named}
use Rattle.rz_events.specs.declared.keys.Actor.{Actor}
use Rattle.rz_events.specs.declared.events.Word.{Word}
use Rattle.rz_events.specs.declared.events.Event.{Event}
use Rattle.rz_chronicle.specs.declared.told.Told.{Told}
use Rattle.rz_chronicle.specs.Keys.{count_at, word_key, key_at, rows, IsInRow}

-- each word is the number of its events
pub record AreCellsCounted (cells : List Cell) (log : List Event) : Type 0 where
  pub len : length cells ≡ rows
  pub each : (w : Word) → word_key w < rows → cell cells (word_key w) ≡ (count_at (word_key w) log, true)

-- how an update moves the log: its event is added, or none is
abbrev pub IsMove : Event → List Event → List Event → Told → Type 0
IsMove ask before after answer =
    (answer.before ≡ before) × (answer.log ≡ after) × MatchBool answer.won (IsInRow ask × (after ≡ before ++ ask ∷ [])) (after ≡ before)

-- The update has run. The word was found at its count. Its event was added exactly where this was the number expected.
abbrev pub Ran : Step Event → View Event Told → ℕ → View Event Told → Told → Type 0
Ran s v found w t = (w.1.1 ≡ Some t) × (t.log ≡ w.0) × IsPrefix v.0 t.before × (found ≡ count_at s.key t.before)
    × MatchBool (found == s.old) (w.0 ≡ t.before ++ s.ask ∷ []) (w.0 ≡ t.before)

abbrev pub Adds : Step Event → View Event Told → ℕ → View Event Told → Type 0
Adds s v found w = (t : Told) × Ran s v found w t

abbrev pub Looks : Step Event → View Event Told → ℕ → View Event Told → Type 0
Looks s v found w = (t : Told) × ((w.1.1 ≡ Some t) × (t.log ≡ w.0) × (t.before ≡ w.0) × (found ≡ count_at s.key w.0))

abbrev pub named : Book → ℕ → Named
named b k = record { tracked = true; key = k; book = b }

-- the words of a book of these nodes, by their places
abbrev pub AreBookWords : Book → List ℕ → List Named → Type 0
AreBookWords b sids ws = (place : ℕ) (d : Named) → place < length ws → slice_index_or ws place d ≡ named b (key_at sids place)

-- what contracts see of a pass: whose it is, the log that it has seen with the newest event first, and the keys whose tokens it holds
pub record PassView : Type 0 where
  pub actor : Actor
  pub log : List Event
  pub keys : List ℕ

-- what contracts see of the token of a word under its lock
pub record WordTokenView : Type 0 where
  pub word : Word
  pub log : List Event
