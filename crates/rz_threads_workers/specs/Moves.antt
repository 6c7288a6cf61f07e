-- Who may move the words of a book.
use Rattle.std.specs.Prelude.{ℕ, ◌≡◌, ◌<◌, List, Some}
use Rattle.rz_events.specs.declared.events.Word.{Word}
use Rattle.rz_chronicle.specs.Keys.{IsOneOf, owner, word_key}

-- the token of each word of a book of these nodes is one of those with these keys
abbrev pub HoldsAll : List ℕ → List ℕ → Type 0
HoldsAll sids keys = (place : ℕ) (w : Word) → place < 338 → owner sids place ≡ Some w → IsOneOf (word_key w) keys
