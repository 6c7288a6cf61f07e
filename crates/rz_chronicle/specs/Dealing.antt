-- What a new book deals out.
use Rattle.std.specs.Prelude.{ℕ, ◌≡◌, ◌<◌, List, [], length, slice_index_or}
use Rattle.logbook.specs.Pages.{Book, nib, may_make_home}
use Rattle.logbook.specs.declared.tokens.Pen.{Pen}
use Rattle.rz_events.specs.declared.keys.Actor.{Actor}
use Rattle.rz_events.specs.declared.events.Word.{Word}
use Rattle.rz_chronicle.specs.Keys.{own_keys}
use Rattle.rz_chronicle.specs.Rules.{PassView, WordTokenView}

-- the pass of an actor that has done nothing and seen nothing
abbrev pub new_pass : Actor → PassView
new_pass a = record { actor = a; log = []; keys = own_keys a }

-- the token of a word that has no event
abbrev pub new_word_token : Word → WordTokenView
new_word_token w = record { word = w; log = [] }

-- as many passes, each a new one of the actor that f gives its place
abbrev pub ArePasses : ℕ → (ℕ → Actor) → List PassView → Type 0
ArePasses count f ps = (length ps ≡ count) × ((i : ℕ) (d : PassView) → i < count → slice_index_or ps i d ≡ new_pass (f i))

-- the pen may make the word with this key, which then holds 0
abbrev pub IsPenFor : Book → ℕ → Pen → Type 0
IsPenFor b k p = (p.book ≡ b) × (p.nib ≡ nib may_make_home k 0)

-- each pen is that of its place in the list
abbrev pub AreFresh : Book → List Pen → Type 0
AreFresh b ps = (k : ℕ) (d : Pen) → k < length ps → IsPenFor b k (slice_index_or ps k d)
