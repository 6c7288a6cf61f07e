-- The events of each word and of each actor are counted twice: in the log, and by whoever holds the token.
use Rattle.std.specs.Prelude.{◌≡◌, ◌==◌, ◌⊎◌, ◌<◌, ◌++◌, ℕ, zero, suc, cond, List, [], ◌∷◌, map, nat_eq}
use Rattle.std.specs.List.{AllByRecursion, IsDistinct}
use mathlib.Core.List.{IsPrefix}
use base.Fraction.{full_share}
use base.Growing.{latest}
use base.Share.{quarter, three_quarters}
use base.Fml.{Fml, ftrue, fsep}
use Rattle.logbook.specs.Kept.{part, fact, logs, reached}
use Rattle.rz_events.specs.contracts.events.Event.{the_row}
use Rattle.rz_events.specs.declared.events.Event.{Event}
use Rattle.rz_events.specs.declared.events.Event.TheVariants as e
use Rattle.rz_events.specs.Events.{by_of, word_of}
use Rattle.rz_chronicle.specs.Keys.{count_at, rows, word_key, actor_key}
use Rattle.rz_chronicle.specs.Kinds.{history, HavePlaces, Fits}

-- the book's halves of n tokens from k on
abbrev pub halves : ℕ → ℕ → ℕ → (ℕ → ℕ) → Fml
halves δ k zero f = ftrue
halves δ k (suc n) f = fsep (part δ k three_quarters (f k)) (halves δ (suc k) n f)

-- the other halves, of these keys with these counts
abbrev pub parts : ℕ → List (ℕ × ℕ) → Fml
parts δ [] = ftrue
parts δ (x ∷ held) = fsep (part δ x.0 quarter x.1) (parts δ held)

-- the keys that are held, each with the number that f gives it
abbrev pub at : (ℕ → ℕ) → List (ℕ × ℕ) → List (ℕ × ℕ)
at f held = map (λ x. (x.0, f x.0)) held

-- each count is the number that f gives its key
abbrev pub Agree : (ℕ → ℕ) → List (ℕ × ℕ) → Type 0
Agree f held = AllByRecursion (λ x. f x.0 ≡ x.1) held

-- no key is held twice
abbrev pub AreKeysApart : List (ℕ × ℕ) → Type 0
AreKeysApart held = IsDistinct nat_eq (map (λ x. x.0) held)

abbrev pub counts : List Event → ℕ → ℕ
counts log k = count_at k log

abbrev pub grown : ℕ → List Event → Fml
grown η log = latest logs full_share η (map the_row.coded.code log)

-- what the kind of a book says of its log
abbrev pub IsOfKind : List ℕ → List Event → Type 0
IsOfKind kind log = Fits kind (history log) × HavePlaces kind (history log)

-- what callers keep beside the log: a half of each token, a second copy of the log, and what the kind of the book says of it
abbrev pub kept : List ℕ → List Event → Fml
kept [] log = ftrue
kept (δ ∷ []) log = ftrue
kept (δ ∷ η ∷ kind) log = fsep (halves δ 0 rows (counts log)) (fsep (grown η log) (fact (IsOfKind kind log)))

-- what tokens own: their halves, and that the second copy has reached this log
abbrev pub tokens_own : ℕ → ℕ → List (ℕ × ℕ) → List Event → Fml
tokens_own δ η held log = fsep (parts δ held) (reached the_row.coded.code η log)

-- What an update gained: the tokens with the counts of the log after it. The counts that it had were those of the log before, and no
-- key was held twice.
abbrev pub gained : List ℕ → List (ℕ × ℕ) → List Event → List Event → Fml
gained [] held before log = ftrue
gained (δ ∷ []) held before log = ftrue
gained (δ ∷ η ∷ kind) held before log =
    fsep (tokens_own δ η (at (counts log) held) log) (fact (Agree (counts before) held × IsOfKind kind log × AreKeysApart held))

-- The data of an offer is a list of events, so that keys with counts are written as such.
abbrev pub note : ℕ × ℕ → Event
note x = e.Armed 0 x.0 x.1

abbrev pub notes : List (ℕ × ℕ) → List Event
notes held = map note held

abbrev pub noted : Event → ℕ × ℕ
noted (e.Armed node k pick) = (k, pick)
noted _ = (0, 0)

abbrev pub held_in : List Event → List (ℕ × ℕ)
held_in about = map noted about

-- a step that looks asks for this event, whose word no row has
abbrev pub mark : Event
mark = e.Armed 65536 0 0

-- each key is in the row
abbrev pub AllInRow : List (ℕ × ℕ) → Type 0
AllInRow held = AllByRecursion (λ x. x.0 < rows) held

abbrev pub IsHolding : ℕ → List (ℕ × ℕ) → Type 0
IsHolding k [] = ⊥
IsHolding k (x ∷ held) = (k ≡ x.0) ⊎ IsHolding k held

-- the tokens that the event moves are held
abbrev pub Covers : List (ℕ × ℕ) → Event → Type 0
Covers held x = IsHolding (word_key (word_of x)) held × IsHolding (actor_key (by_of x)) held

-- the event keeps the kind of the book, whatever others have added
abbrev pub KeepsBookKind : List ℕ → List (ℕ × ℕ) → List Event → Event → Type 0
KeepsBookKind kind held log x = (xs : List Event) → IsPrefix log xs → Agree (counts xs) held → Fits kind (history xs) → Fits kind (history (xs ++ x ∷ []))

-- the keys from k on, with no event each
abbrev pub zeros : ℕ → ℕ → List (ℕ × ℕ)
zeros k zero = []
zeros k (suc n) = (k, 0) ∷ zeros (suc k) n

-- what is left of the tokens once the one of a key was taken out
abbrev pub without : ℕ → List (ℕ × ℕ) → List (ℕ × ℕ)
without k [] = []
without k (x ∷ held) = cond (x.0 == k) held (x ∷ without k held)

-- the count that is held of a key
abbrev pub count_in : ℕ → List (ℕ × ℕ) → ℕ
count_in k [] = 0
count_in k (x ∷ held) = cond (x.0 == k) x.1 (count_in k held)

-- the key is held with this count
abbrev pub HasCount : List (ℕ × ℕ) → ℕ → ℕ → Type 0
HasCount [] k n = ⊥
HasCount (x ∷ held) k n = (x ≡ (k, n)) ⊎ HasCount held k n

-- The log goes on from the older one to one at which the held counts are still right, and then has this event.
abbrev pub EndsOnEvent : List (ℕ × ℕ) → List Event → Event → List Event → Type 0
EndsOnEvent held older x newer = (log : List Event) × IsPrefix older log × Agree (counts log) held × (newer ≡ log ++ x ∷ [])
