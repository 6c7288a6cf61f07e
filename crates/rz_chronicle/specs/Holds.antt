-- What passes and tokens know of the log that they have seen, and what calls do to it.
use Rattle.std.specs.Prelude.{ℕ, ◌≡◌, List, [], ◌∷◌, map, Option, Some, None}
use Rattle.rz_events.specs.declared.keys.Actor.{Actor}
use Rattle.rz_events.specs.declared.events.Word.{Word}
use Rattle.rz_events.specs.declared.events.Word.TheVariants.{Export, Node, Own}
use Rattle.rz_events.specs.declared.events.Event.{Event}
use Rattle.rz_chronicle.specs.declared.tokens.Tokens.{Tokens}
use Rattle.rz_chronicle.specs.Keys.{word_key, actor_key, events_at, IsMember, IsOneOf, IsLater}
use Rattle.rz_chronicle.specs.Rules.{WordTokenView}
use Rattle.rz_chronicle.specs.Tokens.{IsHolding, AllInRow, at, counts}

abbrev pub keys : List (ℕ × ℕ) → List ℕ
keys held = map (λ x. x.0) held

abbrev pub keys_in : Option Tokens → List ℕ
keys_in None = []
keys_in (Some h) = keys h.held

-- the tokens belong to the book with these names, and are up to date with the log
pub record AreTokens (counters copy : ℕ) (kind : List ℕ) (log : List Event) (h : Tokens) : Type 0 where
  pub counters_is : h.counters ≡ counters
  pub copy_is : h.copy ≡ copy
  pub kind_is : h.kind ≡ kind
  pub log_is : h.log ≡ log
  pub right : h.held ≡ at (counts log) h.held
  pub low : AllInRow h.held

-- these are the tokens of the actor and of its own word
pub record AreTokensOf (a : Actor) (held : List (ℕ × ℕ)) : Type 0 where
  pub own : IsHolding (word_key (Own a)) held
  pub by : IsHolding (actor_key a) held

-- the events of these keys are in the new history what they were in the old one
abbrev pub Stays : List ℕ → List Event → List Event → Type 0
Stays ks old new = (k : ℕ) → IsOneOf k ks → events_at k new ≡ events_at k old

-- The new history is the event on top of one that goes on from the old one, and in which the events of these keys are the old ones.
pub record Commits (ks : List ℕ) (old : List Event) (x : Event) (new : List Event) : Type 0 where
  pub before : List Event
  pub later : IsLater old before
  pub stays : Stays ks old before
  pub last : new ≡ x ∷ before

-- a later history, in which the events of the word of a token are those that it had when the token was given back
abbrev pub IsWordSettled : WordTokenView → List Event → Type 0
IsWordSettled p h = IsLater p.log h × Stays (word_key p.word ∷ []) p.log h

-- the counts of the tokens are those of the log that it has, and their keys are in the row
pub record AreTokensRight (h : Tokens) : Type 0 where
  pub right : h.held ≡ at (counts h.log) h.held
  pub low : AllInRow h.held

-- these are the keys of all actors
abbrev pub HasAllActors : List ℕ → Type 0
HasAllActors ks = (a : Actor) → IsMember a → IsOneOf (actor_key a) ks

-- both hands belong to one book
pub record AreOfOne (a b : Tokens) : Type 0 where
  pub counters : a.counters ≡ b.counters
  pub copy : a.copy ≡ b.copy
  pub kind : a.kind ≡ b.kind

-- many callers move the word, each under its lock
abbrev pub IsShared : Word → Type 0
IsShared Export = Unit {0}
IsShared (Node n) = Unit {0}
IsShared (Own a) = ⊥
