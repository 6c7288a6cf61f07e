-- Passes of actors that have done nothing, which are gathered into one.
use Rattle.std.specs.Prelude.{ℕ, ◌≡◌, List, []}
use Rattle.std.specs.List.{AllByRecursion}
use Rattle.rz_chronicle.specs.Keys.{IsOneOf}
use Rattle.rz_chronicle.specs.Holds.{Stays}
use Rattle.rz_chronicle.specs.Rules.{PassView}

-- in the log that it has seen no event is of the tokens that it holds
abbrev pub HasDoneNothing : PassView → Type 0
HasDoneNothing p = Stays p.keys [] p.log

-- it has these tokens too
abbrev pub HasTokens : PassView → List ℕ → Type 0
HasTokens p keys = (k : ℕ) → IsOneOf k keys → IsOneOf k p.keys

-- The front has its own tokens and those of these passes, and nobody has done anything.
pub record HasGathered (old : PassView) (passes : List PassView) (new : PassView) : Type 0 where
  pub actor : new.actor ≡ old.actor
  pub own : HasTokens new old.keys
  pub theirs : AllByRecursion (λ (p : PassView). HasTokens new p.keys) passes
  pub idle : HasDoneNothing new
