-- What the administrator has done beside workers at work.
use Rattle.std.specs.Prelude.{ℕ, Bool, true, ◌≡◌, List}
use Rattle.rz_script.specs.declared.line.Line.{Line}
use Rattle.rz_chronicle.specs.Keys.{IsLater}
use Rattle.rz_chronicle.specs.Kinds.{IsFit}
use Rattle.rz_chronicle.specs.Rules.{PassView}
use Rattle.rz_threads.specs.Orders.{AreLinesBegun, AreDone}

-- The first of its lines are done, each once and in order, and where it came to their end all of them.
pub record HasOrdered (kind : List ℕ) (lines : List Line) (old new : PassView) (ended : Bool) : Type 0 where
  pub actor : new.actor ≡ old.actor
  pub keys : new.keys ≡ old.keys
  pub later : IsLater old.log new.log
  pub begun : AreLinesBegun kind lines old.log new.log
  pub done : ended ≡ true → AreDone kind lines old.log new.log
  pub fit : IsFit kind new.log
