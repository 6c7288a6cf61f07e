-- What the readers of several lines share.
use Rattle.std.specs.Prelude.{ℕ}
use Rattle.rz_script.specs.declared.line.Line.{Line}
use Rattle.rz_script.specs.declared.line.Line.TheVariants.{Stop, Start, Lose}
use Rattle.rz_script.specs.declared.keywords.Keyword.{Keyword}
use Rattle.rz_script.specs.declared.keywords.Keyword.TheVariants as keys

-- what becomes of a node
abbrev pub turned : Keyword → ℕ → Line
turned keys.Start = Start
turned keys.Lose = Lose
turned _ = Stop
