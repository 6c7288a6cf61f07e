use Rattle.std.proofs.Common.{◌≡◌, ◌≤◌, ◌+◌, length}
use denote.Text.{Utf8}
use denote.Shadow.{shadow}
use Rattle.rz_script.specs.Grammar.{lines, headed}
use Rattle.rz_script.proofs.reading.read_headed.Given as goal

-- only lines that are passed over were met
abbrev pub invariant-loop-line : goal.invariant-loop-line
invariant-loop-line l = shadow (Utf8 l.rest) × (headed l.form l.number (lines l.rest) ≡ headed l.form 1 (lines l.text)) × (l.number + length l.rest ≤ 1 + length l.text)

abbrev pub decreases-loop-line : goal.decreases-loop-line
decreases-loop-line l = length l.rest
