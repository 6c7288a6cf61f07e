use Rattle.std.proofs.Common.{◌≡◌, ◌≤◌, ◌+◌, length}
use denote.Text.{Utf8}
use denote.Shadow.{shadow}
use Rattle.rz_script.specs.Grammar.{lines, lines_from}
use Rattle.rz_script.proofs.Loop.{with_front}
use Rattle.rz_script.proofs.reading.read_lines_from.Given as goal

-- what was found and what the rest gives is the whole
abbrev pub invariant-loop-line : goal.invariant-loop-line
invariant-loop-line l = shadow (Utf8 l.rest) × (with_front l.found.items (lines_from l.form l.volume l.number (lines l.rest)) ≡ lines_from l.form l.volume l.first (lines l.text)) × (l.number + length l.rest ≤ l.first + length l.text)

abbrev pub decreases-loop-line : goal.decreases-loop-line
decreases-loop-line l = length l.rest
