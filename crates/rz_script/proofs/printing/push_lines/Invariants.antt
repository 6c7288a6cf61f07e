use Rattle.std.proofs.Common.{◌≡◌, ◌++◌, take}
use Rattle.std.specs.List.{flat_map}
use Rattle.rz_script.specs.Spelling.{line_text}
use Rattle.rz_script.proofs.printing.push_lines.Given as goal

-- the lines so far were added
abbrev pub invariant-loop-line : goal.invariant-loop-line
invariant-loop-line l = l.out.items ≡ l.initial.out.items ++ flat_map line_text (take l.line-index l.lines)
