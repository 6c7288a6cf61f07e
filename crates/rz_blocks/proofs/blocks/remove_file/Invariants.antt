use Rattle.std.proofs.Common.{◌≡◌, false, length}
use Rattle.std.specs.Prelude.{◌==◌}
use Rattle.rz_events.specs.declared.keys.Key.{Key}
use Rattle.rz_blocks.specs.Marked.{kept_at}
use Rattle.rz_blocks.proofs.blocks.remove_file.Given as goal

-- the other files have the entries that they had
abbrev pub invariant-loop-key : goal.invariant-loop-key
invariant-loop-key l = (q : Key) → (q.fid == l.fid) ≡ false → kept_at l.entries.entries q ≡ kept_at l.initial.entries.entries q

abbrev pub decreases-loop-key : goal.decreases-loop-key
decreases-loop-key l = length l.entries.entries
