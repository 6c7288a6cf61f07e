use Rattle.std.proofs.Common.{◌≡◌, take}
use Rattle.rz_scrub.specs.Choice.{search_for}
use Rattle.rz_scrub.proofs.solver.add_all.Given as goal

abbrev pub invariant-loop-position : goal.invariant-loop-position
invariant-loop-position l = l.work ≡ search_for l.records (take l.position-index l.chosen)
