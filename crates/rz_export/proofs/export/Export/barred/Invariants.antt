use Rattle.std.proofs.Common.{◌≡◌, drop}
use Rattle.rz_export_model.specs.Export.{barred}
use Rattle.rz_export.proofs.export.Export.barred.Given as goal

-- the places to come decide
abbrev pub invariant-loop-i : goal.invariant-loop-i
invariant-loop-i l = barred l.self l.mask l.stamp l.i (drop l.i l.places) ≡ barred l.self l.mask l.stamp 0 l.places
