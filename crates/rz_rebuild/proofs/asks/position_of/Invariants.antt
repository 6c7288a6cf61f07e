use Rattle.std.proofs.Common.{◌≡◌, drop}
use Rattle.rz_operation_model.specs.Rebuild.{position_of, position_in}
use Rattle.rz_rebuild.proofs.asks.position_of.Given as goal

abbrev pub invariant-loop-i : goal.invariant-loop-i
invariant-loop-i l = position_of l.node l.listed ≡ position_in l.node l.i (drop l.i l.places)
