use Rattle.std.proofs.Common.{◌≡◌, drop}
use Rattle.rz_client_model.specs.Write.{mask_of}
use Rattle.rz_writer.proofs.outcomes.mask_of.Given as goal

abbrev pub invariant-loop-i : goal.invariant-loop-i
invariant-loop-i l = l.mask ≡ mask_of (drop l.i l.why)
