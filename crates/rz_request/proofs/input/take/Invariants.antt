use Rattle.std.proofs.Common.{◌≤◌, ◌-◌, vec_len}
use Rattle.std.specs.Io.KnownBytes.{Consumes}
use Rattle.rz_request.proofs.input.take.Given as goal

abbrev pub invariant-pieces : goal.invariant-pieces
invariant-pieces g l = record {
  taken : Consumes (g.I.Source.left l.fn.input) (g.I.Source.left l.input) l.bytes.items;
  lasting : g.I.Source.faults l.fn.input ≤ g.I.Source.faults l.input;
  within : vec_len l.bytes ≤ 4194305;
}

abbrev pub decreases-pieces : goal.decreases-pieces
decreases-pieces g l = 4194305 - vec_len l.bytes
