use Rattle.std.proofs.Common.{◌≡◌, ◌≤◌, ◌-◌, length}
use Rattle.rz_chronicle.specs.Keys.{IsLater}
use Rattle.rz_store.specs.Store.{IfLegal, IsUpTo}
use Rattle.rz_store.proofs.store.Store.write.Given as goal

-- so many bytes are written
abbrev pub invariant-loop-at : goal.invariant-loop-at
invariant-loop-at g l = record {
  within : l.at ≤ length l.bytes;
  volume : l.self.volume ≡ l.fn.self.volume;
  written : IfLegal g.J.Naming.kind (IsUpTo l.fn.self l.path l.offset l.at l.bytes l.self);
  later : IfLegal g.J.Naming.kind (IsLater l.fn.self.log l.self.log);
}

abbrev pub decreases-loop-at : goal.decreases-loop-at
decreases-loop-at g l = length l.bytes - l.at
