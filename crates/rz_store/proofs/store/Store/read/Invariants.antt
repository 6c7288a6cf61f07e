use Rattle.std.proofs.Common.{◌≡◌, ◌≤◌, ◌-◌, length, take, drop}
use Rattle.rz_chronicle.specs.Keys.{IsLater}
use Rattle.rz_store.specs.Store.{IfLegal, LooksSame, HasPart}
use Rattle.rz_store.proofs.store.Store.read.Given as goal

-- so many bytes are read
abbrev pub invariant-loop-at : goal.invariant-loop-at
invariant-loop-at g l = record {
  within : l.at ≤ l.wanted;
  fits : l.wanted ≤ length l.fn.out;
  length : length l.out ≡ length l.fn.out;
  rest : drop l.wanted l.out ≡ drop l.wanted l.fn.out;
  volume : l.self.volume ≡ l.fn.self.volume;
  read : IfLegal g.J.Naming.kind (HasPart l.fn.self l.path l.offset (take l.at l.out));
  same : IfLegal g.J.Naming.kind (LooksSame l.fn.self l.self);
  later : IfLegal g.J.Naming.kind (IsLater l.fn.self.log l.self.log);
}

abbrev pub decreases-loop-at : goal.decreases-loop-at
decreases-loop-at g l = l.wanted - l.at
