use Rattle.std.proofs.Common.{◌≡◌, ◌+◌, length}
use Rattle.rz_chronicle.specs.Dealing.{AreFresh}
use Rattle.rz_chronicle.proofs.start.all_pens.Given as goal

-- as many pens were taken as keys were counted
abbrev pub invariant-keys : goal.invariant-keys
invariant-keys l = (l.pens.book ≡ l.fn.pens.book) × (l.pens.next ≡ l.key) × (l.key + l.pens.left ≡ l.count) × (length l.all.items ≡ l.key) × AreFresh l.fn.pens.book l.all.items
