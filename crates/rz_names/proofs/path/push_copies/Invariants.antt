use Rattle.std.proofs.Common.{◌≡◌, ◌++◌, take}
use Rattle.rz_names.proofs.path.push_copies.Given as goal

-- so many copies were added
abbrev pub invariant-loop-name : goal.invariant-loop-name
invariant-loop-name l = l.names.items ≡ l.initial.names.items ++ take l.name-index l.more
