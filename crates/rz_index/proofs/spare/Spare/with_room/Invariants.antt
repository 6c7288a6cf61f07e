use Rattle.std.proofs.Common.{◌≡◌, ◌+◌, List, [], ◌∷◌, length}
use Rattle.rz_index.specs.declared.index.Entry.{Entry}
use Rattle.rz_index.specs.Standing.{Tree, Holds}
use Rattle.rz_index.proofs.spare.Spare.with_room.Given as goal

-- the nodes so far stand in a tree, each with those before it behind it
abbrev pub invariant-loop-link : goal.invariant-loop-link
invariant-loop-link l = (blanks : List Entry) × (length blanks ≡ l.link) × (length l.row.items ≡ l.link + 1) × Holds l.row.items (Tree l.link blanks ∷ [])
