use Rattle.std.proofs.Common.{◌≤◌, List, [], ◌∷◌, length, take}
use Rattle.rz_index.specs.declared.index.Entry.{Entry}
use Rattle.rz_index.specs.Standing.{Tree, Holds}
use Rattle.rz_index.specs.Spares.{IsPlanted}
use Rattle.rz_index.proofs.index.planted.Given as goal

-- the entries so far stand in the tree
abbrev pub invariant-loop-entry : goal.invariant-loop-entry
invariant-loop-entry l =
    (blanks : List Entry) → Holds l.fn.row (Tree l.fn.spare blanks ∷ []) → length l.entries ≤ length blanks → length blanks ≤ l.room → IsPlanted l.row l.root l.spare (take l.entry-index l.entries) (length blanks)
