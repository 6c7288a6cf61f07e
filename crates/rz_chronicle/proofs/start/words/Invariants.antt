use Rattle.std.proofs.Common.{◌≡◌, length}
use Rattle.logbook.specs.Pages.{Book}
use Rattle.rz_chronicle.specs.Keys.{rows}
use Rattle.rz_chronicle.specs.Rules.{AreBookWords}
use Rattle.rz_chronicle.specs.Dealing.{AreFresh}
use Rattle.rz_chronicle.proofs.Pens.{Remain}
use Rattle.rz_chronicle.proofs.start.words.Given as goal

-- the words of the places so far are made, and the pens of those to come are left
abbrev pub invariant-loop-place : goal.invariant-loop-place
invariant-loop-place l = (length l.words.items ≡ l.place) × (length l.pens.items ≡ rows)
    × ((b : Book) → AreFresh b l.fn.pens.items → AreBookWords b l.nodes l.words.items × Remain b l.nodes l.place l.pens.items)
