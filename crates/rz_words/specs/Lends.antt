-- What a block ends as, where a `&mut` to its words is returned.
use Rattle.std.specs.Prelude.{ℕ, List}
use Rattle.std.specs.Borrow.{Lends, Fml, MutBor, Array, u64}
use Rattle.rz_words.specs.Grid.{Grid, written_over}
use Rattle.rz_words.specs.contracts.Block.{the_row}

-- once the borrow r ends, the words are those that r shows last
abbrev pub lends_words : MutBor Grid → MutBor (List ℕ) → Fml
lends_words b r = Lends the_row (Array u64 0) b r (written_over b.now)
