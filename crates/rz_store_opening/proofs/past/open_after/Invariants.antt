use Rattle.rz_store_opening.specs.Opening.{reopened}
use Rattle.rz_store_opening.proofs.past.open_after.Given as goal

-- the book goes on after the log of the earlier runs, with the nodes that are here
abbrev pub ghosts-with_book : goal.ghosts-with_book
ghosts-with_book g a = record {
  honest = g.P.Past.known;
  earlier = reopened a.volume.now g.P.Past.new a.opened.parts.nodes.items g.P.Past.log;
}
