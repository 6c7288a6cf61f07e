use Rattle.std.specs.Vec.Iter.{into_iter_items}
use Rattle.rz_chronicle.proofs.Settling.{Settles}
use Rattle.rz_chronicle.proofs.book.Book.settle.Given as goal

-- the tokens so far are settled
abbrev pub invariant-nodes : goal.invariant-nodes
invariant-nodes g l = Settles g.J.Naming.kind l.fn.front l.fn.desk.export l.fn.desk.nodes.items (into_iter_items l.word_token-iterator) l.front
