use Rattle.std.specs.Prelude.{[]}
use Rattle.rz_bench.proofs.book_runs.run_book.Given as goal

abbrev pub ghosts-run_in : goal.ghosts-run_in
ghosts-run_in g a = record { book = a.opened.seen.book; counters = a.opened.tokens.counters; copy = a.opened.tokens.copy; kind = a.opened.tokens.kind; earlier = [] }
