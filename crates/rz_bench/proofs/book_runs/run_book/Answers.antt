use Rattle.std.proofs.Common.{[], List, ℕ, sym, subst, false, arith}
use Rattle.rz_config.specs.Plain.{plain_volume}
use Rattle.rz_chronicle.specs.Kinds.{HasEarlierLog}
use Rattle.rz_bench.proofs.book_runs.run_book.Goals as goal

pub run_in-requires-clause-earlier : goal.run_in-requires-clause-earlier
run_in-requires-clause-earlier g c κs within =
    subst (λ (k : List ℕ). HasEarlierLog k []) (sym c.in_ok-opened.ensures) ((c.read_back_after.ensures false plain_volume []).2 (omega arith))
