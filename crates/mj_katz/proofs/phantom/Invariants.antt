use Rattle.std.proofs.Common.{◌≡◌, ◌*◌, length, take, pos}
use Rattle.std.specs.Prelude.{slice_index_or}
use Rattle.mj_katz.specs.Factor.{product_of}
use Rattle.mj_katz.specs.Phantom.{total_size}
use Rattle.mj_katz.proofs.Unseen.{Hides}
use Rattle.mj_katz.proofs.phantom.Given as goal

abbrev pub invariant-loop-i : goal.invariant-loop-i
invariant-loop-i l = record {
  full : length l.words.items ≡ l.rows * l.cols;
  room : length l.next.items ≡ l.rows * l.cols;
  hides : Hides (product_of (take l.i l.angles)) (λ j. slice_index_or l.angles j (pos 0)) l.i (total_size (take l.i l.angles)) l.rows l.cols l.words.items;
}
