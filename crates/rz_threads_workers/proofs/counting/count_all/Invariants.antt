use Rattle.rz_chronicle.specs.Keys.{sids_of}
use Rattle.rz_threads_workers.proofs.Counts.{Counted}
use Rattle.rz_threads_workers.proofs.counting.count_all.Given as goal

-- the words at the places so far are counted
abbrev pub invariant-loop-place : goal.invariant-loop-place
invariant-loop-place g l = Counted (sids_of l.book) l.fn.pass l.pass l.place l.sum
