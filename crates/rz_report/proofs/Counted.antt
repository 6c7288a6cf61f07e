-- One event more is counted.
use Rattle.std.proofs.Common.{ℕ, ◌≡◌, ◌≤◌, ◌<◌, ◌+◌, Bool, true, false, List, get_or, take, length, sym, ap, arith}
use Rattle.std.specs.Prelude.{count_by}
use Rattle.std.proofs.lemmas.List.{length-take-le}
use Rattle.std.proofs.lemmas.List.Sums.{count_by_more_no, count_by_more_yes, count_by-le-length}
use Rattle.rz_events.specs.declared.events.Event.{Event}
use Rattle.rz_report.specs.declared.counts.Counts.{Counts}
use Rattle.rz_report.specs.Summary.{AreBelow, counts_of, noted, one_if, is_put, is_acked, is_get, is_found, is_too_few, is_rebuilt, is_left}

-- a test that passes or not
by_test : (p : Event → Bool) (log : List Event) (i : ℕ) (x : Event) → i < length log → (b : Bool) → p (get_or log i x) ≡ b
    → count_by p (take i log) + one_if b ≡ count_by p (take (i + 1) log)
by_test p log i x within true is = sym (count_by_more_yes p log i x within is)
by_test p log i x within false is = omega (arith, count_by_more_no p log i x within is)

one_more : (p : Event → Bool) (log : List Event) (i : ℕ) (x : Event) → i < length log → x ≡ get_or log i x
    → count_by p (take i log) + one_if (p x) ≡ count_by p (take (i + 1) log)
one_more p log i x within here = by_test p log i x within (p x) (sym (ap p here))

pub counts-more : (log : List Event) (i : ℕ) (x : Event) → i < length log → x ≡ get_or log i x → noted (counts_of (take i log)) x ≡ counts_of (take (i + 1) log)
counts-more log i x within here =
    same _ _ _ _ _ _ _ _ _ _ _ _ _ _
    (one_more is_put log i x within here) (one_more is_acked log i x within here) (one_more is_get log i x within here) (one_more is_found log i x within here)
    (one_more is_too_few log i x within here) (one_more is_rebuilt log i x within here) (one_more is_left log i x within here)
  where
    made : ℕ → ℕ → ℕ → ℕ → ℕ → ℕ → ℕ → Counts
    made a b c d e f g = record { puts = a; acked = b; gets = c; found = d; too_few = e; rebuilt = f; left = g }

    same : (a a' b b' c c' d d' e e' f f' g g' : ℕ) → a ≡ a' → b ≡ b' → c ≡ c' → d ≡ d' → e ≡ e' → f ≡ f' → g ≡ g' → made a b c d e f g ≡ made a' b' c' d' e' f' g'
    same a a' b b' c c' d d' e e' f f' g g' p q r s t u v = cc

few : (p : Event → Bool) (log : List Event) (i n : ℕ) → i ≤ length log → i < n → count_by p (take i log) < n
few p log i n within small = omega (arith, count_by-le-length p (take i log), length-take-le i log within)

pub counts-below : (log : List Event) (i n : ℕ) → i ≤ length log → i < n → AreBelow (counts_of (take i log)) n
counts-below log i n within small = record {
  puts = few is_put log i n within small;
  acked = few is_acked log i n within small;
  gets = few is_get log i n within small;
  found = few is_found log i n within small;
  too_few = few is_too_few log i n within small;
  rebuilt = few is_rebuilt log i n within small;
  left = few is_left log i n within small;
}
