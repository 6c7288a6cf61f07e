-- Who blocks a lock, told by the places.
use Rattle.std.proofs.Common.{◌≡◌, ◌+◌, ◌<◌, ℕ, zero, suc, List, Option, arith}
use Rattle.rz_locks.specs.declared.conflict.Lock.{Lock}
use Rattle.rz_locks.specs.Held.{Blocks}
use Rattle.rz_locks.specs.Places.{IsInTheWay, by_owner}
use Rattle.rz_locks.proofs.Places.{get-by_owner}

pub blocked : (places : List (Option Lock)) (lock : Lock) (k owner : ℕ) → owner ≡ suc k → IsInTheWay places lock k → Blocks (by_owner places) lock owner
blocked places lock k owner is way = rw (is, get-by_owner places (suc k)) way

pub unblocked_below : (places : List (Option Lock)) (lock : Lock) (n : ℕ) → ((k : ℕ) → k < n → ¬ IsInTheWay places lock k)
    → (owner : ℕ) → owner < n + 1 → ¬ Blocks (by_owner places) lock owner
unblocked_below places lock n free zero below blocks = rw (get-by_owner places 0) at blocks
unblocked_below places lock n free (suc k) below blocks = free k (omega arith) (rw (get-by_owner places (suc k)) at blocks)

pub unblocked : (places : List (Option Lock)) (lock : Lock) → ((k : ℕ) → ¬ IsInTheWay places lock k)
    → (owner : ℕ) → ¬ Blocks (by_owner places) lock owner
unblocked places lock free owner = unblocked_below places lock owner (λ k below. free k) owner (omega arith)
