-- Tables in which no actor opened a file.
use Rattle.std.proofs.Common.{ℕ, zero, suc, ◌≡◌, ◌≤◌, slice_index, replicate, refl, arith}
use Rattle.rz_events.specs.declared.keys.Actor.{Actor}
use Rattle.rz_events.specs.declared.keys.Actor.TheVariants.{Client, Rebuilder, Admin}
use Rattle.rz_show.specs.Known.{entry_of}

zeros : (k n : ℕ) → slice_index (replicate k 0) n ≡ 0
zeros zero n = refl
zeros (suc k) zero = refl
zeros (suc k) (suc n) = zeros k n

pub zeros_few : (k n : ℕ) → slice_index (replicate k 0) n ≤ 16
zeros_few k n = omega (arith, zeros k n)

pub no_entry : (k : ℕ) (by : Actor) → entry_of (replicate k 0) (replicate k 0) 0 by ≡ 0
no_entry k (Client n) = zeros k n
no_entry k (Rebuilder n) = zeros k n
no_entry k Admin = refl
