-- What the calls of a disk that only counts its faults say of it as a disk.
use Rattle.std.proofs.Common.{◌≡◌, ◌≤◌, ℕ, Result, Ok, Err, is_err, IsErrOf, arith}
use Rattle.std.proofs.lemmas.Grind.{common_steps}
use Rattle.rz_disk.specs.Meter.{Passes, Rises, faults}
use Rattle.rz_test_disks.specs.Counted.{faults_after, own_faults}

-- a call that only counts its faults
pub counts_only : {T E : Type 0} (result : Result T E) (old new : ℕ) → new ≡ faults_after (is_err result) old → Passes result (own_faults old) (own_faults new)
counts_only (Ok v) old new same = grind (arith, common_steps)
counts_only (Err e) old new same = grind (arith, common_steps)

-- the count does not fall
pub own_lasts : {T E : Type 0} (result : Result T E) (old new : ℕ) → new ≡ faults_after (is_err result) old → old ≤ new
own_lasts (Ok v) old new same = grind (arith, common_steps)
own_lasts (Err e) old new same = grind (arith, common_steps)

-- and it rose where the call failed
pub own_rose : {T E : Type 0} (result : Result T E) (e : E) (old new : ℕ) → new ≡ faults_after (is_err result) old → IsErrOf result e → Rises old new
own_rose (Ok v) e old new same failed = grind (arith, common_steps)
own_rose (Err e') e old new same failed = grind (arith, common_steps)

pub faults_rose : {T E : Type 0} (result : Result T E) (e : E) (old new : ℕ) → new ≡ faults_after (is_err result) old → IsErrOf result e → Rises (faults (own_faults old)) (faults (own_faults new))
faults_rose result e old new same failed =
    let rose = own_rose result e old new same failed in
    omega (arith, rose)
