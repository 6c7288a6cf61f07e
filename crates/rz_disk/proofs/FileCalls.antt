-- What the calls of a disk over a file say of it as a disk.
use Rattle.std.proofs.Common.{◌≡◌, ◌≤◌, Result, Ok, Err, is_err, IsErrOf, OnOk, OnErr, arith}
use Rattle.std.proofs.lemmas.Grind.{common_steps}
use Rattle.rz_disk.specs.Meter.{Passes, Rises, faults}
use Rattle.rz_disk.specs.OverFile.{OverFile, faults_after, after_call, after_change, file_meter}

-- what holds of each value holds where it is Ok, and where it is not
pub on_ok : {T E : Type 0} {P : Type 0} (result : Result T E) → P → OnOk result P
on_ok (Ok v) p = p
on_ok (Err e) p = tt

pub on_err : {T E : Type 0} {P : Type 0} (result : Result T E) → P → OnErr result P
on_err (Ok v) p = tt
on_err (Err e) p = p

-- a call that only counts its faults
pub counts_only : {T E : Type 0} (result : Result T E) (old new : OverFile) → new ≡ after_call (is_err result) old → Passes result (file_meter old) (file_meter new)
counts_only (Ok v) old new same = grind (arith, common_steps)
counts_only (Err e) old new same = grind (arith, common_steps)

-- and one that remembers a failure too
pub counts_change : {T E : Type 0} (result : Result T E) (old new : OverFile) → new ≡ after_change (is_err result) old → Passes result (file_meter old) (file_meter new)
counts_change (Ok v) old new same = grind (arith, common_steps)
counts_change (Err e) old new same = grind (arith, common_steps)

pub on_ok_map : {T E : Type 0} {P Q : Type 0} (result : Result T E) → (P → Q) → OnOk result P → OnOk result Q
on_ok_map (Ok v) f p = f p
on_ok_map (Err e) f p = tt

pub on_err_map : {T E : Type 0} {P Q : Type 0} (result : Result T E) → (P → Q) → OnErr result P → OnErr result Q
on_err_map (Ok v) f p = tt
on_err_map (Err e) f p = f p

-- the count of a call's faults does not fall
pub own_lasts : {T E : Type 0} (result : Result T E) (old new : OverFile) → new.faults ≡ faults_after (is_err result) old → old.faults ≤ new.faults
own_lasts (Ok v) old new same = grind (arith, common_steps)
own_lasts (Err e) old new same = grind (arith, common_steps)

-- and it rose where the call failed
pub own_rose : {T E : Type 0} (result : Result T E) (e : E) (old new : OverFile) → new.faults ≡ faults_after (is_err result) old → IsErrOf result e → Rises old.faults new.faults
own_rose (Ok v) e old new same failed = grind (arith, common_steps)
own_rose (Err e') e old new same failed = grind (arith, common_steps)

pub faults_rose : {T E : Type 0} (result : Result T E) (e : E) (old new : OverFile) → new.faults ≡ faults_after (is_err result) old → IsErrOf result e → Rises (faults (file_meter old)) (faults (file_meter new))
faults_rose result e old new same failed =
    let rose = own_rose result e old new same failed in
    omega (arith, rose)
