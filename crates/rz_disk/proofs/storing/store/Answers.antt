use Rattle.std.proofs.Common.{ℕ, List, length, subst, arith}
use Rattle.rz_disk.specs.Images.{Torn}
use Rattle.rz_disk.proofs.Passes.{took_one, took_failed}
use Rattle.rz_disk.proofs.storing.store.Goals as goal

pub returns-in_err-write_at-clause-crash : goal.returns-in_err-write_at-clause-crash
returns-in_err-write_at-clause-crash g c image left =
    let before = c.write_at.ensures.crash image left in
    let P : List ℕ → Type 0 = λ t. Torn c.args.at (length c.args.bytes.now) t image in
    subst P (c.requires.only before.0 before.1) before.2

pub returns-in_err-write_at-clause-took : goal.returns-in_err-write_at-clause-took
returns-in_err-write_at-clause-took g c =
    took_failed 1 2 c.write_at.result c.from_residual.result (g.D.Disk.meter c.args.disk.now) (g.D.Disk.meter c.write_at.new.self)
    (omega arith) c.from_residual.ensures.0 (took_one c.write_at.result _ _ c.write_at.ensures.meter)
