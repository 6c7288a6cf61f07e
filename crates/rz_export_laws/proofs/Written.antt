-- Each path of a whole tree can be written and read again.
use Rattle.std.proofs.Common.{ℕ, suc, ◌*◌, ◌^◌, ◌≤◌, ◌<◌, length, arith}
use Rattle.std.specs.List.{join_with_byte}
use Rattle.std.specs.FinMap as maps
use Rattle.rz_export_laws.specs.WholeTree.{ArePathsWritten}
use Rattle.rz_export_laws.proofs.Spelled.{reads-again, text-short}
use Rattle.rz_export_laws.proofs.Depth.{depth}

pub paths-written : ArePathsWritten
paths-written t path fid w at =
    let plain = w.spelled path fid at in
    record { reads = reads-again path plain; short = fits (length (join_with_byte 47 path)) (length path) (maps.len t.objects) (text-short path plain) (depth t w path fid at) w.few }
  where
    fits : (bytes names objects : ℕ) → bytes ≤ 256 * names → names ≤ objects → objects ≤ 65537 → suc bytes < 2 ^ 32
    fits bytes names objects a b c = omega (arith, a, b, c)
