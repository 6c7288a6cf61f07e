-- The half lies on the disk.
use Rattle.std.proofs.Common.{◌≡◌, length, ap, ◌∙◌, arith}
use Rattle.rz_journal.specs.Stands.{half_bytes}
use Rattle.rz_journal.proofs.Changes.{size_is}
use Rattle.rz_journal.proofs.Opened.{half_size_is}
use Rattle.rz_journal.proofs.half_opening.read_half.Goals as goal

pub read-requires : goal.read-requires
read-requires g c =
    let long : length c.deref_mut.result.now ≡ half_bytes = ap length c.deref_mut.ensures.value ∙ c.requires in
    omega (arith, long, half_size_is, size_is, c.half_at.ensures, c.in_ok-half.ensures.picked.0, ap length c.read_header.ensures.text, ap length c.sync.ensures.text, c.size-have.ensures, c.disk_bytes-need.ensures)
