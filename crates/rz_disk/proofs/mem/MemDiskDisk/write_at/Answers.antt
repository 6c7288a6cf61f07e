use Rattle.std.proofs.Common.{ℕ, ◌+◌, ◌≤◌, length, sym, subst}
use Rattle.rz_disk.specs.Stored.{Leaves}
use Rattle.rz_disk.specs.Scheduled.{Scheduled}
use Rattle.rz_disk.specs.Images.{Torn, Follows}
use Rattle.rz_disk.proofs.Marks.{write_follows}
use Rattle.rz_disk.proofs.mem.MemDiskDisk.write_at.Goals as goal

pub returns-clause-crash : goal.returns-clause-crash
returns-clause-crash c =
    let old = c.self.inside.medium in
    let new = c.write.new.self in
    let n : ℕ = length c.args.bytes.now in
    let P : Scheduled → Type 0 = λ s. Follows (Torn c.args.at n) (Leaves s.stored.marks s.stored.text) (Leaves new.marks new.text) in
    let fits = subst (λ (s : Scheduled). c.args.at + n ≤ length s.stored.text) (sym c.self.view_is) c.requires in
    subst P c.self.view_is
    (write_follows c.args.at n old.marks new.marks old.text new.text fits c.write.ensures.marks c.write.ensures.text.torn)
