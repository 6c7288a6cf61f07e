use Rattle.std.proofs.Common.{◌+◌, ◌≤◌, length, sym, subst}
use Rattle.rz_disk.specs.Stored.{Stored, Leaves}
use Rattle.rz_disk.specs.Images.{Torn, Follows}
use Rattle.rz_disk.proofs.Marks.{write_follows}
use Rattle.rz_disk.proofs.plain.PlainDiskDisk.write_at.Goals as goal

pub returns-clause-crash : goal.returns-clause-crash
returns-clause-crash c =
    let old = c.self.inside.medium in
    let new = c.write.new.self in
    let P : Stored → Type 0 = λ s. Follows (Torn c.args.at (length c.args.bytes.now)) (Leaves s.marks s.text) (Leaves new.marks new.text) in
    subst P c.self.view_is
    (write_follows c.args.at (length c.args.bytes.now) old.marks new.marks old.text new.text (subst (λ (s : Stored). c.args.at + length c.args.bytes.now ≤ length s.text) (sym c.self.view_is) c.requires) c.write.ensures.marks c.write.ensures.text.torn)
