use Rattle.std.proofs.Common.{◌≡◌, Some, None, ap, ◌∙◌, sym}
use Rattle.std.specs.FinMap as maps
use Rattle.std.specs.Option.{option_copied}
use Rattle.rz_tree.specs.Inodes.{Table, file_past}
use Rattle.rz_tree.proofs.Files.{past-none, past-first, past-there}
use Rattle.rz_tree.proofs.Rows.{table_of}
use Rattle.rz_tree.proofs.inodes.Inodes.file_past.Goals as goal

pub returns-in_err-number : goal.returns-in_err-number
returns-in_err-number c =
    c.from_residual.ensures
    ∙ past-none (table_of c.self.inside.entries.entries) c.self.inside.files c.self.invariant c.args.fid c.range.result (c.range.ensures.in_range tt) c.in_err-number.ensures.steps.0
    ∙ ap (λ m. file_past m c.args.fid) c.self.view_is

pub returns-in_err-inode : goal.returns-in_err-inode
returns-in_err-inode c =
    let table : Table = table_of c.self.inside.entries.entries in
    let none : maps.get table c.in_ok-number.field-0.now ≡ None =
    ap (λ m. maps.get m c.in_ok-number.field-0.now) c.self.view_is ∙ sym c.get.ensures ∙ ap option_copied c.in_err-inode.was in
    absurd (past-there table c.self.inside.files c.self.invariant c.args.fid c.range.result (c.range.ensures.in_range tt) c.in_ok-number.field-0.now c.next.new.self c.in_ok-number.ensures.steps none)

pub returns : goal.returns
returns c =
    let table : Table = table_of c.self.inside.entries.entries in
    let at : maps.get table c.in_ok-number.field-0.now ≡ Some c.in_ok-inode.inode.now =
    ap (λ m. maps.get m c.in_ok-number.field-0.now) c.self.view_is ∙ sym c.get.ensures ∙ ap option_copied c.in_ok-inode.was in
    ap Some c.info.ensures
    ∙ past-first table c.self.inside.files c.self.invariant c.args.fid c.range.result (c.range.ensures.in_range tt) c.in_ok-number.field-0.now c.next.new.self c.in_ok-number.ensures.steps c.in_ok-inode.inode.now at
    ∙ ap (λ m. file_past m c.args.fid) c.self.view_is
