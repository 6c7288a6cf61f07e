use Rattle.std.proofs.Common.{◌≡◌, None, sym, ap, ◌∙◌, subst}
use Rattle.std.specs.BTreeMap.{is_at}
use Rattle.std.specs.List.{list_any}
use Rattle.std.specs.Ordering.{nat_cmp}
use Rattle.std.specs.FinMap as maps
use Rattle.rz_export_model.specs.Tree.{is_file}
use Rattle.rz_tree.specs.Inodes.{Table, is_file_at, AreFilesOf}
use Rattle.rz_tree.proofs.Adds.{undone}
use Rattle.rz_tree.proofs.Files.{other-kind, other-files, added-files}
use Rattle.rz_tree.proofs.Rows.{table_of, one-set, one-gone}
use Rattle.rz_tree.proofs.inodes.Inodes.add.Goals as goal

pub invariant_of-self-in_default : goal.invariant_of-self-in_default
invariant_of-self-in_default c =
    let table : Table = table_of c.self.inside.entries.entries in
    let none : maps.get table c.args.fid ≡ None = ap (λ m. maps.get m c.args.fid) c.self.view_is ∙ c.requires in
    subst (λ m. AreFilesOf m c.self.inside.files)
    (sym (one-set c.self.inside.entries.entries c.insert.new.self.entries c.args.fid c.args.inode c.in_ok-insert.ensures.updates.0))
    (other-files table c.args.fid c.args.inode c.self.inside.files none (other-kind c.args.inode.kind c.in_default.not-File) c.self.invariant)

pub returns-in_default : goal.returns-in_default
returns-in_default c = record {
  ok = one-set c.self.inside.entries.entries c.insert.new.self.entries c.args.fid c.args.inode c.in_ok-insert.ensures.updates.0 ∙ ap (λ m. maps.insert m c.args.fid c.args.inode) c.self.view_is;
  err = tt;
}

pub invariant_of-self-in-Ok : goal.invariant_of-self-in-Ok
invariant_of-self-in-Ok c =
    subst (λ m. AreFilesOf m c.insert-2.new.self)
    (sym (one-set c.self.inside.entries.entries c.insert.new.self.entries c.args.fid c.args.inode c.in_ok-insert.ensures.updates.0))
    (added-files (table_of c.self.inside.entries.entries) c.args.fid c.args.inode c.self.inside.files c.insert-2.new.self (ap is_file c.in-File.is) c.in-Ok.ensures.updates.0 c.self.invariant)

pub returns-in-Ok-clause-ok : goal.returns-in-Ok-clause-ok
returns-in-Ok-clause-ok c =
    one-set c.self.inside.entries.entries c.insert.new.self.entries c.args.fid c.args.inode c.in_ok-insert.ensures.updates.0 ∙ ap (λ m. maps.insert m c.args.fid c.args.inode) c.self.view_is

pub invariant_of-self-in-Err : goal.invariant_of-self-in-Err
invariant_of-self-in-Err c =
    let table : Table = table_of c.self.inside.entries.entries in
    let none : maps.get table c.args.fid ≡ None = ap (λ m. maps.get m c.args.fid) c.self.view_is ∙ c.requires in
    let same : table_of c.remove.new.self.entries ≡ table =
    one-gone c.insert.new.self.entries c.remove.new.self.entries c.args.fid c.remove.ensures.updates.0
    ∙ ap (λ m. maps.remove m c.args.fid) (one-set c.self.inside.entries.entries c.insert.new.self.entries c.args.fid c.args.inode c.in_ok-insert.ensures.updates.0)
    ∙ undone table c.args.fid c.args.inode none in
    λ q. ap (list_any (is_at (nat_cmp q))) c.in-Err.ensures.err ∙ c.self.invariant q ∙ ap (λ m. is_file_at m q) (sym same)

pub returns-in-Err-clause-err : goal.returns-in-Err-clause-err
returns-in-Err-clause-err c =
    let table : Table = table_of c.self.inside.entries.entries in
    let none : maps.get table c.args.fid ≡ None = ap (λ m. maps.get m c.args.fid) c.self.view_is ∙ c.requires in
    one-gone c.insert.new.self.entries c.remove.new.self.entries c.args.fid c.remove.ensures.updates.0
    ∙ ap (λ m. maps.remove m c.args.fid) (one-set c.self.inside.entries.entries c.insert.new.self.entries c.args.fid c.args.inode c.in_ok-insert.ensures.updates.0)
    ∙ undone table c.args.fid c.args.inode none ∙ c.self.view_is
