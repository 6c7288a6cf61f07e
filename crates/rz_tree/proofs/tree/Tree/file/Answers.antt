use Rattle.std.proofs.Common.{Some, None, ap, ◌∙◌, sym}
use Rattle.std.specs.Option.{option_copied}
use Rattle.rz_export_model.specs.Tree.{file_of}
use Rattle.rz_tree.proofs.Found.{file-kept, no-file-kept, own-file-kept}
use Rattle.rz_tree.proofs.tree.Tree.file.Goals as goal

pub returns-in_err-inode : goal.returns-in_err-inode
returns-in_err-inode c =
    c.from_residual.ensures
    ∙ file-kept c.self.inside.names c.self.inside.inodes c.self.inside.made c.args.fid None (ap option_copied (sym c.in_err-inode.was) ∙ c.get.ensures)
    ∙ ap (λ t. file_of t c.args.fid) c.self.view_is

pub returns-in-File : goal.returns-in-File
returns-in-File c =
    ap Some c.info.ensures
    ∙ own-file-kept c.self.inside.names c.self.inside.inodes c.self.inside.made c.args.fid c.in_ok-inode.inode.now (ap option_copied (sym c.in_ok-inode.was) ∙ c.get.ensures) c.in-File.is
    ∙ ap (λ t. file_of t c.args.fid) c.self.view_is

pub returns-in_default : goal.returns-in_default
returns-in_default c =
    no-file-kept c.self.inside.names c.self.inside.inodes c.self.inside.made c.args.fid c.in_ok-inode.inode.now (ap option_copied (sym c.in_ok-inode.was) ∙ c.get.ensures) c.in_default.not-File
    ∙ ap (λ t. file_of t c.args.fid) c.self.view_is
