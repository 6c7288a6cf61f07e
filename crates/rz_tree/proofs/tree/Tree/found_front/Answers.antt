use Rattle.std.proofs.Common.{Some, None, take, ap, ◌∙◌, sym}
use Rattle.std.specs.Option.{option_copied, option_map}
use Rattle.rz_export_model.specs.Tree.{found_at, links_of}
use Rattle.rz_tree.specs.Inodes.{found_of}
use Rattle.rz_tree.proofs.Found.{found-kept, links-kept}
use Rattle.rz_tree.proofs.tree.Tree.found_front.Goals as goal

pub returns-in_err-inode-clause-found : goal.returns-in_err-inode-clause-found
returns-in_err-inode-clause-found c =
    ap (option_map (λ p. found_of p.0 p.1.now)) c.from_residual-in_err-inode.ensures
    ∙ found-kept c.self.inside.names c.self.inside.inodes c.self.inside.made (take c.args.count c.args.path.now) c.in_ok-fid.fid None
    (sym c.in_ok-fid.was ∙ c.find.ensures) (ap option_copied (sym c.in_err-inode.was) ∙ c.get.ensures)
    ∙ ap (λ t. found_at t (take c.args.count c.args.path.now)) c.self.view_is

pub returns-clause-found : goal.returns-clause-found
returns-clause-found c =
    found-kept c.self.inside.names c.self.inside.inodes c.self.inside.made (take c.args.count c.args.path.now) c.in_ok-fid.fid (Some c.in_ok-inode.inode.now)
    (sym c.in_ok-fid.was ∙ c.find.ensures) (ap option_copied (sym c.in_ok-inode.was) ∙ c.get.ensures)
    ∙ ap (λ t. found_at t (take c.args.count c.args.path.now)) c.self.view_is

pub returns-clause-links : goal.returns-clause-links
returns-clause-links c =
    links-kept c.self.inside.names c.self.inside.inodes c.self.inside.made (take c.args.count c.args.path.now) c.in_ok-fid.fid c.in_ok-inode.inode.now (sym c.find.ensures ∙ c.in_ok-fid.was) (sym c.get.ensures ∙ ap option_copied c.in_ok-inode.was) c.self.invariant
    ∙ ap (λ t. links_of t (found_of c.in_ok-fid.fid c.in_ok-inode.inode.now)) c.self.view_is
