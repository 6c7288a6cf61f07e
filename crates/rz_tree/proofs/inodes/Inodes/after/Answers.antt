use Rattle.std.proofs.Common.{◌≡◌, ℕ, ◌∷◌, Some, sym, ap, ◌∙◌}
use Rattle.std.specs.FinMap as maps
use Rattle.rz_tree.specs.declared.inodes.Inode.{Inode}
use Rattle.rz_tree.specs.Inodes.{first_past}
use Rattle.rz_tree.proofs.Rows.{Row}
use Rattle.rz_tree.proofs.Walks.{first, first-entry}
use Rattle.rz_tree.proofs.inodes.Inodes.after.Goals as goal

first-of : (r t : Row) (e : ℕ × Inode) → r ≡ e ∷ t → first r ≡ Some e
first-of r t e is = ap first is

pub returns-in-None : goal.returns-in-None
returns-in-None c =
    sym (ap first c.in-None.ensures.steps.0)
    ∙ first-entry c.start_past.result c.args.fid c.start_past.ensures c.self.inside.entries.entries c.range.ensures.ordered c.range.result (c.range.ensures.between tt)
    ∙ ap (λ m. first_past c.args.fid (maps.entries m)) c.self.view_is

pub returns-in-Some : goal.returns-in-Some
returns-in-Some c =
    sym (first-of c.range.result c.next.new.self (c.in-Some.fid.now, c.in-Some.inode.now) c.in-Some.ensures.steps)
    ∙ first-entry c.start_past.result c.args.fid c.start_past.ensures c.self.inside.entries.entries c.range.ensures.ordered c.range.result (c.range.ensures.between tt)
    ∙ ap (λ m. first_past c.args.fid (maps.entries m)) c.self.view_is
