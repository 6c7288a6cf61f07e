use Rattle.std.proofs.Common.{sym, ap, ◌∙◌}
use Rattle.rz_names.specs.Names.{is_behind}
use Rattle.rz_tree.proofs.Allowed.{is_nothing, behind-row}
use Rattle.rz_tree.proofs.inodes.Inodes.is_behind.Goals as goal

pub returns-in-None : goal.returns-in-None
returns-in-None c =
    ap is_nothing (sym c.in-None.ensures.steps.0 ∙ c.range.ensures.between tt) ∙ behind-row c.args.fid c.self.inside.entries.entries c.range.ensures.ordered
    ∙ ap (λ m. is_behind m c.args.fid) c.self.view_is

pub returns-in-Some : goal.returns-in-Some
returns-in-Some c =
    ap is_nothing (sym c.in-Some.ensures.steps ∙ c.range.ensures.between tt) ∙ behind-row c.args.fid c.self.inside.entries.entries c.range.ensures.ordered
    ∙ ap (λ m. is_behind m c.args.fid) c.self.view_is
