use Rattle.std.proofs.Common.{sym, ap, ◌∙◌}
use Rattle.rz_export_model.specs.Export.{Export, next_on}
use Rattle.rz_export.specs.Kept.{export_of}
use Rattle.rz_export.proofs.Firsts.{next-none, next-some}
use Rattle.rz_export.proofs.export.Export.next_on.Goals as goal

pub returns-in_err-key : goal.returns-in_err-key
returns-in_err-key c =
    let s = c.self.inside in
    c.from_residual.ensures
    ∙ next-none (export_of s.volume s.tree s.blocks s.nodes.items s.last) s.listed c.self.invariant.marked c.args.node c.args.after c.in_err-key.ensures
    ∙ ap (λ (x : Export). next_on x c.args.node c.args.after) c.self.view_is

pub returns : goal.returns
returns c =
    let s = c.self.inside in
    next-some (export_of s.volume s.tree s.blocks s.nodes.items s.last) s.listed c.self.invariant.marked c.args.node c.args.after
    c.in_ok-key.key c.in_ok-info.info c.in_ok-published.published c.in_ok-key.ensures.0 c.in_ok-key.ensures.1 c.in_ok-key.ensures.2
    (sym c.file.ensures ∙ c.in_ok-info.was) (sym c.look.ensures ∙ c.in_ok-published.was)
    ∙ ap (λ (x : Export). next_on x c.args.node c.args.after) c.self.view_is
