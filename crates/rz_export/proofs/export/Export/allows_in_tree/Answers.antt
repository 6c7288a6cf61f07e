use Rattle.std.proofs.Common.{◌≡◌, true, ◌↔◌, sym, ap, ◌∙◌, subst}
use Rattle.rz_export_model.specs.Tree.{Tree}
use Rattle.rz_export_model.specs.Export.{Export}
use Rattle.rz_tree.specs.Added as trees
use Rattle.rz_export.proofs.Allowed.{no, blockless-rule, blockless-test}
use Rattle.rz_export.proofs.export.Export.allows_in_tree.Goals as goal

pub returns-then-is_blockless : goal.returns-then-is_blockless
returns-then-is_blockless c =
    let tree = subst (λ (t : Tree). (c.allows.result ≡ true) ↔ trees.MayBeNext t c.args.part.now) (ap (λ (s : Export). s.tree) c.self.view_is) c.allows.ensures in
    ((λ h. (tree.0 h, blockless-rule c.args.self.now (sym c.is_blockless.ensures ∙ c.if-is_blockless.true))), (λ r. tree.1 r.0))

pub returns-else-is_blockless : goal.returns-else-is_blockless
returns-else-is_blockless c = (
  (λ h. absurd (no (sym c.if-is_blockless.false ∙ h))),
  (λ r. c.is_blockless.ensures ∙ blockless-test c.args.self.now r.1),
)
