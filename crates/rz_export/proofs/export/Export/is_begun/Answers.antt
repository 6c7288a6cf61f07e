use Rattle.std.proofs.Common.{ap, ◌∙◌, is_some}
use Rattle.std.specs.Prelude.{nat_lt}
use Rattle.std.specs.FinMap as maps
use Rattle.rz_export_model.specs.Export.{Export}
use Rattle.rz_export.proofs.States.{begun-test}
use Rattle.rz_export.proofs.export.Export.is_begun.Goals as goal

pub returns : goal.returns
returns c =
    let s = c.self.inside in
    ap (nat_lt 0) c.latest.ensures ∙ begun-test s.volume s.tree s.blocks s.nodes.items s.listed s.last c.self.invariant c.args.key
    ∙ ap (λ (s : Export). is_some (maps.get s.blocks c.args.key)) c.self.view_is
