use Rattle.std.proofs.Common.{◌≡◌, true, ◌↔◌, subst}
use Rattle.rz_export_model.specs.Export.{Export}
use Rattle.rz_tree.specs.Added.{AreNamed}
use Rattle.rz_export.proofs.export.Export.is_named.Goals as goal

pub returns : goal.returns
returns c = subst (λ (s : Export). (c.is_named.result ≡ true) ↔ AreNamed s.tree) c.self.view_is c.is_named.ensures
