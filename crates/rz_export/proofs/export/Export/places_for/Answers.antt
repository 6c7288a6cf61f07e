use Rattle.std.proofs.Common.{ap, ◌∙◌}
use Rattle.rz_export_model.specs.Place.{Placed}
use Rattle.rz_export.proofs.TreeStates.{none-placed}
use Rattle.rz_export.proofs.export.Export.places_for.Goals as goal

pub returns-in_default-clause-cid : goal.returns-in_default-clause-cid
returns-in_default-clause-cid c = ap (λ (p : Placed). p.cid) (none-placed c.args.self.now c.args.call.now c.in_default.not-Create)

pub returns-in_default-clause-places : goal.returns-in_default-clause-places
returns-in_default-clause-places c = c.none.ensures ∙ ap (λ (p : Placed). p.places) (none-placed c.args.self.now c.args.call.now c.in_default.not-Create)
