use Rattle.std.proofs.Common.{ap, ◌∙◌, is_some}
use Rattle.std.specs.FinMap as maps
use Rattle.rz_export_model.specs.Paths.{above}
use Rattle.rz_names.proofs.Places.{insert-parts}
use Rattle.rz_names.proofs.Names.{placed, added-kept, added-is}
use Rattle.rz_names.proofs.map.NameMap.add.Goals as goal

pub invariant_of-self-2 : goal.invariant_of-self-2
invariant_of-self-2 c =
    let es = c.self.inside.entries in
    let at = placed c.place_of-at.result c.names.result.now c.args.path.now es c.place_of-at.ensures.place c.names.ensures in
    added-kept es c.args.path.now c.args.fid c.self.invariant (ap (λ m. maps.get m c.args.path.now) c.self.view_is ∙ c.requires.absent)
    (ap (λ m. is_some (maps.get m (above c.args.path.now))) c.self.view_is ∙ c.requires.parent) c.insert.new.self c.place_of-at.result c.new.result
    (c.in_ok-insert.ensures.ok ∙ insert-parts es c.place_of-at.result c.new.result c.place_of-at.ensures.within) at (c.new.ensures ∙ ap (λ p. (p, c.args.fid)) c.in_ok-path.ensures)

pub returns-clause-ok : goal.returns-clause-ok
returns-clause-ok c =
    let es = c.self.inside.entries in
    let at = placed c.place_of-at.result c.names.result.now c.args.path.now es c.place_of-at.ensures.place c.names.ensures in
    added-is es c.args.path.now c.args.fid c.self.invariant (ap (λ m. maps.get m c.args.path.now) c.self.view_is ∙ c.requires.absent) c.insert.new.self c.place_of-at.result c.new.result
    (c.in_ok-insert.ensures.ok ∙ insert-parts es c.place_of-at.result c.new.result c.place_of-at.ensures.within) at (c.new.ensures ∙ ap (λ p. (p, c.args.fid)) c.in_ok-path.ensures)
    ∙ ap (λ m. maps.insert m c.args.path.now c.args.fid) c.self.view_is
