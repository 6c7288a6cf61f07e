use Rattle.rz_blocks.proofs.Found.{first-entry}
use Rattle.std.proofs.Common.{◌≡◌, true, ◌∷◌, Some, sym, ap, ◌∙◌}
use Rattle.std.specs.Option.{option_map}
use Rattle.rz_events.specs.declared.keys.Key.{Key}
use Rattle.rz_export_model.specs.Export.{Block}
use Rattle.rz_blocks.specs.declared.blocks.BlockEntry.{BlockEntry}
use Rattle.rz_blocks.specs.Shown.{shown}
use Rattle.rz_blocks.proofs.Shows.{Kept}
use Rattle.std.specs.List as lists
use Rattle.rz_blocks.proofs.blocks.Blocks.after.Goals as goal

first-of : (r t : Kept) (e : Key × BlockEntry) → r ≡ e ∷ t → lists.find (λ x. true) r ≡ Some e
first-of r t e is = ap (lists.find (λ x. true)) is

pub returns-in-None : goal.returns-in-None
returns-in-None c =
    sym (ap (λ r. option_map (λ (x : Key × Block). (x.0, x.1.latest, x.1.published)) (option_map (λ (x : Key × BlockEntry). (x.0, shown x.1)) (lists.find (λ x. true) r))) c.in-None.ensures.steps.0)
    ∙ first-entry c.self.inside.entries.entries c.range.ensures.ordered c.args.self.now c.self.view_is c.range.result c.start_above.result c.args.key c.start_above.ensures (c.range.ensures.between tt)

pub returns-in-Some : goal.returns-in-Some
returns-in-Some c =
    sym (ap (λ o. option_map (λ (x : Key × Block). (x.0, x.1.latest, x.1.published)) (option_map (λ (x : Key × BlockEntry). (x.0, shown x.1)) o))
    (first-of c.range.result c.next.new.self (c.in-Some.key.now, c.in-Some.entry.now) c.in-Some.ensures.steps))
    ∙ first-entry c.self.inside.entries.entries c.range.ensures.ordered c.args.self.now c.self.view_is c.range.result c.start_above.result c.args.key c.start_above.ensures (c.range.ensures.between tt)
