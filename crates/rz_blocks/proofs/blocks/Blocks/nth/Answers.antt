use Rattle.std.proofs.Common.{◌≡◌, ℕ, Some, None, Option, ap, ◌∙◌, sym, slice_get}
use Rattle.std.proofs.lemmas.Iterator.Consumers.{nth_from_yields_List, YieldsList-from_rest}
use Rattle.std.proofs.lemmas.Option.{slice_get-map}
use Rattle.std.specs.Option.{option_map}
use Rattle.std.specs.FinMap as maps
use Rattle.rz_events.specs.declared.keys.Key.{Key}
use Rattle.rz_events.specs.declared.files.Published.{Published}
use Rattle.rz_export_model.specs.Export.{Block}
use Rattle.rz_blocks.specs.declared.blocks.BlockEntry.{BlockEntry}
use Rattle.rz_blocks.specs.Shown.{shown, nth_entry}
use Rattle.rz_blocks.proofs.Shows.{Kept, entries-shown}
use Rattle.rz_blocks.proofs.blocks.Blocks.nth.Goals as goal

-- what is told of an entry
abbrev told : Key × Block → Key × ℕ × Option Published
told e = (e.0, e.1.latest, e.1.published)

abbrev seen : Key × BlockEntry → Key × Block
seen e = (e.0, shown e.1)

pub returns-in_err-key : goal.returns-in_err-key
returns-in_err-key c =
    let es : Kept = c.self.inside.entries.entries in
    let at = nth_from_yields_List c.nth.result c.nth.new.self c.args.at c.nth.ensures.ran (YieldsList-from_rest es c.iter.ensures.rest) in
    c.from_residual.ensures
    ∙ ap (λ o. option_map told (option_map seen o)) (ap (option_map (λ p. (p.0.now, p.1.now))) (sym c.in_err-key.was) ∙ at)
    ∙ ap (option_map told) (sym (slice_get-map seen es c.args.at) ∙ ap (λ l. slice_get l c.args.at) (sym (entries-shown es c.iter.ensures.ordered)))
    ∙ ap (λ b. nth_entry b c.args.at) c.self.view_is

pub returns : goal.returns
returns c =
    let es : Kept = c.self.inside.entries.entries in
    let at = nth_from_yields_List c.nth.result c.nth.new.self c.args.at c.nth.ensures.ran (YieldsList-from_rest es c.iter.ensures.rest) in
    ap (λ o. option_map told (option_map seen o)) (ap (option_map (λ p. (p.0.now, p.1.now))) (sym c.in_ok-key.was) ∙ at)
    ∙ ap (option_map told) (sym (slice_get-map seen es c.args.at) ∙ ap (λ l. slice_get l c.args.at) (sym (entries-shown es c.iter.ensures.ordered)))
    ∙ ap (λ b. nth_entry b c.args.at) c.self.view_is
