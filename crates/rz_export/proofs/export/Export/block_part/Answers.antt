use Rattle.std.proofs.Common.{◌≡◌, ℕ, Option, Some, None, slice_get, sym, ap, ◌∙◌, refl}
use Rattle.std.specs.Option.{option_map}
use Rattle.std.specs.FinMap as maps
use Rattle.rz_events.specs.declared.keys.Key.{Key}
use Rattle.rz_events.specs.declared.files.Published.{Published}
use Rattle.rz_export_model.specs.Export.{Export, Block}
use Rattle.rz_tree.specs.declared.parts.Part.{Part}
use Rattle.rz_tree.specs.declared.parts.Part.TheVariants as part
use Rattle.rz_export.specs.Parts.{block_part}
use Rattle.rz_export.proofs.export.Export.block_part.Goals as goal

abbrev of_told : Key × ℕ × Option Published → Part
of_told e = part.Block e.0 e.1 e.2

part-told : (o : Option (Key × Block)) → option_map of_told (option_map (λ e. (e.0, e.1.latest, e.1.published)) o) ≡ option_map block_part o
part-told None = refl
part-told (Some e) = refl

pub returns-in_err-key : goal.returns-in_err-key
returns-in_err-key c =
    c.from_residual.ensures ∙ ap (option_map of_told) (sym c.in_err-key.was ∙ c.nth.ensures) ∙ part-told (slice_get (maps.entries c.self.inside.blocks) c.args.i)
    ∙ ap (λ (x : Export). option_map block_part (slice_get (maps.entries x.blocks) c.args.i)) c.self.view_is

pub returns : goal.returns
returns c =
    ap (option_map of_told) (sym c.in_ok-key.was ∙ c.nth.ensures) ∙ part-told (slice_get (maps.entries c.self.inside.blocks) c.args.i)
    ∙ ap (λ (x : Export). option_map block_part (slice_get (maps.entries x.blocks) c.args.i)) c.self.view_is
