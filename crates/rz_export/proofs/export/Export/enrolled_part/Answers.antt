use Rattle.std.proofs.Common.{slice_get, sym, ap, ◌∙◌}
use Rattle.std.specs.Option.{option_map}
use Rattle.std.specs.FinMap as maps
use Rattle.rz_export_model.specs.Export.{Export}
use Rattle.rz_export.specs.Nodes.{enrolments_of}
use Rattle.rz_export.specs.Parts.{enrolled_part, enrolled_pair}
use Rattle.rz_export.proofs.export.Export.enrolled_part.Goals as goal

pub returns-in_err-node : goal.returns-in_err-node
returns-in_err-node c =
    c.from_residual.ensures
    ∙ ap (option_map enrolled_part) (ap (option_map enrolled_pair) (sym c.in_err-node.was) ∙ c.nth_enrolment.ensures ∙ ap (λ ns. slice_get (maps.entries (enrolments_of ns)) c.args.i) c.as_slice.ensures.value)
    ∙ ap (λ (x : Export). option_map enrolled_part (slice_get (maps.entries x.enrolled) c.args.i)) c.self.view_is

pub returns : goal.returns
returns c =
    ap (option_map enrolled_part) (ap (option_map enrolled_pair) (sym c.in_ok-node.was) ∙ c.nth_enrolment.ensures ∙ ap (λ ns. slice_get (maps.entries (enrolments_of ns)) c.args.i) c.as_slice.ensures.value)
    ∙ ap (λ (x : Export). option_map enrolled_part (slice_get (maps.entries x.enrolled) c.args.i)) c.self.view_is
