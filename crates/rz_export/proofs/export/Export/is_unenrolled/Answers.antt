use Rattle.std.proofs.Common.{◌≡◌, List, None, is_none, sym, ap, ◌∙◌}
use Rattle.std.specs.Prelude.{◌==◌}
use Rattle.std.specs.List as lists
use Rattle.std.specs.Option.{option_map}
use Rattle.std.specs.FinMap as maps
use Rattle.rz_export_model.specs.Export.{Export}
use Rattle.rz_export.specs.declared.nodes.KeptNode.{KeptNode}
use Rattle.rz_export.specs.Nodes.{enrolments_of}
use Rattle.rz_export.specs.Parts.{enrolled_pair, is_past}
use Rattle.rz_export.proofs.Allowed.{enrolled-none}
use Rattle.rz_export.proofs.export.Export.is_unenrolled.Goals as goal

pub returns-in-None : goal.returns-in-None
returns-in-None c =
    let past : option_map enrolled_pair c.enrolment_past.result ≡ lists.find (λ e. is_past None e.0) (maps.entries (enrolments_of c.self.inside.nodes.items)) =
    c.enrolment_past.ensures ∙ ap (λ (ns : List KeptNode). lists.find (λ e. is_past None e.0) (maps.entries (enrolments_of ns))) c.as_slice.ensures.value in
    sym (ap is_none c.in-None.is) ∙ enrolled-none (enrolments_of c.self.inside.nodes.items) c.enrolment_past.result past ∙ ap (λ (s : Export). maps.len s.enrolled == 0) c.self.view_is

pub returns-in-Some : goal.returns-in-Some
returns-in-Some c =
    let past : option_map enrolled_pair c.enrolment_past.result ≡ lists.find (λ e. is_past None e.0) (maps.entries (enrolments_of c.self.inside.nodes.items)) =
    c.enrolment_past.ensures ∙ ap (λ (ns : List KeptNode). lists.find (λ e. is_past None e.0) (maps.entries (enrolments_of ns))) c.as_slice.ensures.value in
    sym (ap is_none c.in-Some.is) ∙ enrolled-none (enrolments_of c.self.inside.nodes.items) c.enrolment_past.result past ∙ ap (λ (s : Export). maps.len s.enrolled == 0) c.self.view_is
