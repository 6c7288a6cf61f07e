use Rattle.std.proofs.Common.{List, Some, is_none, sym, ap, ◌∙◌}
use Rattle.std.specs.List as lists
use Rattle.std.specs.Cmp.{nat_cmp_total}
use Rattle.std.specs.FinMap as maps
use Rattle.rz_export_model.specs.Export.{Export}
use Rattle.rz_export.specs.declared.nodes.KeptNode.{KeptNode}
use Rattle.rz_export.specs.Nodes.{enrolments_of}
use Rattle.rz_export.specs.Parts.{is_past}
use Rattle.rz_export.proofs.Allowed.{behind-there, enrolled-behind}
use Rattle.rz_export.proofs.export.Export.is_behind_enrolments.Goals as goal

pub returns-then-is_enrolled : goal.returns-then-is_enrolled
returns-then-is_enrolled c = behind-there nat_cmp_total c.args.node c.args.self.now.enrolled (sym c.is_enrolled.ensures ∙ c.if-is_enrolled.true)

pub returns-in-None : goal.returns-in-None
returns-in-None c =
    let node = c.args.node in
    sym (ap is_none c.in-None.is)
    ∙ enrolled-behind c.args.self.now.enrolled node c.enrolment_past.result (sym c.is_enrolled.ensures ∙ c.if-is_enrolled.false)
    (c.enrolment_past.ensures ∙ ap (λ (ns : List KeptNode). lists.find (λ e. is_past (Some node) e.0) (maps.entries (enrolments_of ns))) c.as_slice.ensures.value
    ∙ ap (λ (s : Export). lists.find (λ e. is_past (Some node) e.0) (maps.entries s.enrolled)) c.self.view_is)

pub returns-in-Some : goal.returns-in-Some
returns-in-Some c =
    let node = c.args.node in
    sym (ap is_none c.in-Some.is)
    ∙ enrolled-behind c.args.self.now.enrolled node c.enrolment_past.result (sym c.is_enrolled.ensures ∙ c.if-is_enrolled.false)
    (c.enrolment_past.ensures ∙ ap (λ (ns : List KeptNode). lists.find (λ e. is_past (Some node) e.0) (maps.entries (enrolments_of ns))) c.as_slice.ensures.value
    ∙ ap (λ (s : Export). lists.find (λ e. is_past (Some node) e.0) (maps.entries s.enrolled)) c.self.view_is)
