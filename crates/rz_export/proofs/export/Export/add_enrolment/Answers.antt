use Rattle.std.proofs.Common.{◌≡◌, ◌==◌, true, List, map, sym, ap, ◌∙◌, subst}
use Rattle.std.specs.List.{list_any}
use Rattle.std.specs.Ordering.{nat_cmp}
use Rattle.std.specs.FinMap.{FinMap}
use Rattle.std.proofs.lemmas.List.{with_items_is}
use Rattle.rz_events.specs.declared.files.NodeSpec.{NodeSpec}
use Rattle.rz_export_model.specs.Export.{Export, Enrolled, is_node}
use Rattle.rz_tree.specs.declared.parts.Part.TheVariants as part
use Rattle.rz_export.specs.declared.nodes.Enrolment.{Enrolment}
use Rattle.rz_export.specs.declared.nodes.KeptNode.{KeptNode}
use Rattle.rz_export.specs.Nodes.{with_enrolment}
use Rattle.rz_export.specs.Kept.{export_of, IsKept}
use Rattle.rz_export.specs.Building.{with_part}
use Rattle.rz_export.proofs.Built.{kept-enrolled}
use Rattle.rz_export.proofs.Enrolled.{any-map, enrolments-set}
use Rattle.rz_export.proofs.export.Export.add_enrolment.Goals as goal

pub invariant_of-self : goal.invariant_of-self
invariant_of-self c =
    let s = c.self.inside in
    let e : Enrolment = record { loss = c.args.loss; fence = c.args.fence } in
    let items = with_items_is s.nodes c.enroll.new.nodes (c.enroll.auto.nodes ∙ c.as_mut_slice.ensures.len) in
    let all : c.enroll.new.nodes ≡ map (with_enrolment c.args.node e) s.nodes.items = c.enroll.ensures ∙ ap (map (with_enrolment c.args.node e)) c.as_mut_slice.ensures.value in
    subst (λ (ns : List KeptNode). IsKept s.volume s.tree s.blocks ns s.listed s.last) (sym (items ∙ all))
    (kept-enrolled s.volume s.tree s.blocks s.nodes.items s.listed s.last c.self.invariant c.args.node e)

pub returns : goal.returns
returns c =
    let s = c.self.inside in
    let node = c.args.node in
    let e : Enrolment = record { loss = c.args.loss; fence = c.args.fence } in
    let items = with_items_is s.nodes c.enroll.new.nodes (c.enroll.auto.nodes ∙ c.as_mut_slice.ensures.len) in
    let all : c.enroll.new.nodes ≡ map (with_enrolment node e) s.nodes.items = c.enroll.ensures ∙ ap (map (with_enrolment node e)) c.as_mut_slice.ensures.value in
    let any : list_any (λ (k : KeptNode). k.spec.sid == node) s.nodes.items ≡ true =
    sym (any-map (λ (n : NodeSpec). n.sid == node) (λ (k : KeptNode). k.spec) s.nodes.items)
    ∙ ap (list_any (λ (n : NodeSpec). n.sid == node)) c.self.invariant.all_nodes
    ∙ ap (λ (x : Export). is_node x node) c.self.view_is ∙ c.requires.known in
    ap (λ (ns : List KeptNode). export_of s.volume s.tree s.blocks ns s.last) (items ∙ all)
    ∙ ap (λ (m : FinMap nat_cmp Enrolled). (let x : Export = record { volume = s.volume; tree = s.tree; blocks = s.blocks; enrolled = m; last = s.last } in x)) (enrolments-set node e s.nodes.items any)
    ∙ ap (λ (x : Export). with_part x (part.Enrolled node c.args.loss c.args.fence)) c.self.view_is
