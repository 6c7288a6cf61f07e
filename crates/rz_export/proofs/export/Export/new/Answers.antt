use Rattle.std.proofs.Common.{ap, sym, subst, ◌∙◌, List}
use Rattle.std.specs.FinMap as maps
use Rattle.rz_events.specs.Volume.{nodes_of}
use Rattle.rz_export_model.specs.Tree.{Tree, empty_tree}
use Rattle.rz_export_model.specs.Export.{Export, Blocks}
use Rattle.rz_export.specs.declared.nodes.KeptNode.{KeptNode}
use Rattle.rz_export.specs.Kept.{export_of, IsKept}
use Rattle.rz_export.proofs.Enrolled.{enrolments-new}
use Rattle.rz_export.proofs.States.{kept-new}
use Rattle.rz_export.proofs.export.Export.new.Goals as goal

pub invariant_of-result : goal.invariant_of-result
invariant_of-result c =
    let v = c.args.volume in
    subst (λ (t : Tree). IsKept v t c.new-blocks.result c.in_ok-nodes.nodes.items c.new-listed.result c.args.last) (sym c.in_ok-tree.ensures)
    (subst (λ (m : Blocks). IsKept v empty_tree m c.in_ok-nodes.nodes.items c.new-listed.result c.args.last) (sym c.new-blocks.ensures)
    (subst (λ ns. IsKept v empty_tree maps.empty ns c.new-listed.result c.args.last) (sym c.in_ok-nodes.ensures) (kept-new v c.new-listed.result c.args.last c.new-listed.ensures.marks)))

pub returns : goal.returns
returns c =
    let v = c.args.volume in
    ap (λ (t : Tree). export_of v t c.new-blocks.result c.in_ok-nodes.nodes.items c.args.last) c.in_ok-tree.ensures
    ∙ ap (λ (m : Blocks). export_of v empty_tree m c.in_ok-nodes.nodes.items c.args.last) c.new-blocks.ensures
    ∙ ap (λ (ns : List KeptNode). export_of v empty_tree maps.empty ns c.args.last) c.in_ok-nodes.ensures
    ∙ ap (λ e. (let s : Export = record { volume = v; tree = empty_tree; blocks = maps.empty; enrolled = e; last = c.args.last } in s)) (enrolments-new (nodes_of v.clusters))
