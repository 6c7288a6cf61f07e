use Rattle.std.proofs.Common.{◌≡◌, ◌+◌, ◌-◌, length, Some, Option, IfOk, slice_get, ap, ◌∙◌, subst, arith}
use Rattle.rz_export_model.specs.Export.{Export}
use Rattle.rz_tree.specs.Parts.{tree_parts}
use Rattle.rz_tree.specs.declared.parts.Part.{Part}
use Rattle.rz_export.specs.Kept.{export_of}
use Rattle.rz_export.specs.Parts.{export_parts}
use Rattle.rz_export.proofs.PartPlaces.{first-part, tree-part, flat-part}
use Rattle.rz_export.proofs.export.Export.part.Goals as goal

pub returns-then-i-eq0 : goal.returns-then-i-eq0
returns-then-i-eq0 c = ap Some c.counters.ensures ∙ first-part c.args.self.now c.args.i c.if-i-eq0.true

pub returns-in-None : goal.returns-in-None
returns-in-None c =
    let n = c.self.inside in
    let s : Export = export_of n.volume n.tree n.blocks n.nodes.items n.last in
    subst (λ (o : Option Part). IfOk c.part.result (λ part. part ≡ o))
    (tree-part s c.args.i (c.args.i - 1) (omega (arith, c.if-i-eq0.false)) c.in-None.ensures ∙ ap (λ x. slice_get (export_parts x) c.args.i) c.self.view_is)
    c.part.ensures

pub returns-in-Some : goal.returns-in-Some
returns-in-Some c =
    c.flat_part.ensures
    ∙ flat-part c.args.self.now c.args.i (c.args.i - 1) c.in-Some.past (omega (arith, c.if-i-eq0.false))
    (c.in-Some.ensures ∙ ap (λ (x : Export). length (tree_parts x.tree) + c.in-Some.past) c.self.view_is)
