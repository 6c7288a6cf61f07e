use Rattle.std.proofs.Common.{◌≡◌, ◌-◌, IfOk, ap, ◌∙◌, sym, subst, Option, arith}
use Rattle.std.specs.FinMap as maps
use Rattle.rz_export_model.specs.Tree.{Tree}
use Rattle.rz_tree.specs.declared.parts.Part.{Part}
use Rattle.rz_tree.proofs.Tables.{len-objects}
use Rattle.rz_tree.proofs.PartPlaces.{object-parts, name-parts}
use Rattle.rz_tree.proofs.tree.Tree.part.Goals as goal

pub returns-then-i-objects : goal.returns-then-i-objects
returns-then-i-objects c =
    let t : Tree = c.args.self.now in
    let count : maps.len t.objects ≡ c.len-objects.result = sym (c.len-objects.ensures ∙ sym (len-objects c.self.inside.inodes) ∙ ap (λ (x : Tree). maps.len x.objects) c.self.view_is) in
    subst (λ (o : Option Part). IfOk c.object_part.result (λ part. part ≡ o)) (object-parts t c.args.i (omega (arith, count, c.if-i-objects.true))) c.object_part.ensures

pub returns : goal.returns
returns c =
    let t : Tree = c.args.self.now in
    let count : maps.len t.objects ≡ c.len-objects.result = sym (c.len-objects.ensures ∙ sym (len-objects c.self.inside.inodes) ∙ ap (λ (x : Tree). maps.len x.objects) c.self.view_is) in
    subst (λ (o : Option Part). IfOk c.name_part.result (λ part. part ≡ o)) (name-parts t c.args.i (c.args.i - c.len-objects.result) (omega (arith, count, c.if-i-objects.false))) c.name_part.ensures
