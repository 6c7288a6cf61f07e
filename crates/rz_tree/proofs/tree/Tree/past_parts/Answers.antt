use Rattle.std.proofs.Common.{◌≡◌, length, ap, ◌∙◌, sym, arith}
use Rattle.std.specs.FinMap as maps
use Rattle.rz_export_model.specs.Tree.{Tree}
use Rattle.rz_names.specs.Names.{below_root}
use Rattle.rz_tree.proofs.Tables.{len-objects}
use Rattle.rz_tree.proofs.PartPlaces.{parts-length}
use Rattle.rz_tree.proofs.tree.Tree.past_parts.Goals as goal

pub returns-then-i-objects : goal.returns-then-i-objects
returns-then-i-objects c =
    let t : Tree = c.args.self.now in
    let count : c.len-objects.result ≡ maps.len t.objects = c.len-objects.ensures ∙ sym (len-objects c.self.inside.inodes) ∙ ap (λ (x : Tree). maps.len x.objects) c.self.view_is in
    omega (arith, count, parts-length t, c.if-i-objects.true)

pub returns-then-past_objects-names : goal.returns-then-past_objects-names
returns-then-past_objects-names c =
    let t : Tree = c.args.self.now in
    let count : c.len-objects.result ≡ maps.len t.objects = c.len-objects.ensures ∙ sym (len-objects c.self.inside.inodes) ∙ ap (λ (x : Tree). maps.len x.objects) c.self.view_is in
    let names : c.count-names.result ≡ length (below_root t.names) = c.count-names.ensures ∙ ap (λ (x : Tree). length (below_root x.names)) c.self.view_is in
    omega (arith, count, names, parts-length t, c.if-i-objects.false, c.if-past_objects-names.true)

pub returns : goal.returns
returns c =
    let t : Tree = c.args.self.now in
    let count : c.len-objects.result ≡ maps.len t.objects = c.len-objects.ensures ∙ sym (len-objects c.self.inside.inodes) ∙ ap (λ (x : Tree). maps.len x.objects) c.self.view_is in
    let names : c.count-names.result ≡ length (below_root t.names) = c.count-names.ensures ∙ ap (λ (x : Tree). length (below_root x.names)) c.self.view_is in
    omega (arith, count, names, parts-length t, c.if-i-objects.false, c.if-past_objects-names.false)
