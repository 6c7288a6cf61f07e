use Rattle.std.proofs.Common.{◌≡◌, ℕ, Option, Some, None, IfOk, slice_get, sym, ap, ◌∙◌, subst}
use Rattle.std.specs.Option.{option_map, option_or}
use Rattle.std.specs.FinMap as maps
use Rattle.rz_export_model.specs.Tree.{Tree, Object}
use Rattle.rz_names.specs.Names.{below_root}
use Rattle.rz_tree.specs.declared.inodes.Inode.{Inode}
use Rattle.rz_tree.specs.Inodes.{object_of, first_past}
use Rattle.rz_tree.specs.Parts.{object_part, name_part}
use Rattle.rz_tree.proofs.Walks.{object-past}
use Rattle.rz_tree.proofs.tree.Tree.part_after_object.Goals as goal

pub returns-in-None : goal.returns-in-None
returns-in-None c =
    let t : Tree = c.args.self.now in
    let none : None ≡ first_past c.args.fid (maps.entries t.objects) =
    ap (option_map (λ (e : ℕ × Inode). (e.0, object_of e.1))) c.in-None.ensures ∙ sym (object-past c.args.fid c.self.inside.inodes)
    ∙ ap (λ (x : Tree). first_past c.args.fid (maps.entries x.objects)) c.self.view_is in
    subst (λ (o : Option (ℕ × Object)). IfOk c.name_part.result (λ part. part ≡ option_or (option_map object_part o) (option_map name_part (slice_get (below_root t.names) 0)))) none c.name_part.ensures

pub returns-in_ok-object_part-in-Some : goal.returns-in_ok-object_part-in-Some
returns-in_ok-object_part-in-Some c =
    let t : Tree = c.args.self.now in
    let first : Option (ℕ × Object) → _ = λ o. option_or (option_map object_part o) (option_map name_part (slice_get (below_root t.names) 0)) in
    ap Some c.in_ok-object_part-in-Some.ensures
    ∙ ap (λ o. first (option_map (λ (e : ℕ × Inode). (e.0, object_of e.1)) o)) c.in-Some.ensures
    ∙ ap first (sym (object-past c.args.fid c.self.inside.inodes))
    ∙ ap (λ (x : Tree). first (first_past c.args.fid (maps.entries x.objects))) c.self.view_is
