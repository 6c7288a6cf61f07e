use Rattle.std.proofs.Common.{ℕ, Some, ap, ◌∙◌, sym, slice_get}
use Rattle.std.specs.Option.{option_map}
use Rattle.std.specs.FinMap as maps
use Rattle.rz_tree.specs.declared.inodes.Inode.{Inode}
use Rattle.rz_tree.specs.Inodes.{object_of}
use Rattle.rz_tree.specs.Parts.{object_part}
use Rattle.rz_tree.proofs.PartPlaces.{object-at}
use Rattle.rz_tree.proofs.tree.Tree.object_part.Goals as goal

pub returns-in-None : goal.returns-in-None
returns-in-None c =
    ap (λ o. option_map object_part (option_map (λ (e : ℕ × Inode). (e.0, object_of e.1)) o)) c.in-None.ensures
    ∙ ap (option_map object_part) (sym (object-at c.self.inside.inodes c.args.i))
    ∙ ap (λ t. option_map object_part (slice_get (maps.entries t.objects) c.args.i)) c.self.view_is

pub returns-in_ok-object_part-in-Some : goal.returns-in_ok-object_part-in-Some
returns-in_ok-object_part-in-Some c =
    ap Some c.in_ok-object_part-in-Some.ensures
    ∙ ap (λ o. option_map object_part (option_map (λ (e : ℕ × Inode). (e.0, object_of e.1)) o)) c.in-Some.ensures
    ∙ ap (option_map object_part) (sym (object-at c.self.inside.inodes c.args.i))
    ∙ ap (λ t. option_map object_part (slice_get (maps.entries t.objects) c.args.i)) c.self.view_is
