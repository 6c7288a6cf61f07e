use Rattle.std.proofs.Common.{◌≡◌, ◌∷◌, [], false, Some, None, sym, ap, ◌∙◌, subst}
use Rattle.std.specs.FinMap as maps
use Rattle.rz_export_model.specs.Firsts.{first_of}
use Rattle.rz_export_model.specs.Tree.{Tree, fid_at, moved}
use Rattle.rz_export_model.specs.Refusals.{walk, absent, into_itself, not_replaceable, is_same_object}
use Rattle.rz_export_model.specs.TreeCalls.{renamed}
use Rattle.rz_tree.specs.Trees.{tree_of, IsKept}
use Rattle.rz_tree.proofs.Adds.{above-there}
use Rattle.rz_tree.proofs.Calls.{led, rename-walk, rename-away, rename-last}
use Rattle.rz_tree.proofs.Replacing.{replaced-kept, replaced-tree, new-kept, new-tree}
use Rattle.rz_tree.proofs.tree.Tree.move_names.Goals as goal

pub rename-requires-clause-away : goal.rename-requires-clause-away
rename-requires-clause-away c =
    let t : Tree = tree_of c.self.inside.names c.self.inside.inodes c.self.inside.made in
    let p = c.args.path.now in
    let q = c.args.to.now in
    let free : first_of (walk t p ∷ absent t p ∷ into_itself t p q ∷ walk t q ∷ not_replaceable t p q ∷ []) ≡ None =
    ap (λ s. first_of (walk s p ∷ absent s p ∷ into_itself s p q ∷ walk s q ∷ not_replaceable s p q ∷ [])) c.self.view_is ∙ c.requires.free in
    let two : is_same_object t p q ≡ false = ap (λ s. is_same_object s p q) c.self.view_is ∙ c.requires.two in
    rename-away t c.self.invariant.tree p q free two c.requires.from

pub rename-requires-clause-last : goal.rename-requires-clause-last
rename-requires-clause-last c =
    let t : Tree = tree_of c.self.inside.names c.self.inside.inodes c.self.inside.made in
    let p = c.args.path.now in
    let q = c.args.to.now in
    let free : first_of (walk t p ∷ absent t p ∷ into_itself t p q ∷ walk t q ∷ not_replaceable t p q ∷ []) ≡ None =
    ap (λ s. first_of (walk s p ∷ absent s p ∷ into_itself s p q ∷ walk s q ∷ not_replaceable s p q ∷ [])) c.self.view_is ∙ c.requires.free in
    let two : is_same_object t p q ≡ false = ap (λ s. is_same_object s p q) c.self.view_is ∙ c.requires.two in
    rename-last t c.self.invariant.tree p q free two c.requires.from

pub rename-requires-clause-parent : goal.rename-requires-clause-parent
rename-requires-clause-parent c =
    let t : Tree = tree_of c.self.inside.names c.self.inside.inodes c.self.inside.made in
    let p = c.args.path.now in
    let q = c.args.to.now in
    let free : first_of (walk t p ∷ absent t p ∷ into_itself t p q ∷ walk t q ∷ not_replaceable t p q ∷ []) ≡ None =
    ap (λ s. first_of (walk s p ∷ absent s p ∷ into_itself s p q ∷ walk s q ∷ not_replaceable s p q ∷ [])) c.self.view_is ∙ c.requires.free in
    let two : is_same_object t p q ≡ false = ap (λ s. is_same_object s p q) c.self.view_is ∙ c.requires.two in
    above-there t c.self.invariant.tree q c.requires.below (rename-walk t c.self.invariant.tree p q free two c.requires.from)

pub invariant_of-self-in-Some : goal.invariant_of-self-in-Some
invariant_of-self-in-Some c =
    let t : Tree = tree_of c.self.inside.names c.self.inside.inodes c.self.inside.made in
    let p = c.args.path.now in
    let q = c.args.to.now in
    let free : first_of (walk t p ∷ absent t p ∷ into_itself t p q ∷ walk t q ∷ not_replaceable t p q ∷ []) ≡ None =
    ap (λ s. first_of (walk s p ∷ absent s p ∷ into_itself s p q ∷ walk s q ∷ not_replaceable s p q ∷ [])) c.self.view_is ∙ c.requires.free in
    let two : is_same_object t p q ≡ false = ap (λ s. is_same_object s p q) c.self.view_is ∙ c.requires.two in
    let at : maps.get c.self.inside.names q ≡ Some c.in-Some.fid =
    ap (λ s. fid_at s q) c.self.view_is ∙ sym c.requires.there ∙ c.in-Some.is in
    let object = led c.self.inside.names c.self.inside.inodes c.self.inside.made c.self.invariant q c.in-Some.fid at in
    subst (λ n. IsKept n c.release.new.self c.self.inside.made) (sym c.in_ok-rename.ensures.ok)
    (subst (λ m. IsKept (moved p q (maps.remove c.self.inside.names q)) m c.self.inside.made) (sym c.release.ensures)
    (replaced-kept c.self.inside.names c.self.inside.inodes c.self.inside.made c.self.invariant p q free two c.requires.from c.requires.below c.in-Some.fid object.0 at object.1))

pub invariant_of-self-in_default : goal.invariant_of-self-in_default
invariant_of-self-in_default c =
    let t : Tree = tree_of c.self.inside.names c.self.inside.inodes c.self.inside.made in
    let p = c.args.path.now in
    let q = c.args.to.now in
    let free : first_of (walk t p ∷ absent t p ∷ into_itself t p q ∷ walk t q ∷ not_replaceable t p q ∷ []) ≡ None =
    ap (λ s. first_of (walk s p ∷ absent s p ∷ into_itself s p q ∷ walk s q ∷ not_replaceable s p q ∷ [])) c.self.view_is ∙ c.requires.free in
    let two : is_same_object t p q ≡ false = ap (λ s. is_same_object s p q) c.self.view_is ∙ c.requires.two in
    let none : maps.get c.self.inside.names q ≡ None =
    ap (λ s. fid_at s q) c.self.view_is ∙ sym c.requires.there ∙ c.in_default.is in
    subst (λ n. IsKept n c.self.inside.inodes c.self.inside.made) (sym c.in_ok-rename.ensures.ok)
    (new-kept c.self.inside.names c.self.inside.inodes c.self.inside.made c.self.invariant p q free two c.requires.from c.requires.below none)

pub returns-in-Some-clause-ok : goal.returns-in-Some-clause-ok
returns-in-Some-clause-ok c =
    let t : Tree = tree_of c.self.inside.names c.self.inside.inodes c.self.inside.made in
    let p = c.args.path.now in
    let q = c.args.to.now in
    let free : first_of (walk t p ∷ absent t p ∷ into_itself t p q ∷ walk t q ∷ not_replaceable t p q ∷ []) ≡ None =
    ap (λ s. first_of (walk s p ∷ absent s p ∷ into_itself s p q ∷ walk s q ∷ not_replaceable s p q ∷ [])) c.self.view_is ∙ c.requires.free in
    let two : is_same_object t p q ≡ false = ap (λ s. is_same_object s p q) c.self.view_is ∙ c.requires.two in
    let at : maps.get c.self.inside.names q ≡ Some c.in-Some.fid =
    ap (λ s. fid_at s q) c.self.view_is ∙ sym c.requires.there ∙ c.in-Some.is in
    let object = led c.self.inside.names c.self.inside.inodes c.self.inside.made c.self.invariant q c.in-Some.fid at in
    ap (λ n. tree_of n c.release.new.self c.self.inside.made) c.in_ok-rename.ensures.ok
    ∙ ap (λ m. tree_of (moved p q (maps.remove c.self.inside.names q)) m c.self.inside.made) c.release.ensures
    ∙ replaced-tree c.self.inside.names c.self.inside.inodes c.self.inside.made c.self.invariant p q free two c.requires.from c.requires.below c.in-Some.fid object.0 at object.1
    ∙ ap (λ s. renamed s p q) c.self.view_is

pub returns-in_default-clause-ok : goal.returns-in_default-clause-ok
returns-in_default-clause-ok c =
    let t : Tree = tree_of c.self.inside.names c.self.inside.inodes c.self.inside.made in
    let p = c.args.path.now in
    let q = c.args.to.now in
    let free : first_of (walk t p ∷ absent t p ∷ into_itself t p q ∷ walk t q ∷ not_replaceable t p q ∷ []) ≡ None =
    ap (λ s. first_of (walk s p ∷ absent s p ∷ into_itself s p q ∷ walk s q ∷ not_replaceable s p q ∷ [])) c.self.view_is ∙ c.requires.free in
    let two : is_same_object t p q ≡ false = ap (λ s. is_same_object s p q) c.self.view_is ∙ c.requires.two in
    let none : maps.get c.self.inside.names q ≡ None =
    ap (λ s. fid_at s q) c.self.view_is ∙ sym c.requires.there ∙ c.in_default.is in
    ap (λ n. tree_of n c.self.inside.inodes c.self.inside.made) c.in_ok-rename.ensures.ok
    ∙ new-tree c.self.inside.names c.self.inside.inodes c.self.inside.made c.self.invariant p q free two c.requires.from c.requires.below none ∙ ap (λ s. renamed s p q) c.self.view_is
