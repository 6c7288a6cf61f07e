use Rattle.std.proofs.Common.{List, [], ◌∷◌, sym, ap, subst, ◌∙◌, arith}
use Rattle.rz_index.specs.declared.index.Entry.{Entry}
use Rattle.rz_index.specs.declared.nodes.IndexNode.{IndexNode}
use Rattle.rz_index.specs.Indexed.{Indexed, first_of_file}
use Rattle.rz_index.specs.Standing.{Part, Tree, Holds}
use Rattle.rz_index.proofs.Row.{made}
use Rattle.rz_index.proofs.Files.{first-made}
use Rattle.rz_index.proofs.Kept.{shows}
use Rattle.rz_index.proofs.index.Index.first_of.Goals as goal

pub returns : goal.returns
returns c =
    let i = c.self.invariant in
    let parts : List Part = Tree c.self.inside.spare i.blanks ∷ [] in
    let h = subst (λ (row : List IndexNode). Holds row (Tree c.self.inside.root i.entries ∷ parts)) (sym c.deref.ensures.value) i.holds in
    c.first_of.ensures i.entries parts h i.sorted (omega (arith, i.within, c.len.ensures))
    ∙ sym (ap (λ (s : Indexed). first_of_file s.entries c.args.fid) (sym c.self.view_is) ∙ ap (λ (es : List Entry). first_of_file (made es) c.args.fid) (shows _ _ _ _ _ i) ∙ first-made c.args.fid i.entries i.sorted)
