use Rattle.std.proofs.Common.{List, [], ◌∷◌, sym, ap, subst, ◌∙◌, arith}
use Rattle.std.specs.FinMap as maps
use Rattle.rz_index.specs.declared.index.Entry.{Entry}
use Rattle.rz_index.specs.declared.nodes.IndexNode.{IndexNode}
use Rattle.rz_index.specs.Indexed.{Indexed}
use Rattle.rz_index.specs.Standing.{Part, Tree, Holds}
use Rattle.rz_index.proofs.Row.{made, get-made}
use Rattle.rz_index.proofs.Kept.{shows}
use Rattle.rz_index.proofs.index.Index.find.Goals as goal

pub returns : goal.returns
returns c =
    let i = c.self.invariant in
    let parts : List Part = Tree c.self.inside.spare i.blanks ∷ [] in
    let h = subst (λ (row : List IndexNode). Holds row (Tree c.self.inside.root i.entries ∷ parts)) (sym c.deref.ensures.value) i.holds in
    c.find.ensures i.entries parts h i.sorted (omega (arith, i.within, c.len.ensures))
    ∙ sym (ap (λ (s : Indexed). maps.get s.entries c.args.key) (sym c.self.view_is) ∙ ap (λ (es : List Entry). maps.get (made es) c.args.key) (shows _ _ _ _ _ i) ∙ get-made i.entries c.args.key i.sorted)
