use Rattle.std.proofs.Common.{sym, ap, ◌∙◌, subst}
use Rattle.rz_export_model.specs.Tree.{Tree}
use Rattle.rz_export_model.specs.Export.{Export}
use Rattle.rz_tree.specs.Added as trees
use Rattle.rz_export.specs.Kept.{export_of, IsKept}
use Rattle.rz_export.proofs.Built.{kept-blockless, blank-part}
use Rattle.rz_export.proofs.export.Export.add_to_tree.Goals as goal

pub add_part-requires : goal.add_part-requires
add_part-requires c = subst (λ (x : Export). trees.MayAdd x.tree c.args.part.now) (sym c.self.view_is) c.requires.may

pub invariant_of-self-2 : goal.invariant_of-self-2
invariant_of-self-2 c =
    let s = c.self.inside in
    let p = c.args.part.now in
    let may = subst (λ (x : Export). trees.MayAdd x.tree p) (sym c.self.view_is) c.requires.may in
    let none = ap (λ (x : Export). x.blocks) c.self.view_is ∙ c.requires.blockless in
    subst (λ (t : Tree). IsKept s.volume t s.blocks s.nodes.items s.listed s.last) (sym c.in_ok-add_part.ensures.ok)
    (kept-blockless s.volume s.tree (trees.with_part s.tree p) s.blocks s.nodes.items s.listed s.last s.last none (blank-part s.tree p may c.self.invariant.made) c.self.invariant)

pub returns-clause-ok : goal.returns-clause-ok
returns-clause-ok c =
    let s = c.self.inside in
    ap (λ (t : Tree). export_of s.volume t s.blocks s.nodes.items s.last) c.in_ok-add_part.ensures.ok
    ∙ ap (λ (x : Export). (let y : Export = record x { tree = trees.with_part x.tree c.args.part.now } in y)) c.self.view_is
