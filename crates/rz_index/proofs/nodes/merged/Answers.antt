use Rattle.std.proofs.Common.{List, ◌∷◌, ◌++◌, sym, ap, subst, ◌∙◌}
use Rattle.rz_index.specs.declared.index.Entry.{Entry}
use Rattle.rz_index.specs.Standing.{Tree, Lone, Holds}
use Rattle.rz_index.proofs.Standing.{swapped}
use Rattle.rz_index.proofs.Rotations.{none, nil-behind}
use Rattle.rz_index.proofs.Rotations.{back-first}
use Rattle.rz_index.proofs.nodes.merged.Goals as goal

pub returns-in-None : goal.returns-in-None
returns-in-None c = λ l r parts h fits.
    let a = swapped c.args.row.now (Tree c.args.front l) (Tree c.args.back r) parts none h in
    let n = c.in-None.ensures r (Tree c.args.front l ∷ parts) a fits in
    subst (λ (xs : List Entry). Holds c.split_first.new.row (Tree c.args.front xs ∷ parts)) (sym (ap (λ (ys : List Entry). l ++ ys) n.0 ∙ nil-behind l)) n.1

pub returns-in-Some : goal.returns-in-Some
returns-in-Some c = λ l r parts h fits.
    let a = swapped c.args.row.now (Tree c.args.front l) (Tree c.args.back r) parts none h in
    let s = c.in-Some.ensures r (Tree c.args.front l ∷ parts) a fits in
    let moved = back-first c.split_first.new.row (Lone c.in-Some.first s.first) (Tree c.in-Some.rest s.others) (Tree c.args.front l) parts s.holds in
    let b = c.balanced.ensures l s.others s.first parts moved in
    subst (λ (xs : List Entry). Holds c.balanced.new.row (Tree c.balanced.result xs ∷ parts)) (sym (ap (λ (ys : List Entry). l ++ ys) s.all)) b
