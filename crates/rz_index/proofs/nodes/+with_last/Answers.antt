use Rattle.std.proofs.Common.{List, [], ◌∷◌, ◌++◌, sym, ap, subst, ◌∙◌, arith, append_assoc}
use Rattle.rz_index.specs.declared.index.Entry.{Entry}
use Rattle.rz_index.specs.Standing.{Tree, Lone, Holds}
use Rattle.rz_index.proofs.Parts.{parts-long}
use Rattle.rz_index.proofs.Standing.{dropped}
use Rattle.rz_index.proofs.Rotations.{none, pulled, alone}
use Rattle.rz_index.proofs.Rotations.{back-again}
use Rattle.rz_index.proofs.nodes.+with_last.Goals as goal

pub returns-in_default : goal.returns-in_default
returns-in_default t c = λ entries e parts h fits.
    let row = c.args.row.now in
    let gone = c.in_default.ensures.sides entries (Lone c.args.node e ∷ parts) h fits in
    let b = c.linked.ensures [] [] e parts (alone row c.args.node e parts (dropped row (Tree c.args.link entries) (Lone c.args.node e ∷ parts) none h)) in
    subst (λ (xs : List Entry). Holds c.linked.new.row (Tree c.linked.result (xs ++ e ∷ []) ∷ parts)) (sym gone) b

pub returns : goal.returns
returns t c = λ entries e parts h fits.
    let row = c.args.row.now in
    let o = c.in-Some.ensures.sides entries (Lone c.args.node e ∷ parts) h fits in
    let long = parts-long entries o.front o.middle o.back o.all in
    let left = Tree c.in-Some.left o.front in
    let middle = Lone c.args.link o.middle in
    let a = pulled row (left ∷ middle ∷ Tree c.in-Some.right o.back ∷ []) (Lone c.args.node e) parts none o.holds in
    let d = pulled row (Lone c.args.node e ∷ left ∷ middle ∷ []) (Tree c.in-Some.right o.back) parts none a in
    let r = c.with_last-right.ensures o.back e (left ∷ middle ∷ parts) d (omega (arith, fits, long)) in
    let moved = back-again c.with_last-right.new.row left middle (Tree c.with_last-right.result (o.back ++ e ∷ [])) parts r in
    let b = c.balanced.ensures o.front (o.back ++ e ∷ []) o.middle parts moved in
    subst (λ (xs : List Entry). Holds c.balanced.new.row (Tree c.balanced.result xs ∷ parts)) (sym (ap (λ (xs : List Entry). xs ++ e ∷ []) o.all ∙ append_assoc o.front (o.middle ∷ o.back) (e ∷ []))) b
