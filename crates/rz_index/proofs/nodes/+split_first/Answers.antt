use Rattle.std.proofs.Common.{◌≡◌, List, [], ◌∷◌, ◌++◌, sym, ap, subst, ◌∙◌, arith}
use Rattle.std.specs.Prelude.{MatchOption}
use Rattle.rz_index.specs.declared.index.Entry.{Entry}
use Rattle.rz_index.specs.Standing.{Tree, Lone, Holds, IsSplit}
use Rattle.rz_index.proofs.Parts.{parts-long}
use Rattle.rz_index.proofs.Standing.{swapped, dropped}
use Rattle.rz_index.proofs.Rotations.{none}
use Rattle.rz_index.proofs.Rotations.{first-fourth}
use Rattle.rz_index.proofs.nodes.+split_first.Goals as goal

pub returns-in_err-left : goal.returns-in_err-left
returns-in_err-left t c = λ entries parts h fits.
    subst (λ o. MatchOption o ((entries ≡ []) × Holds c.args.row.now parts) (λ s. IsSplit c.args.row.now entries parts s.0 s.1)) (sym c.from_residual.ensures)
    (c.in_err-left.ensures.sides entries parts h fits, dropped c.args.row.now (Tree c.args.link entries) parts none h)

pub returns-in-None : goal.returns-in-None
returns-in-None t c = λ entries parts h fits.
    let o = c.in_ok-left.ensures.sides entries parts h fits in
    let long = parts-long entries o.front o.middle o.back o.all in
    let n = c.in-None.ensures o.front (Lone c.args.link o.middle ∷ Tree c.in_ok-left.right o.back ∷ parts) o.holds (omega (arith, fits, long)) in
    record { first = o.middle; others = o.back; all = o.all ∙ ap (λ (xs : List Entry). xs ++ o.middle ∷ o.back) n.0; holds = n.1 }

pub returns-in-Some : goal.returns-in-Some
returns-in-Some t c = λ entries parts h fits.
    let o = c.in_ok-left.ensures.sides entries parts h fits in
    let long = parts-long entries o.front o.middle o.back o.all in
    let s = c.in-Some.ensures o.front (Lone c.args.link o.middle ∷ Tree c.in_ok-left.right o.back ∷ parts) o.holds (omega (arith, fits, long)) in
    let moved = first-fourth c.split_first.new.row (Lone c.in-Some.first s.first) (Tree c.in-Some.rest s.others) (Lone c.args.link o.middle) (Tree c.in_ok-left.right o.back) parts s.holds in
    let b = c.balanced.ensures s.others o.back o.middle (Lone c.in-Some.first s.first ∷ parts) moved in
    record {
      first = s.first;
      others = s.others ++ o.middle ∷ o.back;
      all = o.all ∙ ap (λ (xs : List Entry). xs ++ o.middle ∷ o.back) s.all;
      holds = swapped c.balanced.new.row (Tree c.balanced.result (s.others ++ o.middle ∷ o.back)) (Lone c.in-Some.first s.first) parts none b;
    }
