use Rattle.std.proofs.Common.{rules, ◌≡◌, ℕ, ◌<◌, List, ◌∷◌, ◌++◌, Option, Some, None, sym, ap, subst, ◌∙◌, refl, arith}
use Rattle.rz_index.specs.declared.index.Entry.{Entry}
use Rattle.rz_index.specs.Files.{first_among}
use Rattle.rz_index.specs.Indexed.{IsSorted}
use Rattle.rz_index.specs.Standing.{Tree, Lone}
use Rattle.rz_index.proofs.Parts.{parts-long, front-sorted, rest-sorted}
use Rattle.rz_index.proofs.Files.{first_in, file-behind, file-front, file-middle, file-nowhere}
use Rattle.rz_index.proofs.Standing.{swapped}
use Rattle.rz_index.proofs.Rotations.{none, back-first}
use Rattle.rz_index.proofs.nodes.+first_of.Goals as goal
use Rattle.rz_index.proofs.nodes.+first_of.Goals.{else-is_none-via-then-is_none+else-middle-fid-2, else-is_none-via-else-is_none}

pub returns-in_err-left : goal.returns-in_err-left
returns-in_err-left t c = λ entries parts h sorted fits. c.from_residual.ensures ∙ sym (ap (first_among c.args.fid) (c.in_err-left.ensures.sides entries parts h fits))

pub returns-in_err-middle : goal.returns-in_err-middle
returns-in_err-middle t c = λ entries parts h sorted fits.
    let row = c.args.row.now in
    let fid = c.args.fid in
    let o = c.in_ok-left.ensures.sides entries parts h fits in
    let long = parts-long entries o.front o.middle o.back o.all in
    let s = subst IsSorted o.all sorted in
    let left = Tree c.in_ok-left.left o.front in
    let middle = Lone c.args.link o.middle in
    let right = Tree c.in_ok-left.right o.back in
    let never : None ≡ Some o.middle = c.in_err-middle.ensures o.middle (left ∷ right ∷ parts) (swapped row left middle (right ∷ parts) none o.holds) in
    absurd (cc)

pub returns-then-middle-fid : goal.returns-then-middle-fid
returns-then-middle-fid t c = λ entries parts h sorted fits.
    let row = c.args.row.now in
    let fid = c.args.fid in
    let o = c.in_ok-left.ensures.sides entries parts h fits in
    let long = parts-long entries o.front o.middle o.back o.all in
    let s = subst IsSorted o.all sorted in
    let left = Tree c.in_ok-left.left o.front in
    let middle = Lone c.args.link o.middle in
    let right = Tree c.in_ok-left.right o.back in
    let both : Some c.in_ok-middle.middle ≡ Some o.middle = c.in_ok-middle.ensures o.middle (left ∷ right ∷ parts) (swapped row left middle (right ∷ parts) none o.holds) in
    let same : c.in_ok-middle.middle ≡ o.middle = cc in
    let file : c.in_ok-middle.middle.key.fid ≡ o.middle.key.fid = ap (λ (e : Entry). e.key.fid) same in
    c.first_of.ensures o.back (left ∷ middle ∷ parts) (back-first row left middle right parts o.holds) (rest-sorted o.front o.middle o.back s) (omega (arith, fits, long))
    ∙ sym (ap (first_in fid) o.all ∙ file-behind fid o.front o.middle o.back s (omega (arith, file, c.if-middle-fid.true)))

pub returns-then-middle-fid-2 : goal.returns-then-middle-fid-2
returns-then-middle-fid-2 t c = λ entries parts h sorted fits.
    let row = c.args.row.now in
    let fid = c.args.fid in
    let o = c.in_ok-left.ensures.sides entries parts h fits in
    let long = parts-long entries o.front o.middle o.back o.all in
    let s = subst IsSorted o.all sorted in
    let left = Tree c.in_ok-left.left o.front in
    let middle = Lone c.args.link o.middle in
    let right = Tree c.in_ok-left.right o.back in
    let both : Some c.in_ok-middle.middle ≡ Some o.middle = c.in_ok-middle.ensures o.middle (left ∷ right ∷ parts) (swapped row left middle (right ∷ parts) none o.holds) in
    let same : c.in_ok-middle.middle ≡ o.middle = cc in
    let file : c.in_ok-middle.middle.key.fid ≡ o.middle.key.fid = ap (λ (e : Entry). e.key.fid) same in
    let before = c.first_of-before.ensures o.front (middle ∷ right ∷ parts) o.holds (front-sorted o.front (o.middle ∷ o.back) s) (omega (arith, fits, long)) in
    let gone : c.first_of-before.result ≡ None = search rules in
    both ∙ sym (ap (first_in fid) o.all ∙ file-middle fid o.front o.middle o.back (sym before ∙ gone) (sym file ∙ c.if-middle-fid-2.true))

found-front : (fid : ℕ) (l r : List Entry) (m : Entry) (o : Option Entry) → o ≡ first_in fid l → (o ≡ None → first_in fid (l ++ m ∷ r) ≡ None) → o ≡ first_in fid (l ++ m ∷ r)
found-front fid l r m None is none = sym (none refl)
found-front fid l r m (Some e) is none = sym (file-front fid l (m ∷ r) e (sym is))

pub returns-else-is_none : goal.returns-else-is_none
returns-else-is_none t c = λ entries parts h sorted fits.
    let row = c.args.row.now in
    let fid = c.args.fid in
    let o = c.in_ok-left.ensures.sides entries parts h fits in
    let long = parts-long entries o.front o.middle o.back o.all in
    let s = subst IsSorted o.all sorted in
    let left = Tree c.in_ok-left.left o.front in
    let middle = Lone c.args.link o.middle in
    let right = Tree c.in_ok-left.right o.back in
    let both : Some c.in_ok-middle.middle ≡ Some o.middle = c.in_ok-middle.ensures o.middle (left ∷ right ∷ parts) (swapped row left middle (right ∷ parts) none o.holds) in
    let same : c.in_ok-middle.middle ≡ o.middle = cc in
    let file : c.in_ok-middle.middle.key.fid ≡ o.middle.key.fid = ap (λ (e : Entry). e.key.fid) same in
    let before = c.first_of-before.ensures o.front (middle ∷ right ∷ parts) o.holds (front-sorted o.front (o.middle ∷ o.back) s) (omega (arith, fits, long)) in
    let past : c.first_of-before.result ≡ None → fid < o.middle.key.fid =
    elim c.else-is_none.branch [
      | else-is_none-via-then-is_none+else-middle-fid-2 w ↦ λ _. grind (arith, file, c.if-middle-fid.false, w.if-middle-fid-2.false)
      | else-is_none-via-else-is_none w ↦ λ gone. absurd (search rules)
    ]
    in
    found-front fid o.front o.back o.middle c.first_of-before.result before (λ gone. file-nowhere fid o.front o.middle o.back s (sym before ∙ gone) (past gone)) ∙ sym (ap (first_in fid) o.all)
