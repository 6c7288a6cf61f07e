use Rattle.std.proofs.Common.{◌≡◌, List, ◌∷◌, sym, ap, subst, ◌∙◌, arith}
use Rattle.std.specs.declared.cmp.Ordering.TheVariants.{Less, Equal, Greater}
use Rattle.std.specs.FinMap.Entries.{find}
use Rattle.rz_events.specs.Keys.{key_cmp}
use Rattle.rz_index.specs.declared.index.Entry.{Entry}
use Rattle.rz_index.specs.Indexed.{pairs_of, IsSorted}
use Rattle.rz_index.specs.Standing.{Tree, Lone}
use Rattle.rz_index.proofs.Parts.{parts-long, front-sorted, rest-sorted, find-left, find-middle, find-right}
use Rattle.rz_index.proofs.Standing.{swapped}
use Rattle.rz_index.proofs.Rotations.{none, back-first}
use Rattle.rz_index.proofs.nodes.+find.Goals as goal

pub returns-in_err-left : goal.returns-in_err-left
returns-in_err-left t c = λ entries parts h sorted fits.
    c.from_residual.ensures ∙ sym (ap (λ (es : List Entry). find key_cmp c.args.key (pairs_of es)) (c.in_err-left.ensures.sides entries parts h fits))

pub returns-in-Less : goal.returns-in-Less
returns-in-Less t c = λ entries parts h sorted fits.
    let row = c.args.row.now in
    let k = c.args.key in
    let o = c.in_ok-left.ensures.sides entries (parts) h fits in
    let long = parts-long entries o.front o.middle o.back o.all in
    let s = subst IsSorted o.all sorted in
    let left = Tree c.in_ok-left.left o.front in
    let middle = Lone c.args.link o.middle in
    let right = Tree c.in_ok-left.right o.back in
    let way : key_cmp k o.middle.key ≡ Less = sym (c.compare.ensures o.middle (left ∷ right ∷ parts) (swapped row left middle (right ∷ parts) none o.holds)) ∙ c.in-Less.is in
    c.find.ensures o.front (middle ∷ right ∷ parts) o.holds (front-sorted o.front (o.middle ∷ o.back) s) (omega (arith, fits, long)) ∙ sym (ap (λ (es : List Entry). find key_cmp k (pairs_of es)) o.all ∙ find-left k o.front o.middle o.back s way)

pub returns-in-Equal : goal.returns-in-Equal
returns-in-Equal t c = λ entries parts h sorted fits.
    let row = c.args.row.now in
    let k = c.args.key in
    let o = c.in_ok-left.ensures.sides entries (parts) h fits in
    let long = parts-long entries o.front o.middle o.back o.all in
    let s = subst IsSorted o.all sorted in
    let left = Tree c.in_ok-left.left o.front in
    let middle = Lone c.args.link o.middle in
    let right = Tree c.in_ok-left.right o.back in
    let way : key_cmp k o.middle.key ≡ Equal = sym (c.compare.ensures o.middle (left ∷ right ∷ parts) (swapped row left middle (right ∷ parts) none o.holds)) ∙ c.in-Equal.is in
    c.entry_at.ensures o.middle (left ∷ right ∷ parts) (swapped row left middle (right ∷ parts) none o.holds) ∙ sym (ap (λ (es : List Entry). find key_cmp k (pairs_of es)) o.all ∙ find-middle k o.front o.middle o.back s way)

pub returns-in-Greater : goal.returns-in-Greater
returns-in-Greater t c = λ entries parts h sorted fits.
    let row = c.args.row.now in
    let k = c.args.key in
    let o = c.in_ok-left.ensures.sides entries (parts) h fits in
    let long = parts-long entries o.front o.middle o.back o.all in
    let s = subst IsSorted o.all sorted in
    let left = Tree c.in_ok-left.left o.front in
    let middle = Lone c.args.link o.middle in
    let right = Tree c.in_ok-left.right o.back in
    let way : key_cmp k o.middle.key ≡ Greater = sym (c.compare.ensures o.middle (left ∷ right ∷ parts) (swapped row left middle (right ∷ parts) none o.holds)) ∙ c.in-Greater.is in
    c.find-in-Greater.ensures o.back (left ∷ middle ∷ parts) (back-first row left middle right parts o.holds) (rest-sorted o.front o.middle o.back s) (omega (arith, fits, long)) ∙ sym (ap (λ (es : List Entry). find key_cmp k (pairs_of es)) o.all ∙ find-right k o.front o.middle o.back s way)
