use Rattle.std.proofs.Common.{◌≡◌, List, [], ◌∷◌, ◌++◌, Option, Some, sym, ap, subst, ◌∙◌, refl, arith}
use Rattle.std.specs.declared.cmp.Ordering.TheVariants.{Less, Equal, Greater}
use Rattle.std.specs.FinMap.Entries.{find}
use Rattle.rz_events.specs.Keys.{key_cmp}
use Rattle.rz_index.specs.declared.index.Entry.{Entry}
use Rattle.rz_index.specs.Indexed.{pairs_of, IsSorted}
use Rattle.rz_index.specs.Standing.{Tree, Lone, Holds, IsTreeOf, IsThere, freed_part}
use Rattle.rz_index.proofs.Parts.{parts-long, front-sorted, rest-sorted, find-left, find-middle, find-right, take-left, take-middle, take-right, without}
use Rattle.rz_index.proofs.Standing.{swapped, lone}
use Rattle.rz_index.proofs.Rotations.{none, back-first, back-again, freed-behind}
use Rattle.rz_index.proofs.nodes.+take.Goals as goal

pub returns-in_default-clause-node : goal.returns-in_default-clause-node
returns-in_default-clause-node t c = λ entries parts h sorted fits.
    let gone = c.in_default.ensures.sides entries parts h fits in
    subst (λ (es : List Entry). IsThere (find key_cmp c.args.key (pairs_of es)) 0) (sym gone) refl

pub returns-in_default-clause-entries : goal.returns-in_default-clause-entries
returns-in_default-clause-entries t c = λ entries parts h sorted fits.
    let gone = c.in_default.ensures.sides entries parts h fits in
    let row = c.args.row.now in
    subst (λ (es : List Entry). IsTreeOf row c.args.link (without c.args.key es) (freed_part (find key_cmp c.args.key (pairs_of es)) 0 parts)) (sym gone)
    record { its = []; are = refl; holds = subst (λ (es : List Entry). Holds row (Tree c.args.link es ∷ parts)) gone h }

pub returns-in-Less-clause-node : goal.returns-in-Less-clause-node
returns-in-Less-clause-node t c = λ entries parts h sorted fits.
    let row = c.args.row.now in
    let k = c.args.key in
    let o = c.in-Some.ensures.sides entries (parts) h fits in
    let long = parts-long entries o.front o.middle o.back o.all in
    let s = subst IsSorted o.all sorted in
    let left = Tree c.in-Some.left o.front in
    let middle = Lone c.args.link o.middle in
    let right = Tree c.in-Some.right o.back in
    let way : key_cmp k o.middle.key ≡ Less = sym (c.compare.ensures o.middle (left ∷ right ∷ parts) (swapped row left middle (right ∷ parts) none o.holds)) ∙ c.in-Less.is in
    let found : find key_cmp k (pairs_of entries) ≡ find key_cmp k (pairs_of o.front) = ap (λ (es : List Entry). find key_cmp k (pairs_of es)) o.all ∙ find-left k o.front o.middle o.back s way in
    subst (λ (x : Option Entry). IsThere x c.take-left.result.1) (sym found) (c.take-left.ensures.node o.front (middle ∷ right ∷ parts) o.holds (front-sorted o.front (o.middle ∷ o.back) s) (omega (arith, fits, long)))

pub returns-in-Less-clause-entries : goal.returns-in-Less-clause-entries
returns-in-Less-clause-entries t c = λ entries parts h sorted fits.
    let row = c.args.row.now in
    let k = c.args.key in
    let o = c.in-Some.ensures.sides entries (parts) h fits in
    let long = parts-long entries o.front o.middle o.back o.all in
    let s = subst IsSorted o.all sorted in
    let left = Tree c.in-Some.left o.front in
    let middle = Lone c.args.link o.middle in
    let right = Tree c.in-Some.right o.back in
    let way : key_cmp k o.middle.key ≡ Less = sym (c.compare.ensures o.middle (left ∷ right ∷ parts) (swapped row left middle (right ∷ parts) none o.holds)) ∙ c.in-Less.is in
    let found : find key_cmp k (pairs_of entries) ≡ find key_cmp k (pairs_of o.front) = ap (λ (es : List Entry). find key_cmp k (pairs_of es)) o.all ∙ find-left k o.front o.middle o.back s way in
    let node = c.take-left.result.1 in
    let r = c.take-left.ensures.entries o.front (middle ∷ right ∷ parts) o.holds (front-sorted o.front (o.middle ∷ o.back) s) (omega (arith, fits, long)) in
    let freed = freed_part (find key_cmp k (pairs_of o.front)) node parts in
    let moved = freed-behind c.take-left.new.row (Tree c.take-left.result.0 r.its) middle right parts (find key_cmp k (pairs_of o.front)) node r.holds in
    let b = c.settled.ensures r.its o.back o.middle freed moved in
    record {
      its = r.its ++ o.middle ∷ o.back;
      are = take-left k o.front r.its o.middle o.back s way r.are ∙ sym (ap (without k) o.all);
      holds = subst (λ (x : Option Entry). Holds c.settled.new.row (Tree c.settled.result (r.its ++ o.middle ∷ o.back) ∷ freed_part x node parts)) (sym found) b;
    }

pub returns-in-Greater-clause-node : goal.returns-in-Greater-clause-node
returns-in-Greater-clause-node t c = λ entries parts h sorted fits.
    let row = c.args.row.now in
    let k = c.args.key in
    let o = c.in-Some.ensures.sides entries (parts) h fits in
    let long = parts-long entries o.front o.middle o.back o.all in
    let s = subst IsSorted o.all sorted in
    let left = Tree c.in-Some.left o.front in
    let middle = Lone c.args.link o.middle in
    let right = Tree c.in-Some.right o.back in
    let way : key_cmp k o.middle.key ≡ Greater = sym (c.compare.ensures o.middle (left ∷ right ∷ parts) (swapped row left middle (right ∷ parts) none o.holds)) ∙ c.in-Greater.is in
    let found : find key_cmp k (pairs_of entries) ≡ find key_cmp k (pairs_of o.back) = ap (λ (es : List Entry). find key_cmp k (pairs_of es)) o.all ∙ find-right k o.front o.middle o.back s way in
    subst (λ (x : Option Entry). IsThere x c.take-right.result.1) (sym found) (c.take-right.ensures.node o.back (left ∷ middle ∷ parts) (back-first row left middle right parts o.holds) (rest-sorted o.front o.middle o.back s) (omega (arith, fits, long)))

pub returns-in-Greater-clause-entries : goal.returns-in-Greater-clause-entries
returns-in-Greater-clause-entries t c = λ entries parts h sorted fits.
    let row = c.args.row.now in
    let k = c.args.key in
    let o = c.in-Some.ensures.sides entries (parts) h fits in
    let long = parts-long entries o.front o.middle o.back o.all in
    let s = subst IsSorted o.all sorted in
    let left = Tree c.in-Some.left o.front in
    let middle = Lone c.args.link o.middle in
    let right = Tree c.in-Some.right o.back in
    let way : key_cmp k o.middle.key ≡ Greater = sym (c.compare.ensures o.middle (left ∷ right ∷ parts) (swapped row left middle (right ∷ parts) none o.holds)) ∙ c.in-Greater.is in
    let found : find key_cmp k (pairs_of entries) ≡ find key_cmp k (pairs_of o.back) = ap (λ (es : List Entry). find key_cmp k (pairs_of es)) o.all ∙ find-right k o.front o.middle o.back s way in
    let node = c.take-right.result.1 in
    let r = c.take-right.ensures.entries o.back (left ∷ middle ∷ parts) (back-first row left middle right parts o.holds) (rest-sorted o.front o.middle o.back s) (omega (arith, fits, long)) in
    let freed = freed_part (find key_cmp k (pairs_of o.back)) node parts in
    let behind = freed-behind c.take-right.new.row (Tree c.take-right.result.0 r.its) left middle parts (find key_cmp k (pairs_of o.back)) node r.holds in
    let moved = back-again c.take-right.new.row left middle (Tree c.take-right.result.0 r.its) freed behind in
    let b = c.settled-in-Greater.ensures o.front r.its o.middle freed moved in
    record {
      its = o.front ++ o.middle ∷ r.its;
      are = take-right k o.front o.middle o.back r.its s way r.are ∙ sym (ap (without k) o.all);
      holds = subst (λ (x : Option Entry). Holds c.settled-in-Greater.new.row (Tree c.settled-in-Greater.result (o.front ++ o.middle ∷ r.its) ∷ freed_part x node parts)) (sym found) b;
    }

pub returns-in-Equal-clause-node : goal.returns-in-Equal-clause-node
returns-in-Equal-clause-node t c = λ entries parts h sorted fits.
    let row = c.args.row.now in
    let k = c.args.key in
    let o = c.in-Some.ensures.sides entries (parts) h fits in
    let long = parts-long entries o.front o.middle o.back o.all in
    let s = subst IsSorted o.all sorted in
    let left = Tree c.in-Some.left o.front in
    let middle = Lone c.args.link o.middle in
    let right = Tree c.in-Some.right o.back in
    let way : key_cmp k o.middle.key ≡ Equal = sym (c.compare.ensures o.middle (left ∷ right ∷ parts) (swapped row left middle (right ∷ parts) none o.holds)) ∙ c.in-Equal.is in
    let found : find key_cmp k (pairs_of entries) ≡ Some o.middle = ap (λ (es : List Entry). find key_cmp k (pairs_of es)) o.all ∙ find-middle k o.front o.middle o.back s way in
    let its = lone row c.args.link o.middle (left ∷ right ∷ parts) none (swapped row left middle (right ∷ parts) none o.holds) in
    subst (λ (x : Option Entry). IsThere x c.args.link) (sym found) its.1.linked

pub returns-in-Equal-clause-entries : goal.returns-in-Equal-clause-entries
returns-in-Equal-clause-entries t c = λ entries parts h sorted fits.
    let row = c.args.row.now in
    let k = c.args.key in
    let o = c.in-Some.ensures.sides entries (parts) h fits in
    let long = parts-long entries o.front o.middle o.back o.all in
    let s = subst IsSorted o.all sorted in
    let left = Tree c.in-Some.left o.front in
    let middle = Lone c.args.link o.middle in
    let right = Tree c.in-Some.right o.back in
    let way : key_cmp k o.middle.key ≡ Equal = sym (c.compare.ensures o.middle (left ∷ right ∷ parts) (swapped row left middle (right ∷ parts) none o.holds)) ∙ c.in-Equal.is in
    let found : find key_cmp k (pairs_of entries) ≡ Some o.middle = ap (λ (es : List Entry). find key_cmp k (pairs_of es)) o.all ∙ find-middle k o.front o.middle o.back s way in
    let moved = swapped row right left (middle ∷ parts) none (back-first row left middle right parts o.holds) in
    let b = c.merged.ensures o.front o.back (middle ∷ parts) moved (omega (arith, fits, long)) in
    record {
      its = o.front ++ o.back;
      are = take-middle k o.front o.middle o.back s way ∙ sym (ap (without k) o.all);
      holds = subst (λ (x : Option Entry). Holds c.merged.new.row (Tree c.merged.result (o.front ++ o.back) ∷ freed_part x c.args.link parts)) (sym found) b;
    }
