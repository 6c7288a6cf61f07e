use Rattle.std.proofs.Common.{◌≡◌, List, ◌∷◌, ◌++◌, sym, ap, subst, ◌∙◌, arith}
use Rattle.std.specs.declared.cmp.Ordering.TheVariants.{Less, Equal, Greater}
use Rattle.std.specs.FinMap.Entries.{find, put}
use Rattle.rz_events.specs.Keys.{key_cmp}
use Rattle.rz_index.specs.declared.index.Entry.{Entry}
use Rattle.rz_index.specs.Indexed.{pairs_of, IsSorted}
use Rattle.rz_index.specs.Standing.{Tree, Lone}
use Rattle.rz_index.proofs.Parts.{parts-long, front-sorted, rest-sorted, find-left, find-right, put-left, put-middle, put-right}
use Rattle.rz_index.proofs.Standing.{swapped}
use Rattle.rz_index.proofs.Rotations.{none, back-first, back-again}
use Rattle.rz_index.proofs.nodes.+replace.Goals as goal

pub returns-in_default : goal.returns-in_default
returns-in_default t c = λ entries parts h sorted fits there.
    absurd (there (ap (λ (es : List Entry). find key_cmp c.args.entry.now.key (pairs_of es)) (c.in_default.ensures.sides entries parts h fits)))

pub returns-in-Less : goal.returns-in-Less
returns-in-Less t c = λ entries parts h sorted fits there.
    let x = c.args.entry.now in
    let row = c.args.row.now in
    let k = c.args.entry.now.key in
    let o = c.in-Some.ensures.sides entries (parts) h fits in
    let long = parts-long entries o.front o.middle o.back o.all in
    let s = subst IsSorted o.all sorted in
    let left = Tree c.in-Some.left o.front in
    let middle = Lone c.args.link o.middle in
    let right = Tree c.in-Some.right o.back in
    let way : key_cmp k o.middle.key ≡ Less = sym (c.compare.ensures o.middle (left ∷ right ∷ parts) (swapped row left middle (right ∷ parts) none o.holds)) ∙ c.in-Less.is in
    let found : find key_cmp k (pairs_of entries) ≡ find key_cmp k (pairs_of o.front) = ap (λ (es : List Entry). find key_cmp k (pairs_of es)) o.all ∙ find-left k o.front o.middle o.back s way in
    let r = c.replace-left.ensures o.front (middle ∷ right ∷ parts) o.holds (front-sorted o.front (o.middle ∷ o.back) s) (omega (arith, fits, long)) (λ missing. there (found ∙ missing)) in
    record {
      its = r.its ++ o.middle ∷ o.back;
      are = put-left x o.front r.its o.middle o.back way r.are ∙ sym (ap (λ (es : List Entry). put key_cmp k x (pairs_of es)) o.all);
      holds = c.settled.ensures r.its o.back o.middle parts r.holds;
    }

pub returns-in-Greater : goal.returns-in-Greater
returns-in-Greater t c = λ entries parts h sorted fits there.
    let x = c.args.entry.now in
    let row = c.args.row.now in
    let k = c.args.entry.now.key in
    let o = c.in-Some.ensures.sides entries (parts) h fits in
    let long = parts-long entries o.front o.middle o.back o.all in
    let s = subst IsSorted o.all sorted in
    let left = Tree c.in-Some.left o.front in
    let middle = Lone c.args.link o.middle in
    let right = Tree c.in-Some.right o.back in
    let way : key_cmp k o.middle.key ≡ Greater = sym (c.compare.ensures o.middle (left ∷ right ∷ parts) (swapped row left middle (right ∷ parts) none o.holds)) ∙ c.in-Greater.is in
    let found : find key_cmp k (pairs_of entries) ≡ find key_cmp k (pairs_of o.back) = ap (λ (es : List Entry). find key_cmp k (pairs_of es)) o.all ∙ find-right k o.front o.middle o.back s way in
    let r = c.replace-right.ensures o.back (left ∷ middle ∷ parts) (back-first row left middle right parts o.holds) (rest-sorted o.front o.middle o.back s) (omega (arith, fits, long)) (λ missing. there (found ∙ missing)) in
    record {
      its = o.front ++ o.middle ∷ r.its;
      are = put-right x o.front o.middle o.back r.its s way r.are ∙ sym (ap (λ (es : List Entry). put key_cmp k x (pairs_of es)) o.all);
      holds = c.settled-in-Greater.ensures o.front r.its o.middle parts (back-again c.replace-right.new.row left middle (Tree c.replace-right.result r.its) parts r.holds);
    }

pub returns-in-Equal : goal.returns-in-Equal
returns-in-Equal t c = λ entries parts h sorted fits there.
    let x = c.args.entry.now in
    let row = c.args.row.now in
    let k = c.args.entry.now.key in
    let o = c.in-Some.ensures.sides entries (parts) h fits in
    let long = parts-long entries o.front o.middle o.back o.all in
    let s = subst IsSorted o.all sorted in
    let left = Tree c.in-Some.left o.front in
    let middle = Lone c.args.link o.middle in
    let right = Tree c.in-Some.right o.back in
    let way : key_cmp k o.middle.key ≡ Equal = sym (c.compare.ensures o.middle (left ∷ right ∷ parts) (swapped row left middle (right ∷ parts) none o.holds)) ∙ c.in-Equal.is in
    let a = c.set_entry.ensures o.middle (left ∷ right ∷ parts) (swapped row left middle (right ∷ parts) none o.holds) in
    let b = swapped c.set_entry.new.row (Lone c.args.link x) left (right ∷ parts) none a in
    record {
      its = o.front ++ x ∷ o.back;
      are = put-middle x o.front o.middle o.back s way ∙ sym (ap (λ (es : List Entry). put key_cmp k x (pairs_of es)) o.all);
      holds = c.settled-in-Equal.ensures o.front o.back x parts b;
    }
