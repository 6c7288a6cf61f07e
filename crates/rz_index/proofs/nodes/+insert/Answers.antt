use Rattle.std.proofs.Common.{◌≡◌, List, [], ◌∷◌, ◌++◌, Some, None, sym, ap, subst, ◌∙◌, refl, arith}
use Rattle.std.specs.declared.cmp.Ordering.TheVariants.{Less, Equal, Greater}
use Rattle.std.specs.FinMap.Entries.{find, put}
use Rattle.rz_events.specs.Keys.{key_cmp}
use Rattle.rz_events.specs.declared.keys.Key.{Key}
use Rattle.rz_index.specs.declared.index.Entry.{Entry}
use Rattle.rz_index.specs.Indexed.{pairs_of, IsSorted}
use Rattle.rz_index.specs.Standing.{Tree, Lone, IsTreeOf}
use Rattle.rz_index.proofs.Parts.{parts-long, front-sorted, rest-sorted, find-left, find-middle, find-right, put-left, put-right}
use Rattle.rz_index.proofs.Standing.{swapped, dropped}
use Rattle.rz_index.proofs.Rotations.{none, pulled, alone, back-again, fourth-second}
use Rattle.rz_index.proofs.nodes.+insert.Goals as goal

pub returns-in_default : goal.returns-in_default
returns-in_default t c = λ entries e parts h keyed sorted fits missing.
    let row = c.args.row.now in
    let gone = c.in_default.ensures.sides entries (Lone c.args.node e ∷ parts) h fits in
    let b = c.linked.ensures [] [] e parts (alone row c.args.node e parts (dropped row (Tree c.args.link entries) (Lone c.args.node e ∷ parts) none h)) in
    subst (λ (es : List Entry). IsTreeOf c.linked.new.row c.linked.result (put key_cmp e.key e (pairs_of es)) parts) (sym gone) record { its = e ∷ []; are = refl; holds = b }

pub returns-in-Less : goal.returns-in-Less
returns-in-Less t c = λ entries e parts h keyed sorted fits missing.
    let row = c.args.row.now in
    let k = e.key in
    let o = c.in-Some.ensures.sides entries (Lone c.args.node e ∷ parts) h fits in
    let long = parts-long entries o.front o.middle o.back o.all in
    let s = subst IsSorted o.all sorted in
    let left = Tree c.in-Some.left o.front in
    let middle = Lone c.args.link o.middle in
    let right = Tree c.in-Some.right o.back in
    let way : key_cmp k o.middle.key ≡ Less = ap (λ (q : Key). key_cmp q o.middle.key) keyed ∙ sym (c.compare.ensures o.middle (left ∷ right ∷ Lone c.args.node e ∷ parts) (swapped row left middle (right ∷ Lone c.args.node e ∷ parts) none o.holds)) ∙ c.in-Less.is in
    let found : find key_cmp k (pairs_of entries) ≡ find key_cmp k (pairs_of o.front) = ap (λ (es : List Entry). find key_cmp k (pairs_of es)) o.all ∙ find-left k o.front o.middle o.back s way in
    let r = c.insert-left.ensures o.front e (middle ∷ right ∷ parts) (fourth-second row left middle right (Lone c.args.node e) parts o.holds) keyed (front-sorted o.front (o.middle ∷ o.back) s) (omega (arith, fits, long)) (sym found ∙ missing) in
    record {
      its = r.its ++ o.middle ∷ o.back;
      are = put-left e o.front r.its o.middle o.back way r.are ∙ sym (ap (λ (es : List Entry). put key_cmp k e (pairs_of es)) o.all);
      holds = c.settled.ensures r.its o.back o.middle parts r.holds;
    }

pub returns-in-Greater : goal.returns-in-Greater
returns-in-Greater t c = λ entries e parts h keyed sorted fits missing.
    let row = c.args.row.now in
    let k = e.key in
    let o = c.in-Some.ensures.sides entries (Lone c.args.node e ∷ parts) h fits in
    let long = parts-long entries o.front o.middle o.back o.all in
    let s = subst IsSorted o.all sorted in
    let left = Tree c.in-Some.left o.front in
    let middle = Lone c.args.link o.middle in
    let right = Tree c.in-Some.right o.back in
    let way : key_cmp k o.middle.key ≡ Greater = ap (λ (q : Key). key_cmp q o.middle.key) keyed ∙ sym (c.compare.ensures o.middle (left ∷ right ∷ Lone c.args.node e ∷ parts) (swapped row left middle (right ∷ Lone c.args.node e ∷ parts) none o.holds)) ∙ c.in-Greater.is in
    let found : find key_cmp k (pairs_of entries) ≡ find key_cmp k (pairs_of o.back) = ap (λ (es : List Entry). find key_cmp k (pairs_of es)) o.all ∙ find-right k o.front o.middle o.back s way in
    let a = fourth-second row left middle right (Lone c.args.node e) parts o.holds in
    let moved = pulled row (left ∷ Lone c.args.node e ∷ middle ∷ []) right parts none a in
    let b = swapped row (Lone c.args.node e) right (left ∷ middle ∷ parts) none (pulled row (right ∷ left ∷ []) (Lone c.args.node e) (middle ∷ parts) none moved) in
    let r = c.insert-right.ensures o.back e (left ∷ middle ∷ parts) b keyed (rest-sorted o.front o.middle o.back s) (omega (arith, fits, long)) (sym found ∙ missing) in
    record {
      its = o.front ++ o.middle ∷ r.its;
      are = put-right e o.front o.middle o.back r.its s way r.are ∙ sym (ap (λ (es : List Entry). put key_cmp k e (pairs_of es)) o.all);
      holds = c.settled-in-Greater.ensures o.front r.its o.middle parts (back-again c.insert-right.new.row left middle (Tree c.insert-right.result r.its) parts r.holds);
    }

pub returns-in-Equal : goal.returns-in-Equal
returns-in-Equal t c = λ entries e parts h keyed sorted fits missing.
    let row = c.args.row.now in
    let k = e.key in
    let o = c.in-Some.ensures.sides entries (Lone c.args.node e ∷ parts) h fits in
    let long = parts-long entries o.front o.middle o.back o.all in
    let s = subst IsSorted o.all sorted in
    let left = Tree c.in-Some.left o.front in
    let middle = Lone c.args.link o.middle in
    let right = Tree c.in-Some.right o.back in
    let way : key_cmp k o.middle.key ≡ Equal = ap (λ (q : Key). key_cmp q o.middle.key) keyed ∙ sym (c.compare.ensures o.middle (left ∷ right ∷ Lone c.args.node e ∷ parts) (swapped row left middle (right ∷ Lone c.args.node e ∷ parts) none o.holds)) ∙ c.in-Equal.is in
    let never : Some o.middle ≡ None = sym (ap (λ (es : List Entry). find key_cmp k (pairs_of es)) o.all ∙ find-middle k o.front o.middle o.back s way) ∙ missing in
    absurd (cc)
