-- The sorted entries are those that came.
use Rattle.std.proofs.Common.{rules, ◌≡◌, ◌+◌, ◌≤◌, List, [], ◌∷◌, ◌++◌, length, take, drop, sym, ap, subst, ◌∙◌, arith}
use Rattle.std.specs.VecDeque.{deque_len, deque_capacity}
use Rattle.std.specs.FinMap as maps
use Rattle.rz_index.specs.declared.index.Entry.{Entry}
use Rattle.rz_index.specs.declared.nodes.IndexNode.{IndexNode}
use Rattle.rz_index.specs.Indexed.{IsSorted}
use Rattle.rz_index.specs.Standing.{Tree, Holds, entries_below}
use Rattle.rz_index.specs.Spares.{IsIndex}
use Rattle.rz_index.proofs.Row.{made}
use Rattle.rz_index.proofs.Kept.{whole, made-below}
use Rattle.std.proofs.lemmas.List.Sorted.{answers_always, Contains-permutation, IsPermutation-sym, length_permutation}
use Rattle.rz_index.proofs.Sorting.{sorted-rows, made-has, made-only, made-count}
use Rattle.rz_index.proofs.index.Index.of_rows.Goals as goal

pub invariant_of-result : goal.invariant_of-result
invariant_of-result c =
    let es = c.args.entries.items in
    let fs = c.sort_unstable_by_key.new.self.items in
    let sorted : IsSorted fs = sorted-rows es fs c.requires.keys c.sort_unstable_by_key.ensures.permutation (c.sort_unstable_by_key.ensures.sorted (λ (e : Entry). e.key) (answers_always _ _ _ (λ f a r g h. search rules))) in
    let i = c.spare.invariant in
    let its = c.deref.result.now in
    let old = c.spare.inside.row.items in
    let new = c.planted-root.new.row in
    let h = subst (λ (row : List IndexNode). Holds row (Tree c.spare.inside.link i.blanks ∷ [])) (sym c.deref_mut.ensures.value) i.holds in
    let long : length new ≡ length old = c.planted-root.auto.row ∙ ap length c.deref_mut.ensures.value in
    let all : c.spare.inside.row.len ≡ length old = sym c.deref_mut.ensures.len ∙ ap length c.deref_mut.ensures.value in
    let row = whole new old c.spare.inside.row.len long all in
    let many : length its + deque_len c.args.free ≤ length i.blanks = omega (arith, c.deref.ensures.len, c.sort_unstable_by_key.ensures.len, c.requires.room, c.spare.view_is, i.count) in
    let p = c.planted-root.ensures i.blanks h (omega (arith, many)) (omega (arith, i.count, i.within, c.len-room.ensures, all)) in
    let made_is : made (entries_below (length (take c.spare.inside.row.len (new ++ drop (length new) old))) (take c.spare.inside.row.len (new ++ drop (length new) old)) c.planted-root.result.0) ≡ made fs =
    ap (λ (xs : List IndexNode). made (entries_below (length xs) xs c.planted-root.result.0)) row
    ∙ made-below new c.planted-root.result.0 its (Tree c.planted-root.result.1 p.left ∷ []) p.holds (omega (arith, p.count, long, i.count, i.within)) ∙ ap made c.deref.ensures.value
    in
    subst (λ (xs : List IndexNode). IsIndex xs c.planted-root.result.0 c.planted-root.result.1 (deque_len c.args.free) (deque_capacity c.args.free)) (sym row)
    record {
      entries = its;
      blanks = p.left;
      holds = p.holds;
      sorted = subst IsSorted (sym c.deref.ensures.value) sorted;
      within = omega (arith, p.count, long, i.count, i.within);
      room = omega (arith, p.count, many);
      room_free = omega (arith, c.deref.ensures.len, c.sort_unstable_by_key.ensures.len, c.requires.room_free);
    }

pub returns-clause-has : goal.returns-clause-has
returns-clause-has c e there =
    let es = c.args.entries.items in
    let fs = c.sort_unstable_by_key.new.self.items in
    let sorted : IsSorted fs = sorted-rows es fs c.requires.keys c.sort_unstable_by_key.ensures.permutation (c.sort_unstable_by_key.ensures.sorted (λ (e : Entry). e.key) (answers_always _ _ _ (λ f a r g h. search rules))) in
    let i = c.spare.invariant in
    let its = c.deref.result.now in
    let old = c.spare.inside.row.items in
    let new = c.planted-root.new.row in
    let h = subst (λ (row : List IndexNode). Holds row (Tree c.spare.inside.link i.blanks ∷ [])) (sym c.deref_mut.ensures.value) i.holds in
    let long : length new ≡ length old = c.planted-root.auto.row ∙ ap length c.deref_mut.ensures.value in
    let all : c.spare.inside.row.len ≡ length old = sym c.deref_mut.ensures.len ∙ ap length c.deref_mut.ensures.value in
    let row = whole new old c.spare.inside.row.len long all in
    let many : length its + deque_len c.args.free ≤ length i.blanks = omega (arith, c.deref.ensures.len, c.sort_unstable_by_key.ensures.len, c.requires.room, c.spare.view_is, i.count) in
    let p = c.planted-root.ensures i.blanks h (omega (arith, many)) (omega (arith, i.count, i.within, c.len-room.ensures, all)) in
    let made_is : made (entries_below (length (take c.spare.inside.row.len (new ++ drop (length new) old))) (take c.spare.inside.row.len (new ++ drop (length new) old)) c.planted-root.result.0) ≡ made fs =
    ap (λ (xs : List IndexNode). made (entries_below (length xs) xs c.planted-root.result.0)) row
    ∙ made-below new c.planted-root.result.0 its (Tree c.planted-root.result.1 p.left ∷ []) p.holds (omega (arith, p.count, long, i.count, i.within)) ∙ ap made c.deref.ensures.value
    in
    ap (λ m. maps.get m e.key) made_is ∙ made-has fs e sorted (Contains-permutation es fs e c.sort_unstable_by_key.ensures.permutation there)

pub returns-clause-only : goal.returns-clause-only
returns-clause-only c key e is =
    let es = c.args.entries.items in
    let fs = c.sort_unstable_by_key.new.self.items in
    let sorted : IsSorted fs = sorted-rows es fs c.requires.keys c.sort_unstable_by_key.ensures.permutation (c.sort_unstable_by_key.ensures.sorted (λ (e : Entry). e.key) (answers_always _ _ _ (λ f a r g h. search rules))) in
    let i = c.spare.invariant in
    let its = c.deref.result.now in
    let old = c.spare.inside.row.items in
    let new = c.planted-root.new.row in
    let h = subst (λ (row : List IndexNode). Holds row (Tree c.spare.inside.link i.blanks ∷ [])) (sym c.deref_mut.ensures.value) i.holds in
    let long : length new ≡ length old = c.planted-root.auto.row ∙ ap length c.deref_mut.ensures.value in
    let all : c.spare.inside.row.len ≡ length old = sym c.deref_mut.ensures.len ∙ ap length c.deref_mut.ensures.value in
    let row = whole new old c.spare.inside.row.len long all in
    let many : length its + deque_len c.args.free ≤ length i.blanks = omega (arith, c.deref.ensures.len, c.sort_unstable_by_key.ensures.len, c.requires.room, c.spare.view_is, i.count) in
    let p = c.planted-root.ensures i.blanks h (omega (arith, many)) (omega (arith, i.count, i.within, c.len-room.ensures, all)) in
    let made_is : made (entries_below (length (take c.spare.inside.row.len (new ++ drop (length new) old))) (take c.spare.inside.row.len (new ++ drop (length new) old)) c.planted-root.result.0) ≡ made fs =
    ap (λ (xs : List IndexNode). made (entries_below (length xs) xs c.planted-root.result.0)) row
    ∙ made-below new c.planted-root.result.0 its (Tree c.planted-root.result.1 p.left ∷ []) p.holds (omega (arith, p.count, long, i.count, i.within)) ∙ ap made c.deref.ensures.value
    in
    let found = made-only fs key e sorted (ap (λ m. maps.get m key) (sym made_is) ∙ is) in
    (Contains-permutation fs es e (IsPermutation-sym es fs c.sort_unstable_by_key.ensures.permutation) found.0, found.1)

pub returns-clause-count : goal.returns-clause-count
returns-clause-count c =
    let es = c.args.entries.items in
    let fs = c.sort_unstable_by_key.new.self.items in
    let sorted : IsSorted fs = sorted-rows es fs c.requires.keys c.sort_unstable_by_key.ensures.permutation (c.sort_unstable_by_key.ensures.sorted (λ (e : Entry). e.key) (answers_always _ _ _ (λ f a r g h. search rules))) in
    let i = c.spare.invariant in
    let its = c.deref.result.now in
    let old = c.spare.inside.row.items in
    let new = c.planted-root.new.row in
    let h = subst (λ (row : List IndexNode). Holds row (Tree c.spare.inside.link i.blanks ∷ [])) (sym c.deref_mut.ensures.value) i.holds in
    let long : length new ≡ length old = c.planted-root.auto.row ∙ ap length c.deref_mut.ensures.value in
    let all : c.spare.inside.row.len ≡ length old = sym c.deref_mut.ensures.len ∙ ap length c.deref_mut.ensures.value in
    let row = whole new old c.spare.inside.row.len long all in
    let many : length its + deque_len c.args.free ≤ length i.blanks = omega (arith, c.deref.ensures.len, c.sort_unstable_by_key.ensures.len, c.requires.room, c.spare.view_is, i.count) in
    let p = c.planted-root.ensures i.blanks h (omega (arith, many)) (omega (arith, i.count, i.within, c.len-room.ensures, all)) in
    let made_is : made (entries_below (length (take c.spare.inside.row.len (new ++ drop (length new) old))) (take c.spare.inside.row.len (new ++ drop (length new) old)) c.planted-root.result.0) ≡ made fs =
    ap (λ (xs : List IndexNode). made (entries_below (length xs) xs c.planted-root.result.0)) row
    ∙ made-below new c.planted-root.result.0 its (Tree c.planted-root.result.1 p.left ∷ []) p.holds (omega (arith, p.count, long, i.count, i.within)) ∙ ap made c.deref.ensures.value
    in
    ap maps.len made_is ∙ made-count fs sorted ∙ length_permutation es fs c.sort_unstable_by_key.ensures.permutation ∙ omega arith
