use Rattle.std.proofs.Common.{◌≡◌, ℕ, ◌+◌, cond, List, [], ◌∷◌, ◌++◌, length, is_ok, is_some, Option, None, sym, ap, subst, ◌∙◌, arith}
use Rattle.std.specs.VecDeque.{deque_len, deque_capacity}
use Rattle.std.specs.FinMap as maps
use Rattle.std.specs.FinMap.Entries.{find}
use Rattle.rz_events.specs.Keys.{key_cmp}
use Rattle.rz_index.specs.declared.index.Entry.{Entry}
use Rattle.rz_index.specs.declared.nodes.IndexNode.{IndexNode}
use Rattle.rz_index.specs.Indexed.{Indexed, pairs_of, freed_by}
use Rattle.rz_index.specs.Standing.{Part, Tree, Holds, entries_below}
use Rattle.rz_index.specs.Spares.{IsIndex, number_of}
use Rattle.rz_index.proofs.Row.{made, get-made, sorted-take, made-take, take-length}
use Rattle.rz_index.proofs.Cells.{at_most}
use Rattle.rz_index.proofs.Kept.{whole, shows, made-below, its-cell, no-cell}
use Rattle.rz_index.proofs.index.Index.remove.Goals as goal

pub invariant_of-self : goal.invariant_of-self
invariant_of-self c =
    let i = c.self.invariant in
    let es = i.entries in
    let free = c.self.inside.free.items in
    let old = c.self.inside.row.items in
    let new = c.removed-root.new.row in
    let parts : List Part = Tree c.self.inside.spare i.blanks ∷ [] in
    let h = subst (λ (row : List IndexNode). Holds row (Tree c.self.inside.root es ∷ parts)) (sym c.deref_mut.ensures.value) i.holds in
    let room = c.len-room.ensures in
    let long : length new ≡ length old = c.removed-root.auto.row ∙ ap length c.deref_mut.ensures.value in
    let all : c.self.inside.row.len ≡ length old = sym c.deref_mut.ensures.len ∙ ap length c.deref_mut.ensures.value in
    let row = whole new old c.self.inside.row.len long all in
    let k = c.args.key in
    let o = find key_cmp k (pairs_of es) in
    let r = c.removed-root.ensures es i.blanks h i.sorted (omega (arith, i.within, room, all)) in
    let e = its-cell o c.in-Some.cell (sym c.in-Some.is ∙ r.freed) in
    let one : number_of o ≡ 1 = ap number_of e.1 in
    let fewer : 1 + length r.its ≡ length es = ap (λ (x : Option Entry). cond (is_some x) 1 0 + length r.its) (sym e.1) ∙ take-length k es r.its i.sorted r.are in
    let more = at_most (is_ok c.push_back-fits.result) (deque_len c.self.inside.free) (deque_len c.push_back-fits.new.self) c.push_back-fits.ensures.len in
    subst (λ (xs : List IndexNode). IsIndex xs c.removed-root.result.0 c.removed-root.result.1 (deque_len c.push_back-fits.new.self) (deque_capacity c.push_back-fits.new.self)) (sym row)
    record {
      entries = r.its;
      blanks = r.left;
      holds = r.holds;
      sorted = sorted-take k es r.its i.sorted r.are;
      within = omega (arith, fewer, r.count, one, long, i.within);
      room = omega (arith, more, r.count, one, i.room);
      room_free = omega (arith, fewer, more, c.push_back-fits.ensures.capacity, i.room_free);
    }

pub invariant_of-self-in_default : goal.invariant_of-self-in_default
invariant_of-self-in_default c =
    let i = c.self.invariant in
    let es = i.entries in
    let free = c.self.inside.free.items in
    let old = c.self.inside.row.items in
    let new = c.removed-root.new.row in
    let parts : List Part = Tree c.self.inside.spare i.blanks ∷ [] in
    let h = subst (λ (row : List IndexNode). Holds row (Tree c.self.inside.root es ∷ parts)) (sym c.deref_mut.ensures.value) i.holds in
    let room = c.len-room.ensures in
    let long : length new ≡ length old = c.removed-root.auto.row ∙ ap length c.deref_mut.ensures.value in
    let all : c.self.inside.row.len ≡ length old = sym c.deref_mut.ensures.len ∙ ap length c.deref_mut.ensures.value in
    let row = whole new old c.self.inside.row.len long all in
    let k = c.args.key in
    let o = find key_cmp k (pairs_of es) in
    let r = c.removed-root.ensures es i.blanks h i.sorted (omega (arith, i.within, room, all)) in
    let gone : o ≡ None = no-cell o (sym c.in_default.is ∙ r.freed) in
    let naught : number_of o ≡ 0 = ap number_of gone in
    let same : 0 + length r.its ≡ length es = ap (λ (x : Option Entry). cond (is_some x) 1 0 + length r.its) (sym gone) ∙ take-length k es r.its i.sorted r.are in
    subst (λ (xs : List IndexNode). IsIndex xs c.removed-root.result.0 c.removed-root.result.1 (deque_len c.self.inside.free) (deque_capacity c.self.inside.free)) (sym row)
    record {
      entries = r.its;
      blanks = r.left;
      holds = r.holds;
      sorted = sorted-take k es r.its i.sorted r.are;
      within = omega (arith, same, r.count, naught, long, i.within);
      room = omega (arith, r.count, naught, i.room);
      room_free = omega (arith, same, i.room_free);
    }

pub returns-in-Some-clause-entries : goal.returns-in-Some-clause-entries
returns-in-Some-clause-entries c =
    let i = c.self.invariant in
    let es = i.entries in
    let free = c.self.inside.free.items in
    let old = c.self.inside.row.items in
    let new = c.removed-root.new.row in
    let parts : List Part = Tree c.self.inside.spare i.blanks ∷ [] in
    let h = subst (λ (row : List IndexNode). Holds row (Tree c.self.inside.root es ∷ parts)) (sym c.deref_mut.ensures.value) i.holds in
    let room = c.len-room.ensures in
    let long : length new ≡ length old = c.removed-root.auto.row ∙ ap length c.deref_mut.ensures.value in
    let all : c.self.inside.row.len ≡ length old = sym c.deref_mut.ensures.len ∙ ap length c.deref_mut.ensures.value in
    let row = whole new old c.self.inside.row.len long all in
    let k = c.args.key in
    let o = find key_cmp k (pairs_of es) in
    let r = c.removed-root.ensures es i.blanks h i.sorted (omega (arith, i.within, room, all)) in
    let e = its-cell o c.in-Some.cell (sym c.in-Some.is ∙ r.freed) in
    let one : number_of o ≡ 1 = ap number_of e.1 in
    let fewer : 1 + length r.its ≡ length es = ap (λ (x : Option Entry). cond (is_some x) 1 0 + length r.its) (sym e.1) ∙ take-length k es r.its i.sorted r.are in
    ap (λ (xs : List IndexNode). made (entries_below (length xs) xs c.removed-root.result.0)) row
    ∙ made-below new c.removed-root.result.0 r.its (Tree c.removed-root.result.1 r.left ∷ []) r.holds (omega (arith, fewer, long, i.within))
    ∙ made-take k es r.its i.sorted r.are ∙ ap (λ (xs : List Entry). maps.remove (made xs) k) (sym (shows _ _ _ _ _ i)) ∙ ap (λ (s : Indexed). maps.remove s.entries k) c.self.view_is

pub returns-in-Some-clause-free : goal.returns-in-Some-clause-free
returns-in-Some-clause-free c =
    let i = c.self.invariant in
    let es = i.entries in
    let free = c.self.inside.free.items in
    let old = c.self.inside.row.items in
    let new = c.removed-root.new.row in
    let parts : List Part = Tree c.self.inside.spare i.blanks ∷ [] in
    let h = subst (λ (row : List IndexNode). Holds row (Tree c.self.inside.root es ∷ parts)) (sym c.deref_mut.ensures.value) i.holds in
    let room = c.len-room.ensures in
    let long : length new ≡ length old = c.removed-root.auto.row ∙ ap length c.deref_mut.ensures.value in
    let all : c.self.inside.row.len ≡ length old = sym c.deref_mut.ensures.len ∙ ap length c.deref_mut.ensures.value in
    let row = whole new old c.self.inside.row.len long all in
    let k = c.args.key in
    let o = find key_cmp k (pairs_of es) in
    let r = c.removed-root.ensures es i.blanks h i.sorted (omega (arith, i.within, room, all)) in
    let e = its-cell o c.in-Some.cell (sym c.in-Some.is ∙ r.freed) in
    let one : number_of o ≡ 1 = ap number_of e.1 in
    let fewer : 1 + length r.its ≡ length es = ap (λ (x : Option Entry). cond (is_some x) 1 0 + length r.its) (sym e.1) ∙ take-length k es r.its i.sorted r.are in
    let fits = c.push_back-fits.ensures.succeeds (omega (arith, fewer, i.room_free)) in
    c.push_back-fits.ensures.items
    ∙ ap (λ (x : ℕ). cond (is_ok c.push_back-fits.result) (free ++ x ∷ []) free) e.2
    ∙ ap (λ b. cond b (free ++ e.0.cell ∷ []) free) fits
    ∙ sym (ap (λ (s : Indexed). freed_by (maps.get s.entries k) s.free) (sym c.self.view_is) ∙ ap (λ (xs : List Entry). freed_by (maps.get (made xs) k) free) (shows _ _ _ _ _ i) ∙ ap (λ x. freed_by x free) (get-made es k i.sorted ∙ e.1))

pub returns-in_default-clause-entries : goal.returns-in_default-clause-entries
returns-in_default-clause-entries c =
    let i = c.self.invariant in
    let es = i.entries in
    let free = c.self.inside.free.items in
    let old = c.self.inside.row.items in
    let new = c.removed-root.new.row in
    let parts : List Part = Tree c.self.inside.spare i.blanks ∷ [] in
    let h = subst (λ (row : List IndexNode). Holds row (Tree c.self.inside.root es ∷ parts)) (sym c.deref_mut.ensures.value) i.holds in
    let room = c.len-room.ensures in
    let long : length new ≡ length old = c.removed-root.auto.row ∙ ap length c.deref_mut.ensures.value in
    let all : c.self.inside.row.len ≡ length old = sym c.deref_mut.ensures.len ∙ ap length c.deref_mut.ensures.value in
    let row = whole new old c.self.inside.row.len long all in
    let k = c.args.key in
    let o = find key_cmp k (pairs_of es) in
    let r = c.removed-root.ensures es i.blanks h i.sorted (omega (arith, i.within, room, all)) in
    let gone : o ≡ None = no-cell o (sym c.in_default.is ∙ r.freed) in
    let naught : number_of o ≡ 0 = ap number_of gone in
    let same : 0 + length r.its ≡ length es = ap (λ (x : Option Entry). cond (is_some x) 1 0 + length r.its) (sym gone) ∙ take-length k es r.its i.sorted r.are in
    ap (λ (xs : List IndexNode). made (entries_below (length xs) xs c.removed-root.result.0)) row
    ∙ made-below new c.removed-root.result.0 r.its (Tree c.removed-root.result.1 r.left ∷ []) r.holds (omega (arith, same, long, i.within))
    ∙ made-take k es r.its i.sorted r.are ∙ ap (λ (xs : List Entry). maps.remove (made xs) k) (sym (shows _ _ _ _ _ i)) ∙ ap (λ (s : Indexed). maps.remove s.entries k) c.self.view_is

pub returns-in_default-clause-free : goal.returns-in_default-clause-free
returns-in_default-clause-free c =
    let i = c.self.invariant in
    let es = i.entries in
    let free = c.self.inside.free.items in
    let old = c.self.inside.row.items in
    let new = c.removed-root.new.row in
    let parts : List Part = Tree c.self.inside.spare i.blanks ∷ [] in
    let h = subst (λ (row : List IndexNode). Holds row (Tree c.self.inside.root es ∷ parts)) (sym c.deref_mut.ensures.value) i.holds in
    let room = c.len-room.ensures in
    let long : length new ≡ length old = c.removed-root.auto.row ∙ ap length c.deref_mut.ensures.value in
    let all : c.self.inside.row.len ≡ length old = sym c.deref_mut.ensures.len ∙ ap length c.deref_mut.ensures.value in
    let row = whole new old c.self.inside.row.len long all in
    let k = c.args.key in
    let o = find key_cmp k (pairs_of es) in
    let r = c.removed-root.ensures es i.blanks h i.sorted (omega (arith, i.within, room, all)) in
    let gone : o ≡ None = no-cell o (sym c.in_default.is ∙ r.freed) in
    let naught : number_of o ≡ 0 = ap number_of gone in
    let same : 0 + length r.its ≡ length es = ap (λ (x : Option Entry). cond (is_some x) 1 0 + length r.its) (sym gone) ∙ take-length k es r.its i.sorted r.are in
    sym (ap (λ (s : Indexed). freed_by (maps.get s.entries k) s.free) (sym c.self.view_is) ∙ ap (λ (xs : List Entry). freed_by (maps.get (made xs) k) free) (shows _ _ _ _ _ i) ∙ ap (λ x. freed_by x free) (get-made es k i.sorted ∙ gone))
