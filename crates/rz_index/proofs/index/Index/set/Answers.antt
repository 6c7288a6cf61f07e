use Rattle.std.proofs.Common.{◌≡◌, ℕ, ◌+◌, true, cond, List, [], ◌∷◌, length, is_some, Option, Some, None, sym, ap, subst, ◌∙◌, refl, arith}
use Rattle.std.specs.Prelude.{MatchOption}
use Rattle.std.specs.List.{Contains}
use Rattle.std.specs.Vec.{vec_len}
use Rattle.std.specs.VecDeque.{deque_len, deque_capacity}
use Rattle.std.specs.FinMap as maps
use Rattle.std.specs.FinMap.Entries.{find}
use Rattle.rz_events.specs.Keys.{key_cmp}
use Rattle.rz_index.specs.declared.index.Entry.{Entry}
use Rattle.rz_index.specs.declared.nodes.IndexNode.{IndexNode}
use Rattle.rz_index.specs.Indexed.{Indexed, pairs_of, taken_in}
use Rattle.rz_index.specs.Standing.{Part, Tree, Holds, entries_below}
use Rattle.rz_index.specs.Spares.{IsIndex}
use Rattle.rz_index.proofs.Row.{made, get-made, sorted-put, made-put, put-length}
use Rattle.rz_index.proofs.Cells.{taken_out}
use Rattle.rz_index.proofs.Kept.{whole, shows, made-below, absent, present}
use Rattle.rz_index.proofs.index.Index.set.Goals as goal

held_free : (o : Option Entry) (cell : ℕ) (free : List ℕ) → is_some o ≡ true → taken_in o cell free ≡ free
held_free None cell free is = absurd (cc)
held_free (Some e) cell free is = refl

pub invariant_of-self : goal.invariant_of-self
invariant_of-self c =
    let x = c.args.entry in
    let i = c.self.invariant in
    let o = find key_cmp x.key (pairs_of i.entries) in
    let sides : List Part = Tree c.self.inside.spare i.blanks ∷ [] in
    let all_of : vec_len c.self.inside.row ≡ length c.self.inside.row.items = sym c.deref.ensures.len ∙ ap length c.deref.ensures.value in
    let found : c.find.result ≡ o = c.find.ensures i.entries sides (subst (λ (row : List IndexNode). Holds row (Tree c.self.inside.root i.entries ∷ sides)) (sym c.deref.ensures.value) i.holds) i.sorted (omega (arith, i.within, c.len-room.ensures, all_of)) in
    let held : is_some o ≡ true = ap is_some (sym found) ∙ sym c.is_some.ensures ∙ c.if-is_some.true in
    let es = i.entries in
    let free = c.self.inside.free.items in
    let old = c.self.inside.row.items in
    let new = c.replace-self-inside.new.row in
    let parts : List Part = Tree c.self.inside.spare i.blanks ∷ [] in
    let h = subst (λ (row : List IndexNode). Holds row (Tree c.self.inside.root es ∷ parts)) (sym c.deref_mut.ensures.value) i.holds in
    let room = c.len-room.ensures in
    let long : length new ≡ length old = c.replace-self-inside.auto.row ∙ ap length c.deref_mut.ensures.value in
    let all : c.self.inside.row.len ≡ length old = sym c.deref_mut.ensures.len ∙ ap length c.deref_mut.ensures.value in
    let row = whole new old c.self.inside.row.len long all in
    let r = c.replace-self-inside.ensures es parts h i.sorted (omega (arith, i.within, room, all)) (present o held) in
    let same : length r.its ≡ length es = put-length x es r.its i.sorted r.are ∙ ap (λ b. cond b (length es) (length es + 1)) held in
    subst (λ (xs : List IndexNode). IsIndex xs c.replace-self-inside.result c.self.inside.spare (deque_len c.self.inside.free) (deque_capacity c.self.inside.free)) (sym row)
    record {
      entries = r.its;
      blanks = i.blanks;
      holds = r.holds;
      sorted = sorted-put x es r.its i.sorted r.are;
      within = omega (arith, same, long, i.within);
      room = i.room;
      room_free = omega (arith, same, i.room_free);
    }

pub returns-then-is_some-clause-entries : goal.returns-then-is_some-clause-entries
returns-then-is_some-clause-entries c =
    let x = c.args.entry in
    let i = c.self.invariant in
    let o = find key_cmp x.key (pairs_of i.entries) in
    let sides : List Part = Tree c.self.inside.spare i.blanks ∷ [] in
    let all_of : vec_len c.self.inside.row ≡ length c.self.inside.row.items = sym c.deref.ensures.len ∙ ap length c.deref.ensures.value in
    let found : c.find.result ≡ o = c.find.ensures i.entries sides (subst (λ (row : List IndexNode). Holds row (Tree c.self.inside.root i.entries ∷ sides)) (sym c.deref.ensures.value) i.holds) i.sorted (omega (arith, i.within, c.len-room.ensures, all_of)) in
    let held : is_some o ≡ true = ap is_some (sym found) ∙ sym c.is_some.ensures ∙ c.if-is_some.true in
    let es = i.entries in
    let free = c.self.inside.free.items in
    let old = c.self.inside.row.items in
    let new = c.replace-self-inside.new.row in
    let parts : List Part = Tree c.self.inside.spare i.blanks ∷ [] in
    let h = subst (λ (row : List IndexNode). Holds row (Tree c.self.inside.root es ∷ parts)) (sym c.deref_mut.ensures.value) i.holds in
    let room = c.len-room.ensures in
    let long : length new ≡ length old = c.replace-self-inside.auto.row ∙ ap length c.deref_mut.ensures.value in
    let all : c.self.inside.row.len ≡ length old = sym c.deref_mut.ensures.len ∙ ap length c.deref_mut.ensures.value in
    let row = whole new old c.self.inside.row.len long all in
    let r = c.replace-self-inside.ensures es parts h i.sorted (omega (arith, i.within, room, all)) (present o held) in
    let same : length r.its ≡ length es = put-length x es r.its i.sorted r.are ∙ ap (λ b. cond b (length es) (length es + 1)) held in
    ap (λ (xs : List IndexNode). made (entries_below (length xs) xs c.replace-self-inside.result)) row
    ∙ made-below new c.replace-self-inside.result r.its parts r.holds (omega (arith, same, long, i.within))
    ∙ made-put x es r.its i.sorted r.are ∙ ap (λ (xs : List Entry). maps.insert (made xs) x.key x) (sym (shows _ _ _ _ _ i)) ∙ ap (λ (s : Indexed). maps.insert s.entries x.key x) c.self.view_is

pub returns-then-is_some-clause-free : goal.returns-then-is_some-clause-free
returns-then-is_some-clause-free c =
    let x = c.args.entry in
    let i = c.self.invariant in
    let o = find key_cmp x.key (pairs_of i.entries) in
    let sides : List Part = Tree c.self.inside.spare i.blanks ∷ [] in
    let all_of : vec_len c.self.inside.row ≡ length c.self.inside.row.items = sym c.deref.ensures.len ∙ ap length c.deref.ensures.value in
    let found : c.find.result ≡ o = c.find.ensures i.entries sides (subst (λ (row : List IndexNode). Holds row (Tree c.self.inside.root i.entries ∷ sides)) (sym c.deref.ensures.value) i.holds) i.sorted (omega (arith, i.within, c.len-room.ensures, all_of)) in
    let held : is_some o ≡ true = ap is_some (sym found) ∙ sym c.is_some.ensures ∙ c.if-is_some.true in
    let free = c.self.inside.free.items in
    sym (ap (λ (s : Indexed). taken_in (maps.get s.entries x.key) x.cell s.free) (sym c.self.view_is)
    ∙ ap (λ (xs : List Entry). taken_in (maps.get (made xs) x.key) x.cell free) (shows _ _ _ _ _ i)
    ∙ ap (λ y. taken_in y x.cell free) (get-made i.entries x.key i.sorted) ∙ held_free o x.cell free held)

pub place_of-place-requires : goal.place_of-place-requires
place_of-place-requires c =
    let x = c.args.entry in
    let i = c.self.invariant in
    let o = find key_cmp x.key (pairs_of i.entries) in
    let sides : List Part = Tree c.self.inside.spare i.blanks ∷ [] in
    let all_of : vec_len c.self.inside.row ≡ length c.self.inside.row.items = sym c.deref.ensures.len ∙ ap length c.deref.ensures.value in
    let found : c.find.result ≡ o = c.find.ensures i.entries sides (subst (λ (row : List IndexNode). Holds row (Tree c.self.inside.root i.entries ∷ sides)) (sym c.deref.ensures.value) i.holds) i.sorted (omega (arith, i.within, c.len-room.ensures, all_of)) in
    let missing : o ≡ None = absent o (ap is_some (sym found) ∙ sym c.is_some.ensures ∙ c.if-is_some.false) in
    let gone = ap (λ (s : Indexed). maps.get s.entries x.key) (sym c.self.view_is) ∙ ap (λ (xs : List Entry). maps.get (made xs) x.key) (shows _ _ _ _ _ i) ∙ get-made i.entries x.key i.sorted ∙ missing in
    let there = subst (λ y. MatchOption y (Contains c.args.self.now.free x.cell) (λ (e : Entry). e.cell ≡ x.cell)) gone c.requires in
    subst (λ (xs : List ℕ). Contains xs x.cell) (ap (λ (s : Indexed). s.free) (sym c.self.view_is)) there

pub invariant_of-self-else-is_some : goal.invariant_of-self-else-is_some
invariant_of-self-else-is_some c =
    let x = c.args.entry in
    let i = c.self.invariant in
    let o = find key_cmp x.key (pairs_of i.entries) in
    let sides : List Part = Tree c.self.inside.spare i.blanks ∷ [] in
    let all_of : vec_len c.self.inside.row ≡ length c.self.inside.row.items = sym c.deref.ensures.len ∙ ap length c.deref.ensures.value in
    let found : c.find.result ≡ o = c.find.ensures i.entries sides (subst (λ (row : List IndexNode). Holds row (Tree c.self.inside.root i.entries ∷ sides)) (sym c.deref.ensures.value) i.holds) i.sorted (omega (arith, i.within, c.len-room.ensures, all_of)) in
    let missing : o ≡ None = absent o (ap is_some (sym found) ∙ sym c.is_some.ensures ∙ c.if-is_some.false) in
    let es = i.entries in
    let free = c.self.inside.free.items in
    let old = c.self.inside.row.items in
    let new = c.added-root.new.row in
    let parts : List Part = Tree c.self.inside.spare i.blanks ∷ [] in
    let h = subst (λ (row : List IndexNode). Holds row (Tree c.self.inside.root es ∷ parts)) (sym c.deref_mut-else-is_some.ensures.value) i.holds in
    let room = c.len-room.ensures in
    let long : length new ≡ length old = c.added-root.auto.row ∙ ap length c.deref_mut-else-is_some.ensures.value in
    let all : c.self.inside.row.len ≡ length old = sym c.deref_mut-else-is_some.ensures.len ∙ ap length c.deref_mut-else-is_some.ensures.value in
    let row = whole new old c.self.inside.row.len long all in
    let less = taken_out _ _ (c.remove-cell.ensures.succeeds 0 c.place_of-place.ensures.within) c.remove-cell.ensures.len in
    let r = c.added-root.ensures es i.blanks h i.sorted (omega (arith, i.within, room, all)) (omega (arith, i.within, room, all)) missing (omega (arith, less, i.room)) in
    let more : length r.its ≡ length es + 1 = put-length x es r.its i.sorted r.are ∙ ap (λ (y : Option Entry). cond (is_some y) (length es) (length es + 1)) missing in
    subst (λ (xs : List IndexNode). IsIndex xs c.added-root.result.0 c.added-root.result.1 (deque_len c.remove-cell.new.self) (deque_capacity c.remove-cell.new.self)) (sym row)
    record {
      entries = r.its;
      blanks = r.left;
      holds = r.holds;
      sorted = sorted-put x es r.its i.sorted r.are;
      within = omega (arith, more, r.count, long, i.within);
      room = omega (arith, less, r.count, i.room);
      room_free = omega (arith, less, more, c.remove-cell.ensures.capacity, i.room_free);
    }

pub returns-else-is_some-clause-entries : goal.returns-else-is_some-clause-entries
returns-else-is_some-clause-entries c =
    let x = c.args.entry in
    let i = c.self.invariant in
    let o = find key_cmp x.key (pairs_of i.entries) in
    let sides : List Part = Tree c.self.inside.spare i.blanks ∷ [] in
    let all_of : vec_len c.self.inside.row ≡ length c.self.inside.row.items = sym c.deref.ensures.len ∙ ap length c.deref.ensures.value in
    let found : c.find.result ≡ o = c.find.ensures i.entries sides (subst (λ (row : List IndexNode). Holds row (Tree c.self.inside.root i.entries ∷ sides)) (sym c.deref.ensures.value) i.holds) i.sorted (omega (arith, i.within, c.len-room.ensures, all_of)) in
    let missing : o ≡ None = absent o (ap is_some (sym found) ∙ sym c.is_some.ensures ∙ c.if-is_some.false) in
    let es = i.entries in
    let free = c.self.inside.free.items in
    let old = c.self.inside.row.items in
    let new = c.added-root.new.row in
    let parts : List Part = Tree c.self.inside.spare i.blanks ∷ [] in
    let h = subst (λ (row : List IndexNode). Holds row (Tree c.self.inside.root es ∷ parts)) (sym c.deref_mut-else-is_some.ensures.value) i.holds in
    let room = c.len-room.ensures in
    let long : length new ≡ length old = c.added-root.auto.row ∙ ap length c.deref_mut-else-is_some.ensures.value in
    let all : c.self.inside.row.len ≡ length old = sym c.deref_mut-else-is_some.ensures.len ∙ ap length c.deref_mut-else-is_some.ensures.value in
    let row = whole new old c.self.inside.row.len long all in
    let less = taken_out _ _ (c.remove-cell.ensures.succeeds 0 c.place_of-place.ensures.within) c.remove-cell.ensures.len in
    let r = c.added-root.ensures es i.blanks h i.sorted (omega (arith, i.within, room, all)) (omega (arith, i.within, room, all)) missing (omega (arith, less, i.room)) in
    let more : length r.its ≡ length es + 1 = put-length x es r.its i.sorted r.are ∙ ap (λ (y : Option Entry). cond (is_some y) (length es) (length es + 1)) missing in
    ap (λ (xs : List IndexNode). made (entries_below (length xs) xs c.added-root.result.0)) row
    ∙ made-below new c.added-root.result.0 r.its (Tree c.added-root.result.1 r.left ∷ []) r.holds (omega (arith, more, r.count, long, i.within))
    ∙ made-put x es r.its i.sorted r.are ∙ ap (λ (xs : List Entry). maps.insert (made xs) x.key x) (sym (shows _ _ _ _ _ i)) ∙ ap (λ (s : Indexed). maps.insert s.entries x.key x) c.self.view_is

pub returns-else-is_some-clause-free : goal.returns-else-is_some-clause-free
returns-else-is_some-clause-free c =
    let x = c.args.entry in
    let i = c.self.invariant in
    let o = find key_cmp x.key (pairs_of i.entries) in
    let sides : List Part = Tree c.self.inside.spare i.blanks ∷ [] in
    let all_of : vec_len c.self.inside.row ≡ length c.self.inside.row.items = sym c.deref.ensures.len ∙ ap length c.deref.ensures.value in
    let found : c.find.result ≡ o = c.find.ensures i.entries sides (subst (λ (row : List IndexNode). Holds row (Tree c.self.inside.root i.entries ∷ sides)) (sym c.deref.ensures.value) i.holds) i.sorted (omega (arith, i.within, c.len-room.ensures, all_of)) in
    let missing : o ≡ None = absent o (ap is_some (sym found) ∙ sym c.is_some.ensures ∙ c.if-is_some.false) in
    let free = c.self.inside.free.items in
    let items = taken_out _ _ (c.remove-cell.ensures.succeeds 0 c.place_of-place.ensures.within) c.remove-cell.ensures.items in
    items ∙ sym c.place_of-place.ensures.first
    ∙ sym (ap (λ (s : Indexed). taken_in (maps.get s.entries x.key) x.cell s.free) (sym c.self.view_is)
    ∙ ap (λ (xs : List Entry). taken_in (maps.get (made xs) x.key) x.cell free) (shows _ _ _ _ _ i)
    ∙ ap (λ y. taken_in y x.cell free) (get-made i.entries x.key i.sorted ∙ missing))
