-- Lists of which a part is another, and bytes with zeros behind them.
use Rattle.std.proofs.Common.{◌≡◌, ◌⊎◌, inl, inr, ⊎_elim, ℕ, ◌+◌, ◌-◌, ◌<◌, ◌≤◌, Bool, true, false, List, [], ◌++◌, length, take, drop, replicate, get_or, refl, sym, subst, ◌∙◌, ap, arith, length-append, length-drop}
use Rattle.std.proofs.lemmas.Bool.{cases_lt}
use Rattle.std.proofs.lemmas.List.{ext_get_or, get_or-take, get_or-drop, get_or_append_left, get_or-append_right, get_or-replicate, get_or_past, length-take-le, length-replicate}
use Rattle.rz_disk.specs.Images.{window, Written}
use Rattle.rz_disk.specs.Stored.{Marked, Picked, picked_byte, padded, patched}
use Rattle.rz_disk.proofs.Images.{window-byte, window-length}

-- what such a list has at each place
pub record Patches {X : Type 0} (d : X) (from : ℕ) (part whole new : List X) : Type 0 where
  pub size : length new ≡ length whole
  pub below : (i : ℕ) → i < from → get_or new i d ≡ get_or whole i d
  pub inside : (i : ℕ) → from ≤ i → i < from + length part → get_or new i d ≡ get_or part (i - from) d
  pub above : (i : ℕ) → from + length part ≤ i → get_or new i d ≡ get_or whole i d

pub patches : {X : Type 0} (d : X) (from : ℕ) (part whole : List X) → from + length part ≤ length whole → Patches d from part whole (patched from part whole)
patches d from part whole fits =
    let front : length (take from whole) ≡ from = length-take-le from whole (omega arith) in
    record {
      size = omega (arith, length-append (take from whole) (part ++ drop (from + length part) whole), length-append part (drop (from + length part) whole), length-drop (from + length part) whole, front);
      below = λ i lt. get_or_append_left (take from whole) (part ++ drop (from + length part) whole) d i (omega arith) ∙ get_or-take from whole i d lt;
      inside = λ i le lt.
          get_or-append_right (take from whole) (part ++ drop (from + length part) whole) from i d front le
          ∙ get_or_append_left part (drop (from + length part) whole) d (i - from) (omega arith);
      above = λ i le.
          get_or-append_right (take from whole) (part ++ drop (from + length part) whole) from i d front (omega arith)
          ∙ get_or-append_right part (drop (from + length part) whole) (length part) (i - from) d refl (omega arith)
          ∙ get_or-drop (from + length part) whole (i - from - length part) d
          ∙ ap (λ (k : ℕ). get_or whole k d) (omega arith);
    }

-- a list that has that at each place is that one
pub is_patched : {X : Type 0} (d : X) (from : ℕ) (part whole new : List X) → from + length part ≤ length whole → Patches d from part whole new → new ≡ patched from part whole
is_patched d from part whole new fits p =
    let q = patches d from part whole fits in
    ext_get_or d new (patched from part whole) (p.size ∙ sym q.size) (λ i _. ⊎_elim
    (λ (lt : i < from). p.below i lt ∙ sym (q.below i lt))
    (λ (le : from ≤ i). ⊎_elim
    (λ (lt : i < from + length part). p.inside i le lt ∙ sym (q.inside i le lt))
    (λ (past : from + length part ≤ i). p.above i past ∙ sym (q.above i past))
    (cases_lt i (from + length part)))
    (cases_lt i from))

-- a part that is none
pub none_patched : {X : Type 0} (from : ℕ) (d : X) (whole : List X) → from ≤ length whole → patched from [] whole ≡ whole
none_patched from d whole fits = sym (is_patched d from [] whole whole (omega arith) (record {
  size = refl;
  below = λ i lt. refl;
  inside = λ i le lt. absurd (omega arith);
  above = λ i le. refl;
}))

-- an empty part may stand anywhere
pub moved : {X : Type 0} (d : X) (from to : ℕ) (part whole : List X) → length part ≡ 0 → from ≤ length whole → to ≤ length whole → patched to part whole ≡ patched from part whole
moved d from to part whole none fits fits' =
    let p = patches d to part whole (omega arith) in
    let same : (i : ℕ) → get_or (patched to part whole) i d ≡ get_or whole i d = λ i. ⊎_elim
    (λ (lt : i < to). p.below i lt)
    (λ (le : to ≤ i). p.above i (omega arith))
    (cases_lt i to) in
    is_patched d from part whole (patched to part whole) (omega arith) (record {
      size = p.size;
      below = λ i lt. same i;
      inside = λ i le lt. absurd (omega arith);
      above = λ i le. same i;
    })

-- a part to which what stands before it is put
pub begun : {X : Type 0} (d : X) (start from n : ℕ) (part new whole : List X) → start + n ≡ from → from + length part ≤ length whole → length new ≡ length part + n → ((i : ℕ) → i < n → get_or new i d ≡ get_or whole (start + i) d) → ((i : ℕ) → i < length part → get_or new (n + i) d ≡ get_or part i d) → patched start new whole ≡ patched from part whole
begun d start from n part new whole at fits size same old =
    let p = patches d start new whole (omega arith) in
    is_patched d from part whole (patched start new whole) fits (record {
      size = p.size;
      below = λ i lt. ⊎_elim
          (λ (low : i < start). p.below i low)
          (λ (le : start ≤ i).
          p.inside i le (omega arith)
          ∙ same (i - start) (omega arith)
          ∙ ap (λ (k : ℕ). get_or whole k d) (omega arith))
          (cases_lt i start);
      inside = λ i le lt.
          p.inside i (omega arith) (omega arith)
          ∙ ap (λ (k : ℕ). get_or new k d) (omega arith)
          ∙ old (i - from) (omega arith);
      above = λ i le. p.above i (omega arith);
    })

-- a part to which what stands behind it is put
pub reached : {X : Type 0} (d : X) (from n : ℕ) (part new whole : List X) → length new ≡ length part + n → from + length part + n ≤ length whole → ((i : ℕ) → i < length part → get_or new i d ≡ get_or part i d) → ((i : ℕ) → i < n → get_or new (length part + i) d ≡ get_or whole (from + length part + i) d) → patched from new whole ≡ patched from part whole
reached d from n part new whole size fits old same =
    let p = patches d from new whole (omega arith) in
    is_patched d from part whole (patched from new whole) (omega arith) (record {
      size = p.size;
      below = p.below;
      inside = λ i le lt. p.inside i le (omega arith) ∙ old (i - from) (omega arith);
      above = λ i le. ⊎_elim
          (λ (lt : i < from + length part + n).
          p.inside i (omega arith) (omega arith)
          ∙ ap (λ (k : ℕ). get_or new k d) (omega arith)
          ∙ same (i - from - length part) (omega arith)
          ∙ ap (λ (k : ℕ). get_or whole k d) (omega arith))
          (λ (past : from + length part + n ≤ i). p.above i (omega arith))
          (cases_lt i (from + length part + n));
    })

-- the same of a part that ends at a place
pub reached_at : {X : Type 0} (d : X) (from to end : ℕ) (part new whole : List X) → to ≡ from + length part → to ≤ end → end ≤ length whole → length new ≡ length part + (end - to) → ((i : ℕ) → i < length part → get_or new i d ≡ get_or part i d) → ((i : ℕ) → i < end - to → get_or new (length part + i) d ≡ get_or whole (to + i) d) → patched from new whole ≡ patched from part whole
reached_at d from to end part new whole at ordered fits size old same =
    reached d from (end - to) part new whole size (omega (arith, at)) old (λ i lt. same i lt ∙ ap (λ (k : ℕ). get_or whole (k + i) d) at)

-- no byte has a mark
pub no_mark : (size i : ℕ) → get_or (replicate size false) i false ≡ false
no_mark size i = ⊎_elim
    (λ (lt : i < size). get_or-replicate size i false false lt)
    (λ (past : size ≤ i). get_or_past (replicate size false) i false (omega (arith, length-replicate {A = Bool} size false)))
    (cases_lt i size)

-- a part hides what stands under it
pub hidden : {X : Type 0} (d : X) (from : ℕ) (part old new : List X) → from + length part ≤ length old → length new ≡ length old → ((i : ℕ) → (i < from) ⊎ (from + length part ≤ i) → get_or new i d ≡ get_or old i d) → patched from part new ≡ patched from part old
hidden d from part old new fits size same =
    let p = patches d from part new (omega arith) in
    is_patched d from part old (patched from part new) fits (record {
      size = p.size ∙ size;
      below = λ i lt. p.below i lt ∙ same i (inl lt);
      inside = p.inside;
      above = λ i le. p.above i le ∙ same i (inr le);
    })

pub padded-length : (size : ℕ) (bytes : List ℕ) → length bytes ≤ size → length (padded size bytes) ≡ size
padded-length size bytes fits = length-append bytes (replicate (size - length bytes) 0) ∙ omega (arith, length-replicate {A = ℕ} (size - length bytes) 0)

pub padded-byte : (size : ℕ) (bytes : List ℕ) (i : ℕ) → get_or (padded size bytes) i 0 ≡ get_or bytes i 0
padded-byte size bytes i = ⊎_elim
    (λ (lt : i < length bytes). get_or_append_left bytes (replicate (size - length bytes) 0) 0 i lt)
    (λ (past : length bytes ≤ i).
    get_or-append_right bytes (replicate (size - length bytes) 0) (length bytes) i 0 refl past
    ∙ ⊎_elim
    (λ (lt : i - length bytes < size - length bytes). get_or-replicate (size - length bytes) (i - length bytes) 0 0 lt)
    (λ (far : size - length bytes ≤ i - length bytes). get_or_past (replicate (size - length bytes) 0) (i - length bytes) 0 (omega (arith, length-replicate {A = ℕ} (size - length bytes) 0)))
    (cases_lt (i - length bytes) (size - length bytes))
    ∙ sym (get_or_past bytes i 0 past))
    (cases_lt i (length bytes))

-- bytes with zeros behind them are told by their bytes
pub same_padded : (size : ℕ) (a b : List ℕ) → length a ≤ size → length b ≤ size → ((i : ℕ) → get_or a i 0 ≡ get_or b i 0) → padded size a ≡ padded size b
same_padded size a b fits-a fits-b same =
    ext_get_or 0 (padded size a) (padded size b)
    (padded-length size a fits-a ∙ sym (padded-length size b fits-b))
    (λ i _. padded-byte size a i ∙ same i ∙ sym (padded-byte size b i))

-- a part of the bytes is one of the text
pub padded_patch : (size from : ℕ) (part bytes : List ℕ) → from + length part ≤ length bytes → length bytes ≤ size → padded size (patched from part bytes) ≡ patched from part (padded size bytes)
padded_patch size from part bytes fits bound =
    let p = patches 0 from part bytes fits in
    let long : length (patched from part bytes) ≡ length bytes = p.size in
    let whole = padded-length size bytes bound in
    is_patched 0 from part (padded size bytes) (padded size (patched from part bytes)) (omega (arith, whole)) (record {
      size = padded-length size (patched from part bytes) (omega arith) ∙ sym whole;
      below = λ i lt. padded-byte size (patched from part bytes) i ∙ p.below i lt ∙ sym (padded-byte size bytes i);
      inside = λ i le lt. padded-byte size (patched from part bytes) i ∙ p.inside i le lt;
      above = λ i le. padded-byte size (patched from part bytes) i ∙ p.above i le ∙ sym (padded-byte size bytes i);
    })

-- a window on the bytes
pub padded_window : (size at n : ℕ) (bytes : List ℕ) → at + n ≤ length bytes → length bytes ≤ size → window at n (padded size bytes) ≡ window at n bytes
padded_window size at n bytes fits bound =
    let whole = padded-length size bytes bound in
    let long : length (window at n (padded size bytes)) ≡ n = window-length at n (padded size bytes) (omega (arith, whole)) in
    ext_get_or 0 (window at n (padded size bytes)) (window at n bytes)
    (long ∙ sym (window-length at n bytes fits))
    (λ i below.
    let lt : i < n = omega (arith, long) in
    window-byte at n (padded size bytes) i lt ∙ padded-byte size bytes (at + i) ∙ sym (window-byte at n bytes i lt))

-- a write into the bytes is one into the text
pub padded_write : (size at : ℕ) (bytes old new : List ℕ) → at + length bytes ≤ length old → length old ≤ size → Written at bytes old new → Written at bytes (padded size old) (padded size new)
padded_write size at bytes old new fits bound w =
    let n : ℕ = length bytes in
    let long : length new ≡ length old = w.torn.size in
    record {
      torn = record {
        size = padded-length size new (omega arith) ∙ sym (padded-length size old bound);
        below = λ i lt. padded-byte size new i ∙ w.torn.below i lt ∙ sym (padded-byte size old i);
        above = λ i le. padded-byte size new i ∙ w.torn.above i le ∙ sym (padded-byte size old i);
      };
      there = padded_window size at n new (omega arith) (omega arith) ∙ w.there;
    }

-- marks in a part are marks in the whole
pub marked_whole : (value : Bool) (from at n : ℕ) (old new whole : List Bool) → from ≤ at → at - from + n ≤ length old → from + length old ≤ length whole → Marked value (at - from) n old new → Marked value at n (patched from old whole) (patched from new whole)
marked_whole value from at n old new whole le inner fits m =
    let long : length new ≡ length old = m.size in
    let p = patches false from old whole fits in
    let q = patches false from new whole (omega arith) in
    let other : (i : ℕ) → (i < at) ⊎ (at + n ≤ i) → get_or (patched from new whole) i false ≡ get_or (patched from old whole) i false = λ i out. ⊎_elim
    (λ (lt : i < from). q.below i lt ∙ sym (p.below i lt))
    (λ (in_part : from ≤ i). ⊎_elim
    (λ (lt : i < from + length old). q.inside i in_part (omega arith) ∙ ⊎_elim
    (λ (low : i < at). m.below (i - from) (omega arith))
    (λ (high : at + n ≤ i). m.above (i - from) (omega arith))
    out ∙ sym (p.inside i in_part lt))
    (λ (past : from + length old ≤ i). q.above i (omega arith) ∙ sym (p.above i past))
    (cases_lt i (from + length old)))
    (cases_lt i from) in
    record {
      size = q.size ∙ sym p.size;
      inside = λ i from-at lt. q.inside i (omega arith) (omega arith) ∙ m.inside (i - from) (omega arith) (omega arith);
      below = λ i lt. other i (inl lt);
      above = λ i past. other i (inr past);
    }

on_off : false ≡ true → ⊥
on_off same = cc

-- What a crash leaves of the bytes of a range is what it leaves of the text.
pub picked_whole : (pick size from : ℕ) (text new synced : List ℕ) (marks : List Bool) → length text ≤ size → length marks ≡ length synced → from + length synced ≤ length text → length new ≡ length text → ((i : ℕ) → get_or marks i false ≡ true → get_or new (from + i) 0 ≡ picked_byte pick (from + i) (get_or synced i 0) (get_or text (from + i) 0)) → ((i : ℕ) → get_or marks i false ≡ false → get_or new (from + i) 0 ≡ get_or text (from + i) 0) → ((i : ℕ) → i < from → get_or new i 0 ≡ get_or text i 0) → Picked pick (padded size (patched from synced text)) (patched from marks (replicate size false)) (padded size text) (padded size new)
picked_whole pick size from text new synced marks bound one fits same marked unmarked below =
    let whole = length-replicate {A = Bool} size false in
    let p = patches 0 from synced text fits in
    let q = patches false from marks (replicate size false) (omega arith) in
    record {
      size = padded-length size new (omega arith) ∙ sym (padded-length size text bound);
      marked = λ i on. ⊎_elim
          (λ (lt : i < from). absurd (on_off (sym (q.below i lt ∙ no_mark size i) ∙ on)))
          (λ (le : from ≤ i). ⊎_elim
          (λ (lt : i < from + length marks).
          let at : from + (i - from) ≡ i = omega arith in
          let inner : get_or marks (i - from) false ≡ true = sym (q.inside i le lt) ∙ on in
          let left : get_or new i 0 ≡ picked_byte pick i (get_or synced (i - from) 0) (get_or text i 0) = subst (λ (k : ℕ). get_or new k 0 ≡ picked_byte pick k (get_or synced (i - from) 0) (get_or text k 0)) at (marked (i - from) inner) in
          let old : get_or (padded size (patched from synced text)) i 0 ≡ get_or synced (i - from) 0 = padded-byte size (patched from synced text) i ∙ p.inside i le (omega arith) in
          padded-byte size new i
          ∙ left
          ∙ ap (λ (b : ℕ). picked_byte pick i b (get_or text i 0)) (sym old)
          ∙ ap (λ (b : ℕ). picked_byte pick i (get_or (padded size (patched from synced text)) i 0) b) (sym (padded-byte size text i)))
          (λ (past : from + length marks ≤ i). absurd (on_off (sym (q.above i past ∙ no_mark size i) ∙ on)))
          (cases_lt i (from + length marks)))
          (cases_lt i from);
      unmarked = λ i off. padded-byte size new i ∙ ⊎_elim
          (λ (lt : i < from). below i lt)
          (λ (le : from ≤ i).
          let at : from + (i - from) ≡ i = omega arith in
          let inner : get_or marks (i - from) false ≡ false = ⊎_elim
          (λ (lt : i < from + length marks). sym (q.inside i le lt) ∙ off)
          (λ (past : from + length marks ≤ i). get_or_past marks (i - from) false (omega arith))
          (cases_lt i (from + length marks)) in
          subst (λ (k : ℕ). get_or new k 0 ≡ get_or text k 0) at (unmarked (i - from) inner))
          (cases_lt i from) ∙ sym (padded-byte size text i);
    }
