-- What rows say of a block once room is made or a mark is set.
use Rattle.std.proofs.Common.{◌≡◌, ℕ, suc, ◌+◌, ◌/◌, ◌%◌, ◌^◌, ◌<◌, Bool, true, false, cond, List, ◌∷◌, ◌++◌, Option, Some, None, take, drop, sym, ap, ◌∙◌, subst, refl, arith, eqb-true}
use Rattle.std.specs.Prelude.{◌==◌, ◌&&◌, ◌||◌, is_some, MatchOption}
use Rattle.std.specs.List.{list_any}
use Rattle.std.specs.declared.cmp.Ordering.{Ordering}
use Rattle.std.specs.declared.cmp.Ordering.TheVariants.{Less, Equal, Greater}
use Rattle.std.specs.Ordering.{is_eq, nat_cmp, ordering_then}
use Rattle.std.proofs.lemmas.Bool.{eq-eqb}
use Rattle.std.proofs.lemmas.Bool.Decides.{nat_tests}
use Rattle.std.proofs.lemmas.Map.Lookups.{exact_unsigned}
use Rattle.rz_events.specs.Keys.{key_cmp, exact_keys}
use Rattle.rz_events.specs.declared.keys.Key.{Key}
use Rattle.rz_events.specs.Masks.{has_bit}
use Rattle.rz_blocks.specs.declared.row.Row.{Row}
use Rattle.rz_blocks.specs.Marks.{is_row_of, is_marked, has_room, is_same, is_beside}
use Rattle.rz_blocks.specs.Rows.{rank, rank_of, top, is_marked_in, IsSmall, IsRising, IsGap, IsThere}
use Rattle.rz_blocks.proofs.Bits.{no-bit}
use Rattle.rz_blocks.proofs.Lists.{any-cut, any-only, any-inserted, any-replaced}
use Rattle.rz_blocks.proofs.Order.{both, same-eq, own-list, own-fid, own-index, own-rank, is-own, same-list, same-fid, same-index}
use Rattle.rz_blocks.proofs.Rising.{front, middle, back, join, none-within}

-- ---- blocks of one row

-- the blocks of a row are those that stand beside one of it
pub own-beside : (list : ℕ) (key : Key) (r : Row) → r.list ≡ list → r.fid ≡ key.fid → r.index ≡ key.block / 64 → (l : ℕ) (q : Key) → is_row_of l q r ≡ is_beside list key l q
own-beside list key r same_list same_fid same_index l q =
    ap (λ n. ((n == l) && (r.fid == q.fid)) && (r.index == q.block / 64)) same_list
    ∙ ap (λ n. ((list == l) && (n == q.fid)) && (r.index == q.block / 64)) same_fid
    ∙ ap (λ n. ((list == l) && (key.fid == q.fid)) && (n == q.block / 64)) same_index
    ∙ ap (λ b. (b && (key.fid == q.fid)) && (key.block / 64 == q.block / 64)) (same-eq list l)
    ∙ ap (λ b. ((l == list) && b) && (key.block / 64 == q.block / 64)) (same-eq key.fid q.fid)
    ∙ ap (λ b. ((l == list) && (q.fid == key.fid)) && b) (same-eq (key.block / 64) (q.block / 64))

tied : (r : Ordering) → is_eq r ≡ true → r ≡ Equal
tied Less h = cc
tied Equal h = refl
tied Greater h = cc

same-cmp : (a b : ℕ) → a ≡ b → nat_cmp a b ≡ Equal
same-cmp a b h = grind (arith, nat_tests)

differ : (m n : ℕ) → (m ≡ n → ⊥) → is_eq (nat_cmp m n) ≡ false
differ m n h = elim (is_eq (nat_cmp m n)) as (λ t. is_eq (nat_cmp m n) ≡ t → t ≡ false) [ true ↦ λ is. absurd (h (exact_unsigned m n (tied _ is))) | false ↦ λ _. refl ] refl

-- in one row a place tells blocks apart
place-same : (a b : Key) → a.fid ≡ b.fid → a.block / 64 ≡ b.block / 64 → is_eq (key_cmp a b) ≡ (b.block % 64 == a.block % 64)
place-same a b files rows = ap (λ r. is_eq (ordering_then r (nat_cmp a.block b.block))) (same-cmp a.fid b.fid files) ∙ go (b.block % 64 == a.block % 64) refl
  where
    go : (t : Bool) → (b.block % 64 == a.block % 64) ≡ t → is_eq (nat_cmp a.block b.block) ≡ t
    go true same = let places : b.block % 64 ≡ a.block % 64 = eqb-true (b.block % 64) (a.block % 64) same in ap is_eq (same-cmp a.block b.block (omega arith))
    go false other = differ a.block b.block (λ same. let never : true ≡ false = sym (eq-eqb (b.block % 64) (a.block % 64) (ap (λ x. x % 64) (sym same))) ∙ other in cc)

same-beside : (list : ℕ) (key : Key) (l : ℕ) (q : Key) → is_same list key l q ≡ true → is_beside list key l q ≡ true
same-beside list key l q h =
    let keys : key ≡ q = exact_keys key q (tied _ (both _ _ h).1) in
    subst (λ (k : Key). is_beside list key l k ≡ true) keys (beside (both _ _ h).0)
  where
    beside : (l == list) ≡ true → is_beside list key l key ≡ true
    beside one = ap (λ b. (b && (key.fid == key.fid)) && (key.block / 64 == key.block / 64)) one
        ∙ ap (λ b. b && (key.block / 64 == key.block / 64)) (eq-eqb key.fid key.fid refl) ∙ eq-eqb (key.block / 64) (key.block / 64) refl

-- the row that stands where the bare row of a block does is the row of the block
pub row-own : (list : ℕ) (key : Key) (bare r : Row) → IsSmall bare → bare.list ≡ list → bare.fid ≡ key.fid → bare.index ≡ key.block / 64 → IsSmall r → rank r ≡ rank bare → is_row_of list key r ≡ true
row-own list key bare r bare_small same_list same_fid same_index small same =
    let low : r.index < 2 ^ 64 = omega (arith, small.index) in
    let high : bare.index < 2 ^ 64 = omega (arith, bare_small.index) in
    is-own list key r (same-list r bare small.fid bare_small.fid low high same ∙ same_list) (same-fid r bare small.fid bare_small.fid low high same ∙ same_fid) (same-index r bare small.fid bare_small.fid low high same ∙ same_index)

pub small-at : (rows : List Row) (at : ℕ) (r : Row) → IsRising 0 top rows → rows ≡ take at rows ++ r ∷ drop (suc at) rows → IsSmall r
small-at rows at r rising is = middle 0 top (take at rows) r (drop (suc at) rows) (subst (IsRising 0 top) is rising)

pub gap-of : (n : ℕ) (rows : List Row) (at : ℕ) (o : Option Row) → o ≡ None → MatchOption o (IsGap n rows at) (λ r. IsThere n rows at r) → IsGap n rows at
gap-of n rows at None h m = m
gap-of n rows at (Some x) h m = cc

pub gap-none : (n : ℕ) (rows : List Row) (at : ℕ) (o : Option Row) → is_some o ≡ false → MatchOption o (IsGap n rows at) (λ r. IsThere n rows at r) → IsGap n rows at
gap-none n rows at None h m = m
gap-none n rows at (Some x) h m = cc

pub there-of : (n : ℕ) (rows : List Row) (at : ℕ) (o : Option Row) (r : Row) → o ≡ Some r → MatchOption o (IsGap n rows at) (λ x. IsThere n rows at x) → IsThere n rows at r
there-of n rows at None r h m = cc
there-of n rows at (Some x) r h m = subst (IsThere n rows at) (same h) m
  where
    same : Some x ≡ Some r → x ≡ r
    same h = cc

-- ---- room that is made

module _ (rows new : List Row) (at : ℕ) (list : ℕ) (key : Key) where
  -- a row is put in
  module _ (r : Row) (into : new ≡ take at rows ++ r ∷ drop at rows) (same_list : r.list ≡ list) (same_fid : r.fid ≡ key.fid) (same_index : r.index ≡ key.block / 64) (empty : r.word ≡ 0) where
    pub made-marks : (l : ℕ) (q : Key) → is_marked new l q ≡ is_marked rows l q
    made-marks l q = ap (list_any (is_marked_in l q)) into ∙ any-inserted (is_marked_in l q) rows at r ∙ ap (λ b. is_marked rows l q || b) none ∙ or-false (is_marked rows l q)
      where
        and-false : (b : Bool) → (b && false) ≡ false
        and-false true = refl
        and-false false = refl

        or-false : (b : Bool) → (b || false) ≡ b
        or-false true = refl
        or-false false = refl

        none : is_marked_in l q r ≡ false
        none = ap (λ b. is_row_of l q r && b) (ap (λ n. has_bit n (q.block % 64)) empty ∙ no-bit (q.block % 64)) ∙ and-false (is_row_of l q r)

    pub made-room : (l : ℕ) (q : Key) → has_room new l q ≡ (has_room rows l q || is_beside list key l q)
    made-room l q = ap (list_any (is_row_of l q)) into ∙ any-inserted (is_row_of l q) rows at r ∙ ap (λ b. has_room rows l q || b) (own-beside list key r same_list same_fid same_index l q)

    pub made-rising : IsSmall r → IsGap (rank r) rows at → IsRising 0 top new
    made-rising small gap = subst (IsRising 0 top) (sym into) (join 0 (rank r) (rank r) top (take at rows) (r ∷ drop at rows) (omega arith) gap.0 (small, omega arith, gap.1))

-- ---- a mark that is set

module _ (rows : List Row) (at : ℕ) (list : ℕ) (key : Key) (rising : IsRising 0 top rows) where
  -- where the list has no room
  module _ (gap : IsGap (rank_of list key) rows at) where
    none-there : (p : Row → Bool) → ((r : Row) → p r ≡ true → rank r ≡ rank_of list key) → list_any p rows ≡ false
    none-there p own = any-cut p rows at
        ∙ ap (λ b. b || list_any p (drop at rows)) (none-within 0 (rank_of list key) p (take at rows) (λ r _ is _ below. let same : rank r ≡ rank_of list key = own r is in omega arith) gap.0)
        ∙ none-within (rank_of list key + 1) top p (drop at rows) (λ r _ is above _. let same : rank r ≡ rank_of list key = own r is in omega arith) gap.1

    no-room : has_room rows list key ≡ false
    no-room = none-there (is_row_of list key) (own-rank list key)

    pub unset : (marked : Bool) → (marked ≡ true → has_room rows list key ≡ true) → (l : ℕ) (q : Key) → is_marked rows l q ≡ cond (is_same list key l q) marked (is_marked rows l q)
    unset true room l q = let never : false ≡ true = sym no-room ∙ room refl in cc
    unset false room l q = go (is_same list key l q) refl
      where
        go : (b : Bool) → is_same list key l q ≡ b → is_marked rows l q ≡ cond b false (is_marked rows l q)
        go true same =
            let lists : l ≡ list = eqb-true l list (both _ _ same).0 in
            let keys : key ≡ q = exact_keys key q (tied _ (both _ _ same).1) in
            none-there (is_marked_in l q) (λ r is. own-rank l q r (both _ _ is).0 ∙ ap (λ n. rank_of n q) lists ∙ ap (rank_of list) (sym keys))
        go false other = refl

  -- where its row is found
  module _ (r s : Row) (is : rows ≡ take at rows ++ r ∷ drop (suc at) rows) (own_row : is_row_of list key r ≡ true)
      (same_list : s.list ≡ r.list) (same_fid : s.fid ≡ r.fid) (same_index : s.index ≡ r.index) where
    own_list : r.list ≡ list
    own_list = own-list list key r own_row

    own_fid : r.fid ≡ key.fid
    own_fid = own-fid list key r own_row

    own_index : r.index ≡ key.block / 64
    own_index = own-index list key r own_row

    parts : IsRising 0 top (take at rows ++ r ∷ drop (suc at) rows)
    parts = subst (IsRising 0 top) is rising

    same-own : (l : ℕ) (q : Key) → is_row_of l q s ≡ is_row_of l q r
    same-own l q = ap (λ n. ((n == l) && (s.fid == q.fid)) && (s.index == q.block / 64)) same_list
        ∙ ap (λ n. ((r.list == l) && (n == q.fid)) && (s.index == q.block / 64)) same_fid
        ∙ ap (λ n. ((r.list == l) && (r.fid == q.fid)) && (n == q.block / 64)) same_index

    same_rank : rank s ≡ rank r
    same_rank = omega (arith, same_list, same_fid, same_index)

    -- the others say nothing of the blocks of this row
    only-this : (x : Row) → (l : ℕ) (q : Key) → is_row_of l q r ≡ true → list_any (is_marked_in l q) (take at rows ++ x ∷ drop (suc at) rows) ≡ is_marked_in l q x
    only-this x l q own = any-only (is_marked_in l q) (take at rows) x (drop (suc at) rows)
        (none-within 0 (rank r) (is_marked_in l q) (take at rows) (λ y _ p _ below. let same : rank y ≡ rank r = own-rank l q y (both _ _ p).0 ∙ sym (own-rank l q r own) in omega arith) (front 0 top (take at rows) r (drop (suc at) rows) parts))
        (none-within (rank r + 1) top (is_marked_in l q) (drop (suc at) rows) (λ y _ p above _. let same : rank y ≡ rank r = own-rank l q y (both _ _ p).0 ∙ sym (own-rank l q r own) in omega arith) (back 0 top (take at rows) r (drop (suc at) rows) parts))

    module _ (marked : Bool) (bits : (b : ℕ) → b < 64 → has_bit s.word b ≡ cond (b == key.block % 64) marked (has_bit r.word b)) where
      -- what the row with the mark says
      says : (l : ℕ) (q : Key) → is_row_of l q r ≡ true → is_marked_in l q s ≡ cond (is_same list key l q) marked (is_marked_in l q r)
      says l q own =
          let beside : is_beside list key l q ≡ true = sym (own-beside list key r own_list own_fid own_index l q) ∙ own in
          let files : key.fid ≡ q.fid = sym (eqb-true q.fid key.fid (both _ _ (both _ _ beside).0).1) in
          let blocks : key.block / 64 ≡ q.block / 64 = sym (eqb-true (q.block / 64) (key.block / 64) (both _ _ beside).1) in
          let lists : (l == list) ≡ true = (both _ _ (both _ _ beside).0).0 in
          let place : (q.block % 64 == key.block % 64) ≡ is_same list key l q = sym (place-same key q files blocks) ∙ ap (λ b. b && is_eq (key_cmp key q)) (sym lists) in
          ap (λ b. b && has_bit s.word (q.block % 64)) (same-own l q ∙ own) ∙ bits (q.block % 64) (omega arith)
          ∙ ap (λ b. cond b marked (has_bit r.word (q.block % 64))) place
          ∙ ap (λ b. cond (is_same list key l q) marked (b && has_bit r.word (q.block % 64))) (sym own)

      pub set-marks : (new : List Row) → new ≡ take at rows ++ s ∷ drop (suc at) rows → (l : ℕ) (q : Key) → is_marked new l q ≡ cond (is_same list key l q) marked (is_marked rows l q)
      set-marks new into l q = ap (list_any (is_marked_in l q)) into ∙ go (is_row_of l q r) refl ∙ ap (λ xs. cond (is_same list key l q) marked (list_any (is_marked_in l q) xs)) (sym is)
        where
          go : (t : Bool) → is_row_of l q r ≡ t → list_any (is_marked_in l q) (take at rows ++ s ∷ drop (suc at) rows) ≡ cond (is_same list key l q) marked (list_any (is_marked_in l q) (take at rows ++ r ∷ drop (suc at) rows))
          go true own = only-this s l q own ∙ says l q own ∙ ap (cond (is_same list key l q) marked) (sym (only-this r l q own))
          go false other =
              any-replaced (is_marked_in l q) (take at rows) s r (drop (suc at) rows)
              (ap (λ b. b && has_bit s.word (q.block % 64)) (same-own l q ∙ other) ∙ ap (λ b. b && has_bit r.word (q.block % 64)) (sym other))
              ∙ ap (λ b. cond b marked (list_any (is_marked_in l q) (take at rows ++ r ∷ drop (suc at) rows))) (sym not_same)
            where
              not_same : is_same list key l q ≡ false
              not_same = apart (is_same list key l q) refl
                where
                  apart : (b : Bool) → is_same list key l q ≡ b → is_same list key l q ≡ false
                  apart true same = let never : true ≡ false = sym (same-beside list key l q same) ∙ sym (own-beside list key r own_list own_fid own_index l q) ∙ other in cc
                  apart false other_block = other_block

      -- where the mark is as wanted already
      pub kept-marks : s.word ≡ r.word → (l : ℕ) (q : Key) → is_marked rows l q ≡ cond (is_same list key l q) marked (is_marked rows l q)
      kept-marks same l q =
          ap (list_any (is_marked_in l q)) is
          ∙ any-replaced (is_marked_in l q) (take at rows) r s (drop (suc at) rows)
          (ap (λ b. b && has_bit r.word (q.block % 64)) (sym (same-own l q)) ∙ ap (λ n. is_row_of l q s && has_bit n (q.block % 64)) (sym same))
          ∙ set-marks (take at rows ++ s ∷ drop (suc at) rows) refl l q

    -- the room stays
    pub set-room : (new : List Row) → new ≡ take at rows ++ s ∷ drop (suc at) rows → (l : ℕ) (q : Key) → has_room new l q ≡ has_room rows l q
    set-room new into l q =
        ap (list_any (is_row_of l q)) into ∙ any-replaced (is_row_of l q) (take at rows) s r (drop (suc at) rows) (same-own l q) ∙ sym (ap (list_any (is_row_of l q)) is)

    pub set-rising : (new : List Row) → new ≡ take at rows ++ s ∷ drop (suc at) rows → s.word < 2 ^ 64 → IsRising 0 top new
    set-rising new into fits =
        let small : IsSmall r = middle 0 top (take at rows) r (drop (suc at) rows) parts in
        let small_new : IsSmall s = record { list = omega (arith, small.list); fid = omega (arith, small.fid); index = omega (arith, small.index); word = fits } in
        subst (IsRising 0 top) (sym into) (join 0 (rank r) (rank r) top (take at rows) (s ∷ drop (suc at) rows) (omega arith) (front 0 top (take at rows) r (drop (suc at) rows) parts)
        (small_new, omega (arith, same_rank), subst (λ n. IsRising (n + 1) top (drop (suc at) rows)) (sym same_rank) (back 0 top (take at rows) r (drop (suc at) rows) parts)))
