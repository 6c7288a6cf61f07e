-- The first marked block of all rows.
use Rattle.std.proofs.Common.{◌≡◌, ℕ, suc, ◌+◌, ◌-◌, ◌/◌, ◌%◌, ◌^◌, ◌<◌, ◌≤◌, Bool, true, false, not, List, [], ◌∷◌, ◌++◌, Option, Some, None, take, drop, sym, ap, ◌∙◌, subst, refl, arith, eqb-true}
use Rattle.std.specs.Prelude.{◌==◌, ◌&&◌, ◌||◌, MatchOption}
use Rattle.std.specs.List.{list_any, slice_get}
use Rattle.std.specs.Option.{option_map}
use Rattle.std.specs.Ordering.{is_lt}
use Rattle.rz_events.specs.Keys.{key_cmp}
use Rattle.rz_events.specs.declared.keys.Key.{Key}
use Rattle.rz_export_model.specs.Export.{is_after}
use Rattle.rz_events.specs.Masks.{has_bit}
use Rattle.rz_blocks.specs.declared.row.Row.{Row}
use Rattle.rz_blocks.specs.Marks.{is_row_of, is_marked}
use Rattle.rz_blocks.specs.Rows.{rank, rank_of, top, rows_before, is_upto, is_marked_in, IsSmall, IsRising}
use Rattle.rz_blocks.proofs.Bits.{no-bit}
use Rattle.rz_blocks.proofs.Lists.{any-cut, any-behind, around, item-behind, match-then}
use Rattle.rz_blocks.proofs.Order.{both, rank-upto, rank-lt, own-list, own-fid, own-index, own-rank}
use Rattle.rz_blocks.proofs.Rising.{spans, cut, front, middle, back, none-within, some-small}
use Rattle.rz_blocks.proofs.MarkedRows.{some-marked}

-- the test of a row of the tree
abbrev pub has_mark : Row → Bool
has_mark r = not (r.word == 0)

-- rows with no marks mark no block
pub no-marks : (list : ℕ) (q : Key) (rows : List Row) → list_any has_mark rows ≡ false → list_any (is_marked_in list q) rows ≡ false
no-marks list q [] h = refl
no-marks list q (r ∷ rows) h = go (r.word == 0) refl (no-marks list q rows)
  where
    and-false : (b : Bool) → (b && false) ≡ false
    and-false true = refl
    and-false false = refl

    go : (t : Bool) → (r.word == 0) ≡ t → (list_any has_mark rows ≡ false → list_any (is_marked_in list q) rows ≡ false) → list_any (is_marked_in list q) (r ∷ rows) ≡ false
    go true zero_word more =
        let none : is_marked_in list q r ≡ false = ap (λ b. is_row_of list q r && b) (ap (λ n. has_bit n (q.block % 64)) (eqb-true r.word 0 zero_word) ∙ no-bit (q.block % 64)) ∙ and-false (is_row_of list q r) in
        ap (λ b. b || list_any (is_marked_in list q) rows) none ∙ more (sym (ap (λ b. not b || list_any has_mark rows) zero_word) ∙ h)
    go false some more = let never : true ≡ false = sym (ap (λ b. not b || list_any has_mark rows) some) ∙ h in cc

-- what the next marked block is
abbrev pub IsNext : List Row → ℕ → Option Key → Option Key → Type 0
IsNext rows list after result = MatchOption result
    ((q : Key) → is_after after q ≡ true → is_marked rows list q ≡ false)
    (λ k. (is_after after k ≡ true) × (is_marked rows list k ≡ true) × ((q : Key) → is_after after q ≡ true → is_lt (key_cmp q k) ≡ true → is_marked rows list q ≡ false))

-- what the first marked block of some rows is, where `first` is the first possible one
abbrev pub IsFirst : List Row → ℕ → Key → Option Key → Type 0
IsFirst rows list first result = MatchOption result
    ((q : Key) → is_upto first q ≡ true → q.block < 2 ^ 64 → list_any (is_marked_in list q) rows ≡ false)
    (λ k. (is_upto first k ≡ true) × (list_any (is_marked_in list k) rows ≡ true) × ((q : Key) → is_upto first q ≡ true → q.block < 2 ^ 64 → is_lt (key_cmp q k) ≡ true → list_any (is_marked_in list q) rows ≡ false))

-- what one row says of the first marked block
abbrev pub IsFirstOf : Row → ℕ → Key → Option Key → Type 0
IsFirstOf r list first result = MatchOption result
    ((q : Key) → is_upto first q ≡ true → is_marked_in list q r ≡ false)
    (λ k. (is_upto first k ≡ true) × (is_marked_in list k r ≡ true) × ((q : Key) → is_upto first q ≡ true → is_lt (key_cmp q k) ≡ true → is_marked_in list q r ≡ false))

-- the place where the first possible block's row is or would be
pub record IsSearch (rows : List Row) (list : ℕ) (after : Option Key) (first : Key) (at : ℕ) : Type 0 where
  pub rising : IsRising 0 top rows
  pub number : list < 2 ^ 16
  pub fid : first.fid < 2 ^ 128
  pub block : first.block < 2 ^ 64
  pub starts : (q : Key) → q.block < 2 ^ 64 → is_after after q ≡ is_upto first q
  pub count : at ≡ rows_before (rank_of list first) rows

pub searched : (rows : List Row) (list : ℕ) (after : Option Key) (first : Key) (at : ℕ) (bare : Row) → IsRising 0 top rows → list < 2 ^ 16 → rank bare ≡ rank_of list first → IsSmall bare
    → bare.fid ≡ first.fid → bare.index ≡ first.block / 64 → ((q : Key) → q.block < 2 ^ 64 → is_after after q ≡ is_upto first q) → at ≡ rows_before (rank bare) rows → IsSearch rows list after first at
searched rows list after first at bare rising number same small fid index starts count = record {
  rising = rising;
  number = number;
  fid = omega (arith, small.fid);
  block = omega (arith, small.index);
  starts = starts;
  count = count ∙ ap (λ n. rows_before n rows) same;
}

-- ---- blocks that are marked

module _ (rows : List Row) (rising : IsRising 0 top rows) (list : ℕ) where
  marked-fid : (q : Key) → is_marked rows list q ≡ true → q.fid < 2 ^ 128
  marked-fid q h = some-small 0 top (is_marked_in list q) (q.fid < 2 ^ 128) rows (λ r small is. let own : r.fid ≡ q.fid = own-fid list q r (both _ _ is).0 in omega (arith, small.fid)) rising h

  marked-block : (q : Key) → is_marked rows list q ≡ true → q.block < 2 ^ 64
  marked-block q h = some-small 0 top (is_marked_in list q) (q.block < 2 ^ 64) rows (λ r small is. let own : r.index ≡ q.block / 64 = own-index list q r (both _ _ is).0 in omega (arith, small.index)) rising h

  only-small : (q : Key) → (q.fid < 2 ^ 128 → q.block < 2 ^ 64 → is_marked rows list q ≡ false) → is_marked rows list q ≡ false
  only-small q h = go (is_marked rows list q) refl
    where
      go : (b : Bool) → is_marked rows list q ≡ b → is_marked rows list q ≡ false
      go true is = h (marked-fid q is) (marked-block q is)
      go false is = is

  -- no block is above `after`
  pub nothing-above : (after : Option Key) → ((q : Key) → q.fid < 2 ^ 128 → q.block < 2 ^ 64 → is_after after q ≡ false) → IsNext rows list after None
  nothing-above after none = λ q above. only-small q (λ fid block. let never : true ≡ false = sym above ∙ none q fid block in cc)

module _ (rows : List Row) (list : ℕ) (after : Option Key) (first : Key) (at : ℕ) (search : IsSearch rows list after first at) where
  abbrev n : ℕ
  n = rank_of list first

  fid : first.fid < 2 ^ 128
  fid = search.fid

  block : first.block < 2 ^ 64
  block = search.block

  starts : (q : Key) → q.block < 2 ^ 64 → is_after after q ≡ is_upto first q
  starts = search.starts

  n_fits : n ≤ top
  n_fits = omega (arith, search.number, search.fid, search.block)

  cuts : IsRising 0 n (take at rows) × IsRising n top (drop at rows)
  cuts = subst (λ k. IsRising 0 n (take k rows) × IsRising n top (drop k rows)) (sym search.count) (cut 0 top n rows (omega arith) n_fits search.rising)

  -- the rows before the place say nothing
  from-place : (q : Key) → is_upto first q ≡ true → is_marked rows list q ≡ list_any (is_marked_in list q) (drop at rows)
  from-place q above = any-cut (is_marked_in list q) rows at ∙ ap (λ b. b || list_any (is_marked_in list q) (drop at rows))
      (none-within 0 n (is_marked_in list q) (take at rows)
      (λ r _ is _ below. let own : rank r ≡ rank_of list q = own-rank list q r (both _ _ is).0 in let low : rank_of list first ≤ rank_of list q = rank-upto first q list block above in omega arith) cuts.0)

  pub next-is : (result : Option Key) → IsFirst (drop at rows) list first result → IsNext rows list after result
  next-is result h = match-then result h
      (λ none q above. only-small rows search.rising list q (λ _ small. let from : is_upto first q ≡ true = sym (starts q small) ∙ above in from-place q from ∙ none q from small))
      (λ k some.
      let marked : is_marked rows list k ≡ true = from-place k some.0 ∙ some.1 in (
        starts k (marked-block rows search.rising list k marked) ∙ some.0,
        marked,
        λ q above below. only-small rows search.rising list q (λ _ small. let from : is_upto first q ≡ true = sym (starts q small) ∙ above in from-place q from ∙ some.2 q from small below),
      ))

  -- no row is left
  pub at-end : drop at rows ≡ [] → IsNext rows list after None
  at-end none = next-is None (λ q _ _. ap (list_any (is_marked_in list q)) none)

  -- ---- the row at the place, and those behind it

  module _ (r : Row) (is : drop at rows ≡ r ∷ drop (suc at) rows) where
    parts : IsRising n top (r ∷ drop (suc at) rows)
    parts = subst (IsRising n top) is cuts.1

    pub r_small : IsSmall r
    r_small = parts.0

    pub r_from : rank_of list first ≤ rank r
    r_from = omega (arith, parts.1)

    next_place : at + 1 ≡ suc at
    next_place = omega arith

    as-first : (result : Option Key) → IsFirst (r ∷ drop (suc at) rows) list first result → IsNext rows list after result
    as-first result h = next-is result (subst (λ xs. IsFirst xs list first result) (sym is) h)

    -- rows behind one that marks a block say nothing of those below it
    behind : (s : Row) (xs : List Row) → IsRising (rank s + 1) top xs → (k q : Key) → is_row_of list k s ≡ true → q.block < 2 ^ 64 → is_lt (key_cmp q k) ≡ true → list_any (is_marked_in list q) xs ≡ false
    behind s xs up k q own small below = none-within (rank s + 1) top (is_marked_in list q) xs
        (λ y _ p above _.
        let at_q : rank y ≡ rank_of list q = own-rank list q y (both _ _ p).0 in
        let at_k : rank s ≡ rank_of list k = own-rank list k s own in
        let le : rank_of list q ≤ rank_of list k = rank-lt q k list small below in omega arith) up

    pub in-first : (k : Key) → IsFirstOf r list first (Some k) → IsNext rows list after (Some k)
    in-first k h = as-first (Some k) (
      h.0,
      ap (λ b. b || list_any (is_marked_in list k) (drop (suc at) rows)) h.1,
      λ q from small below. ap (λ b. b || list_any (is_marked_in list q) (drop (suc at) rows)) (h.2 q from below) ∙ behind r (drop (suc at) rows) parts.2 k q (both _ _ h.1).0 small below,
    )

    module _ (none : IsFirstOf r list first None) where
      past-first : (q : Key) → is_upto first q ≡ true → list_any (is_marked_in list q) (r ∷ drop (suc at) rows) ≡ list_any (is_marked_in list q) (drop (suc at) rows)
      past-first q from = ap (λ b. b || list_any (is_marked_in list q) (drop (suc at) rows)) (none q from)

      pub none-later : list_any has_mark (drop (at + 1) rows) ≡ false → IsNext rows list after None
      none-later unmarked = let h : list_any has_mark (drop (suc at) rows) ≡ false = subst (λ k. list_any has_mark (drop k rows) ≡ false) next_place unmarked in as-first None (λ q from _. past-first q from ∙ no-marks list q (drop (suc at) rows) h)

      module _ (i : ℕ) (s : Row) (place : at + 1 ≤ i) (item_is : slice_get rows i ≡ Some s) (marked_is : option_map has_mark (slice_get rows i) ≡ Some true) (unmarked : list_any has_mark (take (i - (at + 1)) (drop (at + 1) rows)) ≡ false) where
        abbrev j : ℕ
        j = i - (at + 1)

        item : slice_get (drop (suc at) rows) j ≡ Some s
        item = item-behind rows (suc at) j ∙ ap (slice_get rows) (omega arith) ∙ item_is

        between : list_any has_mark (take j (drop (suc at) rows)) ≡ false
        between = subst (λ k. list_any has_mark (take j (drop k rows)) ≡ false) next_place unmarked

        marked : (s.word == 0) ≡ false
        marked = some-true (s.word == 0) (sym (ap (option_map has_mark) item_is) ∙ marked_is)
          where
            some-true : (b : Bool) → Some (not b) ≡ Some true → b ≡ false
            some-true true h = cc
            some-true false h = refl

        split : drop (suc at) rows ≡ take j (drop (suc at) rows) ++ s ∷ drop (suc j) (drop (suc at) rows)
        split = around (drop (suc at) rows) j s item

        later : IsRising (rank r + 1) top (take j (drop (suc at) rows) ++ s ∷ drop (suc j) (drop (suc at) rows))
        later = subst (IsRising (rank r + 1) top) split parts.2

        pub s_small : IsSmall s
        s_small = middle (rank r + 1) top (take j (drop (suc at) rows)) s (drop (suc j) (drop (suc at) rows)) later

        ahead : IsRising (rank r + 1) (rank s) (take j (drop (suc at) rows))
        ahead = front (rank r + 1) top (take j (drop (suc at) rows)) s (drop (suc j) (drop (suc at) rows)) later

        last : IsRising (rank s + 1) top (drop (suc j) (drop (suc at) rows))
        last = back (rank r + 1) top (take j (drop (suc at) rows)) s (drop (suc j) (drop (suc at) rows)) later

        s_above : rank_of list first < rank s
        s_above = omega (arith, parts.1, spans (rank r + 1) (rank s) (take j (drop (suc at) rows)) ahead)

        pub s_from : rank_of list first ≤ rank s
        s_from = omega (arith, s_above)

        -- only the row that is found and those behind it can tell
        tells : (q : Key) → is_upto first q ≡ true → list_any (is_marked_in list q) (r ∷ drop (suc at) rows) ≡ (is_marked_in list q s || list_any (is_marked_in list q) (drop (suc j) (drop (suc at) rows)))
        tells q from = past-first q from ∙ ap (list_any (is_marked_in list q)) split
            ∙ any-behind (is_marked_in list q) (take j (drop (suc at) rows)) (s ∷ drop (suc j) (drop (suc at) rows)) (no-marks list q (take j (drop (suc at) rows)) between)

        -- a row of this list would have marked a block
        not-own : IsFirstOf s list first None → s.list ≡ list → ⊥
        not-own h own =
            let some = some-marked s list first s_small fid block own s_above marked in
            let never : true ≡ false = sym some.2 ∙ h some.0 some.1 in cc

        none-behind : IsFirstOf s list first None → (q : Key) → list_any (is_marked_in list q) (drop (suc j) (drop (suc at) rows)) ≡ false
        none-behind h q = none-within (rank s + 1) top (is_marked_in list q) (drop (suc j) (drop (suc at) rows))
            (λ y small p above _. let own : y.list ≡ list = own-list list q y (both _ _ p).0 in not-own h (omega (arith, s_above, small.fid, small.index, s_small.fid, s_small.index))) last

        pub in-later : (result : Option Key) → IsFirstOf s list first result → IsNext rows list after result
        in-later None h = as-first None (λ q from _. tells q from ∙ ap (λ t. t || list_any (is_marked_in list q) (drop (suc j) (drop (suc at) rows))) (h q from) ∙ none-behind h q)
        in-later (Some k) h = as-first (Some k) (
          h.0,
          tells k h.0 ∙ ap (λ t. t || list_any (is_marked_in list k) (drop (suc j) (drop (suc at) rows))) h.1,
          λ q from small below. tells q from ∙ ap (λ t. t || list_any (is_marked_in list q) (drop (suc j) (drop (suc at) rows))) (h.2 q from below)
              ∙ behind s (drop (suc j) (drop (suc at) rows)) last k q (both _ _ h.1).0 small below,
        )
