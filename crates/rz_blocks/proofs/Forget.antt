-- What rows say once those of a file go.
use Rattle.std.proofs.Common.{◌≡◌, ℕ, ◌+◌, ◌-◌, ◌*◌, ◌^◌, ◌<◌, ◌≤◌, Bool, true, false, not, List, ◌++◌, length, take, drop, sym, ap, ◌∙◌, subst, refl, arith, eqb-true, length-drop}
use Rattle.std.specs.Prelude.{◌==◌, ◌&&◌, ◌||◌}
use Rattle.std.specs.List.{list_any}
use Rattle.std.proofs.lemmas.Bool.{eq-eqb}
use Rattle.std.proofs.lemmas.List.{length-take-le, take-append-drop}
use Rattle.rz_events.specs.declared.keys.Key.{Key}
use Rattle.rz_blocks.specs.declared.row.Row.{Row}
use Rattle.rz_blocks.specs.Marks.{is_row_of, is_marked, has_room}
use Rattle.rz_blocks.specs.Rows.{top, rows_before, is_marked_in, IsRising}
use Rattle.rz_blocks.proofs.Lists.{any-cut, any-behind}
use Rattle.rz_blocks.proofs.Order.{both, own-list, own-fid}
use Rattle.rz_blocks.proofs.Rising.{cut, join, count-le, count-append, all-before, none-within}
use Rattle.std.proofs.lemmas.List.Folds.{list_any-append}

module _ (rows : List Row) (rising : IsRising 0 top rows) (list fid : ℕ) (list_fits : list < 2 ^ 16) (fid_fits : fid < 2 ^ 128) (low high from end : ℕ)
    (low_is : low ≡ list * 2 ^ 192 + fid * 2 ^ 64) (high_is : high ≡ list * 2 ^ 192 + fid * 2 ^ 64 + (2 ^ 64 - 1))
    (from_is : from ≡ rows_before low rows) (end_is : end ≡ rows_before high rows) where
  low_cut : IsRising 0 low (take from rows) × IsRising low top (drop from rows)
  low_cut = subst (λ k. IsRising 0 low (take k rows) × IsRising low top (drop k rows)) (sym from_is) (cut 0 top low rows (omega arith) (omega arith) rising)

  pub from_fits : from ≤ length rows
  from_fits = omega (arith, count-le low rows)

  -- how many rows go
  gone_is : end ≡ from + rows_before high (drop from rows)
  gone_is =
      let all : rows_before high (take from rows) ≡ length (take from rows) = all-before 0 low high (take from rows) (omega arith) low_cut.0 in
      let parts : rows_before high (take from rows ++ drop from rows) ≡ rows_before high (take from rows) + rows_before high (drop from rows) = count-append high (take from rows) (drop from rows) in
      let len : length (take from rows) ≡ from = length-take-le from rows from_fits in
      let whole : rows_before high rows ≡ rows_before high (take from rows ++ drop from rows) = ap (rows_before high) (sym (take-append-drop from rows)) in
      omega arith

  pub from-end : from ≤ end
  from-end = omega (arith, gone_is)

  pub gone-fits : end - from ≤ length (drop from rows)
  gone-fits = omega (arith, gone_is, count-le high (drop from rows))

  high_cut : IsRising low high (take (end - from) (drop from rows)) × IsRising high top (drop (end - from) (drop from rows))
  high_cut =
      let count : rows_before high (drop from rows) ≡ end - from = omega (arith, gone_is) in
      subst (λ k. IsRising low high (take k (drop from rows)) × IsRising high top (drop k (drop from rows))) count (cut low top high (drop from rows) (omega arith) (omega arith) low_cut.1)

  pub left-fits : length rows < 2 ^ 64 → length (take from rows) + length (drop (end - from) (drop from rows)) < 2 ^ 64
  left-fits h =
      let front : length (take from rows) ≡ from = length-take-le from rows from_fits in
      let last : length (drop (end - from) (drop from rows)) ≡ length (drop from rows) - (end - from) = length-drop (end - from) (drop from rows) in
      let rest : length (drop from rows) ≡ length rows - from = length-drop from rows in
      let low : from ≤ length rows = from_fits in omega arith

  module _ (new : List Row) (new_is : new ≡ take from rows ++ drop (end - from) (drop from rows)) where
    pub left-rising : IsRising 0 top new
    left-rising = subst (IsRising 0 top) (sym new_is) (join 0 low high top (take from rows) (drop (end - from) (drop from rows)) (omega arith) low_cut.0 high_cut.1)

    -- a test that only rows of a file and a list pass
    module _ (l : ℕ) (q : Key) (p : Row → Bool) (own : (r : Row) → p r ≡ true → is_row_of l q r ≡ true) where
      -- where it is the file and the list that go
      none-left : (l == list) ≡ true → (q.fid == fid) ≡ true → list_any p (take from rows ++ drop (end - from) (drop from rows)) ≡ false
      none-left one_list one_fid =
          let lists : l ≡ list = eqb-true l list one_list in
          let fids : q.fid ≡ fid = eqb-true q.fid fid one_fid in
          any-behind p (take from rows) (drop (end - from) (drop from rows))
          (none-within 0 low p (take from rows) (λ r small is _ below. let a : r.list ≡ l = own-list l q r (own r is) in let b : r.fid ≡ q.fid = own-fid l q r (own r is) in omega (arith, small.index)) low_cut.0)
          ∙ none-within high top p (drop (end - from) (drop from rows)) (λ r small is above _. let a : r.list ≡ l = own-list l q r (own r is) in let b : r.fid ≡ q.fid = own-fid l q r (own r is) in omega (arith, small.index)) high_cut.1

      -- where it is another
      all-left : ((l == list) && (q.fid == fid)) ≡ false → list_any p (take from rows ++ drop (end - from) (drop from rows)) ≡ list_any p rows
      all-left other =
          list_any-append p (take from rows) (drop (end - from) (drop from rows))
          ∙ ap (λ b. list_any p (take from rows) || (b || list_any p (drop (end - from) (drop from rows)))) (sym none)
          ∙ ap (λ b. list_any p (take from rows) || b) (sym (any-cut p (drop from rows) (end - from)))
          ∙ sym (any-cut p rows from)
        where
          none : list_any p (take (end - from) (drop from rows)) ≡ false
          none = none-within low high p (take (end - from) (drop from rows)) (λ r small is above below.
              let a : r.list ≡ l = own-list l q r (own r is) in
              let b : r.fid ≡ q.fid = own-fid l q r (own r is) in
              let same_list : r.list ≡ list = omega (arith, small.fid, small.index) in
              let same_fid : r.fid ≡ fid = omega (arith, small.index) in
              let never : true ≡ false = sym (ap (λ t. t && (q.fid == fid)) (eq-eqb l list (sym a ∙ same_list)) ∙ eq-eqb q.fid fid (sym b ∙ same_fid)) ∙ other in cc) high_cut.0

      left-any : list_any p new ≡ (not ((l == list) && (q.fid == fid)) && list_any p rows)
      left-any = ap (list_any p) new_is ∙ go (l == list) refl (q.fid == fid) refl
        where
          go : (t : Bool) → (l == list) ≡ t → (u : Bool) → (q.fid == fid) ≡ u → list_any p (take from rows ++ drop (end - from) (drop from rows)) ≡ (not (t && u) && list_any p rows)
          go true a true b = none-left a b
          go true a false b = all-left (ap (λ t. t && (q.fid == fid)) a ∙ b)
          go false a u b = all-left (ap (λ t. t && (q.fid == fid)) a)

    pub left-marks : (l : ℕ) (q : Key) → is_marked new l q ≡ (not ((l == list) && (q.fid == fid)) && is_marked rows l q)
    left-marks l q = left-any l q (is_marked_in l q) (λ r is. (both _ _ is).0)

    pub left-room : (l : ℕ) (q : Key) → has_room new l q ≡ (not ((l == list) && (q.fid == fid)) && has_room rows l q)
    left-room l q = left-any l q (is_row_of l q) (λ r is. is)
