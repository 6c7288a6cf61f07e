-- A row that marks a block.
use Rattle.std.proofs.Common.{◌≡◌, ℕ, ◌+◌, ◌*◌, ◌/◌, ◌%◌, ◌^◌, ◌<◌, ◌≤◌, ◌⊎◌, true, false, sym, ap, ◌∙◌, arith, inl, inr, w64, refl}
use Rattle.std.specs.Prelude.{◌==◌, ◌&&◌}
use Rattle.std.specs.Int.Count.{count_trailing_zeros}
use Rattle.std.proofs.lemmas.Bool.{cases_order, eq-eqb}
use Rattle.std.proofs.lemmas.Nat.Bits.{bit_at-trailing_zeros}
use Rattle.rz_events.specs.declared.keys.Key.{Key}
use Rattle.rz_events.specs.Masks.{has_bit}
use Rattle.rz_blocks.specs.declared.row.Row.{Row}
use Rattle.rz_blocks.specs.Rows.{rank, rank_of, is_upto, is_marked_in, IsSmall}
use Rattle.rz_blocks.proofs.Order.{upto-lesser, upto-same, is-own}

-- a row of the list that does not stand below the row of `first` is of a later file, or of the same and not below
stands : (r : Row) (list : ℕ) (first : Key) → IsSmall r → first.fid < 2 ^ 128 → first.block < 2 ^ 64 → r.list ≡ list → rank_of list first ≤ rank r
    → (first.fid < r.fid) ⊎ ((first.fid ≡ r.fid) × (first.block / 64 ≤ r.index))
stands r list first small first_fid first_block own from =
    let high : r.index < 2 ^ 64 = omega (arith, small.index) in
    elim (cases_order first.fid r.fid) [
      | inl same ↦ inr (same, omega arith)
      | inr other ↦ elim other [
        | inl less ↦ inl less
        | inr more ↦ absurd (omega arith)
      ]
    ]

module _ (r : Row) (list : ℕ) (first : Key) (small : IsSmall r) (first_fid : first.fid < 2 ^ 128) (first_block : first.block < 2 ^ 64) (own : r.list ≡ list) (above : rank_of list first < rank r) (some : (r.word == 0) ≡ false) where
  abbrev place : ℕ
  place = count_trailing_zeros 64 r.word

  not_zero : r.word ≡ 0 → ⊥
  not_zero h = let never : true ≡ false = sym (eq-eqb r.word 0 h) ∙ some in cc

  bit : (place < 64) × (has_bit r.word place ≡ true)
  bit = let set = bit_at-trailing_zeros w64 r.word (omega (arith, not_zero)) small.word in (set.0, ap (λ n. n == 1) set.1)

  abbrev key : Key
  key = record { fid = r.fid; block = r.index * 64 + place }

  block_from : first.fid ≡ r.fid → first.block / 64 ≤ r.index → first.block ≤ r.index * 64 + place
  block_from same le = let less : first.block / 64 < r.index = omega arith in omega arith

  key-from : is_upto first key ≡ true
  key-from = elim (stands r list first small first_fid first_block own (omega arith)) [
    | inl less ↦ upto-lesser first key less
    | inr same ↦ upto-same first key same.0 (block_from same.0 same.1)
  ]

  key-marked : is_marked_in list key r ≡ true
  key-marked = ap (λ t. t && has_bit r.word ((r.index * 64 + place) % 64)) (is-own list key r own refl (omega (arith, bit.0)))
      ∙ ap (has_bit r.word) (omega (arith, bit.0)) ∙ bit.1

  -- such a row marks a block above `first`
  pub some-marked : (q : Key) × (is_upto first q ≡ true) × (is_marked_in list q r ≡ true)
  some-marked = (key, key-from, key-marked)
