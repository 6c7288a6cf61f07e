-- The slots of an old disk, with a base.
use Rattle.std.proofs.Common.{◌≡◌, ℕ, ◌+◌, ◌*◌, ◌%◌, ◌<◌, ◌≤◌, List, ◌++◌, length, take, drop, replicate, get_or, sym, ◌∙◌, ap, arith, length-append, length-drop}
use Rattle.std.proofs.lemmas.List.{append_assoc, drop_at, length-take-le, length-replicate, take_at, take-take}
use Rattle.rz_disk.specs.Images.{window}
use Rattle.rz_disk.proofs.Images.{window-length, window-byte}
use Rattle.rz_cells_slots.specs.declared.geometry.Geometry.{Geometry}
use Rattle.rz_cells_slots.specs.Shape.{gate_at, slot_of}
use Rattle.rz_cells_slots.specs.Old.{old_disk_bytes, old_picked, old_slot, old_slot_at, old_slot_of, with_base}
use Rattle.rz_cells_slots.specs.OldOpening.{OldKnows}
use Rattle.rz_cells_slots.proofs.Lifts.{slot_long}
use Rattle.rz_cells_slots.proofs.Slots.{steps_apart}

module _ (slot : List ℕ) (long : 40 ≤ length slot) where
  head_long : length (take 40 slot ++ replicate 8 0) ≡ 48
  head_long = omega (arith, length-append (take 40 slot) (replicate 8 0), length-take-le 40 slot long, length-replicate {A = ℕ} 8 0)

  apart : with_base slot ≡ (take 40 slot ++ replicate 8 0) ++ drop 40 slot
  unfolding with_base
  apart = sym (append_assoc (take 40 slot) (replicate 8 0) (drop 40 slot))

  pub based_front : take 48 (with_base slot) ≡ take 40 slot ++ replicate 8 0
  based_front = ap (take 48) apart ∙ take_at (take 40 slot ++ replicate 8 0) (drop 40 slot) 48 head_long

  pub based_behind : drop 48 (with_base slot) ≡ drop 40 slot
  based_behind = ap (drop 48) apart ∙ drop_at (take 40 slot ++ replicate 8 0) (drop 40 slot) 48 head_long

  pub based_long : length (with_base slot) ≡ length slot + 8
  based_long = ap length apart ∙ omega (arith, length-append (take 40 slot ++ replicate 8 0) (drop 40 slot), head_long, length-drop 40 slot)

pub old_slot_within : (g : Geometry) (c i : ℕ) → c < g.cells → i < 2 → old_slot_at g c i + old_slot_of g ≤ old_disk_bytes g
old_slot_within g c i lt small = omega (arith, steps_apart (old_slot_of g) (2 * c + i) (2 * g.cells) (omega arith))

module _ (g : Geometry) (text : List ℕ) (size : length text ≡ old_disk_bytes g) (cell : ℕ) (in_range : cell < g.cells) where
  pub old_picked_is : (gate : ℕ) → gate % 2 ≡ get_or text (gate_at cell) 0 % 2 → old_picked g text cell ≡ window (old_slot_at g cell (gate % 2)) (old_slot_of g) text
  old_picked_is gate known = ap (λ (j : ℕ). window (old_slot_at g cell j) (old_slot_of g) text) (sym known)

  pub old_picked_long : length (old_picked g text cell) ≡ old_slot_of g
  old_picked_long = window-length (old_slot_at g cell (get_or text (gate_at cell) 0 % 2)) (old_slot_of g) text (omega (arith, size, old_slot_within g cell (get_or text (gate_at cell) 0 % 2) in_range (omega arith)))

  pub old_slot_long : length (old_slot g text cell) ≡ slot_of g
  old_slot_long = based_long (old_picked g text cell) (omega (arith, old_picked_long, slot_long g)) ∙ omega (arith, old_picked_long, slot_long g)

  -- the head that was read, with a base of 0, begins the slot
  pub old_head_at : (gate : ℕ) (out : List ℕ) → gate % 2 ≡ get_or text (gate_at cell) 0 % 2 → out ≡ window (old_slot_at g cell (gate % 2)) 40 text → take 48 (old_slot g text cell) ≡ out ++ replicate 8 0
  old_head_at gate out known is =
      based_front (old_picked g text cell) (omega (arith, old_picked_long, slot_long g))
      ∙ ap (λ (l : List ℕ). l ++ replicate 8 0)
      (ap (take 40) (old_picked_is gate known)
      ∙ take-take 40 (old_slot_of g) (drop (old_slot_at g cell (gate % 2)) text) (omega (arith, slot_long g))
      ∙ sym is)

-- the gates that were read
pub old_gates_read : (g : Geometry) (text gates : List ℕ) → gates ≡ window 64 g.cells text → OldKnows g gates text
old_gates_read g text gates is c lt = ap (λ (b : ℕ). b % 2) (ap (λ (l : List ℕ). get_or l c 0) is ∙ window-byte 64 g.cells text c lt)
