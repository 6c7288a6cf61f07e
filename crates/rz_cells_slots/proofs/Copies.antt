-- The cells that an old text holds, copied one after another.
use Rattle.std.proofs.Common.{◌≡◌, ◌⊎◌, inl, inr, ⊎_elim, ℕ, ◌+◌, ◌*◌, ◌%◌, ◌<◌, ◌≤◌, Option, Some, None, List, length, take, drop, get_or, refl, sym, ◌∙◌, ap, subst, arith}
use Rattle.std.proofs.lemmas.Bool.{cases_lt}
use Rattle.byteorder.specs.Endian.{IsRead, little_number}
use Rattle.rz_disk.specs.Images.{Torn, window}
use Rattle.rz_events.specs.declared.records.Head.{Head}
use Rattle.rz_record.specs.Record.{bins_of}
use Rattle.rz_record.specs.Slot.{Rec, Reads}
use Rattle.rz_record.proofs.Codec.{bins-read, one_bins}
use Rattle.rz_cells_slots.specs.declared.geometry.Geometry.{Geometry}
use Rattle.rz_cells_slots.specs.Held.{head_in, in_cell}
use Rattle.rz_cells_slots.specs.Shape.{gate_at, slot_of}
use Rattle.rz_cells_slots.specs.Stands.{IsShut, Suits}
use Rattle.rz_cells_slots.specs.Old.{old_disk_bytes, old_picked, old_slot, old_slot_at, old_slot_of, paired}
use Rattle.rz_cells_slots.specs.Copied.{CopiedTo, CopiesTo, HoldsCopy, IsBlank, PutsRecord}
use Rattle.rz_cells_slots.proofs.Based.{based_behind, old_picked_is, old_picked_long, old_slot_long}
use Rattle.rz_cells_slots.proofs.Bins.{within-window}
use Rattle.rz_cells_slots.proofs.Copied.{copied_none, copied_open, copied_put, copied_start, gate_zero}
use Rattle.rz_cells_slots.proofs.Lifts.{slot_long}
use Rattle.rz_cells_slots.proofs.Made.{head_in-cell, head_some}
use Rattle.rz_cells_slots.proofs.Pairs.{paired_each, paired_even, paired_long, paired_odd}

pub head_none : (o : Option Rec) → head_in o ≡ None → o ≡ None
head_none None is = refl
head_none (Some r) is = absurd (cc)

module _ (g : Geometry) (fence : ℕ) (old : List ℕ) (heads : List (Option Head)) (text : List ℕ) where
  pub copies_start : IsBlank g fence text → CopiesTo g fence old heads text 0
  copies_start blank its cells holds same = copied_start g fence text (paired cells) blank

  module _ (k : ℕ) (in_range : k < g.cells) (was : CopiesTo g fence old heads text k) where
    -- the second cell of a pair stays empty
    second : (cells : List (Option Rec)) (after : List ℕ) → CopiedTo g fence after (paired cells) (2 * k + 1) → CopiedTo g fence after (paired cells) (2 * (k + 1))
    second cells after first =
        let next : 2 * k + 1 + 1 ≡ 2 * (k + 1) = omega arith in
        subst (λ (n : ℕ). CopiedTo g fence after (paired cells) n) next (copied_none g fence after (paired cells) (2 * k + 1) first (omega arith) (paired_odd cells k))

    pub copies_none : in_cell heads k ≡ None → CopiesTo g fence old heads text (k + 1)
    copies_none none its cells holds same =
        let empty : in_cell cells k ≡ None = head_none (in_cell cells k) (sym (head_in-cell cells k) ∙ ap (λ (hs : List (Option Head)). in_cell hs k) same ∙ none) in
        second cells text (copied_none g fence text (paired cells) (2 * k) (was its cells holds same) (omega arith) (paired_even cells k ∙ empty))

    pub copies_put : (h : Head) → in_cell heads k ≡ Some h → (after : List ℕ) → ((r : Rec) → Reads (old_slot g old k) (Some r) → r.head ≡ h → PutsRecord g (2 * k) r text after) → CopiesTo g fence old heads after (k + 1)
    copies_put h is after puts its cells holds same =
        let at = head_some (in_cell cells k) h (sym (head_in-cell cells k) ∙ ap (λ (hs : List (Option Head)). in_cell hs k) same ∙ is) in
        let reads : Reads (old_slot g old k) (Some at.0) = subst (Reads (old_slot g old k)) at.1 (holds.each k in_range) in
        second cells after (copied_put g fence text (paired cells) (2 * k) (was its cells holds same) (omega arith) at.0 after (puts at.0 reads at.2) (paired_even cells k ∙ at.1))

-- the bins that were read of an old disk are those of the record
pub old_bins_here : (g : Geometry) (text : List ℕ) (cell gate : ℕ) (dst : List ℕ) (r : Rec) → length text ≡ old_disk_bytes g → cell < g.cells → gate % 2 ≡ get_or text (gate_at cell) 0 % 2
    → Reads (old_slot g text cell) (Some r) → length dst ≡ bins_of r.head → IsRead little_number 8 (window (old_slot_at g cell (gate % 2) + 40) (8 * length dst) text) dst → dst ≡ r.bins
old_bins_here g text cell gate dst r size in_range known rec count read =
    let at : ℕ = old_slot_at g cell (gate % 2) in
    let picked_long = old_picked_long g text size cell in_range in
    let long = old_slot_long g text size cell in_range in
    let room : 48 + 8 * length dst ≤ slot_of g = omega (arith, rec.behind.room, rec.count, count, long) in
    let here : window (old_slot_at g cell (gate % 2) + 40) (8 * length dst) text ≡ take (8 * length dst) (drop 48 (old_slot g text cell)) =
    within-window (old_slot_at g cell (gate % 2)) 40 (8 * length dst) (old_slot_of g) text (omega (arith, room))
    ∙ ap (λ (l : List ℕ). take (8 * length dst) (drop 40 l)) (sym (old_picked_is g text size cell in_range gate known))
    ∙ ap (take (8 * length dst)) (sym (based_behind (old_picked g text cell) (omega (arith, picked_long, slot_long g)))) in
    one_bins (old_slot g text cell) dst r.bins (count ∙ sym rec.count)
    (bins-read (old_slot g text cell) dst (8 * length dst) (omega arith) (omega (arith, room, long)) (subst (λ (l : List ℕ). IsRead little_number 8 l dst) here read))
    rec.behind

-- a write behind the header leaves it shut
pub shut_kept : (at n : ℕ) (old new : List ℕ) → 64 ≤ at → Torn at n old new → IsShut old → IsShut new
shut_kept at n old new far torn shut = ap (λ (b : ℕ). b % 2) (torn.below 32 (omega arith)) ∙ shut

suits_none : (g : Geometry) → Suits g None
suits_none g r is = absurd (cc)

-- when the gate is opened, or a stop comes while it is
module _ (g : Geometry) (fence : ℕ) (old : List ℕ) (heads : List (Option Head)) (text : List ℕ) (copies : CopiesTo g fence old heads text g.cells) (t : List ℕ) (torn : Torn 32 1 text t) where
  pub copies_open : get_or t 32 0 % 2 ≡ 1 → HoldsCopy g fence old heads t
  copies_open bit its cells holds same =
      let count : length (paired cells) ≡ 2 * g.cells = paired_long cells ∙ ap (λ (n : ℕ). 2 * n) holds.count in
      let suits : (c : ℕ) → Suits g (in_cell (paired cells) c) = paired_each (Suits g) cells (suits_none g) holds.suits in
      record {
        holds = copied_open g fence text (paired cells) (copies its cells holds same) count suits t torn bit;
        gates = gate_zero g fence text (paired cells) (copies its cells holds same) count suits t torn;
      }

  pub copies_torn : IsShut t ⊎ HoldsCopy g fence old heads t
  copies_torn = ⊎_elim
      (λ (lt : get_or t 32 0 % 2 < 1). inl (omega arith))
      (λ (le : 1 ≤ get_or t 32 0 % 2). inr (copies_open (omega arith)))
      (cases_lt (get_or t 32 0 % 2) 1)
