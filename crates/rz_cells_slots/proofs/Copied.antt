-- A new disk, while records are copied onto it and when its gate is opened.
use Rattle.std.proofs.Common.{◌≡◌, inl, inr, ⊎_elim, ℕ, ◌+◌, ◌*◌, ◌%◌, ◌<◌, ◌≤◌, min, Option, Some, None, List, [], ◌∷◌, length, take, drop, replicate, get_or, sym, ◌∙◌, ap, subst, arith, length-take}
use Rattle.std.proofs.lemmas.Bool.{cases_lt}
use Rattle.std.proofs.lemmas.List.{ext_get_or, get_or-take, get_or_past, length-replicate, take_all, take-take}
use Rattle.rz_disk.specs.Images.{window, Torn, Written}
use Rattle.rz_disk.proofs.Images.{apart, window-byte, window-length}
use Rattle.rz_record.specs.Slot.{Rec, Reads}
use Rattle.rz_cells_slots.specs.declared.geometry.Geometry.{Geometry}
use Rattle.rz_cells_slots.specs.Held.{in_cell}
use Rattle.rz_cells_slots.specs.Shape.{disk_bytes, gate_at, picked, slot_at, slot_of}
use Rattle.rz_cells_slots.specs.Stands.{HoldsCells, IsHeader, Suits}
use Rattle.rz_cells_slots.specs.Copied.{CopiedTo, IsBlank, PutsRecord}
use Rattle.rz_cells_slots.proofs.Fresh.{number_zero, zero_at}
use Rattle.rz_cells_slots.proofs.Slots.{header_front, header-same, picked_is, slot_within, steps_apart, widen}

zero_window : (at n : ℕ) (text : List ℕ) → ((i : ℕ) → at ≤ i → get_or text i 0 ≡ 0) → (k : ℕ) → get_or (window at n text) k 0 ≡ 0
zero_window at n text zeros k = ⊎_elim
    (λ (lt : k < n). window-byte at n text k lt ∙ zeros (at + k) (omega arith))
    (λ (le : n ≤ k). get_or_past (window at n text) k 0 (omega (arith, length-take n (drop at text))))
    (cases_lt k n)

slots_rise : (g : Geometry) (c d : ℕ) → c < d → slot_at g c 0 + slot_of g ≤ slot_at g d 0
slots_rise g c d lt = omega (arith, steps_apart (slot_of g) (2 * c + 0) (2 * d + 0) (omega arith))

-- a header on a disk of zeros
pub blank_written : (g : Geometry) (fence : ℕ) (header old text : List ℕ) → IsHeader g fence header → length header ≡ 32 → old ≡ replicate (disk_bytes g) 0 → Written 0 header old text → IsBlank g fence text
blank_written g fence header old text is long zeros written =
    let front : take 32 text ≡ take 32 header = ap (λ (n : ℕ). take n text) (sym long) ∙ written.there ∙ sym (take_all 32 header (omega arith)) in
    record {
      size = written.torn.size ∙ ap length zeros ∙ length-replicate (disk_bytes g) 0;
      header = header-same g fence 32 text header (omega arith) front is;
      zeros = λ i past. written.torn.above i (omega arith) ∙ ap (λ (l : List ℕ). get_or l i 0) zeros ∙ zero_at (disk_bytes g) i;
    }

-- nothing is copied yet
pub copied_start : (g : Geometry) (fence : ℕ) (text : List ℕ) (cells : List (Option Rec)) → IsBlank g fence text → CopiedTo g fence text cells 0
copied_start g fence text cells blank = record {
  size = blank.size;
  header = blank.header;
  gates = λ i low high. blank.zeros i low;
  done = λ c lt. absurd (omega arith);
  zeros = λ i past. blank.zeros i (omega (arith, past));
}

module _ (g : Geometry) (fence : ℕ) (text : List ℕ) (cells : List (Option Rec)) (k : ℕ) (was : CopiedTo g fence text cells k) (in_range : k < 2 * g.cells) where
  -- a cell that stays empty
  pub copied_none : in_cell cells k ≡ None → CopiedTo g fence text cells (k + 1)
  copied_none none = record {
    size = was.size;
    header = was.header;
    gates = was.gates;
    done = λ c lt. ⊎_elim
        (λ (below : c < k). was.done c below)
        (λ (le : k ≤ c). let here : k ≡ c = omega arith in
        subst (λ (d : ℕ). Reads (window (slot_at g d 0) (slot_of g) text) (in_cell cells d)) here
        (subst (λ (o : Option Rec). Reads (window (slot_at g k 0) (slot_of g) text) o) (sym none)
        (number_zero 0 8 (window (slot_at g k 0) (slot_of g) text) (zero_window (slot_at g k 0) (slot_of g) text was.zeros))))
        (cases_lt c k);
    zeros = λ i past. was.zeros i (omega (arith, past, slots_rise g k (k + 1) (omega arith)));
  }

  -- a cell of which the record is written
  pub copied_put : (r : Rec) (after : List ℕ) → PutsRecord g k r text after → in_cell cells k ≡ Some r → CopiedTo g fence after cells (k + 1)
  copied_put r after puts is =
      let at : ℕ = slot_at g k 0 in
      let torn : Torn (slot_at g k 0) (slot_of g) text after = widen (slot_at g k 0) (length puts.0) (slot_of g) text after puts.1 puts.3.torn in
      let room : slot_at g k 0 + slot_of g ≤ length text = omega (arith, was.size, slot_within g k 0 in_range (omega arith)) in
      let new : Reads (window (slot_at g k 0) (slot_of g) after) (Some r) =
      puts.2 (window (slot_at g k 0) (slot_of g) after) (window-length (slot_at g k 0) (slot_of g) after (omega (arith, room, torn.size)))
      (take-take (length puts.0) (slot_of g) (drop (slot_at g k 0) after) puts.1 ∙ puts.3.there) in
      record {
        size = torn.size ∙ was.size;
        header = header-same g fence 64 after text (omega arith) (header_front (slot_at g k 0) (slot_of g) text after (omega arith) (omega (arith, was.size)) torn) was.header;
        gates = λ i low high. torn.below i (omega arith) ∙ was.gates i low high;
        done = λ c lt. ⊎_elim
            (λ (below : c < k). let rise = slots_rise g c k below in
            subst (λ (l : List ℕ). Reads l (in_cell cells c))
            (sym (apart (slot_at g k 0) (slot_of g) text after (slot_at g c 0) (slot_of g) torn (omega (arith, rise, room)) (inl rise)))
            (was.done c below))
            (λ (le : k ≤ c). let here : k ≡ c = omega arith in
            subst (λ (d : ℕ). Reads (window (slot_at g d 0) (slot_of g) after) (in_cell cells d)) here
            (subst (λ (o : Option Rec). Reads (window (slot_at g k 0) (slot_of g) after) o) (sym is) new))
            (cases_lt c k);
        zeros = λ i past. let rise = slots_rise g k (k + 1) (omega arith) in torn.above i (omega (arith, past, rise)) ∙ was.zeros i (omega (arith, past, rise));
      }

-- all is copied, and the gate is opened
module _ (g : Geometry) (fence : ℕ) (text : List ℕ) (cells : List (Option Rec)) (was : CopiedTo g fence text cells (2 * g.cells)) (count : length cells ≡ 2 * g.cells) (suits : (c : ℕ) → Suits g (in_cell cells c)) (t : List ℕ) (torn : Torn 32 1 text t) where
  pub gate_zero : (c : ℕ) → c < 2 * g.cells → get_or t (gate_at c) 0 ≡ 0
  gate_zero c lt = torn.above (gate_at c) (omega arith) ∙ was.gates (gate_at c) (omega arith) (omega arith)

  slot_same : (c : ℕ) → c < 2 * g.cells → picked g t c ≡ window (slot_at g c 0) (slot_of g) text
  slot_same c lt =
      picked_is g t c 0 (ap (λ (b : ℕ). b % 2) (gate_zero c lt))
      ∙ apart 32 1 text t (slot_at g c 0) (slot_of g) torn (omega (arith, was.size, slot_within g c 0 lt (omega arith))) (inr (omega arith))

  front : take 32 t ≡ take 32 text
  front = ext_get_or 0 (take 32 t) (take 32 text)
      (length-take 32 t ∙ ap (λ (k : ℕ). min 32 k) torn.size ∙ sym (length-take 32 text))
      (λ i lt. let near : i < 32 = omega (arith, length-take 32 t) in get_or-take 32 t i 0 near ∙ torn.below i near ∙ sym (get_or-take 32 text i 0 near))

  pub copied_open : get_or t 32 0 % 2 ≡ 1 → HoldsCells g fence t cells
  copied_open bit = record {
    size = torn.size ∙ was.size;
    header = header-same g fence 32 t text (omega arith) front was.header;
    formatted = bit;
    count = count;
    each = λ c lt. subst (λ (l : List ℕ). Reads l (in_cell cells c)) (sym (slot_same c lt)) (was.done c lt);
    suits = suits;
  }

-- the gate that was written is open
pub gate_is_open : (text t : List ℕ) → Written 32 (1 ∷ []) text t → get_or t 32 0 % 2 ≡ 1
gate_is_open text t written =
    let byte : get_or t 32 0 ≡ 1 = sym (window-byte 32 1 t 0 (omega arith)) ∙ ap (λ (l : List ℕ). get_or l 0 0) written.there in
    omega (arith, byte)
