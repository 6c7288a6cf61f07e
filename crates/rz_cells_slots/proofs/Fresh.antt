-- A disk that was formatted holds nothing.
use Rattle.std.proofs.Common.{zero, suc, ◌≡◌, ◌⊎◌, Bool, IsTrue, inl, inr, ⊎_elim, ℕ, ◌+◌, ◌*◌, ◌%◌, ◌<◌, ◌≤◌, min, Option, Some, None, List, [], ◌∷◌, length, take, drop, replicate, get_or, refl, sym, ◌∙◌, ap, subst, arith, length-take}
use Rattle.std.proofs.lemmas.Bool.{cases_lt}
use Rattle.std.proofs.lemmas.List.{ext_get_or, get_or-take, get_or-drop, get_or-replicate, get_or_past, length-replicate, length-map, take_all}
use Rattle.byteorder.specs.Endian.{little_from}
use Rattle.rz_disk.specs.Images.{window, Only, Torn, Written}
use Rattle.rz_disk.proofs.Images.{window-byte}
use Rattle.rz_events.specs.declared.records.Head.{Head}
use Rattle.rz_record.specs.Fields.{number_at}
use Rattle.rz_record.specs.Slot.{Rec, Reads}
use Rattle.rz_cells_slots.specs.declared.geometry.Geometry.{Geometry}
use Rattle.rz_cells_slots.specs.Held.{in_cell, heads_of, head_in, nothing}
use Rattle.rz_cells_slots.specs.Shape.{picked, slot_at, slot_of, disk_bytes, gate_at}
use Rattle.rz_cells_slots.specs.Stands.{IsHeader, IsShut, IsFresh, ShutOrFresh, HoldsCells, StandsFor}
use Rattle.rz_cells_slots.specs.Open.{IsOpen, Knows, HoldsHeads}
use Rattle.rz_cells_slots.proofs.Made.{made_nothing, head_in-cell}
use Rattle.rz_cells_slots.proofs.Slots.{header-same}

abbrev pub blank : ℕ → List ℕ
blank n = replicate n 0

pub zero_at : (n i : ℕ) → get_or (blank n) i 0 ≡ 0
zero_at n i = ⊎_elim (λ (lt : i < n). get_or-replicate n i 0 0 lt) (λ (le : n ≤ i). get_or_past (blank n) i 0 (omega (arith, length-replicate {A = ℕ} n 0))) (cases_lt i n)

-- a write of no more than a header on zeros leaves its gate shut
pub zeros_torn : (n k : ℕ) (zeros c : List ℕ) → zeros ≡ blank n → k ≡ 32 → Torn 0 k zeros c → IsShut c
zeros_torn n k zeros c is long torn = ap (λ (b : ℕ). b % 2) (torn.above 32 (omega arith) ∙ ap (λ (t : List ℕ). get_or t 32 0) is ∙ zero_at n 32)

module _ (g : Geometry) (fence : ℕ) (header : List ℕ) (is : IsHeader g fence header) (long : length header ≡ 32) where
  -- the header stands before its gate
  pub header_torn : (c : List ℕ) → Torn 0 (length header) (blank (disk_bytes g)) c → IsShut c
  header_torn c torn = ap (λ (b : ℕ). b % 2) (torn.above 32 (omega arith) ∙ zero_at (disk_bytes g) 32)

  module _ (mid c : List ℕ) (written : Written 0 header (blank (disk_bytes g)) mid) (torn : Torn 32 1 mid c) where
    mid-size : length mid ≡ disk_bytes g
    mid-size = written.torn.size ∙ length-replicate (disk_bytes g) 0

    front : take 32 c ≡ take 32 mid
    front = ext_get_or 0 (take 32 c) (take 32 mid)
        (length-take 32 c ∙ ap (λ (k : ℕ). min 32 k) torn.size ∙ sym (length-take 32 mid))
        (λ i lt. let near : i < 32 = omega (arith, length-take 32 c) in get_or-take 32 c i 0 near ∙ torn.below i near ∙ sym (get_or-take 32 mid i 0 near))

    mid-front : take 32 mid ≡ take 32 header
    mid-front = ap (λ (n : ℕ). take n mid) (sym long) ∙ written.there ∙ sym (take_all 32 header (omega arith))

    pub opened : get_or c 32 0 % 2 ≡ 1 → IsFresh g fence c
    opened open_gate = record {
      size = torn.size ∙ mid-size;
      header = header-same g fence 32 c header (omega arith) (front ∙ mid-front) is;
      formatted = open_gate;
      zeros = λ i past. torn.above i past ∙ written.torn.above i (omega arith) ∙ zero_at (disk_bytes g) i;
    }

    pub gate_torn : ShutOrFresh g fence c
    gate_torn = ⊎_elim (λ (lt : get_or c 32 0 % 2 < 1). inl (omega arith)) (λ (le : 1 ≤ get_or c 32 0 % 2). inr (opened (omega arith))) (cases_lt (get_or c 32 0 % 2) 1)

  pub gate_done : (mid c : List ℕ) → Written 0 header (blank (disk_bytes g)) mid → Written 32 (1 ∷ []) mid c → IsFresh g fence c
  gate_done mid c written gate =
      let byte : get_or c 32 0 ≡ 1 = sym (window-byte 32 1 c 0 (omega arith)) ∙ ap (λ (l : List ℕ). get_or l 0 0) gate.there in
      opened mid c written gate.torn (omega (arith, byte))

zero_from : (i n : ℕ) (xs : List ℕ) → ((k : ℕ) → get_or xs k 0 ≡ 0) → little_from i n xs ≡ 0
zero_from i zero xs zeros = refl
zero_from i (suc n) xs zeros = omega (arith, zeros i, zero_from (suc i) n xs zeros)

-- bytes of zeros are the number 0
pub number_zero : (at n : ℕ) (xs : List ℕ) → ((k : ℕ) → get_or xs k 0 ≡ 0) → number_at at n xs ≡ 0
unfolding number_at
number_zero at n xs zeros = zero_from 0 n (drop at xs) (λ k. get_or-drop at xs k 0 ∙ zeros (at + k))

window_zero : (at n : ℕ) (text : List ℕ) → 33 ≤ at → ((i : ℕ) → 33 ≤ i → get_or text i 0 ≡ 0) → (k : ℕ) → get_or (window at n text) k 0 ≡ 0
window_zero at n text far zeros k = ⊎_elim
    (λ (lt : k < n). window-byte at n text k lt ∙ zeros (at + k) (omega arith))
    (λ (le : n ≤ k). get_or_past (window at n text) k 0 (omega (arith, length-take n (drop at text))))
    (cases_lt k n)

abbrev no_cells : ℕ → List (Option Rec)
no_cells n = replicate n None

none_at : (n c : ℕ) → in_cell (no_cells n) c ≡ None
none_at n c = ⊎_elim (λ (lt : c < n). get_or-replicate n c None None lt) (λ (le : n ≤ c). get_or_past (no_cells n) c None (omega (arith, length-replicate {A = Option Rec} n None))) (cases_lt c n)

module _ (g : Geometry) (fence : ℕ) (text : List ℕ) (fresh : IsFresh g fence text) where
  holds_nothing : HoldsCells g fence text (no_cells (2 * g.cells))
  holds_nothing = record {
    size = fresh.size;
    header = fresh.header;
    formatted = fresh.formatted;
    count = length-replicate (2 * g.cells) None;
    each = λ c lt. subst (λ (o : Option Rec). Reads (picked g text c) o) (sym (none_at (2 * g.cells) c))
        (number_zero 0 8 (picked g text c) (window_zero (slot_at g c (get_or text (gate_at c) 0 % 2)) (slot_of g) text (omega arith) fresh.zeros));
    suits = λ c r is. let none : None ≡ Some r = sym (none_at (2 * g.cells) c) ∙ is in absurd (cc);
  }

  pub stands_for_nothing : StandsFor g fence text nothing
  stands_for_nothing = (no_cells (2 * g.cells), holds_nothing, made_nothing (no_cells (2 * g.cells)) (none_at (2 * g.cells)))

  pub fresh_heads : (heads : List (Option Head)) → length heads ≡ 2 * g.cells → ((c : ℕ) → in_cell heads c ≡ None) → HoldsHeads g fence text heads
  fresh_heads heads count empty = (
    no_cells (2 * g.cells),
    holds_nothing,
    ext_get_or None (heads_of (no_cells (2 * g.cells))) heads (length-map (no_cells (2 * g.cells)) head_in ∙ length-replicate (2 * g.cells) None ∙ sym count)
        (λ c lt. head_in-cell (no_cells (2 * g.cells)) c ∙ ap head_in (none_at (2 * g.cells) c) ∙ sym (empty c)),
  )

  pub fresh_gates : (gates : List ℕ) → ((c : ℕ) → get_or gates c 0 ≡ 0) → Knows g gates text
  fresh_gates gates shut c lt = ap (λ (b : ℕ). b % 2) (shut c ∙ sym (fresh.zeros (gate_at c) (omega arith)))

-- an image from before, or one of a disk that is being formatted
pub shut_or_nothing : (g : Geometry) (fence : ℕ) (image : List ℕ) (Was : Type 0) → Was ⊎ ShutOrFresh g fence image → Was ⊎ IsShut image ⊎ StandsFor g fence image nothing
shut_or_nothing g fence image Was left = ⊎_elim
    (λ (was : Was). inl was)
    (λ (new : ShutOrFresh g fence image). inr (⊎_elim
    (λ (shut : IsShut image). inl shut)
    (λ (fresh : IsFresh g fence image). inr (stands_for_nothing g fence image fresh))
    new))
    left

-- a disk that was formatted makes open cells
pub open_fresh : (tells : Bool) (text : List ℕ) (image : List ℕ → Type 0) (g : Geometry) (fence : ℕ) (gates : List ℕ) (heads : List (Option Head)) → length text ≡ disk_bytes g → Only text image → (IsTrue tells → IsFresh g fence text)
    → ((c : ℕ) → get_or gates c 0 ≡ 0) → length heads ≡ 2 * g.cells → ((c : ℕ) → in_cell heads c ≡ None) → IsOpen tells text image g fence gates heads
open_fresh tells text image g fence gates heads size settled fresh shut count empty = record {
  size = size;
  settled = settled;
  count = count;
  apart = λ a b h k ne is is'. let none : None ≡ Some h = sym (empty a) ∙ is in absurd (cc);
  valid = λ a h is. let none : None ≡ Some h = sym (empty a) ∙ is in absurd (cc);
  layout = λ a h is. let none : None ≡ Some h = sym (empty a) ∙ is in absurd (cc);
  known = λ told. fresh_gates g fence text (fresh told) gates shut;
  holds = λ told. fresh_heads g fence text (fresh told) heads count empty;
}
