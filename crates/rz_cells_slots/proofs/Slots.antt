-- The idle slot, and then the gate.
use Rattle.std.proofs.Common.{◌≡◌, ◌≢◌, ◌⊎◌, inl, inr, ⊎_elim, ℕ, ◌+◌, ◌-◌, ◌*◌, ◌%◌, ◌<◌, ◌≤◌, min, Option, None, List, [], ◌∷◌, length, take, drop, length-set, length-take, get_or, set, sym, ◌∙◌, ap, subst, arith}
use Rattle.std.proofs.lemmas.Bool.{cases_lt, cases_eq}
use Rattle.std.proofs.lemmas.List.{ext_get_or, get_or-set_same, get_or-set_other, get_or-take, take-take}
use Rattle.std.proofs.Math.Nat.{mul-le-mul_right}
use Rattle.rz_disk.specs.Images.{window, Torn, Written}
use Rattle.rz_disk.proofs.Images.{apart, apart_byte, window-byte, window-length}
use Rattle.rz_record.specs.Slot.{Rec, Reads, Spells}
use Rattle.rz_record.proofs.Codec.{number_at-front, byte-front}
use Rattle.rz_cells_slots.specs.declared.geometry.Geometry.{Geometry}
use Rattle.rz_cells_slots.specs.Held.{in_cell}
use Rattle.rz_cells_slots.specs.Shape.{picked, slot_at, slot_of, disk_bytes, gate_at}
use Rattle.rz_cells_slots.specs.Stands.{IsHeader, IsFormatted, Suits, HoldsCells}
use Rattle.rz_cells_slots.specs.Open.{Knows}

-- the bit that a gate does not have
pub idle_bit : (gate b : ℕ) → gate % 2 ≡ b % 2 → 1 - gate % 2 ≢ b % 2
idle_bit gate b is same = omega arith

-- slots with different numbers do not meet
pub steps_apart : (s x y : ℕ) → x < y → x * s + s ≤ y * s
steps_apart s x y lt = let le : (x + 1) * s ≤ y * s = mul-le-mul_right s (omega arith) in omega (arith, le)

slots_apart : (s x y : ℕ) → x ≢ y → (x * s + s ≤ y * s) ⊎ (y * s + s ≤ x * s)
slots_apart s x y ne = ⊎_elim (λ (lt : x < y). inl (steps_apart s x y lt)) (λ (le : y ≤ x). inr (steps_apart s y x (omega arith))) (cases_lt x y)

-- a write of the front of a range is a write of the range
pub widen : (at n m : ℕ) (old new : List ℕ) → n ≤ m → Torn at n old new → Torn at m old new
widen at n m old new le torn = record { size = torn.size; below = torn.below; above = λ k past. torn.above k (omega arith) }

-- a write behind the header leaves it
pub header_front : (at n : ℕ) (old new : List ℕ) → 64 ≤ at → 64 ≤ length old → Torn at n old new → take 64 new ≡ take 64 old
header_front at n old new far long torn = ext_get_or 0 (take 64 new) (take 64 old)
    (length-take 64 new ∙ ap (λ (k : ℕ). min 64 k) torn.size ∙ sym (length-take 64 old))
    (λ i lt. let near : i < 64 = omega (arith, length-take 64 new) in get_or-take 64 new i 0 near ∙ torn.below i (omega arith) ∙ sym (get_or-take 64 old i 0 near))

-- a header stands in the first 32 bytes
pub header-same : (g : Geometry) (fence m : ℕ) (new old : List ℕ) → 32 ≤ m → take m new ≡ take m old → IsHeader g fence old → IsHeader g fence new
header-same g fence m new old room same is = record {
  magic_is = number_at-front 0 8 m new old same (omega arith) ∙ is.magic_is;
  layout = byte-front 8 m new old same (omega arith) ∙ is.layout;
  bsize = byte-front 9 m new old same (omega arith) ∙ is.bsize;
  node = number_at-front 10 2 m new old same (omega arith) ∙ is.node;
  cells = number_at-front 12 4 m new old same (omega arith) ∙ is.cells;
  fence_is = number_at-front 16 8 m new old same (omega arith) ∙ is.fence_is;
  reserved = number_at-front 24 8 m new old same (omega arith) ∙ is.reserved;
}

pub formatted-same : (new old : List ℕ) → take 64 new ≡ take 64 old → IsFormatted old → IsFormatted new
formatted-same new old same is = ap (λ (b : ℕ). b % 2) (byte-front 32 64 new old same (omega arith)) ∙ is

module _ (g : Geometry) where
  pub slot_within : (c i : ℕ) → c < 2 * g.cells → i < 2 → slot_at g c i + slot_of g ≤ disk_bytes g
  slot_within c i lt small = omega (arith, steps_apart (slot_of g) (2 * c + i) (4 * g.cells) (omega arith))

  slots_do_not_meet : (c d i j : ℕ) → i < 2 → j < 2 → (c ≡ d → i ≢ j) → (slot_at g c i + slot_of g ≤ slot_at g d j) ⊎ (slot_at g d j + slot_of g ≤ slot_at g c i)
  slots_do_not_meet c d i j small small' ne =
      let other : 2 * c + i ≢ 2 * d + j = λ same. let here : c ≡ d = omega arith in let bit : i ≡ j = omega arith in ne here bit in
      ⊎_elim (λ (le : (2 * c + i) * slot_of g + slot_of g ≤ (2 * d + j) * slot_of g). inl (omega arith)) (λ (le : (2 * d + j) * slot_of g + slot_of g ≤ (2 * c + i) * slot_of g). inr (omega arith)) (slots_apart (slot_of g) (2 * c + i) (2 * d + j) other)

  pub picked_is : (text : List ℕ) (c i : ℕ) → get_or text (gate_at c) 0 % 2 ≡ i → picked g text c ≡ window (slot_at g c i) (slot_of g) text
  picked_is text c i is = ap (λ (j : ℕ). window (slot_at g c j) (slot_of g) text) is

  -- a write into the slot that the gate does not pick leaves each pick
  pub idle_torn : (old new : List ℕ) (cell i : ℕ) → length old ≡ disk_bytes g → i < 2 → i ≢ get_or old (gate_at cell) 0 % 2 → Torn (slot_at g cell i) (slot_of g) old new → (c : ℕ) → c < 2 * g.cells → picked g new c ≡ picked g old c
  idle_torn old new cell i size small idle torn c lt =
      let gate : get_or new (gate_at c) 0 ≡ get_or old (gate_at c) 0 = apart_byte (slot_at g cell i) (slot_of g) old new (gate_at c) torn (inl (omega arith)) in
      let j : ℕ = get_or old (gate_at c) 0 % 2 in
      let small' : get_or old (gate_at c) 0 % 2 < 2 = omega arith in
      picked_is new c j (ap (λ (b : ℕ). b % 2) gate)
      ∙ apart (slot_at g cell i) (slot_of g) old new (slot_at g c j) (slot_of g) torn (omega (arith, slot_within c j lt small'))
      (slots_do_not_meet c cell j i small' small (λ here same. idle (sym same ∙ ap (λ (d : ℕ). get_or old (gate_at d) 0 % 2) here)))

  -- a slot does not meet the gates
  slot_kept : (old new : List ℕ) (cell c i : ℕ) → length old ≡ disk_bytes g → cell < 2 * g.cells → c < 2 * g.cells → i < 2 → Torn (gate_at cell) 1 old new → window (slot_at g c i) (slot_of g) new ≡ window (slot_at g c i) (slot_of g) old
  slot_kept old new cell c i size in_range lt small torn = apart (gate_at cell) 1 old new (slot_at g c i) (slot_of g) torn (omega (arith, slot_within c i lt small)) (inr (omega arith))

  -- nor does a gate meet another
  gate_apart : (old new : List ℕ) (cell c : ℕ) → c ≢ cell → Torn (gate_at cell) 1 old new → get_or new (gate_at c) 0 ≡ get_or old (gate_at c) 0
  gate_apart old new cell c other torn = apart_byte (gate_at cell) 1 old new (gate_at c) torn (⊎_elim (λ (below : c < cell). inl (omega arith)) (λ (le : cell ≤ c). inr (omega (arith, other))) (cases_lt c cell))

  -- a write of a gate leaves the picks of all other cells
  pub gate_others : (old new : List ℕ) (cell : ℕ) → length old ≡ disk_bytes g → cell < 2 * g.cells → Torn (gate_at cell) 1 old new → (c : ℕ) → c < 2 * g.cells → c ≢ cell → picked g new c ≡ picked g old c
  gate_others old new cell size in_range torn c lt other =
      let gate = gate_apart old new cell c other torn in
      let small : get_or old (gate_at c) 0 % 2 < 2 = omega arith in
      picked_is new c (get_or old (gate_at c) 0 % 2) (ap (λ (b : ℕ). b % 2) gate) ∙ slot_kept old new cell c (get_or old (gate_at c) 0 % 2) size in_range lt small torn

  -- of its own cell it picks one of the two slots
  pub gate_own : (old new : List ℕ) (cell i : ℕ) → length old ≡ disk_bytes g → cell < 2 * g.cells → i < 2 → i ≢ get_or old (gate_at cell) 0 % 2 → Torn (gate_at cell) 1 old new → (picked g new cell ≡ picked g old cell) ⊎ (picked g new cell ≡ window (slot_at g cell i) (slot_of g) old)
  gate_own old new cell i size in_range small idle torn = ⊎_elim
      (λ (was : get_or new (gate_at cell) 0 % 2 ≡ get_or old (gate_at cell) 0 % 2). inl (picked_is new cell (get_or old (gate_at cell) 0 % 2) was ∙ slot_kept old new cell cell (get_or old (gate_at cell) 0 % 2) size in_range in_range (omega arith) torn))
      (λ (other : get_or new (gate_at cell) 0 % 2 ≡ i). inr (picked_is new cell i other ∙ slot_kept old new cell cell i size in_range in_range small torn))
      (bits (get_or new (gate_at cell) 0) (get_or old (gate_at cell) 0) i small idle)
    where
      bits : (a b i : ℕ) → i < 2 → i ≢ b % 2 → (a % 2 ≡ b % 2) ⊎ (a % 2 ≡ i)
      bits a b i small idle = ⊎_elim (λ (same : a % 2 ≡ b % 2). inl same) (λ (ne : a % 2 ≢ b % 2). inr (omega (arith, idle, ne))) (cases_eq (a % 2) (b % 2))

  gate_byte : (old new : List ℕ) (cell i : ℕ) → Written (gate_at cell) (i ∷ []) old new → get_or new (gate_at cell) 0 ≡ i
  gate_byte old new cell i written = ap (λ (k : ℕ). get_or new k 0) (omega arith) ∙ sym (window-byte (gate_at cell) 1 new 0 (omega arith)) ∙ ap (λ (l : List ℕ). get_or l 0 0) written.there

  -- the gate as it is meant
  pub gate_written : (old new : List ℕ) (cell i : ℕ) → length old ≡ disk_bytes g → cell < 2 * g.cells → i < 2 → Written (gate_at cell) (i ∷ []) old new → picked g new cell ≡ window (slot_at g cell i) (slot_of g) old
  gate_written old new cell i size in_range small written =
      let low : get_or new (gate_at cell) 0 % 2 ≡ i = omega (arith, gate_byte old new cell i written) in
      picked_is new cell i low ∙ slot_kept old new cell cell i size in_range in_range small written.torn

  -- the gates that are known stay known
  pub gates_after : (gates before mid end : List ℕ) (cell i : ℕ) → length gates ≡ 2 * g.cells → cell < 2 * g.cells → i < 2
      → Knows g gates before → Torn (slot_at g cell i) (slot_of g) before mid → Written (gate_at cell) (i ∷ []) mid end
      → Knows g (set gates cell i) end
  gates_after gates before mid end cell i fits in_range small known torn written c lt = ⊎_elim
      (λ (here : c ≡ cell). subst (λ (d : ℕ). get_or (set gates cell i) d 0 % 2 ≡ get_or end (gate_at d) 0 % 2) (sym here)
      (ap (λ (b : ℕ). b % 2) (get_or-set_same gates cell i 0 (omega arith) ∙ sym (gate_byte mid end cell i written))))
      (λ (other : c ≢ cell).
      ap (λ (b : ℕ). b % 2) (get_or-set_other gates cell c i 0 other) ∙ known c lt
      ∙ ap (λ (b : ℕ). b % 2) (sym (gate_apart mid end cell c other written.torn ∙ apart_byte (slot_at g cell i) (slot_of g) before mid (gate_at c) torn (inl (omega arith)))))
      (cases_eq c cell)

  -- The argument: `before`, a text with the bytes in the idle slot, and the texts that a write of the gate leaves.
  module _ (fence : ℕ) (before : List ℕ) (cell i : ℕ) (bytes : List ℕ) (new : Option Rec) (cells : List (Option Rec)) (in_range : cell < 2 * g.cells) (small : i < 2) (idle : i ≢ get_or before (gate_at cell) 0 % 2) (long : length bytes ≤ slot_of g) (spells : Spells (slot_of g) bytes new) (suits : Suits g new) (holds : HoldsCells g fence before cells) where
    size : length before ≡ disk_bytes g
    size = holds.size

    -- a write of the front of the slot is a write of the slot
    wide : (c : List ℕ) → Torn (slot_at g cell i) (length bytes) before c → Torn (slot_at g cell i) (slot_of g) before c
    wide c torn = widen (slot_at g cell i) (length bytes) (slot_of g) before c long torn

    front : (c : List ℕ) → Torn (slot_at g cell i) (length bytes) before c → take 64 c ≡ take 64 before
    front c torn = header_front (slot_at g cell i) (length bytes) before c (omega arith) (omega (arith, size)) torn

    -- after the first write, done or not
    pub staged : (c : List ℕ) → Torn (slot_at g cell i) (length bytes) before c → HoldsCells g fence c cells
    staged c torn = record {
      size = torn.size ∙ size;
      header = header-same g fence 64 c before (omega arith) (front c torn) holds.header;
      formatted = formatted-same c before (front c torn) holds.formatted;
      count = holds.count;
      each = λ d lt. subst (λ (l : List ℕ). Reads l (in_cell cells d)) (sym (idle_torn before c cell i size small idle (wide c torn) d lt)) (holds.each d lt);
      suits = holds.suits;
    }

    module _ (mid : List ℕ) (written : Written (slot_at g cell i) bytes before mid) where
      torn-mid : Torn (slot_at g cell i) (slot_of g) before mid
      torn-mid = wide mid written.torn

      mid-size : length mid ≡ disk_bytes g
      mid-size = written.torn.size ∙ size

      mid-gate : get_or mid (gate_at cell) 0 ≡ get_or before (gate_at cell) 0
      mid-gate = apart_byte (slot_at g cell i) (slot_of g) before mid (gate_at cell) torn-mid (inl (omega arith))

      mid-idle : i ≢ get_or mid (gate_at cell) 0 % 2
      mid-idle same = idle (same ∙ ap (λ (b : ℕ). b % 2) mid-gate)

      mid-slot : Reads (window (slot_at g cell i) (slot_of g) mid) new
      mid-slot = spells (window (slot_at g cell i) (slot_of g) mid) (window-length (slot_at g cell i) (slot_of g) mid (omega (arith, mid-size, slot_within cell i in_range small))) (take-take (length bytes) (slot_of g) (drop (slot_at g cell i) mid) long ∙ written.there)

      mid-picks : (c : ℕ) → c < 2 * g.cells → picked g mid c ≡ picked g before c
      mid-picks = idle_torn before mid cell i size small idle torn-mid

      end-front : (c : List ℕ) → Torn (gate_at cell) 1 mid c → take 64 c ≡ take 64 before
      end-front c torn = header_front (gate_at cell) 1 mid c (omega arith) (omega (arith, mid-size)) torn ∙ front mid written.torn

      -- the pick of this cell is the new one
      flips : (c : List ℕ) → Torn (gate_at cell) 1 mid c → picked g c cell ≡ window (slot_at g cell i) (slot_of g) mid → HoldsCells g fence c (set cells cell new)
      flips c torn is = record {
        size = torn.size ∙ mid-size;
        header = header-same g fence 64 c before (omega arith) (end-front c torn) holds.header;
        formatted = formatted-same c before (end-front c torn) holds.formatted;
        count = length-set cells cell new ∙ holds.count;
        each = λ d lt. ⊎_elim
            (λ (here : d ≡ cell). subst (λ (k : ℕ). Reads (picked g c k) (in_cell (set cells cell new) k)) (sym here)
            (subst (λ (o : Option Rec). Reads (picked g c cell) o) (sym own) (subst (λ (l : List ℕ). Reads l new) (sym is) mid-slot)))
            (λ (other : d ≢ cell). subst (λ (o : Option Rec). Reads (picked g c d) o) (sym (get_or-set_other cells cell d new None other))
            (subst (λ (l : List ℕ). Reads l (in_cell cells d)) (sym (gate_others mid c cell mid-size in_range torn d lt other ∙ mid-picks d lt)) (holds.each d lt)))
            (cases_eq d cell);
        suits = λ d r is'. ⊎_elim
            (λ (here : d ≡ cell). suits r (sym own ∙ ap (λ (k : ℕ). in_cell (set cells cell new) k) (sym here) ∙ is'))
            (λ (other : d ≢ cell). holds.suits d r (sym (get_or-set_other cells cell d new None other) ∙ is'))
            (cases_eq d cell);
      }
        where
          own : in_cell (set cells cell new) cell ≡ new
          own = get_or-set_same cells cell new None (omega (arith, holds.count))

      stays : (c : List ℕ) → Torn (gate_at cell) 1 mid c → picked g c cell ≡ picked g mid cell → HoldsCells g fence c cells
      stays c torn was = record {
        size = torn.size ∙ mid-size;
        header = header-same g fence 64 c before (omega arith) (end-front c torn) holds.header;
        formatted = formatted-same c before (end-front c torn) holds.formatted;
        count = holds.count;
        each = λ d lt. subst (λ (l : List ℕ). Reads l (in_cell cells d)) (sym (all d lt)) (holds.each d lt);
        suits = holds.suits;
      }
        where
          all : (d : ℕ) → d < 2 * g.cells → picked g c d ≡ picked g before d
          all d lt = ⊎_elim
              (λ (here : d ≡ cell). subst (λ (k : ℕ). picked g c k ≡ picked g before k) (sym here) (was ∙ mid-picks cell in_range))
              (λ (other : d ≢ cell). gate_others mid c cell mid-size in_range torn d lt other ∙ mid-picks d lt)
              (cases_eq d cell)

      -- after the second write, done or not
      pub flipped : (c : List ℕ) → Torn (gate_at cell) 1 mid c → HoldsCells g fence c cells ⊎ HoldsCells g fence c (set cells cell new)
      flipped c torn = ⊎_elim
          (λ (was : picked g c cell ≡ picked g mid cell). inl (stays c torn was))
          (λ (is : picked g c cell ≡ window (slot_at g cell i) (slot_of g) mid). inr (flips c torn is))
          (gate_own mid c cell i mid-size in_range small mid-idle torn)

      -- after both
      pub flipped_done : (end : List ℕ) → Written (gate_at cell) (i ∷ []) mid end → HoldsCells g fence end (set cells cell new)
      flipped_done end gate = flips end gate.torn (gate_written mid end cell i mid-size in_range small gate)
