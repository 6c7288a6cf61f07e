-- A disk that was formatted holds no entries.
use Rattle.std.proofs.Common.{◌≡◌, ◌⊎◌, inl, inr, ⊎_elim, ℕ, ◌%◌, ◌<◌, ◌≤◌, List, [], ◌∷◌, length, replicate, get_or, sym, ◌∙◌, ap, arith}
use Rattle.std.proofs.lemmas.Bool.{cases_lt}
use Rattle.std.proofs.lemmas.List.{get_or-replicate, get_or_past, length-replicate}
use Rattle.rz_disk.specs.Images.{window, Torn, Written}
use Rattle.rz_disk.proofs.Images.{apart, window-byte}
use Rattle.rz_journal.specs.Stands.{disk_bytes, header_bytes, HalfHolds, StandsFor}
use Rattle.rz_cells_slots.specs.Stands.{IsShut}
use Rattle.rz_journal.proofs.Changes.{size_is}

abbrev blank : ℕ → List ℕ
blank n = replicate n 0

zero_at : (n i : ℕ) → get_or (blank n) i 0 ≡ 0
zero_at n i = ⊎_elim (λ (lt : i < n). get_or-replicate n i 0 0 lt) (λ (le : n ≤ i). get_or_past (blank n) i 0 (omega (arith, length-replicate {A = ℕ} n 0))) (cases_lt i n)

-- zeros are a disk whose header is shut
pub zeros_shut : (n : ℕ) (c : List ℕ) → c ≡ replicate n 0 → IsShut c
zeros_shut n c is = ap (λ (l : List ℕ). get_or l 32 0 % 2) is ∙ ap (λ (b : ℕ). b % 2) (zero_at n 32)

pub shut_or_none : (Was : Type 0) (c : List ℕ) → Was ⊎ IsShut c ⊎ HalfHolds 0 [] c → Was ⊎ IsShut c ⊎ StandsFor c []
shut_or_none Was c left = ⊎_elim (λ (was : Was). inl was) (λ (new : IsShut c ⊎ HalfHolds 0 [] c). inr (⊎_elim (λ (shut : IsShut c). inl shut) (λ (none : HalfHolds 0 [] c). inr (0, none)) new)) left

module _ (header : List ℕ) (is : header ≡ header_bytes) where
  header-length : length header ≡ 32
  header-length = ap length is

  -- while the header stands before its gate
  pub header_torn : (c : List ℕ) → Torn 0 (length header) (blank disk_bytes) c → IsShut c
  header_torn c torn = ap (λ (b : ℕ). b % 2) (torn.above 32 (omega (arith, header-length)) ∙ zero_at disk_bytes 32)

  module _ (mid c : List ℕ) (written : Written 0 header (blank disk_bytes) mid) (torn : Torn 32 1 mid c) where
    mid-size : length mid ≡ disk_bytes
    mid-size = written.torn.size ∙ length-replicate disk_bytes 0

    zeros : (i : ℕ) → 33 ≤ i → get_or c i 0 ≡ 0
    zeros i past = torn.above i past ∙ written.torn.above i (omega (arith, header-length)) ∙ zero_at disk_bytes i

    pub opened : get_or c 32 0 % 2 ≡ 1 → HalfHolds 0 [] c
    opened gate = record {
      journal = record {
        size = torn.size ∙ mid-size;
        header = apart 32 1 mid c 0 32 torn (omega (arith, mid-size, size_is)) (inl (omega arith)) ∙ ap (λ (k : ℕ). window 0 k mid) (sym header-length) ∙ written.there ∙ is;
        formatted = gate;
        picked = ap (λ (b : ℕ). b % 2) (zeros 33 (omega arith));
      };
      ends = record { row = tt; shut = ap (λ (b : ℕ). b % 2) (zeros 64 (omega arith)) };
      room = omega arith;
    }

    -- while its gate is opened
    pub gate_torn : IsShut c ⊎ HalfHolds 0 [] c
    gate_torn = ⊎_elim (λ (lt : get_or c 32 0 % 2 < 1). inl (omega arith)) (λ (le : 1 ≤ get_or c 32 0 % 2). inr (opened (omega arith))) (cases_lt (get_or c 32 0 % 2) 1)

  -- and then
  pub gate_done : (mid c : List ℕ) → Written 0 header (blank disk_bytes) mid → Written 32 (1 ∷ []) mid c → HalfHolds 0 [] c
  gate_done mid c written gate =
      let byte : get_or c 32 0 ≡ 1 = sym (window-byte 32 1 c 0 (omega arith)) ∙ ap (λ (l : List ℕ). get_or l 0 0) gate.there in
      opened mid c written gate.torn (omega (arith, byte))
