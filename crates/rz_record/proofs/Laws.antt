-- The laws of records that hold of any bytes.
use Rattle.std.proofs.Common.{◌≡◌, ℕ, ◌+◌, ◌*◌, ◌<◌, ◌≤◌, Option, Some, None, List, map, length, take, get_or, refl, sym, ◌∙◌, ap, subst, arith}
use Rattle.std.proofs.Math.Nat.{mul-le-mul_left}
use Rattle.std.proofs.lemmas.List.{take_all}
use Rattle.std.proofs.lemmas.List.FromFn.{length-map-range_with_len, get_or-map-range_with_len}
use Rattle.std.specs.List.{range_with_len}
use Rattle.mj_angles.proofs.Numbers.{bins_at-le, layout-from_numbers}
use Rattle.rz_events.specs.declared.keys.Key.{Key}
use Rattle.rz_events.specs.declared.records.Head.{Head}
use Rattle.rz_record.specs.Fields.{number_at}
use Rattle.rz_record.specs.Record.{IsValid, IsHead, HasBins, IsRecord, bins_of, record_bytes, slot_bytes}
use Rattle.rz_record.specs.Slot.{Rec, Reads, Spells}
use Rattle.rz_record.proofs.Codec.{record-front, one_bins}

-- bytes begin with one head at most
pub one_head : (bytes : List ℕ) (h k : Head) → IsHead bytes h → IsHead bytes k → h ≡ k
one_head bytes h k is-h is-k =
    let stamp : h.stamp ≡ k.stamp = is-h.stamp ∙ sym is-k.stamp in
    let fid : h.key.fid ≡ k.key.fid = is-h.fid ∙ sym is-k.fid in
    let block : h.key.block ≡ k.key.block = is-h.block ∙ sym is-k.block in
    let bsize : h.bsize ≡ k.bsize = is-h.bsize ∙ sym is-k.bsize in
    let layout : h.layout ≡ k.layout = layout-from_numbers h.layout k.layout (is-h.layout ∙ sym is-k.layout) (sym is-h.valid.bsize ∙ bsize ∙ is-k.valid.bsize) in
    let position : h.position ≡ k.position = is-h.position ∙ sym is-k.position in
    let text_length : h.length ≡ k.length = is-h.text_length ∙ sym is-k.text_length in
    let base : h.base ≡ k.base = is-h.base ∙ sym is-k.base in
    λ i. record {
      stamp = stamp i;
      key = record { fid = fid i; block = block i };
      layout = layout i;
      bsize = bsize i;
      position = position i;
      length = text_length i;
      base = base i;
    }

-- bytes are read in one way at most
pub one_reading : (bytes : List ℕ) (o p : Option Rec) → Reads bytes o → Reads bytes p → o ≡ p
one_reading bytes None None a b = refl
one_reading bytes None (Some r) a b = absurd (b.head.valid.some (b.head.stamp ∙ a))
one_reading bytes (Some r) None a b = absurd (a.head.valid.some (a.head.stamp ∙ b))
one_reading bytes (Some r) (Some q) a b =
    let heads : r.head ≡ q.head = one_head bytes r.head q.head a.head b.head in
    let bins : r.bins ≡ q.bins = one_bins bytes r.bins q.bins (a.count ∙ ap bins_of heads ∙ sym b.count) a.behind b.behind in
    λ i. Some record { head = heads i; bins = bins i }

-- a record fits a slot of its layout
pub record-fits : (h : Head) → IsValid h → record_bytes h ≤ slot_bytes h.layout
unfolding bins_of slot_bytes
record-fits h valid = let le = bins_at-le h.layout h.position valid.position in omega (arith, mul-le-mul_left 8 le)

-- the numbers behind a head
abbrev pub numbers_behind : List ℕ → ℕ → List ℕ
numbers_behind bytes n = map (λ k. number_at (48 + 8 * k) 8 bytes) (range_with_len 0 n)

-- a head with enough bytes behind it is the head of a record
pub record-of_head : (bytes : List ℕ) (h : Head) → IsHead bytes h → record_bytes h ≤ length bytes → IsRecord bytes h (numbers_behind bytes (bins_of h))
record-of_head bytes h is room =
    let count : length (numbers_behind bytes (bins_of h)) ≡ bins_of h = length-map-range_with_len (λ (k : ℕ). number_at (48 + 8 * k) 8 bytes) 0 (bins_of h) in
    record { head = is; count = count; behind = record { room = omega (arith, count); each = λ k lt. get_or-map-range_with_len (λ (j : ℕ). number_at (48 + 8 * j) 8 bytes) 0 (bins_of h) k k 0 (omega (arith, count)) (omega arith) } }

-- the bytes of a record spell it in any slot that has room
pub record-spells : (size : ℕ) (bytes : List ℕ) (r : Rec) → IsRecord bytes r.head r.bins → length bytes ≡ record_bytes r.head → record_bytes r.head ≤ size → Spells size bytes (Some r)
record-spells size bytes r is long room slot long-slot same =
    record-front slot bytes r.head r.bins (ap (λ (n : ℕ). take n slot) (sym long) ∙ same ∙ sym (take_all (record_bytes r.head) bytes (omega arith))) (omega arith) is
