use Rattle.std.proofs.Common.{◌≡◌, ℕ, ◌<◌, None, length, get_or, vec_len}
use Rattle.rz_scrub.specs.Inside.{bins_in}
use Rattle.rz_scrub.specs.declared.slots.BinSlot.{BinSlot}
use Rattle.rz_scrub.proofs.slots.empty.Given as goal

abbrev pub invariant-loop-slot : goal.invariant-loop-slot
invariant-loop-slot l = record {
  rooms : (k : ℕ) (d : BinSlot) → k < length l.slot-items → vec_len (get_or l.slot-items k d).bins ≡ vec_len (get_or l.initial.slot-items k d).bins;
  empty : (k : ℕ) (d : BinSlot) → k < l.slot-index → bins_in (get_or l.slot-items k d) ≡ None;
}
