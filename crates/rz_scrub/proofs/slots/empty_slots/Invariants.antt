use Rattle.std.proofs.Common.{◌≡◌, ℕ, ◌<◌, None, length, get_or, vec_len}
use Rattle.std.specs.Prelude.{All}
use Rattle.mj_angles.specs.Layout.{bins_at_of}
use Rattle.rz_scrub.specs.Inside.{bins_in}
use Rattle.rz_scrub.specs.declared.slots.BinSlot.{BinSlot}
use Rattle.rz_scrub.proofs.slots.empty_slots.Given as goal

abbrev pub invariant-loop-position : goal.invariant-loop-position
invariant-loop-position l = record {
  count : length l.slots.items ≡ l.position;
  rooms : (position : ℕ) (d : BinSlot) → position < length l.slots.items → vec_len (get_or l.slots.items position d).bins ≡ bins_at_of l.layout position;
  empty : All (λ slot. bins_in slot ≡ None) l.slots.items;
}
