-- Keys against the bounds of a file.
use Rattle.std.proofs.Common.{◌≡◌, ℕ, ◌<◌, ap, arith}
use Rattle.std.specs.declared.cmp.Ordering.TheVariants.{Less}
use Rattle.std.specs.Ordering.{nat_cmp, ordering_then, is_gt}
use Rattle.std.proofs.lemmas.Bool.Decides.{nat_tests}
use Rattle.std.specs.declared.ops.Bound.{Bound}
use Rattle.std.specs.declared.ops.Bound.TheVariants.{Included, Excluded, Unbounded}
use Rattle.std.specs.Range.Bound.{IsForward}
use Rattle.std.specs.BTreeMap.Range.{IsLeBy, IsLtBy}
use Rattle.rz_blocks.specs.Shown.{IsWithin, IsPast}
use Rattle.rz_events.specs.Keys.{key_cmp}
use Rattle.rz_events.specs.declared.keys.Key.{Key}

less-cmp : (a b : ℕ) → a < b → nat_cmp a b ≡ Less
less-cmp a b h = grind (arith, nat_tests)

-- keys of a lesser file stand before those of a greater one
pub lesser-file : (a b : Key) → a.fid < b.fid → key_cmp a b ≡ Less
lesser-file a b h = ap (λ r. ordering_then r (nat_cmp a.block b.block)) (less-cmp a.fid b.fid h)

-- from a bound at a key of a file to one past the file it goes forward
pub forward : (lo hi : Bound Key) (file : ℕ) → IsWithin lo file → IsPast hi file → IsForward (IsLeBy key_cmp) (IsLtBy key_cmp) lo hi
forward Unbounded hi file within past = absurd within
forward (Included a) (Included b) file within past = absurd past
forward (Included a) (Excluded b) file within past = ap is_gt (lesser-file a b (omega arith))
forward (Included a) Unbounded file within past = tt
forward (Excluded a) (Included b) file within past = absurd past
forward (Excluded a) (Excluded b) file within past = lesser-file a b (omega arith)
forward (Excluded a) Unbounded file within past = tt
