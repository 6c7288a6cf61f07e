use Rattle.std.proofs.Common.{◌≡◌, ◌+◌, ◌-◌, ◌*◌, ◌/◌, ◌≤◌, refl, arith}
use Rattle.rz_config.specs.Sizes.{slot_bytes_of}
use Rattle.rz_store_file.proofs.Pairs.{pair_bytes, pairs_fit, no_more_fit, min_either}
use Rattle.rz_store_file.proofs.sizes.cells_within.Goals as goal

pub returns-clause-within : goal.returns-clause-within
returns-clause-within c =
    let same : c.in_ok-cells.field-0 / (2 + 4 * (48 + 8 * c.max_bins.result)) ≡ (c.args.bytes - 64) / pair_bytes (slot_bytes_of c.args.layout) = rw (c.in_ok-cells.ensures.1, c.max_bins.ensures.value) refl in
    let few : c.min.result ≤ (c.args.bytes - 64) / pair_bytes (slot_bytes_of c.args.layout) = omega (arith, c.min.ensures, same) in
    pairs_fit c.min.result c.args.bytes (slot_bytes_of c.args.layout) c.in_ok-cells.ensures.0 few

pub returns-clause-most : goal.returns-clause-most
returns-clause-most c =
    let same : c.in_ok-cells.field-0 / (2 + 4 * (48 + 8 * c.max_bins.result)) ≡ (c.args.bytes - 64) / pair_bytes (slot_bytes_of c.args.layout) = rw (c.in_ok-cells.ensures.1, c.max_bins.ensures.value) refl in
    no_more_fit c.min.result ((c.args.bytes - 64) / pair_bytes (slot_bytes_of c.args.layout)) c.args.bytes (slot_bytes_of c.args.layout) refl
    (min_either c.min.result ((c.args.bytes - 64) / pair_bytes (slot_bytes_of c.args.layout)) 1048576 (rw (← same) c.min.ensures))
