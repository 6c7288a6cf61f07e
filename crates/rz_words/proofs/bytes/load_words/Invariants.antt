use Rattle.std.proofs.Common.{◌≡◌, ◌*◌, ◌<◌, ℕ, get_or, drop}
use Rattle.byteorder.specs.Endian.{little_number}
use Rattle.rz_words.proofs.bytes.load_words.Given as goal

abbrev pub invariant-whole : goal.invariant-whole
invariant-whole l = (k : ℕ) → k < l.i → get_or l.words k 0 ≡ little_number 8 (drop (8 * k) l.bytes)

abbrev pub invariant-rest : goal.invariant-rest
invariant-rest l = (k : ℕ) → k < l.i → get_or l.words k 0 ≡ little_number 8 (drop (8 * k) l.bytes)
