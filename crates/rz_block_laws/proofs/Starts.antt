-- An operation of a script is one that a machine takes.
use Rattle.std.proofs.Common.{◌≡◌, ℕ, zero, suc, ◌+◌, ◌*◌, ◌%◌, ◌≤◌, map, length, refl, sym, ap, subst, arith}
use Rattle.std.specs.List.{range_with_len}
use Rattle.mj_angles.specs.Layout.{block_bytes_of}
use Rattle.rz_events.specs.Volume.{Volume}
use Rattle.rz_events.specs.declared.keys.Actor.{Actor}
use Rattle.rz_events.specs.declared.keys.Actor.TheVariants.{Client, Rebuilder, Admin}
use Rattle.rz_events.specs.declared.operations.Datum.{Datum}
use Rattle.rz_events.specs.declared.operations.Datum.TheVariants.{Bytes, Made}
use Rattle.rz_events.specs.declared.operations.Operation.{Operation}
use Rattle.rz_events.specs.declared.operations.Operation.TheVariants.{Tree, Put, Get, Write, Read, Rebuild, Update, View}
use Rattle.rz_operation_model.specs.Ranges.{bytes_of}
use Rattle.rz_operation.specs.Answers.{IsWithinLayout}
use Rattle.rz_script_words.specs.Limits.{datum_length}
use Rattle.rz_script.specs.Lines as line

length-made : (f : ℕ → ℕ) (a n : ℕ) → length (map f (range_with_len a n)) ≡ n
length-made f a zero = refl
length-made f a (suc n) = ap suc (length-made f (a + 1) n)

datum-length : (d : Datum) → length (bytes_of d) ≡ datum_length d
datum-length (Bytes bytes) = refl
datum-length (Made len seed) = length-made (λ i. (seed + 31 * i) % 256) 0 len

datum-short : (limit : ℕ) (d : Datum) → line.IsDatum limit d → length (bytes_of d) ≤ limit
datum-short limit (Bytes bytes) short = short.1
datum-short limit (Made len seed) short = let same = datum-length (Made len seed) in omega (arith, same, short.0)

within : (offset : ℕ) (d : Datum) → offset + datum_length d ≤ 4294967296 → offset + length (bytes_of d) ≤ 4294967296
within offset d le = subst (λ (n : ℕ). offset + n ≤ 4294967296) (sym (datum-length d)) le

of-client : (v : Volume) (op : Operation) → line.IsOfClient v op → IsWithinLayout v.layout op
of-client v (Tree call) fits = tt
of-client v (Put path block d) fits = datum-short (block_bytes_of v.layout) d fits.2
of-client v (Get path block) fits = tt
of-client v (Write path offset d) fits = within offset d fits.2
of-client v (Read path offset len) fits = fits.2
of-client v (Rebuild node) fits = absurd fits
of-client v (Update path offset d) fits = within offset d fits.2
of-client v (View path offset len) fits = fits.2

of-rebuilder : (v : Volume) (op : Operation) → line.IsOfRebuilder v op → IsWithinLayout v.layout op
of-rebuilder v (Rebuild node) fits = tt
of-rebuilder v _ fits = absurd fits

pub takes : (v : Volume) (by : Actor) (op : Operation) → line.IsOperation v by op → IsWithinLayout v.layout op
takes v (Client n) op fits = of-client v op fits
takes v (Rebuilder n) op fits = of-rebuilder v op fits
takes v Admin op fits = absurd fits
