-- What lines weigh fits 64 bits.
use Rattle.std.proofs.Common.{ℕ, ◌+◌, ◌*◌, ◌/◌, ◌^◌, ◌<◌, ◌≤◌, List, [], ◌∷◌, length, arith, lit≤}
use Rattle.std.specs.Prelude.{sum_by}
use Rattle.std.specs.List.{AllByRecursion}
use Rattle.std.proofs.lemmas.List.Elements.{All-from_recursion}
use Rattle.std.proofs.lemmas.List.Sums.{sum_by-le}
use Rattle.mj_angles.specs.declared.layout.Layout.{Layout}
use Rattle.mj_angles.specs.declared.layout.Layout.TheVariants.{L0, L1, L2, L0B1, L0B2, L0B3, L1B1, L1B2, L1B3, L2B1, L2B2, L2B3}
use Rattle.rz_events.specs.declared.keys.Actor.TheVariants.{Client, Rebuilder, Admin}
use Rattle.rz_events.specs.Volume.{Volume}
use Rattle.rz_events.specs.declared.operations.Datum.{Datum}
use Rattle.rz_events.specs.declared.operations.Datum.TheVariants.{Bytes, Made}
use Rattle.rz_events.specs.declared.operations.Operation.{Operation}
use Rattle.rz_events.specs.declared.operations.Operation.TheVariants.{Tree, Put, Get, Write, Read, Rebuild, Update, View}
use Rattle.rz_script.specs.declared.line.Line.{Line}
use Rattle.rz_script.specs.declared.line.Line.TheVariants.{Op, Turn, Rounds, Rest, Stop, Start, Lose, Break, Miss}
use Rattle.rz_script_words.specs.Limits.{datum_length}
use Rattle.rz_script.specs.Lines.{IsLine, AreLines, IsOfClient, IsOfRebuilder, IsDatum}
use Rattle.rz_script.specs.Weights.{block_weight, range_weight, operation_weight, line_weight}

pub block_most : (y : Layout) → block_weight y ≤ 8
block_most L0 = lit≤ tt
block_most L1 = lit≤ tt
block_most L2 = lit≤ tt
block_most L0B1 = lit≤ tt
block_most L0B2 = lit≤ tt
block_most L0B3 = lit≤ tt
block_most L1B1 = lit≤ tt
block_most L1B2 = lit≤ tt
block_most L1B3 = lit≤ tt
block_most L2B1 = lit≤ tt
block_most L2B2 = lit≤ tt
block_most L2B3 = lit≤ tt

-- whole blocks of some pieces
ones : (n : ℕ) → 4096 * ((n / 4096 + 2) * 1) ≤ n + 65536
ones n = omega arith

twos : (n : ℕ) → 4096 * ((n / 8192 + 2) * 2) ≤ n + 65536
twos n = omega arith

fours : (n : ℕ) → 4096 * ((n / 16384 + 2) * 4) ≤ n + 65536
fours n = omega arith

eights : (n : ℕ) → 4096 * ((n / 32768 + 2) * 8) ≤ n + 65536
eights n = omega arith

pub range_most : (y : Layout) (n : ℕ) → 4096 * range_weight y n ≤ n + 65536
range_most L0 n = ones n
range_most L1 n = ones n
range_most L2 n = ones n
range_most L0B1 n = twos n
range_most L0B2 n = fours n
range_most L0B3 n = eights n
range_most L1B1 n = twos n
range_most L1B2 n = fours n
range_most L1B3 n = eights n
range_most L2B1 n = twos n
range_most L2B2 n = fours n
range_most L2B3 n = eights n

datum_most : (limit : ℕ) (d : Datum) → IsDatum limit d → datum_length d ≤ limit
datum_most limit (Bytes bytes) h = h.1
datum_most limit (Made len seed) h = h.0

client_most : (v : Volume) (op : Operation) → IsOfClient v op → operation_weight v.layout op ≤ 2 ^ 17
client_most v (Tree call) h = omega arith
client_most v (Put path block d) h = let b = block_most v.layout in omega (arith, b)
client_most v (Get path block) h = let b = block_most v.layout in omega (arith, b)
client_most v (Write path offset d) h =
    let len : datum_length d ≤ 134217728 = datum_most 134217728 d h.1 in
    let w = range_most v.layout (datum_length d) in
    omega (arith, w, len)
client_most v (Read path offset len) h = let w = range_most v.layout len in omega (arith, w, h.1)
client_most v (Rebuild node) h = absurd h
client_most v (Update path offset d) h =
    let len : datum_length d ≤ 134217728 = datum_most 134217728 d h.1 in
    let w = range_most v.layout (datum_length d) in
    omega (arith, w, len)
client_most v (View path offset len) h = let w = range_most v.layout len in omega (arith, w, h.1)

rebuilder_most : (v : Volume) (op : Operation) → IsOfRebuilder v op → operation_weight v.layout op ≤ 2 ^ 17
rebuilder_most v (Tree call) h = absurd h
rebuilder_most v (Put path block d) h = absurd h
rebuilder_most v (Get path block) h = absurd h
rebuilder_most v (Write path offset d) h = absurd h
rebuilder_most v (Read path offset len) h = absurd h
rebuilder_most v (Rebuild node) h = omega arith
rebuilder_most v (Update path offset d) h = absurd h
rebuilder_most v (View path offset len) h = absurd h

line_most : (v : Volume) (l : Line) → IsLine v l → line_weight v.layout l ≤ 2 ^ 17
line_most v (Op (Client n) op) h = client_most v op h.1
line_most v (Op (Rebuilder n) op) h = rebuilder_most v op h.1
line_most v (Op Admin op) h = absurd h.0
line_most v (Turn by k) h = omega arith
line_most v (Rounds k) h = omega arith
line_most v Rest h = omega arith
line_most v (Stop node) h = omega arith
line_most v (Start node) h = omega arith
line_most v (Lose node) h = omega arith
line_most v (Break node k pick) h = omega arith
line_most v (Miss by reply) h = omega arith

each_most : (v : Volume) (ls : List Line) → AreLines v ls → AllByRecursion (λ l. line_weight v.layout l ≤ 2 ^ 17) ls
each_most v [] h = tt
each_most v (l ∷ ls) h = (line_most v l h.0, each_most v ls h.1)

pub lines_fit : (v : Volume) (ls : List Line) → AreLines v ls → length ls < 2 ^ 32 → sum_by (line_weight v.layout) ls < 2 ^ 64
lines_fit v ls h few =
    let each = sum_by-le (line_weight v.layout) (2 ^ 17) ls (All-from_recursion (λ l. line_weight v.layout l ≤ 2 ^ 17) ls (each_most v ls h)) in
    omega (arith, each, few)
