-- The text of a block that is written in part fits the block.
use Rattle.std.proofs.Common.{arith, ℕ, List, ◌+◌, ◌-◌, ◌++◌, ◌≤◌, ◌≡◌, length, take, drop, replicate, length-append, ◌∙◌}
use Rattle.std.proofs.Math.Nat.{min-eq_left, min-le_left}
use Rattle.std.proofs.lemmas.List.{length-replicate, length-take, length-drop}
use Rattle.rz_operation_model.specs.Ranges.{cut, patched}

pub length-take_le : (n : ℕ) (text : List ℕ) → length (take n text) ≤ n
length-take_le n text = omega (arith, length-take n text, min-le_left n (length text))

length-cut : (start count : ℕ) (text : List ℕ) → length (cut start count text) ≡ count
length-cut start count text =
    let nil : ℕ = 0 in
    let all : List ℕ = drop start text ++ replicate count nil in
    let long : count ≤ length all = omega (arith, length-append (drop start text) (replicate count nil), length-replicate count nil) in
    length-take count all ∙ min-eq_left long

length-patched : (start : ℕ) (bytes text : List ℕ) →
    length (patched start bytes text) ≡ start + length bytes + (length text - (start + length bytes))
length-patched start bytes text =
    let head : List ℕ = cut 0 start text in
    let rest : List ℕ = drop (start + length bytes) text in
    omega (arith, length-append (head ++ bytes) rest, length-append head bytes, length-cut 0 start text, length-drop (start + length bytes) text)

-- the bytes that stand in the text end within the block
pub length-patched_le : (start done count n : ℕ) (given text : List ℕ) → start + count ≤ n → length text ≤ n →
    length (patched start (cut done count given) text) ≤ n
length-patched_le start done count n given text ends short =
    omega (arith, length-patched start (cut done count given) text, length-cut done count given)
