-- The place of a whole block of a range among the blocks that begin in it.
use Rattle.std.proofs.Common.{◌≡◌, ℕ, ◌+◌, ◌-◌, ◌*◌, ◌/◌, ◌<◌, ◌≤◌, sym, ap, ◌∙◌, arith, List, length, take, drop, replicate}
use Rattle.std.proofs.Math.Nat.{add-mul}
use Rattle.std.proofs.lemmas.Nat.{le-div}
use Rattle.std.proofs.lemmas.List.{drop-drop, length-drop, take-append-le}
use Rattle.std.proofs.lemmas.List.FromFn.{length-map-range_with_len}
use Rattle.mj_angles.specs.declared.layout.Layout.{Layout}
use Rattle.mj_angles.specs.Layout.{block_bytes_of, inverse_of, cols_of}
use Rattle.rz_words.specs.Grid.{grid_from_bytes}
use Rattle.rz_batch.specs.Batch.{Projections, batch_of, block_at, projections_of}
use Rattle.rz_writer.specs.Machine.{block_of}
use Rattle.rz_operation_model.specs.Ranges.{cut}
use Rattle.rz_file.specs.Ranges.{lead_of, from_first_block}

-- the batch has a block at this place
pub placed-within : (layout : Layout) (offset done place : ℕ) (bytes : List ℕ) (batch : Projections) → 0 < block_bytes_of layout →
    batch ≡ batch_of layout (from_first_block layout offset bytes) → lead_of layout offset + place * block_bytes_of layout ≡ done →
    done + block_bytes_of layout ≤ length bytes → place < length batch.blocks
placed-within layout offset done place bytes batch some made at ends =
    let size : ℕ = block_bytes_of layout in
    let rest : List ℕ = from_first_block layout offset bytes in
    let long = length-drop (lead_of layout offset) bytes in
    let next = add-mul place 1 size in
    let low : place + 1 ≤ length rest / size = le-div (place + 1) (length rest) size some (omega (arith, long, next, at, ends)) in
    let count : length batch.blocks ≡ length rest / size =
    ap (λ (b : Projections). length b.blocks) made ∙ length-map-range_with_len (λ i. projections_of layout (block_at layout rest i)) 0 (length rest / size) in
    omega (arith, low, count)

-- its text is that of the bytes from there on
pub placed-same : (layout : Layout) (offset done place : ℕ) (bytes text : List ℕ) → lead_of layout offset + place * block_bytes_of layout ≡ done →
    done + block_bytes_of layout ≤ length bytes → text ≡ cut done (block_bytes_of layout) bytes →
    block_at layout (from_first_block layout offset bytes) place ≡ block_of layout text
placed-same layout offset done place bytes text at ends is =
    let size : ℕ = block_bytes_of layout in
    let from : ℕ = place * size in
    let nil : ℕ = 0 in
    let rest : List ℕ = from_first_block layout offset bytes in
    let long : size ≤ length (drop done bytes) = omega (arith, length-drop done bytes, ends) in
    let width : (from + size) - from ≡ size = omega arith in
    ap (grid_from_bytes (inverse_of layout) (cols_of layout))
    (ap (λ n. take n (drop from rest)) width
    ∙ ap (take size) (drop-drop from (lead_of layout offset) bytes ∙ ap (λ n. drop n bytes) at)
    ∙ sym (take-append-le size (drop done bytes) (replicate size nil) long)
    ∙ sym is)
