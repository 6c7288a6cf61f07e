use Rattle.std.proofs.Common.{rules, arith, ◌≡◌, ◌≤◌, ◌<◌, ◌+◌, ℕ, List, ◌++◌, length, ap, ◌∙◌, subst}
use Rattle.mj_angles.specs.Layout.{block_bytes_of}
use Rattle.rz_batch.specs.Batch.{batch_of}
use Rattle.rz_operation_model.specs.Ranges.{cut}
use Rattle.rz_file.specs.Ranges.{from_first_block}
use Rattle.rz_file.specs.declared.span.Aim.{Aim}
use Rattle.rz_file.specs.Inside.{IsBatchText, IsBatched, IsAimed}
use Rattle.rz_file.proofs.Places.{placed-within, placed-same}
use Rattle.rz_file.proofs.steps.give.Goals as goal

pub returns-clause-inside : goal.returns-clause-inside
returns-clause-inside c =
    let layout = c.args.layout in
    let span = c.args.span.now in
    let range = span.range in
    let bytes : List ℕ = span.bytes.items in
    let batched : span.batch ≡ batch_of layout (from_first_block layout range.offset bytes) =
    subst (λ (a : Aim). IsBatched layout a range.offset bytes span.batch) c.requires.aim c.requires.span.batched in
    let aimed : span.bytes.len ≡ range.size = subst (λ (a : Aim). IsAimed a span) c.requires.aim c.requires.span.aimed in
    let long : length bytes ≡ span.bytes.len = search rules in
    let some : 0 < block_bytes_of layout = omega (arith, c.block_bytes.ensures.value, c.block_bytes.ensures.least) in
    let ends : range.done + block_bytes_of layout ≤ length bytes = omega (arith, c.place.ensures.ends, aimed, long) in
    let text : c.push_cut.new.bytes.items ≡ cut range.done (block_bytes_of layout) bytes =
    c.push_cut.ensures.items ∙ ap (λ (l : List ℕ). l ++ cut range.done c.block_bytes.result c.deref.result.now) c.clear.ensures.items
    ∙ ap (λ (n : ℕ). cut range.done n c.deref.result.now) c.block_bytes.ensures.value ∙ ap (cut range.done (block_bytes_of layout)) c.deref.ensures.value in
    let placed : IsBatchText layout (record span { text = c.push_cut.new.bytes }) c.place.result = record {
      within = placed-within layout range.offset range.done c.place.result bytes span.batch some batched c.place.ensures.at ends;
      same = placed-same layout range.offset range.done c.place.result bytes c.push_cut.new.bytes.items c.place.ensures.at ends text;
    } in
    search (rules, placed)
