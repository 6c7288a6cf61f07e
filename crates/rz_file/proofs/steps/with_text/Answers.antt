use Rattle.std.proofs.Common.{arith, ℕ, List, ◌+◌, ◌++◌, ◌≤◌, length, take, ap, sym, ◌∙◌, ◌≡◌, subst, rules}
use Rattle.mj_angles.specs.Layout.{block_bytes_of}
use Rattle.rz_operation_model.specs.Ranges.{Aim as AimOf, Taking, cut, patched, start_in}
use Rattle.rz_operation_model.specs.Files.{FileState, Writes, go_on, with_text, writes_block}
use Rattle.rz_file.specs.declared.span.Aim.{Aim}
use Rattle.rz_file.specs.declared.span.Span.{Span}
use Rattle.rz_file.specs.Writing.{BlockWrite}
use Rattle.rz_file.specs.Inside.{aim_of, range_in, state_of}
use Rattle.rz_file.proofs.Lengths.{length-take_le, length-patched_le}
use Rattle.rz_file.proofs.steps.with_text.Goals as goal

pub patch-requires-clause-room : goal.patch-requires-clause-room
patch-requires-clause-room c =
    omega (arith, length-take_le c.args.size c.deref-in-Giving.result.now, c.start-start.ensures.value, c.count-count.ensures.within)

pub write_block-requires-clause-short : goal.write_block-requires-clause-short
write_block-requires-clause-short c =
    let start = c.start-start.result in
    let count = c.count-count.result in
    let ends : start + count ≤ block_bytes_of c.args.layout = omega (arith, c.start-start.ensures.value, c.count-count.ensures.within) in
    let found : List ℕ = take c.args.size c.deref-in-Giving.result.now in
    let short : length found ≤ block_bytes_of c.args.layout = omega (arith, length-take_le c.args.size c.deref-in-Giving.result.now) in
    subst (λ (text : List ℕ). length text ≤ block_bytes_of c.args.layout) (sym c.patch.ensures.items)
    (length-patched_le start c.args.span.now.range.done count (block_bytes_of c.args.layout) c.deref-in-Giving-2.result.now found ends short)

pub returns-in-Taking-clause-state : goal.returns-in-Taking-clause-state
returns-in-Taking-clause-state c =
    let layout = c.args.layout in
    let r = range_in c.args.span.now in
    let n = c.count-count.result in
    let at : ℕ → AimOf → FileState = λ k a. go_on layout (record r { done = r.done + k; aim = a }) in
    let bytes = c.args.span.now.bytes.items in
    let found : List ℕ = take c.args.size c.args.span.now.found.items in
    let same : c.deref.result.now ≡ c.args.span.now.found.items = search rules in
    c.go_on.ensures.state
    ∙ ap (λ (a : Aim). at n (aim_of a c.push_cut.new.bytes.items)) c.in-Taking.is
    ∙ ap (λ (l : List ℕ). at n (Taking l)) c.push_cut.ensures.items
    ∙ ap (λ (l : List ℕ). at n (Taking (bytes ++ cut c.start-start.result n (take c.args.size l)))) same
    ∙ ap (λ (s : ℕ). at n (Taking (bytes ++ cut s n found))) c.start-start.ensures.value
    ∙ ap (λ (k : ℕ). at k (Taking (bytes ++ cut (start_in layout r) k found))) c.count-count.ensures.value
    ∙ ap (λ (a : Aim). with_text layout r found (aim_of a bytes)) (sym c.in-Taking.is)

pub returns-in-Giving-clause-state : goal.returns-in-Giving-clause-state
returns-in-Giving-clause-state c =
    let layout = c.args.layout in
    let span : Span = record c.args.span.now { text = c.patch.new.out } in
    let r = range_in span in
    let bytes = c.args.span.now.bytes.items in
    let found : List ℕ = take c.args.size c.args.span.now.found.items in
    let same : c.deref-in-Giving.result.now ≡ c.args.span.now.found.items = search rules in
    let given : c.deref-in-Giving-2.result.now ≡ bytes = search rules in
    ap (state_of span c.args.reader.now.state c.write_block.new.writer.state) c.write_block.ensures.step
    ∙ ap (λ (w : BlockWrite). Writes r c.patch.new.out.items w.state) c.write_block.ensures.writer
    ∙ ap (writes_block layout r) (c.patch.ensures.items
    ∙ ap (λ (l : List ℕ). patched c.start-start.result (cut r.done c.count-count.result c.deref-in-Giving-2.result.now) (take c.args.size l)) same
    ∙ ap (λ (l : List ℕ). patched c.start-start.result (cut r.done c.count-count.result l) found) given
    ∙ ap (λ (s : ℕ). patched s (cut r.done c.count-count.result bytes) found) c.start-start.ensures.value
    ∙ ap (λ (k : ℕ). patched (start_in layout r) (cut r.done k bytes) found) c.count-count.ensures.value)
    ∙ ap (λ (a : Aim). with_text layout r found (aim_of a bytes)) (sym c.in-Giving.is)
