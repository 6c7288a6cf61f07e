use Rattle.std.proofs.Common.{◌≡◌, ◌+◌, ◌<◌, ◌∷◌, [], ℕ, length, length-append, set, slice_index_or, sym, ap, ◌∙◌, subst, arith}
use Rattle.std.proofs.lemmas.List.{length-set}
use Rattle.rz_chronicle.specs.Keys.{key_at, rows}
use Rattle.rz_chronicle.specs.Rules.{AreBookWords, named}
use Rattle.rz_chronicle.specs.Dealing.{IsPenFor}
use Rattle.rz_chronicle.proofs.Adding.{words_more}
use Rattle.rz_chronicle.proofs.Pens.{Remain, remain-next, pen-named}
use Rattle.rz_chronicle.proofs.start.words.Goals as goal

pub loop-place-preserved : goal.loop-place-preserved
loop-place-preserved c =
    let inv = c.loop-place.invariant in let i = c.loop-place.place in let nodes = c.args.nodes.now in let pens = c.loop-place.pens.items in let ws = c.loop-place.words.items in
    let k : ℕ = key_at nodes i in let pen = c.index_mut.result.now in
    let key : c.key_at-key.result ≡ k = c.key_at-key.ensures.value in
    let items = c.in_ok-push.ensures.items in
    let low : k < rows = subst (λ (j : ℕ). j < rows) key c.key_at-key.ensures.low in
    let few : i < 338 = c.loop-place-test.true in (
      omega (arith, ap length items, length-append ws (c.tracked.result ∷ []), inv.0),
      length-set pens c.key_at-key.result c.tracked.new.pen ∙ inv.1,
      λ b fresh.
          let both = inv.2 b fresh in
          let at : IsPenFor b k (slice_index_or pens k pen) = both.1 i pen (omega arith) few low in
          let here : slice_index_or pens k pen ≡ pen = ap (λ (j : ℕ). slice_index_or pens j pen) (sym key) ∙ sym c.index_mut.ensures.value in
          let word : c.tracked.result ≡ named b k = pen-named b k pen c.tracked.result c.tracked.ensures.0 (subst (IsPenFor b k) here at) in (
            subst (AreBookWords b nodes) (sym items) (words_more b nodes ws c.tracked.result (word ∙ ap (λ (j : ℕ). named b (key_at nodes j)) (sym inv.0)) both.0),
            subst (λ (j : ℕ). Remain b nodes (i + 1) (set pens j c.tracked.new.pen)) (sym key) (remain-next b nodes i pens c.tracked.new.pen c.requires.nodes few both.1),
          ),
    )
