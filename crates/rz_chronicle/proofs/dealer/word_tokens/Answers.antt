use Rattle.std.proofs.Common.{◌≡◌, ◌+◌, ◌<◌, ℕ, List, slice_get, slice_index_or, Some, sym, ap, ◌∙◌, arith}
use Rattle.std.proofs.lemmas.Option.{slice_get-get_or}
use Rattle.rz_events.specs.declared.events.Word.TheVariants.{Node}
use Rattle.rz_chronicle.specs.Keys.{word_key, rows, owner}
use Rattle.rz_chronicle.proofs.Rows.{rows-is}
use Rattle.rz_chronicle.proofs.Apart.{node-owner}
use Rattle.rz_chronicle.proofs.WordTokens.{not-before, left-next, word_tokens-next}
use Rattle.rz_chronicle.proofs.dealer.word_tokens.Goals as goal

pub word_token-word_token-requires-clause-held : goal.word_token-word_token-requires-clause-held
word_token-word_token-requires-clause-held g c =
    let nodes = c.args.nodes.now in let i = c.loop-i.i in let n = slice_index_or nodes i 0 in
    let at : slice_get nodes i ≡ Some n = slice_get-get_or nodes i 0 c.loop-i-test.true in
    let low : word_key (Node n) < rows = omega (arith, rows-is, c.type_inv.nodes i) in
    c.loop-i.invariant.1 n low (not-before nodes i n c.requires.nodes.1 at)

pub word_token-word_token-requires-clause-place : goal.word_token-word_token-requires-clause-place
word_token-word_token-requires-clause-place g c =
    let nodes = c.args.nodes.now in let i = c.loop-i.i in let n = slice_index_or nodes i 0 in
    let at : slice_get nodes i ≡ Some n = slice_get-get_or nodes i 0 c.loop-i-test.true in
    let few : i < 256 = omega (arith, c.loop-i-test.true, c.requires.nodes.2) in
    let place : ℕ = i + 1 in (
      omega (arith, few),
      ap (λ (sids : List ℕ). owner sids place) (sym c.requires.nodes.0) ∙ node-owner nodes i place n (omega arith) few at,
    )

pub loop-i-preserved : goal.loop-i-preserved
loop-i-preserved g c =
    let nodes = c.args.nodes.now in let i = c.loop-i.i in let n = slice_index_or nodes i 0 in let inv = c.loop-i.invariant in
    let at : slice_get nodes i ≡ Some n = slice_get-get_or nodes i 0 c.loop-i-test.true in (
      c.in_ok-push.ensures.items ∙ word_tokens-next nodes i n c.loop-i.word_tokens.items c.word_token-word_token.result.0 at inv.0 c.word_token-word_token.ensures.word_token,
      left-next nodes i n c.loop-i.dealer c.word_token-word_token.result.1 at inv.1 c.word_token-word_token.ensures.rest,
      λ k h apart. c.word_token-word_token.ensures.rest k (inv.2 k h apart) (apart n),
    )
