use Rattle.std.proofs.Common.{ℕ, ◌≡◌, ◌+◌, ◌-◌, List, ◌++◌, ◌∙◌, length, take, drop, min, replicate, ap, arith}
use Rattle.rz_store.proofs.Cuts.{filled-in, filled-out}
use Rattle.rz_store.proofs.texts.fill_from.Goals as goal

pub returns-then-from-text : goal.returns-then-from-text
returns-then-from-text c =
    let text = c.args.text.now in
    let from = c.args.from in
    let n = length c.args.out.now in
    let r = c.min-common.result in
    let common = min n (length text - from) in
    let zeros : c.fill.new.self ≡ replicate n 0 = c.fill.ensures.after (λ y same. same) in
    let many : r ≡ common = c.min-common.ensures ∙ ap (λ (k : ℕ). min k (length text - from)) c.fill.ensures.len in
    let count : from + r - from ≡ r = omega arith in
    ap (λ (l : List ℕ). l ++ drop r c.fill.new.self) (c.copy_from_slice.ensures.after ∙ ap (λ (i : ℕ). take i (drop from text)) (count ∙ many))
    ∙ ap (λ (i : ℕ). take common (drop from text) ++ drop i c.fill.new.self) many
    ∙ ap (λ (l : List ℕ). take common (drop from text) ++ drop common l) zeros
    ∙ filled-in text from n c.if-from-text.true

pub returns-else-from-text : goal.returns-else-from-text
returns-else-from-text c = c.fill.ensures.after (λ y same. same) ∙ filled-out c.args.text.now c.args.from (length c.args.out.now) c.if-from-text.false
