use Rattle.std.proofs.Common.{◌≡◌, ◌++◌, [], ◌∷◌, List, ℕ, refl, ap, subst, ◌∙◌}
use Rattle.rz_chronicle.specs.Keys.{word_key}
use Rattle.rz_chronicle.specs.Kinds.{history}
use Rattle.rz_chronicle.specs.Holds.{AreTokens, IsWordSettled, Stays, keys}
use Rattle.rz_chronicle.specs.Rules.{WordTokenView}
use Rattle.rz_chronicle.proofs.TokenLaws.{taken}
use Rattle.rz_chronicle.proofs.book.Book.settle_one.Goals as goal

pub absorb-requires-clause-theirs : goal.absorb-requires-clause-theirs
absorb-requires-clause-theirs g c =
    (taken (λ h. AreTokens g.J.Naming.counters g.J.Naming.copy g.J.Naming.kind c.word_token.inside.seen.log h × (h.held ≡ (word_key c.word_token.inside.word, c.word_token.inside.moved) ∷ [])) c.word_token.inside.tokens c.word_token.inside.tokens c.in-Some.theirs refl c.in-Some.is c.word_token.invariant.2).0

pub returns-in-Some-clause-same : goal.returns-in-Some-clause-same
returns-in-Some-clause-same g c =
    let o = taken (λ h. AreTokens g.J.Naming.counters g.J.Naming.copy g.J.Naming.kind c.word_token.inside.seen.log h × (h.held ≡ (word_key c.word_token.inside.word, c.word_token.inside.moved) ∷ [])) c.word_token.inside.tokens c.word_token.inside.tokens c.in-Some.theirs refl c.in-Some.is c.word_token.invariant.2 in
    let right : keys c.in-Some.theirs.held ≡ word_key c.args.word_token.word ∷ [] = ap keys o.1 ∙ ap (λ (v : WordTokenView). word_key v.word ∷ []) c.word_token.view_is in
    (c.absorb.ensures.same.0, c.absorb.ensures.same.1 ∙ ap (λ (ks : List ℕ). c.args.front.now.keys ++ ks) right)

pub returns-in-Some-clause-settles : goal.returns-in-Some-clause-settles
returns-in-Some-clause-settles g c =
    let o = taken (λ h. AreTokens g.J.Naming.counters g.J.Naming.copy g.J.Naming.kind c.word_token.inside.seen.log h × (h.held ≡ (word_key c.word_token.inside.word, c.word_token.inside.moved) ∷ [])) c.word_token.inside.tokens c.word_token.inside.tokens c.in-Some.theirs refl c.in-Some.is c.word_token.invariant.2 in
    subst (λ (v : WordTokenView). IsWordSettled v c.absorb.new.front.log) c.word_token.view_is
    (c.absorb.ensures.later.1, subst (λ (k : List ℕ). Stays k (history c.word_token.inside.seen.log) c.absorb.new.front.log) (ap keys o.1) c.absorb.ensures.gathers)
