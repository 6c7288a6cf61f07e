use Rattle.std.proofs.Common.{◌≡◌, ◌++◌, List, ℕ, refl, sym, ap, subst, ◌∙◌}
use Rattle.rz_chronicle.specs.Keys.{IsLater}
use Rattle.rz_chronicle.specs.Holds.{AreTokens, AreTokensOf, Stays, keys}
use Rattle.rz_chronicle.specs.Rules.{PassView}
use Rattle.rz_chronicle.proofs.TokenLaws.{taken, taken-keys}
use Rattle.rz_chronicle.proofs.book.Book.gather.Goals as goal

pub absorb-requires-clause-theirs : goal.absorb-requires-clause-theirs
absorb-requires-clause-theirs g c =
    (taken (λ h. AreTokens g.J.Naming.counters g.J.Naming.copy g.J.Naming.kind c.other.inside.seen.log h × AreTokensOf c.other.inside.actor h.held) c.other.inside.tokens c.other.inside.tokens c.in-Some.theirs refl c.in-Some.is c.other.invariant.2).0

pub returns-in-Some-clause-same : goal.returns-in-Some-clause-same
returns-in-Some-clause-same g c =
    let right : keys c.in-Some.theirs.held ≡ c.args.other.keys = sym (taken-keys c.other.inside.tokens c.other.inside.tokens c.in-Some.theirs refl c.in-Some.is) ∙ ap (λ (v : PassView). v.keys) c.other.view_is in
    (c.absorb.ensures.same.0, c.absorb.ensures.same.1 ∙ ap (λ (ks : List ℕ). c.args.front.now.keys ++ ks) right)

pub returns-in-Some-clause-later : goal.returns-in-Some-clause-later
returns-in-Some-clause-later g c =
    (c.absorb.ensures.later.0, subst (λ (v : PassView). IsLater v.log c.absorb.new.front.log) c.other.view_is c.absorb.ensures.later.1)

pub returns-in-Some-clause-gathers : goal.returns-in-Some-clause-gathers
returns-in-Some-clause-gathers g c =
    let ks = sym (taken-keys c.other.inside.tokens c.other.inside.tokens c.in-Some.theirs refl c.in-Some.is) in
    subst (λ (v : PassView). Stays v.keys v.log c.absorb.new.front.log) c.other.view_is
    (subst (λ (k : List ℕ). Stays k (Rattle.rz_chronicle.specs.Kinds.history c.other.inside.seen.log) c.absorb.new.front.log) ks c.absorb.ensures.gathers)
