use Rattle.std.proofs.Common.{subst}
use Rattle.rz_events.specs.declared.events.Word.TheVariants.{Own}
use Rattle.rz_chronicle.specs.Keys.{actor_key, word_key, IsOneOf}
use Rattle.rz_chronicle.specs.Rules.{PassView}
use Rattle.rz_chronicle.proofs.TokenLaws.{own-key, own-word}
use Rattle.rz_chronicle.proofs.passes.Pass.actor.Goals as goal

pub returns-clause-own : goal.returns-clause-own
returns-clause-own g c =
    subst (λ (v : PassView). IsOneOf (actor_key v.actor) v.keys) c.self.view_is
    (own-key g.J.Naming.counters g.J.Naming.copy g.J.Naming.kind c.self.inside.actor c.self.inside.seen.log c.self.inside.tokens c.self.invariant.2)

pub returns-clause-word : goal.returns-clause-word
returns-clause-word g c =
    subst (λ (v : PassView). IsOneOf (word_key (Own v.actor)) v.keys) c.self.view_is
    (own-word g.J.Naming.counters g.J.Naming.copy g.J.Naming.kind c.self.inside.actor c.self.inside.seen.log c.self.inside.tokens c.self.invariant.2)
