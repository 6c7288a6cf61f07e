use Rattle.std.proofs.Common.{◌≡◌, ◌∙◌, sym, subst, arith}
use Rattle.rz_events.specs.declared.events.Word.TheVariants.{Own}
use Rattle.rz_chronicle.specs.Keys.{count_at, word_key}
use Rattle.rz_chronicle.specs.Rules.{PassView}
use Rattle.rz_chronicle.proofs.Histories.{count_history}
use Rattle.rz_chronicle.proofs.passes.Pass.has_room_after.Goals as goal

pub returns : goal.returns
returns g c =
    let n : c.self.inside.moved ≡ count_at (word_key (Own c.args.self.now.actor)) c.args.self.now.log =
    subst (λ (v : PassView). c.self.inside.moved ≡ count_at (word_key (Own v.actor)) v.log) c.self.view_is
    (c.self.invariant.3 ∙ sym (count_history (word_key (Own c.self.inside.actor)) c.self.inside.seen.log)) in
    (λ h. grind (arith, n, h), λ h. grind (arith, n, h))
