use Rattle.std.proofs.Common.{◌≡◌, [], List, sym, ap, subst}
use Rattle.rz_events.specs.declared.events.Event.{Event}
use Rattle.rz_events.specs.declared.events.Word.TheVariants.{Own}
use Rattle.rz_chronicle.specs.Keys.{word_key, count_at}
use Rattle.rz_chronicle.specs.Kinds.{history, HavePlaces, Fits}
use Rattle.rz_chronicle.specs.Holds.{AreTokens, AreTokensOf}
use Rattle.rz_chronicle.proofs.TokenLaws.{pass-first}
use Rattle.rz_chronicle.proofs.passes.Pass.of_tokens.Goals as goal

pub invariant_of-result : goal.invariant_of-result
invariant_of-result g c =
    let δ = g.J.Naming.counters in let η = g.J.Naming.copy in let kind = g.J.Naming.kind in let h = c.args.tokens in
    let first = pass-first δ η kind c.args.actor h c.requires.names.0 c.requires.names.1 c.requires.names.2 c.requires.names.3 c.requires.held c.requires.member in
    let log = c.args.seen.log in let empty : log ≡ [] = c.requires.seen.2 in (
      c.requires.seen.0,
      c.requires.seen.1,
      subst (λ (l : List Event). AreTokens δ η kind l h × AreTokensOf c.args.actor h.held) (sym empty) first,
      ap (count_at (word_key (Own c.args.actor))) (sym empty),
      c.requires.member,
      subst (λ (l : List Event). Fits kind (history l)) (sym empty) c.requires.fit,
      subst (λ (l : List Event). HavePlaces kind (history l)) (sym empty) tt,
      c.requires.earlier,
    )
