use Rattle.std.proofs.Common.{[], ◌∷◌, ℕ, sym, ap, subst, ◌∙◌}
use Rattle.rz_chronicle.proofs.Dealing.{none-count, none-without, AreNone}
use Rattle.rz_chronicle.proofs.dealer.Dealer.one.Goals as goal

pub invariant_of-result : goal.invariant_of-result
invariant_of-result g c =
    let i = c.self.invariant in let p = c.parted-one.ensures in (
      i.0,
      i.1,
      i.2,
      p.4 ∙ i.3,
      p.5 ∙ i.4,
      p.6 ∙ i.5,
      p.7 ∙ i.6,
      subst AreNone (sym p.9) (none-without c.args.key c.self.inside.tokens.held i.7),
      i.8,
      i.9,
    )

pub returns-clause-held : goal.returns-clause-held
returns-clause-held g c = c.parted-one.ensures.8 ∙ ap (λ (n : ℕ). (c.args.key, n) ∷ []) (none-count c.args.key c.self.inside.tokens.held c.self.invariant.7)
