use Rattle.std.proofs.Common.{◌∙◌}
use Rattle.rz_chronicle.proofs.Dealing.{held-one}
use Rattle.rz_chronicle.proofs.dealer.Dealer.word_token.Goals as goal

pub returns-clause-rest : goal.returns-clause-rest
returns-clause-rest g c =
    λ k h apart. held-one k c.key_of.result c.args.self c.one-tokens.result.1 c.one-tokens.ensures.rest h (λ e. apart (e ∙ c.key_of.ensures.value))
