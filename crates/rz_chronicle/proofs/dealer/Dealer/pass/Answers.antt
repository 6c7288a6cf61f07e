use Rattle.rz_chronicle.proofs.Dealing.{held-next, held-two}
use Rattle.rz_chronicle.proofs.dealer.Dealer.pass.Goals as goal

pub one-by-requires : goal.one-by-requires
one-by-requires g c = held-next c.args.actor c.key_of-key.result c.args.self c.one-own.result.1 c.key_of-key.ensures.value c.one-own.ensures.rest c.requires.held.1

pub returns-clause-rest : goal.returns-clause-rest
returns-clause-rest g c =
    λ k h apart apart2. held-two c.args.actor k c.key_of-key.result c.args.self c.one-own.result.1 c.one-by.result.1 c.key_of-key.ensures.value c.one-own.ensures.rest c.one-by.ensures.rest h apart apart2
