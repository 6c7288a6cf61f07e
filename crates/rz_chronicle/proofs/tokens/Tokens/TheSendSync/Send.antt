use denote.Param.Send.{IsSend}
use Rattle.rz_chronicle.proofs.Trades.{tokens_keyless}
use Rattle.rz_chronicle.specs.contracts.tokens.Tokens.{the_row}

pub send : IsSend the_row
send = record { owned = λ d vs. ((λ vss. (tt, ((λ uss. (tt, tt)), tt))), tokens_keyless d.counters d.copy d.held d.log); leaving = λ k f vs. tt }
