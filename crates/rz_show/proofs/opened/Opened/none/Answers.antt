use Rattle.rz_show.proofs.Tables.{zeros_few, no_entry}
use Rattle.rz_show.proofs.opened.Opened.none.Goals as goal

pub invariant_of-result-clause-clients_few : goal.invariant_of-result-clause-clients_few
invariant_of-result-clause-clients_few c = λ i h. zeros_few 256 i

pub invariant_of-result-clause-rebuilders_few : goal.invariant_of-result-clause-rebuilders_few
invariant_of-result-clause-rebuilders_few c = λ i h. zeros_few 256 i

pub returns : goal.returns
returns c = no_entry 256
