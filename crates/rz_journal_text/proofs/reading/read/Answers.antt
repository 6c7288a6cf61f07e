-- What stands at the front with nothing behind it is all.
use Rattle.std.proofs.Common.{ℕ, List, IfOk, sym, subst, arith}
use Rattle.rz_journal_text.specs.Spelling.{Spells}
use Rattle.rz_journal_text.proofs.Steps.{Bytes}
use Rattle.rz_journal_text.proofs.EntryLaws.{found_so, exact_so}
use Rattle.rz_journal_text.proofs.reading.read.Goals as goal

pub returns-clause-found : goal.returns-clause-found
returns-clause-found c =
    let small : Bytes c.args.bytes.now = λ k. omega (arith, c.type_inv.bytes k) in
    subst (λ (l : List ℕ). IfOk c.read_whole.result (Spells l)) c.of-front.ensures
    (found_so c.read_whole.result c.of-front.result c.read_whole.new.front (subst Bytes (sym c.of-front.ensures) small) c.read_whole.ensures)

pub returns-clause-exact : goal.returns-clause-exact
returns-clause-exact c e is =
    exact_so c.read_whole.result c.of-front.result c.read_whole.new.front e c.read_whole.ensures (subst (λ (l : List ℕ). Spells l e) (sym c.of-front.ensures) is)
