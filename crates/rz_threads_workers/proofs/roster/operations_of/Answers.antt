use Rattle.std.proofs.Common.{◌++◌, ◌∷◌, [], sym, ap, ◌∙◌, List, take_all}
use Rattle.rz_events.specs.declared.operations.Operation.{Operation}
use Rattle.rz_play_locks.specs.Operations.{given}
use Rattle.rz_threads_workers.proofs.Rosters.{given-kept, given-more}
use Rattle.rz_threads_workers.proofs.roster.operations_of.Goals as goal

pub loop-line-preserved : goal.loop-line-preserved
loop-line-preserved c =
    let more = given-more c.args.by c.args.lines.now c.loop-line.line-index c.line-item.result c.loop-line-test.true c.line-item.is in
    let it = c.in_ok-add.ensures in
    it ∙ (ap (λ (ops : List Operation). ops ++ given c.args.by (c.line-item.result ∷ [])) c.loop-line.invariant ∙ sym more)

pub returns-clause-limits : goal.returns-clause-limits
returns-clause-limits c = λ v lines.
    rw (c.loop-line.invariant ∙ ap (given c.args.by) (take_all c.loop-line.line-index c.args.lines.now c.loop-line-test.false)) (given-kept v c.args.by c.args.lines.now lines)
