use Rattle.std.proofs.Common.{refl, subst}
use Rattle.rz_node_model.specs.Afterwards.{after_answer}
use Rattle.rz_shared_locked.specs.declared.occupant.Occupant.{Occupant}
use Rattle.rz_shared_locked.specs.Occupants.{IsIn, CountsHere}
use Rattle.rz_shared_locked.proofs.occupant.serve_any.Goals as goal

pub returns-in-Here-clause-some : goal.returns-in-Here-clause-some
returns-in-Here-clause-some g c = λ s is. (c.serve.new.node.state, refl)

pub returns-in-Here-clause-counts : goal.returns-in-Here-clause-counts
returns-in-Here-clause-counts g c = λ first w by left was.
    c.serve.ensures.counts first c.args.sid w by left (subst (λ (o : Occupant g.row.D.Denot). CountsHere g.D.Disk.meter first w o) c.in-Here.is was)

pub returns-in-Away-clause-some : goal.returns-in-Away-clause-some
returns-in-Away-clause-some g c = λ s is.
    (after_answer c.args.ask.now c.answer.result s, c.answer.ensures.after s (subst (λ (o : Occupant g.row.D.Denot). IsIn o s) c.in-Away.is is))
