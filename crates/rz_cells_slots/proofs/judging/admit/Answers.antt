use Rattle.rz_cells_slots.proofs.Firsts.{firsts_none, firsts_more}
use Rattle.rz_cells_slots.proofs.judging.admit.Goals as goal

pub returns-in-None-clause-firsts : goal.returns-in-None-clause-firsts
returns-in-None-clause-firsts c = firsts_none c.args.heads.now c.args.cell c.args.head.now c.requires.cell c.args.firsts.now c.args.firsts.now c.requires.firsts c.in-None.is

pub returns-in_ok-judge-in-Some-clause-firsts : goal.returns-in_ok-judge-in-Some-clause-firsts
returns-in_ok-judge-in-Some-clause-firsts c = firsts_more c.args.heads.now c.args.cell c.args.head.now c.requires.cell c.args.firsts.now c.note.new.firsts c.requires.firsts c.in-Some.head c.in-Some.is c.note.ensures.noted
