use Rattle.rz_run.proofs.laws.true_logs.Goals as goal

pub returns : goal.returns
returns c = λ v h legal.
    let in_runs = c.one_run.ensures v h legal in
    record {
      legal = legal;
      sound = c.sound.ensures v h in_runs;
      answering = c.answering.ensures v h in_runs;
      written = c.written.ensures v h in_runs;
      rebuilt = c.rebuilt.ensures v h in_runs;
    }
