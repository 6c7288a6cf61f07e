use Rattle.std.proofs.Common.{◌<◌, ◌-◌, ◌^◌, ap, ◌∙◌, subst, sym, arith}
use Rattle.rz_report.specs.declared.counts.Counts.{Counts}
use Rattle.rz_report.specs.Summary.{AreBelow, noted}
use Rattle.rz_report.proofs.Counted.{counts-below, counts-more}
use Rattle.rz_report.proofs.counts.counts_of.Goals as goal

pub note-counts-requires : goal.note-counts-requires
note-counts-requires c =
    let i = c.events.event-index in
    let small : i < 2 ^ 64 - 1 = omega arith in
    subst (λ (k : Counts). AreBelow k (2 ^ 64 - 1)) (sym c.events.invariant) (counts-below c.args.log.now i (2 ^ 64 - 1) (omega arith) small)

pub events-preserved : goal.events-preserved
events-preserved c =
    let x = c.event-item.result in
    c.note-counts.ensures ∙ ap (λ (k : Counts). noted k x) c.events.invariant
    ∙ counts-more c.args.log.now c.events.event-index x c.events-test.true c.event-item.is
