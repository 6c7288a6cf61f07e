use Rattle.std.proofs.Common.{subst, sym, rules}
use Rattle.rz_rebuild.specs.declared.step.RebuildStep.{RebuildStep}
use Rattle.rz_rebuild.specs.declared.step.RebuildStep.TheVariants as step
use Rattle.rz_rebuild.specs.Machine.{FitsIfEnough}
use Rattle.rz_rebuild.specs.Kinds.{IsProbed, IsEnrolled, IsReplaced, IsRefillDone}
use Rattle.rz_rebuild.specs.Inside.{machine_of}
use Rattle.rz_rebuild.proofs.Still.{answered-still, plain-probed, plain-enrolled, plain-replaced, plain-refilled}
use Rattle.rz_rebuild.proofs.rebuilder.after.Goals as goal

pub returns-in-Probing-clause-goes : goal.returns-in-Probing-clause-goes
returns-in-Probing-clause-goes c =
    let kind : IsProbed c.args.answer = search rules in
    subst (λ (s : RebuildStep). FitsIfEnough (machine_of c.args.layout c.args.node c.args.reader.now s) c.args.answer c.args.bins.now
    (machine_of c.args.layout c.args.node c.args.reader.now c.after_probe.result)) (sym c.in-Probing.is)
    (answered-still c.args.layout c.args.node c.args.reader.now step.Probing c.after_probe.result c.args.answer c.args.bins.now
    (plain-probed c.args.answer kind) c.after_probe.ensures.still (c.after_probe.ensures.state c.args.layout c.args.reader.now.state))

pub returns-in-Enrolling-clause-goes : goal.returns-in-Enrolling-clause-goes
returns-in-Enrolling-clause-goes c =
    let kind : IsEnrolled c.args.answer = search rules in
    subst (λ (s : RebuildStep). FitsIfEnough (machine_of c.args.layout c.args.node c.args.reader.now s) c.args.answer c.args.bins.now
    (machine_of c.args.layout c.args.node c.args.reader.now c.after_enroll.result)) (sym c.in-Enrolling.is)
    (answered-still c.args.layout c.args.node c.args.reader.now (step.Enrolling c.in-Enrolling.loss) c.after_enroll.result c.args.answer c.args.bins.now
    (plain-enrolled c.args.answer kind) c.after_enroll.ensures.still (c.after_enroll.ensures.state c.args.layout c.args.reader.now.state))

pub returns-in-Replacing-clause-goes : goal.returns-in-Replacing-clause-goes
returns-in-Replacing-clause-goes c =
    let kind : IsReplaced c.args.answer = search rules in
    subst (λ (s : RebuildStep). FitsIfEnough (machine_of c.args.layout c.args.node c.args.reader.now s) c.args.answer c.args.bins.now
    (machine_of c.args.layout c.args.node c.args.reader.now c.after_replace.result)) (sym c.in-Replacing.is)
    (answered-still c.args.layout c.args.node c.args.reader.now (step.Replacing c.in-Replacing.loss c.in-Replacing.fence) c.after_replace.result c.args.answer c.args.bins.now
    (plain-replaced c.args.answer kind) c.after_replace.ensures.still (c.after_replace.ensures.state c.args.layout c.args.reader.now.state))

pub returns-in-Refilling-clause-goes : goal.returns-in-Refilling-clause-goes
returns-in-Refilling-clause-goes c =
    let kind : IsRefillDone c.args.answer = search rules in
    subst (λ (s : RebuildStep). FitsIfEnough (machine_of c.args.layout c.args.node c.args.reader.now s) c.args.answer c.args.bins.now
    (machine_of c.args.layout c.args.node c.args.reader.now c.after_refill.result)) (sym c.in-Refilling.is)
    (answered-still c.args.layout c.args.node c.args.reader.now (step.Refilling c.in-Refilling.copied c.in-Refilling.length) c.after_refill.result c.args.answer c.args.bins.now
    (plain-refilled c.args.answer kind) c.after_refill.ensures.still (c.after_refill.ensures.state c.args.layout c.args.reader.now.state))
