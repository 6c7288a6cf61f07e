use Rattle.std.proofs.Common.{rules, ◌+◌, ◌-◌, ◌<◌, false, Bool, replicate, sym, ◌∙◌, arith}
use Rattle.std.proofs.lemmas.List.{length-replicate}
use Rattle.rz_disk.proofs.Patches.{begun, no_mark}
use Rattle.rz_disk.proofs.medium.begin_at.Goals as goal

pub returns-then-start-from-clause-marks : goal.returns-then-start-from-clause-marks
returns-then-start-from-clause-marks c = λ size bound.
    let on = c.unmark_before.ensures in
    let before : c.args.start < c.args.from.now = search rules in
    begun false c.args.start c.args.from.now (c.args.from.now - c.args.start) c.args.marks.now.items c.unmark_before.new.marks.items (replicate size false)
    (omega (arith, before))
    (omega (arith, bound, c.requires.fits, c.requires.one_length, length-replicate {A = Bool} size false))
    on.size
    (λ i lt. on.unmarked i lt ∙ sym (no_mark size (c.args.start + i)))
    on.old
