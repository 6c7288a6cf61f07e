use Rattle.std.proofs.Common.{rules, ◌≡◌, ◌+◌, ◌≤◌, false, Bool, length, replicate, sym, ◌∙◌, arith}
use Rattle.std.proofs.lemmas.List.{length-replicate}
use Rattle.rz_disk.proofs.Patches.{reached_at, no_mark}
use Rattle.rz_disk.proofs.medium.reach.Goals as goal

pub returns-clause-synced : goal.returns-clause-synced
returns-clause-synced c =
    let on = c.take_behind.ensures in
    let count : c.len.result ≡ length c.args.synced.now.items = search rules in
    let ordered : c.args.from + c.len.result ≤ c.args.end = search rules in
    reached_at 0 c.args.from (c.args.from + c.len.result) c.args.end c.args.synced.now.items c.take_behind.new.part.items c.args.text.now.items
    (omega (arith, count)) ordered c.requires.end on.size on.old on.taken

pub returns-clause-marks : goal.returns-clause-marks
returns-clause-marks c = λ size bound.
    let on = c.unmark_behind.ensures in
    let count : c.len.result ≡ length c.args.synced.now.items = search rules in
    let ordered : c.args.from + c.len.result ≤ c.args.end = search rules in
    reached_at false c.args.from (c.args.from + c.len.result) c.args.end c.args.marks.now.items c.unmark_behind.new.marks.items (replicate size false)
    (omega (arith, count, c.requires.one_length)) ordered
    (omega (arith, c.requires.end, bound, length-replicate {A = Bool} size false))
    on.size on.old
    (λ i lt. on.unmarked i lt ∙ sym (no_mark size (c.args.from + c.len.result + i)))
