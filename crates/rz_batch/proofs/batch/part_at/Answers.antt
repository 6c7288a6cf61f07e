use Rattle.std.proofs.Common.{rules, ◌≤◌, ◌+◌, length}
use Rattle.mj_forward.proofs.Starts.{starts-rise}
use Rattle.mj_angles.specs.Layout.{safe_of}
use Rattle.rz_batch.proofs.batch.part_at.Goals as goal

pub overflow_add-to : goal.overflow_add-to
overflow_add-to c =
    let rise = starts-rise c.args.layout c.args.position (safe_of c.args.layout) c.requires.position in
    let within : c.start_of-from.result + c.bins_at.result ≤ length c.args.bins.now = rw (c.start_of-from.ensures.value, c.bins_at.ensures.value, c.requires.all) rise in
    search (rules, within)

pub slice_bounds-result-end : goal.slice_bounds-result-end
slice_bounds-result-end c =
    let rise = starts-rise c.args.layout c.args.position (safe_of c.args.layout) c.requires.position in
    let within : c.start_of-from.result + c.bins_at.result ≤ length c.args.bins.now = rw (c.start_of-from.ensures.value, c.bins_at.ensures.value, c.requires.all) rise in
    search (rules, within)
