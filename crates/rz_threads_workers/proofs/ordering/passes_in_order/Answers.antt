use Rattle.std.proofs.Common.{◌∙◌}
use Rattle.rz_threads_workers.proofs.Rolls.{all-dealt}
use Rattle.rz_threads_workers.proofs.ordering.passes_in_order.Goals as goal

pub returns : goal.returns
returns g c = c.in_ok-append.ensures.items ∙ all-dealt c.args.clients.items c.args.rebuilders.items c.requires.clients c.requires.rebuilders
