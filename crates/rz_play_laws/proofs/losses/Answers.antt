use Rattle.std.proofs.Common.{◌≤◌, subst, ◌+◌}
use Rattle.rz_events.specs.declared.events.Event.{Event}
use Rattle.std.specs.Prelude.{List}
use Rattle.rz_play.specs.Faults.{missed, misses}
use Rattle.rz_play_laws.proofs.Misses as laws
use Rattle.rz_play_laws.proofs.losses.Goals as goal

pub returns : goal.returns
returns c = λ v lines nodes export old log p.
    subst (λ (h : List Event). missed h ≤ missed old + misses lines + p.last.lost) p.log_is
    (laws.losses-counted v lines nodes export old p.last p.played)
