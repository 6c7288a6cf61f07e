-- A play that begins anew has no earlier log: what is said of it goes for its own log.
use Rattle.std.proofs.Common.{ℕ, Bool, ◌≡◌, ◌++◌, List, [], subst, ap}
use Rattle.std.proofs.lemmas.List.{append-nil}
use Rattle.rz_events.specs.Volume.{Volume}
use Rattle.rz_events.specs.declared.events.Event.{Event}
use Rattle.rz_script.specs.declared.line.Line.{Line}
use Rattle.rz_play.specs.World.{World}
use Rattle.rz_play.specs.Played.{PlaysLinesOver}
use Rattle.rz_player.specs.declared.lines.PlayEnd.{PlayEnd}
use Rattle.rz_player.specs.Behind.{behind}
use Rattle.rz_player.specs.Ends.{IsEnded, IsEndedOver}

pub anew : (w : World) → behind [] w ≡ w
anew w = ap (λ (h : List Event). record w { log = h }) (append-nil w.log)

-- whatever is said of two worlds of a play
pub of_worlds : (Said : World → World → Type 0) (old : List Event) (w next : World) → old ≡ [] → Said (behind old w) (behind old next) → Said w next
of_worlds Said old w next none said =
    let P : List Event → Type 0 = λ h. Said (behind h w) (behind h next) in
    let Q : World → Type 0 = λ x. Said x (behind [] next) in
    let R : World → Type 0 = λ x. Said w x in
    subst R (anew next) (subst Q (anew w) (subst P none said))

-- how a script ended
pub ended : (v : Volume) (lines : List Line) (end : PlayEnd) (lost : ℕ) (old : List Event) (w next : World) → old ≡ [] → IsEnded v (behind old w) lines end lost (next.log ++ old) → IsEnded v w lines end lost next.log
ended v lines end lost old w next none said = of_worlds (λ a b. IsEnded v a lines end lost b.log) old w next none said

pub ended_over : (tells : Bool) (v : Volume) (lines : List Line) (end : PlayEnd) (lost : ℕ) (old : List Event) (w next : World) → old ≡ [] → IsEndedOver tells v (behind old w) lines end lost (next.log ++ old)
    → IsEndedOver tells v w lines end lost next.log
ended_over tells v lines end lost old w next none said = of_worlds (λ a b. IsEndedOver tells v a lines end lost b.log) old w next none said

-- and what was played
pub played : (v : Volume) (lines : List Line) (tells : Bool) (old : List Event) (w next : World) → old ≡ [] → PlaysLinesOver v lines tells (behind old w) (behind old next) → PlaysLinesOver v lines tells w next
played v lines tells old w next none said = of_worlds (λ a b. PlaysLinesOver v lines tells a b) old w next none said
