-- One turn, round or line more after others.
use Rattle.std.proofs.Common.{ℕ, zero, suc, Bool, true, false, ◌≡◌, ◌+◌, ◌≤◌, List, [], ◌∷◌, ◌++◌, refl, sym, subst, add-one, arith}
use Rattle.std.specs.List.{AllByRecursion}
use Rattle.rz_events.specs.Volume.{Volume}
use Rattle.rz_events.specs.declared.keys.Actor.{Actor}
use Rattle.rz_play.specs.World.{World, actors, has_work}
use Rattle.rz_play.specs.Free.{IsTurnOver}
use Rattle.rz_play.specs.Lines.{IsTurnsOver, IsTurnIf, IsRoundOver, IsRoundsOver}

turns-then : (v : Volume) (tells : Bool) (by : Actor) (k : ℕ) (w mid next : World) → IsTurnsOver v by k tells w mid → IsTurnOver v by tells mid next → IsTurnsOver v by (suc k) tells w next
turns-then v tells by zero w mid next same turn = (next, subst (λ (m : World). IsTurnOver v by tells m next) same turn, refl)
turns-then v tells by (suc k) w mid next h turn = (h.0, h.1, turns-then v tells by k h.0 mid next h.2 turn)

pub turns-more : (v : Volume) (tells : Bool) (by : Actor) (k : ℕ) (w mid next : World) → IsTurnsOver v by k tells w mid → IsTurnOver v by tells mid next → IsTurnsOver v by (k + 1) tells w next
turns-more v tells by k w mid next h turn = subst (λ (n : ℕ). IsTurnsOver v by n tells w next) (sym (add-one k)) (turns-then v tells by k w mid next h turn)

-- Rounds.

pub round-more : (v : Volume) (tells : Bool) (done : List Actor) (by : Actor) (w mid next : World) → IsRoundOver v done tells w mid → IsTurnIf (has_work (mid.agendas by)) v by tells mid next → IsRoundOver v (done ++ by ∷ []) tells w next
round-more v tells [] by w mid next same turn = (next, subst (λ (m : World). IsTurnIf (has_work (m.agendas by)) v by tells m next) same turn, refl)
round-more v tells (x ∷ done) by w mid next h turn = (h.0, h.1, round-more v tells done by h.0 mid next h.2 turn)

rounds-then : (v : Volume) (tells : Bool) (k : ℕ) (w mid next : World) → IsRoundsOver v k tells w mid → IsRoundOver v actors tells mid next → IsRoundsOver v (suc k) tells w next
rounds-then v tells zero w mid next same round = (next, subst (λ (m : World). IsRoundOver v actors tells m next) same round, refl)
rounds-then v tells (suc k) w mid next h round = (h.0, h.1, rounds-then v tells k h.0 mid next h.2 round)

pub rounds-more : (v : Volume) (tells : Bool) (k : ℕ) (w mid next : World) → IsRoundsOver v k tells w mid → IsRoundOver v actors tells mid next → IsRoundsOver v (k + 1) tells w next
rounds-more v tells k w mid next h round = subst (λ (n : ℕ). IsRoundsOver v n tells w next) (sym (add-one k)) (rounds-then v tells k w mid next h round)

-- Where no actor has work, rounds change nothing.

idle-turn : (b : Bool) (v : Volume) (tells : Bool) (by : Actor) (w : World) → b ≡ false → IsTurnIf b v by tells w w
idle-turn false v tells by w h = refl
idle-turn true v tells by w h = cc

pub idle-round : (v : Volume) (tells : Bool) (xs : List Actor) (w : World) → AllByRecursion (λ by. has_work (w.agendas by) ≡ false) xs → IsRoundOver v xs tells w w
idle-round v tells [] w h = refl
idle-round v tells (x ∷ xs) w h = (w, idle-turn (has_work (w.agendas x)) v tells x w h.0, idle-round v tells xs w h.1)

rested : (v : Volume) (tells : Bool) (k : ℕ) (w : World) → AllByRecursion (λ by. has_work (w.agendas by) ≡ false) actors → IsRoundsOver v k tells w w
rested v tells zero w h = refl
rested v tells (suc k) w h = (w, idle-round v tells actors w h, rested v tells k w h)

-- so the rounds so far are as many more
pub rounds-idle : (v : Volume) (tells : Bool) (j k : ℕ) (w mid : World) → j ≤ k → IsRoundsOver v j tells w mid → AllByRecursion (λ by. has_work (mid.agendas by) ≡ false) actors → IsRoundsOver v k tells w mid
rounds-idle v tells zero k w mid le same rest = subst (λ (m : World). IsRoundsOver v k tells m mid) same (rested v tells k mid rest)
rounds-idle v tells (suc j) zero w mid le h rest = absurd (omega arith)
rounds-idle v tells (suc j) (suc k) w mid le h rest = (h.0, h.1, rounds-idle v tells j k h.0 mid (omega arith) h.2 rest)
