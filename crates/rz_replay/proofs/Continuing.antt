-- A request that goes on after earlier runs.
use Rattle.std.proofs.Common.{ℕ, ◌≡◌, Bool, List, sym, subst}
use Rattle.rz_events.specs.Volume.{Volume}
use Rattle.rz_events.specs.declared.events.Event.{Event}
use Rattle.rz_player.specs.declared.lines.PlayEnd.{PlayEnd}
use Rattle.rz_report.specs.Output.{Sunk}
use Rattle.rz_report.specs.Replays.{IsToldAs}
use Rattle.rz_report.specs.Telling.{IsPlayAgain, PerformsAs, TellsOwn}
use Rattle.rz_request.specs.declared.wishes.Wish.{Wish}
use Rattle.rz_request.specs.declared.wishes.Wish.TheVariants.{Again}
use Rattle.rz_script.specs.declared.line.Line.{Line}

-- it is told by its own log
pub own_as : (tells : Bool) (v : Volume) (lines : List Line) (wish : Wish) (end : PlayEnd) (later : List Event) (lost : ℕ) (h : List Event) (sink : Sunk) (status : ℕ) → wish ≡ Again
    → IsPlayAgain tells v lines end lost h → TellsOwn end wish later h sink status → PerformsAs tells v lines wish end later lost h sink status
own_as tells v lines wish end later lost h sink status is play own =
    let P : Wish → Type 0 = λ w. TellsOwn end w later h sink status → PerformsAs tells v lines w end later lost h sink status in
    subst P (sym is) (λ told. (play, told)) own

pub any_told : (wish : Wish) (v : Volume) (lines : List Line) (lost : ℕ) (h : List Event) → wish ≡ Again → IsToldAs wish v lines lost h
any_told wish v lines lost h is = subst (λ (w : Wish). IsToldAs w v lines lost h) (sym is) tt
