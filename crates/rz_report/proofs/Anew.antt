-- A performance that begins anew: what is said of it behind each earlier log is said of its own log alone, since there is none.
use Rattle.std.proofs.Common.{ℕ, ◌≡◌, inl, inr, ◌⊎◌, ◌++◌, Bool, false, List, [], reverse, refl, subst}
use Rattle.std.proofs.lemmas.List.{append-nil}
use Rattle.rz_events.specs.Volume.{Volume}
use Rattle.rz_events.specs.declared.events.Event.{Event}
use Rattle.rz_script.specs.declared.line.Line.{Line}
use Rattle.rz_node_model.specs.States.{NodeState}
use Rattle.rz_export_model.specs.Export.{Export as ExportState}
use Rattle.rz_play.specs.World.{World, new_world, world_after}
use Rattle.rz_player.specs.Behind.{Before, behind}
use Rattle.rz_player.specs.declared.lines.PlayEnd.{PlayEnd}
use Rattle.rz_request.specs.declared.wishes.Wish.{Wish}
use Rattle.rz_request.specs.declared.wishes.Wish.TheVariants.{Replay, Load, Scrub, First, Again}
use Rattle.rz_report.specs.Output.{Lacks, Sunk}
use Rattle.rz_report.specs.Replays.{IsToldAs}
use Rattle.rz_report.specs.Told.{IsPlayReported}
use Rattle.rz_report.specs.Scrubs.{AreScrubsFound, AreFoundFrom}
use Rattle.rz_report.specs.Telling.{IsPlayAgain, IsPlayOf, Performs, PerformsAs, PerformsBehind, Says, TellsOwn}

module _ (holds : Before → Type 0) (tells : Bool) (v : Volume) (w : World) (lines : List Line) (wish : Wish) (end : PlayEnd) (later : List Event) (lost : ℕ) (log : List Event)
    (b : Before) (none : b.log ≡ []) (held : holds b) (new : w ≡ new_world v) where
  played : ((b : Before) → holds b → IsPlayOf tells v (behind b.log w) lines end lost (log ++ b.log) log) → IsPlayOf tells v (new_world v) lines end lost log log
  played plays =
      let P : List Event → Type 0 = λ old. IsPlayOf tells v (behind old w) lines end lost (log ++ old) log in
      let Q : World → Type 0 = λ x. IsPlayOf tells v (behind [] x) lines end lost (log ++ []) log in
      let R : List Event → Type 0 = λ h. IsPlayOf tells v (new_world v) lines end lost h log in
      subst R (append-nil log) (subst Q new (subst P none (plays b held)))

  found_anew : (found : List ℕ) → ((b : Before) → holds b → AreFoundFrom tells v (behind b.log w) lines end wish (log ++ b.log) later found) → AreScrubsFound tells v lines end wish log later found
  found_anew found finds =
      let P : List Event → Type 0 = λ old. AreFoundFrom tells v (behind old w) lines end wish (log ++ old) later found in
      let Q : World → Type 0 = λ x. AreFoundFrom tells v (behind [] x) lines end wish (log ++ []) later found in
      let R : List Event → Type 0 = λ h. AreFoundFrom tells v (new_world v) lines end wish h later found in
      subst R (append-nil log) (subst Q new (subst P none (finds b held)))

  pub performs : (sink : Sunk) (status : ℕ) → PerformsBehind holds tells v w lines wish end later lost log sink status → Performs tells v lines wish end later lost log sink status
  performs sink status (may, plays, told) = let p = played plays in (p.0, p.1, p.2, (may, tells_so told))
    where
      tells_so : ((found : List ℕ) × ((b : Before) → holds b → AreFoundFrom tells v (behind b.log w) lines end wish (log ++ b.log) later found) × Says end wish found (reverse log) sink status) ⊎ Lacks sink status
          → ((found : List ℕ) × AreScrubsFound tells v lines end wish log later found × Says end wish found (reverse log) sink status) ⊎ Lacks sink status
      tells_so (inl (found, finds, says)) = inl (found, found_anew found finds, says)
      tells_so (inr lacks) = inr lacks

-- what is said of a play after earlier runs behind an empty log is said of its own
pub played_on : (holds : Before → Type 0) (tells : Bool) (v : Volume) (w : World) (lines : List Line) (wish : Wish) (end : PlayEnd) (later : List Event) (lost : ℕ) (log : List Event) (sink : Sunk) (status : ℕ) (nodes : ℕ → NodeState) (s : ExportState)
    → w ≡ world_after nodes s [] → (b : Before) → b.log ≡ [] → (tells ≡ false → holds b) → PerformsBehind holds tells v w lines wish end later lost log sink status → IsPlayAgain tells v lines end lost log
played_on holds tells v w lines wish end later lost log sink status nodes s new b none held told = λ untold.
    let P : List Event → Type 0 = λ old. IsPlayOf tells v (behind old w) lines end lost (log ++ old) log in
    let Q : World → Type 0 = λ x. IsPlayOf tells v (behind [] x) lines end lost (log ++ []) log in
    let R : List Event → Type 0 = λ h. IsPlayOf tells v (world_after nodes s []) lines end lost h log in
    (nodes, s, subst R (append-nil log) (subst Q new (subst P none (told.1 b (held untold)))))

-- a performance after earlier runs is told by its own log
pub told_own : (holds : Before → Type 0) (tells : Bool) (v : Volume) (w : World) (lines : List Line) (wish : Wish) (end : PlayEnd) (later : List Event) (lost : ℕ) (log : List Event) (sink : Sunk) (status : ℕ)
    → PerformsBehind holds tells v w lines wish end later lost log sink status → TellsOwn end wish later log sink status
told_own holds tells v w lines wish end later lost log sink status (may, plays, inl (found, finds, says)) = (may, inl (found, says))
told_own holds tells v w lines wish end later lost log sink status (may, plays, inr lacks) = (may, inr lacks)

-- a wish that begins anew

pub performs_as : (tells : Bool) (v : Volume) (lines : List Line) (wish : Wish) (end : PlayEnd) (later : List Event) (lost : ℕ) (log : List Event) (sink : Sunk) (status : ℕ)
    → ¬ (wish ≡ Again) → Performs tells v lines wish end later lost log sink status → PerformsAs tells v lines wish end later lost log sink status
performs_as tells v lines Replay end later lost log sink status anew p = p
performs_as tells v lines (Load seed) end later lost log sink status anew p = p
performs_as tells v lines Scrub end later lost log sink status anew p = p
performs_as tells v lines First end later lost log sink status anew p = p
performs_as tells v lines Again end later lost log sink status anew p = absurd (anew refl)

pub told_as : (wish : Wish) (v : Volume) (lines : List Line) (lost : ℕ) (log : List Event) → ¬ (wish ≡ Again) → IsPlayReported v lines lost log → IsToldAs wish v lines lost log
told_as Replay v lines lost log anew told = told
told_as (Load seed) v lines lost log anew told = told
told_as Scrub v lines lost log anew told = told
told_as First v lines lost log anew told = told
told_as Again v lines lost log anew told = tt
