-- Disks that come back where no driver was made.
use Rattle.std.proofs.Common.{◌≡◌, ◌≢◌, inl, inr, ℕ, zero, suc, ◌+◌, ◌-◌, ◌^◌, ◌≤◌, ◌<◌, min, Bool, List, [], ◌∷◌, length, map, refl, ap, ◌∙◌, arith}
use Rattle.mj_angles.specs.declared.layout.Layout.{Layout}
use Rattle.rz_disk.specs.Meter.{Meter, faults}
use Rattle.rz_events.specs.declared.files.NodeSpec.{NodeSpec}
use Rattle.rz_events.specs.declared.events.Event.{Event}
use Rattle.rz_ports.specs.Counts.{Rises}
use Rattle.rz_driver_nodes.specs.Meters.{AreDisksCounted, faults_at, faults_in}
use Rattle.rz_nodes.specs.Formatted.{AreBack, IsCause}
use Rattle.rz_nodes.specs.declared.fault.DriverFault.{DriverFault}
use Rattle.rz_nodes.specs.declared.fault.DriverFault.TheVariants.{NoMemory, Disk}
use Rattle.rz_request.specs.declared.wishes.Request.{Request}
use Rattle.rz_request.specs.declared.wishes.Wish.TheVariants.{Again}
use Rattle.rz_report.specs.Output.{Sunk}
use Rattle.rz_report.specs.Replays.{Unplayed, Opens}
use Rattle.rz_report.specs.Telling.{Stops}
use Rattle.rz_replay.specs.Disks.{faulted}
use Rattle.rz_replay.specs.Drivers.{unformatted}

module _ {D : Type 0} (tells : Bool) (meter : D → Meter) (image : D → List ℕ → Type 0) (layout : Layout) where
  -- no count fell
  pub back-faults : (nodes : List NodeSpec) (old new : List D) → length old ≡ length nodes → AreBack tells meter image layout nodes old new
      → (i : ℕ) → faults_at meter old i ≤ faults_at meter new i
  back-faults [] [] [] count all i = omega arith
  back-faults [] [] (n ∷ new) count all i = absurd all
  back-faults [] (o ∷ old) new count all i = absurd (omega (arith, count))
  back-faults (s ∷ nodes) [] new count all i = absurd (omega (arith, count))
  back-faults (s ∷ nodes) (o ∷ old) [] count all i = absurd all
  back-faults (s ∷ nodes) (o ∷ old) (n ∷ new) count all zero = all.0.count
  back-faults (s ∷ nodes) (o ∷ old) (n ∷ new) count all (suc i) = back-faults nodes old new (omega (arith, count)) all.1 i

  -- and there is one for each node, in order, where nothing was played
  pub counted-none : (first : ℕ → ℕ) (i : ℕ) (nodes : List NodeSpec) (old new : List D) → ((k : ℕ) → k < length old → first (i + k) ≡ faults_at meter old k) → length old ≡ length nodes
      → AreBack tells meter image layout nodes old new → AreDisksCounted meter first i (map (λ (n : NodeSpec). n.sid) nodes) new []
  counted-none first i [] [] [] firsts count all = tt
  counted-none first i [] [] (n ∷ new) firsts count all = absurd all
  counted-none first i [] (o ∷ old) new firsts count all = absurd (omega (arith, count))
  counted-none first i (s ∷ nodes) [] new firsts count all = absurd (omega (arith, count))
  counted-none first i (s ∷ nodes) (o ∷ old) [] firsts count all = absurd all
  counted-none first i (s ∷ nodes) (o ∷ old) (n ∷ new) firsts count all =
      let zeroth : i ≡ i + 0 = omega arith in
      let here : first i ≡ faults (meter o) = ap first zeroth ∙ firsts 0 (omega arith) in
      let kept : faults (meter o) ≤ faults (meter n) = all.0.count in
      let next : (k : ℕ) → (i + 1) + k ≡ i + suc k = λ k. omega arith in (
        omega (arith, here, kept),
        λ below. record { few = omega arith; effect = λ none. refl },
        counted-none first (i + 1) nodes old new (λ k lt. ap first (next k) ∙ firsts (suc k) (omega (arith, lt))) (omega (arith, count)) all.1,
      )

-- a count that rose as a disk counts has risen as a stream counts
risen : (x y o n : ℕ) → x ≡ o → y ≡ n → x ≤ y → min (o + 1) (2 ^ 64 - 1) ≤ n → Rises x y
risen x y o n x_is y_is lasts rises = omega (arith, x_is, y_is, lasts, rises)

-- why there is no driver, as a request that was not played
pub not-opened : {D : Type 0} (tells : Bool) (meter : D → Meter) (r : Request) (old new : List D) (lost : ℕ) (sink : Sunk) (status : ℕ) (h : List Event) (fault : DriverFault) → r.wish ≢ Again
    → ((i : ℕ) → faults_at meter old i ≤ faults_at meter new i) → IsCause meter old new fault → Stops (unformatted fault) sink status → h ≡ [] → Opens tells Unplayed r (faulted meter old new) lost sink status h
not-opened tells meter r old new lost sink status h NoMemory anew back cause fails none = inl (fails, none)
not-opened tells meter r old new lost sink status h (Disk index) anew back cause fails none =
    inr (
      index,
      anew,
      risen (faults_at meter old index) (faults_at meter new index) (faults (meter cause.0)) (faults (meter cause.1))
          (ap (faults_in meter) cause.2) (ap (faults_in meter) cause.3) (back index) cause.4,
      fails,
      none,
    )
