-- A log without events says nothing that is untrue.
use Rattle.std.proofs.Common.{ℕ, ◌≡◌, List, [], sym, subst, arith}
use Rattle.rz_events.specs.Volume.{Volume}
use Rattle.rz_events.specs.declared.events.Event.{Event}
use Rattle.rz_script.specs.declared.line.Line.{Line}
use Rattle.rz_report.specs.Told.{IsPlayReported}

pub told-none : (v : Volume) (lines : List Line) (lost : ℕ) (h : List Event) → h ≡ [] → IsPlayReported v lines lost h
told-none v lines lost h none =
    let P : List Event → Type 0 = λ x. IsPlayReported v lines lost x in
    subst P (sym none) (record {
      legal = tt;
      sound = tt;
      answering = tt;
      written = tt;
      rebuilt = tt;
      none_lost = λ key guarded. tt;
      whole_views = tt;
      losses = omega arith;
    })
