-- One step of an operation, beside which nobody acts: what came of it, whether it was taken or cut off.
use Rattle.std.proofs.Common.{ℕ, ◌≡◌, List, ◌++◌, refl, sym, ◌∙◌, ap, subst}
use Rattle.std.specs.Prelude.{IsTrue, Result, Ok, Err, OnOk, OnErr}
use Rattle.rz_events.specs.declared.keys.Actor.{Actor}
use Rattle.rz_events.specs.declared.events.Event.{Event}
use Rattle.rz_operation.specs.Machine.{Machine}
use Rattle.rz_block_laws.specs.Acting.{IsActing}
use Rattle.rz_chronicle.specs.Holds.{HasAllActors}
use Rattle.rz_chronicle.specs.Kinds.{keeps_legal, volume_in}
use Rattle.rz_chronicle.specs.Rules.{PassView}
use Rattle.rz_threads_steps.specs.Acted.{HasActed, IsStopped, IsWorkRight}
use Rattle.rz_threads_steps.specs.Adding.{PassLasts}
use Rattle.rz_store_turns.specs.Runs.{GoesAlone, HasTurned, HasRun}
use Rattle.rz_store_turns.proofs.Runs.{goes-alone, acted-turn, cut-turn, cut-still}

module _ {T : Type 0} {E : Type 0} (kind : List ℕ) (earlier : List Event) (number : ℕ) (old new : PassView) (m m' : Machine) (lasts : PassLasts old new) (all : HasAllActors old.keys) where
  pub took-alone : (r : Result T E) → OnOk r (HasActed kind earlier number old new m m') → OnErr r (IsStopped kind number old new m) → GoesAlone old new
  took-alone (Ok x) acted stopped = goes-alone old new acted.turned.events lasts (acted.alone all) acted.turned.own
  took-alone (Err e) acted stopped = goes-alone old new stopped.cut.events lasts (stopped.alone all) stopped.cut.own

  pub took-turned : (r : Result T E) → OnOk r (HasActed kind earlier number old new m m') → OnOk r (HasTurned kind number old new m m')
  took-turned (Ok x) acted = acted-turn kind earlier number old new m m' all acted
  took-turned (Err e) acted = tt

  pub took-stopped : (r : Result T E) → OnErr r (IsStopped kind number old new m) → OnErr r (m' ≡ m) → OnErr r (HasRun kind number old new m m')
  took-stopped (Ok x) stopped kept = tt
  took-stopped (Err e) stopped kept = cut-turn kind number old new m m' all kept stopped

  pub took-still : (r : Result T E) → OnErr r (IsStopped kind number old new m) → OnErr r (IsTrue (keeps_legal kind) → new.log ≡ old.log)
  took-still (Ok x) stopped = tt
  took-still (Err e) stopped = cut-still kind number old new m all stopped

  pub took-layout : (r : Result T E) → OnOk r (HasActed kind earlier number old new m m') → OnErr r (m' ≡ m) → m'.layout ≡ m.layout
  took-layout (Ok x) acted kept = acted.turned.layout
  took-layout (Err e) acted kept = ap (λ (z : Machine). z.layout) kept

  pub took-right : (r : Result T E) → OnOk r (HasActed kind earlier number old new m m') → OnErr r (IsStopped kind number old new m) → OnErr r (m' ≡ m) → IsWorkRight kind earlier old number m
      → IsWorkRight kind earlier new number m'
  took-right (Ok x) acted stopped kept right = acted.right
  took-right (Err e) acted stopped kept right = λ legal.
      subst (λ (z : Machine). IsActing (volume_in kind) earlier new.log new.actor number z) (sym kept)
      (subst (λ (by : Actor). IsActing (volume_in kind) earlier new.log by number m) (sym lasts.actor)
      (subst (λ (h : List Event). IsActing (volume_in kind) earlier h old.actor number m) (sym (cut-still kind number old new m all stopped legal)) (right legal)))
