-- A disk was swapped, or nothing happened.
use Rattle.std.proofs.Common.{ℕ, ◌≡◌, List, ◌++◌, Option, Some, None, sym, ap, ◌∙◌, subst}
use Rattle.std.specs.Prelude.{IsTrue, IfSome, IfOk, IfErr, Result, Ok, Err}
use Rattle.rz_events.specs.declared.nodes.NodeAsk.TheVariants as ask
use Rattle.rz_events.specs.declared.nodes.NodeAnswer.TheVariants as answer
use Rattle.rz_events.specs.declared.nodes.Phase.TheVariants.{Lost}
use Rattle.rz_events.specs.declared.events.Event.{Event}
use Rattle.rz_node_model.specs.NodeEvents.{lose_event}
use Rattle.rz_core.specs.NodeWord.{phase}
use Rattle.rz_core.specs.Legal.{IsLegalInRuns}
use Rattle.rz_core.proofs.NodeLaws.{node}
use Rattle.rz_play.specs.Lines.{noted}
use Rattle.rz_chronicle.specs.Kinds.{HavePlaces, keeps_legal, volume_in}
use Rattle.rz_chronicle.specs.Laws.{IsAddedAlone}
use Rattle.rz_shared_locked.specs.declared.swapping.Swap.{Swap}
use Rattle.rz_shared_locked.specs.declared.swapping.SwapFault.{SwapFault}
use Rattle.rz_shared_locked.specs.declared.swapping.SwapFault.TheVariants as fault
use Rattle.rz_shared_locked.specs.Adding.{AddsEvent}
use Rattle.rz_shared_locked.specs.LockedNodes.{Answered, IsAnswerAt}
use Rattle.rz_shared_locked.specs.Swaps.{IsUnswapped}
use Rattle.rz_store_turns.specs.Sole.{HoldsAll}
use Rattle.rz_store_turns.proofs.Tended.{IsTending, lose-tends, added-log, added-right, swapped-lost}

-- the event of what came of it
abbrev pub swap_event : {D : Type 0} → ℕ → Result (Swap D) (D × SwapFault) → Option Event
swap_event n (Ok s) = lose_event n s.loss
swap_event n (Err e) = None

pub swap-tends : {D : Type 0} (n : ℕ) (r : Result (Swap D) (D × SwapFault)) → IfSome (swap_event n r) IsTending
swap-tends n (Ok s) = lose-tends n s.loss
swap-tends n (Err e) = tt

module _ {D : Type 0} (kind : List ℕ) (alone : IsAddedAlone) (ks : List ℕ) (all : HoldsAll ks) (old mid new : List Event) (mid-is : mid ≡ old) (places : HavePlaces kind new) (earlier : List Event) (n : ℕ) (disk : D) where
  pub swap-adds : (r : Result (Swap D) (D × SwapFault)) → IfOk r (λ s. Answered kind earlier n ask.Lose (answer.Lose s.loss) (lose_event n s.loss) ks mid new)
      → IfErr r (λ e. (e.0 ≡ disk) × IsUnswapped kind earlier n e.1 ks mid new) → AddsEvent ks mid (swap_event n r) new
  swap-adds (Ok s) did none = did.adds
  swap-adds (Err (d, fault.NoMemory)) did none = none.1
  swap-adds (Err (d, fault.LossesSpent)) did none = none.1.adds

  pub swap-log : (r : Result (Swap D) (D × SwapFault)) → new ≡ noted (swap_event n r) old → IfOk r (λ s. new ≡ noted (lose_event n s.loss) old)
  swap-log (Ok s) log = log
  swap-log (Err e) log = tt

  pub swap-right : (r : Result (Swap D) (D × SwapFault)) → IfOk r (λ s. Answered kind earlier n ask.Lose (answer.Lose s.loss) (lose_event n s.loss) ks mid new)
      → IfOk r (λ s. IsAnswerAt kind earlier old n ask.Lose (answer.Lose s.loss))
  swap-right (Ok s) did = added-right kind alone ks all old mid new mid-is places earlier n ask.Lose (answer.Lose s.loss) (lose_event n s.loss) did
  swap-right (Err e) did = tt

  pub swap-lost : (r : Result (Swap D) (D × SwapFault)) → IfOk r (λ s. new ≡ noted (lose_event n s.loss) old) → IfOk r (λ s. IsAnswerAt kind earlier old n ask.Lose (answer.Lose s.loss))
      → (IsTrue (keeps_legal kind) → IsLegalInRuns (volume_in kind) (old ++ earlier)) → IfOk r (λ s. IsTrue (keeps_legal kind) → phase (node n (new ++ earlier)) ≡ Lost)
  swap-lost (Ok s) log right legal = λ keeps. swapped-lost kind earlier old new n s.loss log right keeps (legal keeps)
  swap-lost (Err e) log right legal = tt

  pub swap-back : (r : Result (Swap D) (D × SwapFault)) → new ≡ noted (swap_event n r) old → IfErr r (λ e. (e.0 ≡ disk) × IsUnswapped kind earlier n e.1 ks mid new) → IfErr r (λ e. (e.0 ≡ disk) × (new ≡ old))
  swap-back (Ok s) log none = tt
  swap-back (Err e) log none = (none.0, log)

  pub swap-spent : (r : Result (Swap D) (D × SwapFault)) → IfErr r (λ e. (e.0 ≡ disk) × IsUnswapped kind earlier n e.1 ks mid new)
      → IfErr r (λ e. e.1 ≡ fault.LossesSpent → IsAnswerAt kind earlier old n ask.Lose (answer.Lose None))
  swap-spent (Ok s) none = tt
  swap-spent (Err (d, fault.NoMemory)) none = λ is. cc
  swap-spent (Err (d, fault.LossesSpent)) none = λ is. added-right kind alone ks all old mid new mid-is places earlier n ask.Lose (answer.Lose None) None none.1
