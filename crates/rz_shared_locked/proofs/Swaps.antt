-- A new disk in the place of one that the administrator loses.
use Rattle.std.proofs.Common.{◌≡◌, ℕ, IsTrue, List, ◌++◌, Option, Some, None, refl, sym, ap, subst}
use Rattle.rz_events.specs.declared.nodes.Phase.TheVariants.{Lost}
use Rattle.rz_events.specs.declared.events.Word.TheVariants.{Node}
use Rattle.rz_events.specs.declared.events.Event.{Event}
use Rattle.rz_node_model.specs.States.{NodeState}
use Rattle.rz_node_model.specs.Answers.{lose_answer}
use Rattle.rz_node_model.specs.Afterwards.{after_lose}
use Rattle.rz_node.specs.View.{lost}
use Rattle.rz_core.specs.History.{Facts, facts, of_word}
use Rattle.rz_core.specs.Tied.{IsNode}
use Rattle.rz_chronicle.specs.Keys.{IsLater}
use Rattle.rz_chronicle.specs.Kinds.{keeps_legal}
use Rattle.rz_chronicle.specs.Holds.{Stays}
use Rattle.rz_shared_locked.specs.declared.swapping.SwapFault.{SwapFault}
use Rattle.rz_shared_locked.specs.declared.swapping.SwapFault.TheVariants as fault
use Rattle.rz_shared_locked.specs.Adding.{AddsEvent}
use Rattle.rz_shared_locked.specs.Swaps.{IsUnswapped, lost_after}
use Rattle.rz_shared_locked.proofs.Logs.{adds-after, none-added}

-- the node on its new disk is the one that was lost
pub tied-lost : (f : Facts) (w : List Event) (s : NodeState) (loss : Option ℕ) → (loss ≡ None → s.phase ≡ Lost) → (s.phase ≡ Lost → IsNode f w s → IsNode f w (lost s.fence s.losses)) → IsNode f w (after_lose loss s) → IsNode f w (lost_after loss s)
tied-lost f w s None already empty it = empty (already refl) it
tied-lost f w s (Some l) already empty it = it

pub unswapped-so : (kind : List ℕ) (earlier h : List Event) (n : ℕ) (why : SwapFault) (ks : List ℕ) (s : NodeState) → (why ≡ fault.LossesSpent → lose_answer s ≡ None)
    → (IsTrue (keeps_legal kind) → IsNode (facts (h ++ earlier)) (of_word (Node n) (h ++ earlier)) s) → IsUnswapped kind earlier n why ks h h
unswapped-so kind earlier h n fault.NoMemory ks s spent tied = none-added ks h
unswapped-so kind earlier h n fault.LossesSpent ks s spent tied = record {
  adds = none-added ks h;
  right = record { state = s; is = sym (spent refl); tied = tied; opening = λ keeps. tt };
}

-- after a beginning that goes on
pub unswapped-after : (kind : List ℕ) (earlier : List Event) (n : ℕ) (why : SwapFault) (ks : List ℕ) (a b c : List Event) → IsLater a b → Stays ks a b → IsUnswapped kind earlier n why ks b c → IsUnswapped kind earlier n why ks a c
unswapped-after kind earlier n fault.NoMemory ks a b c later stays it = adds-after ks a b c None later stays it
unswapped-after kind earlier n fault.LossesSpent ks a b c later stays it = record { adds = adds-after ks a b c None later stays it.adds; right = it.right }
