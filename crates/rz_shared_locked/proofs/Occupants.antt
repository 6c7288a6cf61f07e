-- Who stands behind a lock at first, and what he leaves in the end.
use Rattle.std.proofs.Common.{◌≡◌, ◌≢◌, ℕ, Bool, true, false, IsTrue, IfSome, IsSome, List, ◌∷◌, ◌++◌, Some, None, refl, sym, ◌∙◌, ap, subst}
use Rattle.std.specs.FinMap as maps
use Rattle.rz_disk.specs.Meter.{Meter, armed}
use Rattle.rz_events.specs.Volume.{Volume}
use Rattle.rz_events.specs.declared.nodes.Phase.TheVariants.{Down, Up}
use Rattle.rz_events.specs.declared.events.Word.TheVariants.{Node}
use Rattle.rz_events.specs.declared.events.Event.{Event}
use Rattle.rz_events.specs.declared.events.Event.TheVariants as e
use Rattle.rz_cells_slots.specs.declared.geometry.Geometry.{Geometry}
use Rattle.rz_node_model.specs.States.{NodeState}
use Rattle.rz_node.specs.View.{NodeView, lost}
use Rattle.rz_core.specs.History.{Facts, facts, of_word}
use Rattle.rz_core.specs.NodeWord.{phase}
use Rattle.rz_core.specs.Legal.{IsLegalAfter}
use Rattle.rz_core.specs.Tied.{HasState, IsNode}
use Rattle.rz_node_laws.specs.Images.{AreImages, IsImaged, geometry_in}
use Rattle.rz_node_laws.specs.Laws.{IsLogLaw, IsLongerLaw}
use Rattle.rz_node_laws.specs.Metered.{IsCounted}
use Rattle.rz_node_laws.proofs.ImageCalls.{emptied}
use Rattle.rz_chronicle.specs.Keys.{IsLater, events_at, word_key}
use Rattle.rz_chronicle.specs.Kinds.{keeps_legal, volume_in}
use Rattle.rz_shared_locked.specs.declared.away.Away.{Away as Absent}
use Rattle.rz_shared_locked.specs.declared.occupant.Occupant.{Occupant}
use Rattle.rz_shared_locked.specs.declared.occupant.Occupant.TheVariants.{Here, Away}
use Rattle.rz_shared_locked.specs.Counts.{AreCountedSince}
use Rattle.rz_shared_locked.specs.LockedNodes.{IsLogged, IsAwayByLog, AreImagesFrom}
use Rattle.rz_shared_locked.specs.Laws.{IsLockedNodeKept}
use Rattle.rz_shared_locked.specs.Occupants.{IsIn, IsLaidOut, AreImaged, CountsHere, IsBehindLock, disk_of}
use Rattle.rz_shared_locked.proofs.LockedNodes.{behind-later}
use Rattle.rz_shared_locked.proofs.Meters.{goes-counted}

pub here-behind : {D : Type 0} (tells : Bool) (image : D → List ℕ → Type 0) (kind : List ℕ) (h : List Event) (n : ℕ) (node : NodeView D) → (IsTrue (keeps_legal kind) → IsTrue tells × IsLogged image (volume_in kind) h n node)
    → IsBehindLock tells image kind h n (Here node)
here-behind tells image kind h n node logged = record {
  state = node.state;
  is_in = refl;
  tied = λ keeps. (logged keeps).1.tied;
  imaged = λ keeps. ((logged keeps).0, (logged keeps).1.imaged);
}

-- one whose disk is away is in the state that the log gives, or in any that is known so
abbrev pub down_with : ℕ → ℕ → NodeState
down_with fence losses = record { phase = Down; fence = fence; losses = losses; held = maps.empty; undecided = None }

pub away-behind : {D : Type 0} (tells : Bool) (image : D → List ℕ → Type 0) (kind : List ℕ) (h : List Event) (n fence losses : ℕ) → HasState → (IsTrue (keeps_legal kind) → IsTrue tells × IsAwayByLog h n fence losses)
    → IsBehindLock tells image kind h n (Away (record { phase = Down; fence = fence; losses = losses }))
away-behind {D = D} tells image kind h n fence losses states logged = go (keeps_legal kind) refl
  where
    who : Occupant D
    who = Away (record { phase = Down; fence = fence; losses = losses })

    go : (b : Bool) → keeps_legal kind ≡ b → IsBehindLock tells image kind h n who
    go true keeps =
        let it = states (facts h) (of_word (Node n) h) in
        let away = (logged keeps).1 in
        let down : it.0.phase ≡ Down = it.1.phase_is ∙ away.down in
        record {
          state = it.0;
          is_in = record { low = λ up. (let clash = sym down ∙ up in absurd (cc)); phase_is = down; fence_is = it.1.fence_is ∙ away.fence_is; losses_is = it.1.losses_is ∙ away.losses_is };
          tied = λ there. it.1;
          imaged = λ there. ((logged there).0, tt);
        }
    go false not = record {
      state = down_with fence losses;
      is_in = record { low = λ up. absurd (cc); phase_is = refl; fence_is = refl; losses_is = refl };
      tied = λ there. absurd (cc);
      imaged = λ there. absurd (cc);
    }

-- What is left.

pub images-left : {D : Type 0} (tells : Bool) (image : D → List ℕ → Type 0) (kind : List ℕ) (earlier l : List Event) (n : ℕ) (who : Occupant D) → IsLogLaw image → IsLockedNodeKept (volume_in kind) → IsLongerLaw image
    → (IsTrue (keeps_legal kind) → IsLegalAfter (volume_in kind) earlier l) → IsLaidOut (geometry_in (volume_in kind) n) who → IsBehindLock tells image kind (l ++ earlier) n who → IsTrue (keeps_legal kind)
    → IfSome (disk_of who) (λ (d : D). AreImagesFrom (volume_in kind) earlier l n (image d))
images-left tells image kind earlier l n (Here node) logged kept longer fit laid it keeps = λ new later same.
    let v = volume_in kind in
    let now = behind-later tells image kind earlier n (Here node) l new kept longer fit later same it in
    let tied : IsNode (facts (new ++ earlier)) (of_word (Node n) (new ++ earlier)) node.state = subst (IsNode (facts (new ++ earlier)) (of_word (Node n) (new ++ earlier))) (sym now.is_in) (now.tied keeps) in
    subst (λ (k : Geometry). AreImages v (facts (new ++ earlier)) (of_word (Node n) (new ++ earlier)) n k (image node.disk)) laid
    (logged v (facts (new ++ earlier)) (of_word (Node n) (new ++ earlier)) n node.geometry node.state node.disk tied (now.imaged keeps).1)
images-left tells image kind earlier l n (Away a) logged kept longer fit laid it keeps = tt

pub counts-left : {D : Type 0} (meter : D → Meter) → IsCounted → (first : ℕ) (w : List Event) (who : Occupant D) → CountsHere meter first w who → IfSome (disk_of who) (λ (d : D). AreCountedSince first (meter d).own w)
counts-left meter law first w (Here node) counts = goes-counted meter law first w node counts
counts-left meter law first w (Away a) counts = absurd counts

pub some-left : {D : Type 0} (meter : D → Meter) (first : ℕ) (w : List Event) (who : Occupant D) → CountsHere meter first w who → IsSome (disk_of who)
some-left meter first w (Here node) counts = refl
some-left meter first w (Away a) counts = absurd counts

-- a node that is up has its disk
pub up-left : {D : Type 0} (tells : Bool) (image : D → List ℕ → Type 0) (kind : List ℕ) (h : List Event) (n : ℕ) (who : Occupant D) → IsBehindLock tells image kind h n who → IsTrue (keeps_legal kind) → phase (of_word (Node n) h) ≡ Up
    → IsSome (disk_of who)
up-left tells image kind h n (Here node) it keeps up = refl
up-left tells image kind h n (Away a) it keeps up = absurd (it.is_in.low ((it.tied keeps).phase_is ∙ up))

-- a lost node holds nothing, whatever its disk has
pub lost-imaged : (v : Volume) (f : Facts) (n : ℕ) (g : Geometry) (fence losses : ℕ) (image : List ℕ → Type 0) → IsImaged v f n (lost fence losses) g image
lost-imaged v f n g fence losses image =
    let empty = emptied v f n g losses fence (λ c. ⊥) (λ c never. absurd never) in
    record { decided = λ never. refl; held = empty.held; pending = empty.pending; each = λ there c left. absurd (there refl) }
