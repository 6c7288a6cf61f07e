-- From the fields of a node that is up to what contracts see of it.
use Rattle.std.proofs.Common.{◌≡◌, ℕ, ◌<◌, Bool, false, List, Option, Some, None, refl, sym, ◌∙◌, ap, subst, arith}
use Rattle.std.specs.Prelude.{◌==◌, nat_le, is_some}
use Rattle.std.specs.FinMap as maps
use Rattle.std.proofs.lemmas.Bool.Decides.{nat_tests}
use Rattle.rz_events.specs.Keys.{key_cmp}
use Rattle.rz_events.specs.declared.keys.Key.{Key}
use Rattle.rz_events.specs.declared.records.Head.{Head}
use Rattle.rz_events.specs.declared.records.Held.{Held}
use Rattle.rz_events.specs.declared.nodes.Phase.{Phase}
use Rattle.rz_events.specs.declared.nodes.Phase.TheVariants.{Up}
use Rattle.rz_events.specs.declared.nodes.DropAnswer.TheVariants as drop
use Rattle.rz_disk.specs.Meter.{Meter}
use Rattle.rz_record.specs.Slot.{Rec}
use Rattle.rz_node_model.specs.declared.pending.Pending.{Pending}
use Rattle.rz_node_model.specs.declared.pending.Pending.TheVariants as pending
use Rattle.rz_node_model.specs.Afterwards.{with_change}
use Rattle.rz_node_model.specs.Answers.{drop_answer, drop_least, drop_lesser}
use Rattle.rz_node_model.specs.Records.{held_of, carried, key_at, least_block}
use Rattle.rz_node_model.specs.Versions.{lesser_of}
use Rattle.rz_index.specs.declared.index.Entry.{Entry}
use Rattle.rz_cells_slots.specs.Held.{Records}
use Rattle.rz_cells_slots.specs.Stands.{StandsFor}
use Rattle.rz_node.specs.CrashOutcomes.{CrashOutcomes}
use Rattle.rz_node.specs.Change.{IsBranch}
use Rattle.rz_node.specs.Kept.{held_by}
use Rattle.rz_node.specs.View.{NodeView, held_in, state_of}
use Rattle.rz_cells_slots.specs.Opening.{opening_calls}
use Rattle.rz_cells_slots.specs.Counted.{CountedWhere}
use Rattle.rz_node.specs.Spends.{outcome, Passed, Failed}

-- ---- equal views

pub state-same : {D : Type 0} (v w : NodeView D) → v ≡ w → v.state ≡ w.state
state-same v w same = λ i. (same i).state

pub geometry-same : {D : Type 0} (v w : NodeView D) → v ≡ w → v.geometry ≡ w.geometry
geometry-same v w same = λ i. (same i).geometry

pub passed-along : {D : Type 0} (meter : D → Meter) (v w : NodeView D) (k : ℕ) (new : Meter) → v ≡ w → Passed k (meter v.disk) new → Passed k (meter w.disk) new
passed-along {D} meter v w k new same p = subst (λ (x : NodeView D). Passed k (meter x.disk) new) same p

pub failed-along : {D : Type 0} (meter : D → Meter) (v w : NodeView D) (k : ℕ) (new : Meter) → v ≡ w → Failed k (meter v.disk) new → Failed k (meter w.disk) new
failed-along {D} meter v w k new same p = subst (λ (x : NodeView D). Failed k (meter x.disk) new) same p

-- an opening's calls, by the geometry
pub opened-along : {D : Type 0} (meter : D → Meter) (v w : NodeView D) (new : Meter) → v ≡ w → Passed (opening_calls v.geometry) (meter v.disk) new → Passed (opening_calls w.geometry) (meter w.disk) new
opened-along {D} meter v w new same p = subst (λ (x : NodeView D). Passed (opening_calls x.geometry) (meter x.disk) new) same p

pub counted-along : {D : Type 0} (meter : D → Meter) (v w : NodeView D) (F : Type 0) (new : Meter) → v ≡ w → CountedWhere (opening_calls v.geometry) (outcome false) F (meter v.disk) new → CountedWhere (opening_calls w.geometry) (outcome false) F (meter w.disk) new
counted-along {D} meter v w F new same p = subst (λ (x : NodeView D). CountedWhere (opening_calls x.geometry) (outcome false) F (meter x.disk) new) same p

pub branch-along : {D : Type 0} (v w : NodeView D) (text : List ℕ) (took : Bool) → v ≡ w → IsBranch v.geometry v.state.fence text v.state.undecided v.state.held took → IsBranch w.geometry w.state.fence text w.state.undecided w.state.held took
branch-along {D} v w text took same p = subst (λ (x : NodeView D). IsBranch x.geometry x.state.fence text x.state.undecided x.state.held took) same p

pub stands-along : {D : Type 0} (text : D → List ℕ) (v w : NodeView D) (records : Records) → v ≡ w → StandsFor w.geometry w.state.fence (text w.disk) records → StandsFor v.geometry v.state.fence (text v.disk) records
stands-along {D} text v w records same p = subst (λ (x : NodeView D). StandsFor x.geometry x.state.fence (text x.disk) records) (sym same) p

pub around-along : {D : Type 0} (text : D → List ℕ) (v w : NodeView D) (text' : List ℕ) (image : List ℕ → Type 0) (used : Option Bool) (key : Key) (F : List Held → List Held) (before after : List Held) (new : Option Rec)
    → v ≡ w → held_of v.state.held key ≡ before → after ≡ F before → CrashOutcomes v.geometry v.state.fence (text v.disk) text' image used key before after new
    → CrashOutcomes w.geometry w.state.fence (text w.disk) text' image used key (held_of w.state.held key) (F (held_of w.state.held key)) new
around-along {D} text v w text' image used key F before after new same before_is after_is given =
    subst (λ (x : NodeView D). CrashOutcomes x.geometry x.state.fence (text x.disk) text' image used key (held_of x.state.held key) (F (held_of x.state.held key)) new) same
    (subst (λ (b : List Held). CrashOutcomes v.geometry v.state.fence (text v.disk) text' image used key b (F b) new) (sym before_is)
    (subst (λ (a : List Held). CrashOutcomes v.geometry v.state.fence (text v.disk) text' image used key before a new) after_is given))

-- ---- a node that is up

pub held-up : (phase : Phase) (entries : maps.FinMap key_cmp Entry) (heads : List (Option Head)) (key : Key) → phase ≡ Up → held_of (held_in phase entries heads) key ≡ held_of (held_by entries heads) key
held-up phase entries heads key up = ap (λ (p : Phase). held_of (held_in p entries heads) key) up

pub le-not : (m n : ℕ) → n < m → nat_le m n ≡ false
le-not m n lt = grind (arith, nat_tests)

pub not-equal : (m n : ℕ) → (m ≡ n → ⊥) → (m == n) ≡ false
not-equal m n ne = grind (arith, nat_tests)

module _ (phase : Phase) (losses : ℕ) (undecided : Option Pending) (fence : ℕ) (entries : maps.FinMap key_cmp Entry) (heads : List (Option Head)) (up : phase ≡ Up) where
  -- a change that was carried out
  pub changed-up : (fence' : ℕ) (entries' : maps.FinMap key_cmp Entry) (heads' : List (Option Head)) (change : Pending) → fence' ≡ fence → held_by entries' heads' ≡ carried change (held_by entries heads)
      → state_of phase losses undecided fence' entries' heads' ≡ with_change (state_of phase losses undecided fence entries heads) change
  changed-up fence' entries' heads' change f held =
      subst (λ (x : Phase). state_of x losses undecided fence' entries' heads' ≡ with_change (state_of x losses undecided fence entries heads) change) (sym up)
      (λ i. record { phase = Up; fence = f i; losses = losses; held = held i; undecided = undecided })

  pub drop-up : (fid : ℕ) → drop_answer (state_of phase losses undecided fence entries heads) fid ≡ drop_least (held_by entries heads) fid (least_block (held_by entries heads) fid)
  drop-up fid =
      subst (λ (x : Phase). drop_answer (state_of x losses undecided fence entries heads) fid ≡ drop_least (held_by entries heads) fid (least_block (held_by entries heads) fid)) (sym up) refl

  pub drop-none : (fid : ℕ) → least_block (held_by entries heads) fid ≡ None → drop_answer (state_of phase losses undecided fence entries heads) fid ≡ drop.Nothing
  drop-none fid none = drop-up fid ∙ ap (drop_least (held_by entries heads) fid) none

  pub drop-some : (fid block : ℕ) (r : Held) → least_block (held_by entries heads) fid ≡ Some block → lesser_of (held_of (held_by entries heads) (key_at fid block)) ≡ Some r
      → drop_answer (state_of phase losses undecided fence entries heads) fid ≡ drop.Dropped block r.stamp (is_some (least_block (carried (pending.Drop (key_at fid block) r.stamp) (held_by entries heads)) fid))
  drop-some fid block r least some = drop-up fid ∙ ap (drop_least (held_by entries heads) fid) least ∙ ap (drop_lesser (held_by entries heads) fid block) some
