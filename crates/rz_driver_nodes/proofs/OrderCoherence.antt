-- An order to a node, beside the log.
use Rattle.std.proofs.Common.{◌≡◌, ◌≢◌, ℕ, Bool, IsTrue, List, [], ◌++◌, Option, Some, None, refl, sym, ◌∙◌, ap, subst}
use Rattle.std.specs.Prelude.{IsSomeAnd, slice_get, slice_set}
use Rattle.rz_disk.specs.Images.{Only, Within}
use Rattle.rz_events.specs.Volume.{Volume}
use Rattle.rz_events.specs.declared.keys.Actor.TheVariants.{Admin}
use Rattle.rz_events.specs.declared.nodes.StartAnswer.{StartAnswer}
use Rattle.rz_events.specs.declared.nodes.StartAnswer.TheVariants as start
use Rattle.rz_events.specs.declared.nodes.NodeAsk.{NodeAsk}
use Rattle.rz_events.specs.declared.nodes.NodeAsk.TheVariants as ask
use Rattle.rz_events.specs.declared.nodes.NodeAnswer.{NodeAnswer}
use Rattle.rz_events.specs.declared.nodes.NodeAnswer.TheVariants as answer
use Rattle.rz_events.specs.declared.events.Event.{Event}
use Rattle.rz_node_model.specs.Answers.{IsNodeAnswer}
use Rattle.rz_node_model.specs.Afterwards.{after_answer}
use Rattle.rz_node_model.specs.NodeEvents.{node_event}
use Rattle.rz_node_model.specs.States.{NodeState}
use Rattle.rz_cells_slots.specs.declared.geometry.Geometry.{Geometry}
use Rattle.rz_node.specs.Change.{IsBranch}
use Rattle.rz_node.specs.Opens.{IfStarted, IfTook}
use Rattle.rz_node.specs.View.{NodeView}
use Rattle.rz_node.specs.Leaves.{LeavesDisk}
use Rattle.rz_core.specs.History.{Facts, facts}
use Rattle.rz_node_laws.specs.Images.{IsImaged, geometry_in}
use Rattle.rz_node_laws.specs.Laws.{IsCallLaw, IsCrashLaw, IsFewerLaw, IsLongerLaw}
use Rattle.rz_node_laws.specs.Records.{HandsRecord}
use Rattle.rz_nodes.specs.declared.formatting.Server.{Server}
use Rattle.rz_driver_nodes.specs.Images.{HasImages, KeepsImages, NodesStayCoherent, NodesUnchanged}
use Rattle.rz_driver_nodes.proofs.CoherenceLemmas.{GrowsBy, grows-behind, row-longer, row-set, row-at, states-stay}

module _ {D : Type 0} (image : D → List ℕ → Type 0) where
  -- a node of the same number and geometry
  has-again : (v : Volume) (f : Facts) (s s' : Server D) (t : NodeState) → s'.sid ≡ s.sid → s'.node.geometry ≡ s.node.geometry → s'.node.state ≡ t → s.node.geometry ≡ geometry_in v s.sid
      → IsImaged v f s.sid t s.node.geometry (image s'.node.disk) → HasImages image v f s'.sid s'.node
  has-again v f s s' t sid geometry state shape images = record {
    geometry = geometry ∙ shape ∙ ap (geometry_in v) (sym sid);
    images = subst (λ (n : ℕ). IsImaged v f n s'.node.state s'.node.geometry (image s'.node.disk)) (sym sid)
        (subst (λ (x : NodeState). IsImaged v f s.sid x s'.node.geometry (image s'.node.disk)) (sym state)
        (subst (λ (g : Geometry). IsImaged v f s.sid t g (image s'.node.disk)) (sym geometry) images));
  }

  pub both-keep : (s mid s' : Server D) → KeepsImages image s mid → KeepsImages image mid s' → KeepsImages image s s'
  both-keep s mid s' first then = λ v f has. then v f (first v f has)

  -- the disk has no more images
  pub fewer-keeps : IsFewerLaw image → (s s' : Server D) → s'.sid ≡ s.sid → s'.node.geometry ≡ s.node.geometry → s'.node.state ≡ s.node.state → Within (image s.node.disk) (image s'.node.disk) → KeepsImages image s s'
  fewer-keeps law s s' sid geometry state within = λ v f has.
      has-again v f s s' s.node.state sid geometry state has.geometry (law v f s.sid s.node.geometry s.node.state s.node.disk s'.node.disk within has.images)

  module _ (text : D → List ℕ) where
    pub crash-keeps : IsCrashLaw text image → (s s' : Server D) → s'.sid ≡ s.sid → s'.node.geometry ≡ s.node.geometry → s'.node.state ≡ s.node.state
        → image s.node.disk (text s'.node.disk) → Only (text s'.node.disk) (image s'.node.disk) → KeepsImages image s s'
    crash-keeps law s s' sid geometry state left only = λ v f has.
        has-again v f s s' s.node.state sid geometry state has.geometry (law v f s.sid s.node.geometry s.node.state s.node.disk s'.node.disk left only has.images)

    -- the node answered the administrator
    pub call-keeps : IsCallLaw text image → (question : NodeAsk) (given : NodeAnswer) → ((v : Volume) (f : Facts) (n : ℕ) → HandsRecord v f n question []) → (s s' : Server D) → s'.sid ≡ s.sid → s'.node.geometry ≡ s.node.geometry
        → s'.node.state ≡ after_answer question given s.node.state → IsNodeAnswer s.node.geometry.cells s.node.state question given
        → LeavesDisk s.node.geometry s.node.state question given [] [] (text s.node.disk) (text s'.node.disk) (image s.node.disk) (image s'.node.disk) → KeepsImages image s s'
    call-keeps law question given hands s s' sid geometry after is leaves = λ v f has.
        has-again v f s s' (after_answer question given s.node.state) sid geometry after has.geometry
        (law v f s.sid s.node.geometry.cells s.node.geometry s.node.state question given [] [] s.node.disk s'.node.disk is (hands v f s.sid) leaves has.images)

  -- a call that leaves the disk alone
  pub same-disk : (old new : NodeView D) (state : NodeState) → new ≡ record old { state = state } → Within (image old.disk) (image new.disk)
  same-disk old new state is = λ c there. subst (λ (n : NodeView D). image n.disk c) is there

  -- ---- the node at a place in the row

  module _ (xs : List (Server D)) (place : ℕ) (s s' : Server D) (at : slice_get xs place ≡ Some s) (keeps : KeepsImages image s s') (h : List Event) where
    pub row-keeps : IsLongerLaw image → (h' : List Event) → GrowsBy h h' → NodesStayCoherent image xs h (slice_set xs place s') h'
    row-keeps longer h' grown = λ v old all.
        let f = facts (h ++ old) in
        row-longer image longer v (h ++ old) (h' ++ old) (grows-behind old h h' grown) (slice_set xs place s') (row-set image v f xs place s' all (keeps v f (row-at image v f xs place s at all)))

    pub row-unchanged : s'.sid ≡ s.sid → s'.node.state ≡ s.node.state → NodesUnchanged image xs h (slice_set xs place s')
    row-unchanged sid state = λ v old all. let f = facts (h ++ old) in (
      row-set image v f xs place s' all (keeps v f (row-at image v f xs place s at all)),
      states-stay xs place s s' at sid state,
    )

  pub still-row : (xs : List (Server D)) (h : List Event) → NodesUnchanged image xs h xs
  still-row xs h = λ v old all. (all, refl)

-- ---- a start

module _ (g : Geometry) (s : NodeState) (tells : Bool) (told : IsTrue tells) (text text' : List ℕ) (image image' : List ℕ → Type 0) where
  pub starts : (a : StartAnswer) → IfTook a (λ took. IsTrue tells → IsBranch g s.fence text' s.undecided s.held took) → IfStarted a (Only text' image') → text' ≡ text → Within image image'
      → LeavesDisk g s ask.Start (answer.Start a) [] [] text text' image image'
  starts (start.Started took) branch settled same within = record { text_is = same; settled = settled; branch = branch told }
  starts start.NotDown branch settled same within = within
  starts start.NoMemory branch settled same within = within
  starts (start.Unopened cause) branch settled same within = within

-- ---- the event of an order is always noted
