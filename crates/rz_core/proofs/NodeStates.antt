-- The state that a node's word gives.
use Rattle.std.proofs.Common.{true, false, List, [], ◌∷◌, None, refl, ap}
use Rattle.std.specs.Option.{option_map}
use Rattle.std.specs.FinMap as maps
use Rattle.rz_events.specs.Keys.{key_cmp}
use Rattle.rz_events.specs.declared.records.Held.{Held}
use Rattle.rz_events.specs.declared.nodes.Phase.TheVariants.{Up, Down, Lost}
use Rattle.rz_events.specs.declared.events.Event.TheVariants as e
use Rattle.rz_node_model.specs.Records.{listed}
use Rattle.rz_node_model.specs.States.{fresh}
use Rattle.rz_node_model.specs.Afterwards.{with_change, after_fault, taken}
use Rattle.rz_node_model.proofs.RecordLaws.{whole-empty}
use Rattle.rz_core.specs.Tied.{pending_in, HasState}
use Rattle.rz_core.proofs.NodeTies.{idle, carried-ties, whole-carried}
use Rattle.rz_core.proofs.NodeRest.{started}

pub state-of : HasState
state-of f [] = (fresh, record { phase_is = refl; fence_is = refl; losses_is = refl; held_is = λ q. ap listed (maps.get-empty {X = List Held} key_cmp q); whole = whole-empty; undecided_is = refl })
state-of f (e.Did by n c ∷ w) = let r = state-of f w in let s = r.0 in let t = r.1 in (
  with_change s (pending_in f c),
  record {
    phase_is = t.phase_is;
    fence_is = t.fence_is;
    losses_is = t.losses_is;
    held_is = λ q. carried-ties f w s t c q;
    whole = whole-carried f c s.held t.whole;
    undecided_is = t.undecided_is;
  },
)
state-of f (e.Broke by n c ∷ w) = let r = state-of f w in let t = r.1 in (
  after_fault r.0 (option_map (pending_in f) c),
  record {
    phase_is = refl;
    fence_is = t.fence_is;
    losses_is = t.losses_is;
    held_is = t.held_is;
    whole = t.whole;
    undecided_is = refl;
  },
)
state-of f (e.Stop n ∷ w) = let r = state-of f w in let t = r.1 in (
  record r.0 { phase = Down },
  record {
    phase_is = refl;
    fence_is = t.fence_is;
    losses_is = t.losses_is;
    held_is = t.held_is;
    whole = t.whole;
    undecided_is = t.undecided_is;
  },
)
state-of f (e.Start n true ∷ w) = let r = state-of f w in let s = r.0 in (record s { phase = Up; held = taken s.undecided s.held; undecided = None }, started f w s n r.1)
state-of f (e.Start n false ∷ w) = let r = state-of f w in let t = r.1 in (
  record r.0 { phase = Up; undecided = None },
  record {
    phase_is = refl;
    fence_is = t.fence_is;
    losses_is = t.losses_is;
    held_is = t.held_is;
    whole = t.whole;
    undecided_is = refl;
  },
)
state-of f (e.Lose n loss ∷ w) = let r = state-of f w in let t = r.1 in (
  record r.0 { phase = Lost; losses = loss; held = maps.empty; undecided = None },
  record {
    phase_is = refl;
    fence_is = t.fence_is;
    losses_is = refl;
    held_is = λ q. ap listed (maps.get-empty {X = List Held} key_cmp q);
    whole = whole-empty;
    undecided_is = refl;
  },
)
state-of f (e.Replace by n loss fence ∷ w) = let r = state-of f w in let t = r.1 in (
  record r.0 { phase = Up; fence = fence },
  record {
    phase_is = refl;
    fence_is = refl;
    losses_is = t.losses_is;
    held_is = t.held_is;
    whole = t.whole;
    undecided_is = t.undecided_is;
  },
)
state-of f (x ∷ w) = let r = state-of f w in (r.0, idle f w (x ∷ w) r.0 refl refl refl (λ key. refl) refl r.1)
