use Rattle.std.proofs.Common.{◌≡◌, ℕ, List, Err, subst, rules}
use Rattle.rz_events.specs.declared.nodes.NodeAsk.TheVariants as ask
use Rattle.rz_events.specs.declared.nodes.NodeAnswer.TheVariants as answer
use Rattle.rz_node_model.specs.NodeEvents.{lose_event}
use Rattle.rz_shared_locked.specs.declared.swapping.Swap.{Swap}
use Rattle.rz_shared_locked.specs.declared.swapping.SwapFault.{SwapFault}
use Rattle.rz_shared_locked.specs.LockedNodes.{Answered}
use Rattle.rz_shared_locked.specs.Swaps.{IsUnswapped}
use Rattle.rz_shared_locked.proofs.Logs.{adds-after}
use Rattle.rz_shared_locked.proofs.LockedExports.{ok-then, fault-then}
use Rattle.rz_shared_locked.proofs.Swaps.{unswapped-after}
use Rattle.rz_shared_locked.proofs.locked_node.LockedNode.swap.Goals as goal

pub returns-clause-swapped : goal.returns-clause-swapped
returns-clause-swapped g c =
    let kind = g.J.Naming.kind in
    let earlier = g.J.Naming.earlier in
    let old = c.args.pass.now in
    let mid = c.enter.new.pass in
    let new = c.swapped.new.pass.log in
    let n = c.args.geometry.node in
    let m = c.enter.new.self.node in
    let node : m ≡ n = search rules in
    ok-then (λ (r : Swap g.row.D.Denot). Answered kind earlier m ask.Lose (answer.Lose r.loss) (lose_event m r.loss) mid.keys mid.log new) (λ (r : Swap g.row.D.Denot). Answered kind earlier n ask.Lose (answer.Lose r.loss) (lose_event n r.loss) old.keys old.log new) c.swapped.result
    (λ r there.
    let it : Answered kind earlier n ask.Lose (answer.Lose r.loss) (lose_event n r.loss) old.keys mid.log new =
    subst (λ (ks : List ℕ). Answered kind earlier n ask.Lose (answer.Lose r.loss) (lose_event n r.loss) ks mid.log new) c.enter.ensures.same.1
    (subst (λ (k : ℕ). Answered kind earlier k ask.Lose (answer.Lose r.loss) (lose_event k r.loss) mid.keys mid.log new) node there) in
    record { adds = adds-after old.keys old.log mid.log new (lose_event n r.loss) c.enter.ensures.later c.enter.ensures.stays it.adds; right = it.right })
    c.swapped.ensures.swapped

pub returns-clause-unswapped : goal.returns-clause-unswapped
returns-clause-unswapped g c =
    let kind = g.J.Naming.kind in
    let earlier = g.J.Naming.earlier in
    let old = c.args.pass.now in
    let mid = c.enter.new.pass in
    let new = c.swapped.new.pass.log in
    let n = c.args.geometry.node in
    let m = c.enter.new.self.node in
    let node : m ≡ n = search rules in
    fault-then (λ (e : g.row.D.Denot × SwapFault). (e.0 ≡ c.args.disk) × IsUnswapped kind earlier m e.1 mid.keys mid.log new) (λ (e : g.row.D.Denot × SwapFault). (e.0 ≡ c.args.disk) × IsUnswapped kind earlier n e.1 old.keys old.log new) c.swapped.result
    (λ e there. (
      there.0,
      unswapped-after kind earlier n e.1 old.keys old.log mid.log new c.enter.ensures.later c.enter.ensures.stays
          (subst (λ (ks : List ℕ). IsUnswapped kind earlier n e.1 ks mid.log new) c.enter.ensures.same.1 (subst (λ (k : ℕ). IsUnswapped kind earlier k e.1 mid.keys mid.log new) node there.1)),
    ))
    c.swapped.ensures.unswapped
