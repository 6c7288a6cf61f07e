-- The clusters before held no such node, and this one holds it or does not.
use Rattle.std.proofs.Common.{◌≡◌, ◌==◌, ◌+◌, Bool, Some, None, List, length, drop, get_or, sym, ◌∙◌, ap, subst, arith}
use Rattle.std.specs.List.{find}
use Rattle.mj_angles.specs.Layout.{safe_of}
use Rattle.rz_events.specs.Volume.{Cluster, IsCluster, IsNode, Volume, nodes_of}
use Rattle.rz_events.specs.declared.files.NodeSpec.{NodeSpec}
use Rattle.rz_request.proofs.Nodes.{find_all, find_first, find_second, nodes_step}
use Rattle.rz_request.proofs.old.find_node.Goals as goal

pub returns-in-Some-clause-value : goal.returns-in-Some-clause-value
returns-in-Some-clause-value c =
    let items = c.deref-cluster-items.result.now in
    let k = c.loop-cluster.cluster-index in
    let item = c.cluster-item.result in
    let test : NodeSpec → Bool = λ n. n.sid == c.args.sid in
    let same : c.as_slice.result.now ≡ c.cluster-item.result.nodes = cc (c.as_slice.ensures.value, c.cluster.view_is) in
    let found : find test c.cluster-item.result.nodes ≡ Some c.in-Some.node = ap (find test) (sym same) ∙ sym c.find_in.ensures ∙ c.in-Some.is in
    let whole : c.args.volume.now.clusters ≡ c.deref-cluster-items.result.now = ap (λ (v : Volume). v.clusters) (sym c.volume.view_is) ∙ sym c.deref-cluster-items.ensures.value in
    sym (ap (λ (l : List Cluster). find test (nodes_of l)) whole ∙ c.loop-cluster.invariant ∙ ap (find test) (nodes_step items k item c.loop-cluster-test.true c.cluster-item.is)
    ∙ find_first test item.nodes (nodes_of (drop (k + 1) items)) c.in-Some.node found)

pub returns-in-Some-clause-rules : goal.returns-in-Some-clause-rules
returns-in-Some-clause-rules c =
    let k = c.loop-cluster.cluster-index in
    let item = c.cluster-item.result in
    let test : NodeSpec → Bool = λ n. n.sid == c.args.sid in
    let same : c.as_slice.result.now ≡ c.cluster-item.result.nodes = cc (c.as_slice.ensures.value, c.cluster.view_is) in
    let found : find test c.cluster-item.result.nodes ≡ Some c.in-Some.node = ap (find test) (sym same) ∙ sym c.find_in.ensures ∙ c.in-Some.is in
    let rules = c.volume.invariant.1 in
    let lt = c.loop-cluster-test.true in
    let long = ap (λ (l : List Cluster). length l) c.deref-cluster-items.ensures.value in
    let there = rules.clusters k item (omega (arith, lt, long)) in
    let in_items = subst (λ (l : List Cluster). IsCluster (safe_of c.volume.inside.layout) (get_or l c.loop-cluster.cluster-index c.cluster-item.result)) (sym c.deref-cluster-items.ensures.value) there in
    let here = subst (λ (b : Cluster). IsCluster (safe_of c.volume.inside.layout) b) (sym c.cluster-item.is) in_items in
    find_all IsNode test item.nodes c.in-Some.node here.nodes found

pub loop-cluster-preserved : goal.loop-cluster-preserved
loop-cluster-preserved c =
    let items = c.deref-cluster-items.result.now in
    let k = c.loop-cluster.cluster-index in
    let item = c.cluster-item.result in
    let test : NodeSpec → Bool = λ n. n.sid == c.args.sid in
    let same : c.as_slice.result.now ≡ c.cluster-item.result.nodes = cc (c.as_slice.ensures.value, c.cluster.view_is) in
    let none : find test c.cluster-item.result.nodes ≡ None = ap (find test) (sym same) ∙ sym c.find_in.ensures ∙ c.in_default.is in
    c.loop-cluster.invariant ∙ ap (find test) (nodes_step items k item c.loop-cluster-test.true c.cluster-item.is) ∙ find_second test item.nodes (nodes_of (drop (k + 1) items)) none
