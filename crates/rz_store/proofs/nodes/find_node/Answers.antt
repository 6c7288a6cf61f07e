-- The clusters before held no such node, and this one holds it or does not.
use Rattle.std.proofs.Common.{◌≡◌, ◌==◌, ◌+◌, Bool, Some, None, List, drop, sym, ◌∙◌, ap}
use Rattle.std.specs.List.{find}
use Rattle.rz_events.specs.Volume.{Cluster, Volume, nodes_of}
use Rattle.rz_events.specs.declared.files.NodeSpec.{NodeSpec}
use Rattle.rz_store.proofs.Found.{find-first, find-second, nodes-from}
use Rattle.rz_store.proofs.nodes.find_node.Goals as goal

pub returns-in-Some : goal.returns-in-Some
returns-in-Some c =
    let items = c.deref-cluster-items.result.now in
    let k = c.loop-cluster.cluster-index in
    let item = c.cluster-item.result in
    let test : NodeSpec → Bool = λ n. n.sid == c.args.number in
    let same : c.as_slice.result.now ≡ c.cluster-item.result.nodes = cc (c.as_slice.ensures.value, c.cluster.view_is) in
    let found : find test c.cluster-item.result.nodes ≡ Some c.in-Some.node = ap (find test) (sym same) ∙ sym c.find_in.ensures ∙ c.in-Some.is in
    let whole : c.args.volume.now.clusters ≡ c.deref-cluster-items.result.now = ap (λ (v : Volume). v.clusters) (sym c.volume.view_is) ∙ sym c.deref-cluster-items.ensures.value in
    sym (ap (λ (l : List Cluster). find test (nodes_of l)) whole ∙ c.loop-cluster.invariant ∙ ap (find test) (nodes-from items k item c.loop-cluster-test.true c.cluster-item.is)
    ∙ find-first test item.nodes (nodes_of (drop (k + 1) items)) c.in-Some.node found)

pub loop-cluster-preserved : goal.loop-cluster-preserved
loop-cluster-preserved c =
    let items = c.deref-cluster-items.result.now in
    let k = c.loop-cluster.cluster-index in
    let item = c.cluster-item.result in
    let test : NodeSpec → Bool = λ n. n.sid == c.args.number in
    let same : c.as_slice.result.now ≡ c.cluster-item.result.nodes = cc (c.as_slice.ensures.value, c.cluster.view_is) in
    let none : find test c.cluster-item.result.nodes ≡ None = ap (find test) (sym same) ∙ sym c.find_in.ensures ∙ c.in_default.is in
    c.loop-cluster.invariant ∙ ap (find test) (nodes-from items k item c.loop-cluster-test.true c.cluster-item.is) ∙ find-second test item.nodes (nodes_of (drop (k + 1) items)) none
