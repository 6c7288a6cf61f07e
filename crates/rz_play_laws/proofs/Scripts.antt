-- What the limits of a script's lines say of the operations in them.
use Rattle.std.proofs.Common.{map, ap, ◌≡◌, inl, inr, ℕ, ◌==◌, ◌≤◌, Bool, true, false, ◌||◌, List, [], ◌∷◌, ◌++◌, length, sym, subst, refl}
use Rattle.std.specs.List.{list_any}
use Rattle.std.proofs.lemmas.Bool.{eqb-true}
use Rattle.std.proofs.lemmas.List.FromFn.{length-map-range_with_len}
use Rattle.mj_angles.specs.Layout.{block_bytes_of}
use Rattle.rz_events.specs.Volume.{Volume, Cluster, nodes_of}
use Rattle.rz_events.specs.declared.files.NodeSpec.{NodeSpec}
use Rattle.rz_events.specs.declared.keys.Actor.{Actor}
use Rattle.rz_events.specs.declared.keys.Actor.TheVariants.{Client, Rebuilder, Admin}
use Rattle.rz_events.specs.declared.tree.TreeCall.{TreeCall}
use Rattle.rz_events.specs.declared.tree.TreeCall.TheVariants as tree
use Rattle.rz_events.specs.declared.operations.Datum.{Datum}
use Rattle.rz_events.specs.declared.operations.Datum.TheVariants as datum
use Rattle.rz_events.specs.declared.operations.Operation.{Operation}
use Rattle.rz_events.specs.declared.operations.Operation.TheVariants as operation
use Rattle.rz_events.specs.declared.events.Event.{Event}
use Rattle.rz_config.specs.Described.{has_sid}
use Rattle.rz_node_model.specs.Versions.{Stands}
use Rattle.rz_script.specs.Lines as limits
use Rattle.rz_script.specs.Lines.{IsActor, IsOperation, IsOfClient, IsOfRebuilder, IsDatum, IsCall}
use Rattle.rz_core.specs.History.{Facts}
use Rattle.rz_core.specs.NodeRows.{IsNodeOf}
use Rattle.rz_core.specs.Courses.{does}
use Rattle.rz_operation_model.specs.Ranges.{bytes_of}
use Rattle.rz_operation_model.specs.Steps.{begun}
use Rattle.rz_play_laws.specs.Own.{IsOnNames, IsOwnOf}
use Rattle.rz_play_laws.specs.Fine.{IsSeated}

-- an actor of a script is a client or a rebuilder
pub seated : (by : Actor) → IsActor by → IsSeated by
seated (Client n) is = refl
seated (Rebuilder n) is = refl
seated Admin is = absurd is

-- Nodes.

abbrev pub spec_sids : List NodeSpec → List ℕ
spec_sids specs = map (λ (n : NodeSpec). n.sid) specs

pub sids-both : (ns ms : List NodeSpec) → spec_sids (ns ++ ms) ≡ spec_sids ns ++ spec_sids ms
sids-both [] ms = refl
sids-both (n ∷ ns) ms = ap (λ (ks : List ℕ). n.sid ∷ ks) (sids-both ns ms)

pub stands-front : (n : ℕ) (ns ms : List ℕ) → Stands n ns → Stands n (ns ++ ms)
stands-front n [] ms is = absurd is
stands-front n (k ∷ ns) ms (inl same) = inl same
stands-front n (k ∷ ns) ms (inr more) = inr (stands-front n ns ms more)

pub stands-back : (n : ℕ) (ns ms : List ℕ) → Stands n ms → Stands n (ns ++ ms)
stands-back n [] ms is = is
stands-back n (k ∷ ns) ms is = inr (stands-back n ns ms is)

in-nodes : (n : ℕ) (specs : List NodeSpec) → has_sid n specs ≡ true → Stands n (spec_sids specs)
in-nodes n [] is = cc
in-nodes n (s ∷ specs) is = go (s.sid == n) refl is (λ more. in-nodes n specs more)
  where
    go : (b : Bool) → (s.sid == n) ≡ b → (b || has_sid n specs) ≡ true → (has_sid n specs ≡ true → Stands n (spec_sids specs)) → Stands n (spec_sids (s ∷ specs))
    go true same is rest = inl (eqb-true s.sid n same)
    go false other is rest = inr (rest is)

in-clusters : (n : ℕ) (cs : List Cluster) → list_any (λ (c : Cluster). has_sid n c.nodes) cs ≡ true → Stands n (spec_sids (nodes_of cs))
in-clusters n [] is = cc
in-clusters n (c ∷ cs) is = subst (Stands n) (sym (sids-both c.nodes (nodes_of cs))) (go (has_sid n c.nodes) refl is (λ more. in-clusters n cs more))
  where
    go : (b : Bool) → has_sid n c.nodes ≡ b → (b || list_any (λ (c : Cluster). has_sid n c.nodes) cs) ≡ true
        → (list_any (λ (c : Cluster). has_sid n c.nodes) cs ≡ true → Stands n (spec_sids (nodes_of cs))) → Stands n (spec_sids c.nodes ++ spec_sids (nodes_of cs))
    go true here is rest = stands-front n (spec_sids c.nodes) (spec_sids (nodes_of cs)) (in-nodes n c.nodes here)
    go false other is rest = stands-back n (spec_sids c.nodes) (spec_sids (nodes_of cs)) (rest is)

pub node-of : (v : Volume) (n : ℕ) → limits.IsNodeOf v n → IsNodeOf v n
node-of v n is = in-clusters n v.clusters is.2

-- Operations.

on-names : (c : TreeCall) → IsCall c → IsOnNames c
on-names (tree.OpenFile path) is = is
on-names (_) is = tt

short-datum : (limit : ℕ) (d : Datum) → IsDatum limit d → length (bytes_of d) ≤ limit
short-datum limit (datum.Bytes bytes) is = is.1
short-datum limit (datum.Made len seed) is = subst (λ n. n ≤ limit) (sym (length-map-range_with_len _ 0 len)) is.0

client-begins : (v : Volume) (f : Facts) (o run : List Event) (by : Actor) (op : Operation) → IsOfClient v op → IsOwnOf v f o run by (begun op)
client-begins v f o run by (operation.Tree c) is = on-names c is
client-begins v f o run by (operation.Put path block d) is = short-datum (block_bytes_of v.layout) d is.2
client-begins v f o run by (operation.Get path block) is = tt
client-begins v f o run by (operation.Write path offset d) is = tt
client-begins v f o run by (operation.Read path offset count) is = tt
client-begins v f o run by (operation.Rebuild n) is = absurd is
client-begins v f o run by (operation.Update path offset d) is = tt
client-begins v f o run by (operation.View path offset count) is = tt

rebuilder-begins : (v : Volume) (f : Facts) (o run : List Event) (by : Actor) (op : Operation) → IsOfRebuilder v op → IsOwnOf v f o run by (begun op)
rebuilder-begins v f o run by (operation.Rebuild n) is = (node-of v n is, tt)
rebuilder-begins v f o run by (_) is = absurd is

-- the own events of an actor that takes up an operation say where it stands
pub begins : (v : Volume) (f : Facts) (o run : List Event) (by : Actor) (op : Operation) → IsOperation v by op → IsOwnOf v f o run by (begun op)
begins v f o run (Client n) op is = client-begins v f o run (Client n) op is
begins v f o run (Rebuilder n) op is = rebuilder-begins v f o run (Rebuilder n) op is
begins v f o run Admin op is = absurd is

tree-does : (n : ℕ) (c : TreeCall) → IsCall c → does (Client n) (operation.Tree c) ≡ true
tree-does n (tree.OpenFile path) is = absurd is
tree-does n (_) is = refl

client-does : (v : Volume) (n : ℕ) (op : Operation) → IsOfClient v op → does (Client n) op ≡ true
client-does v n (operation.Tree c) is = tree-does n c is
client-does v n (operation.Rebuild node) is = absurd is
client-does v n (_) is = refl

rebuilder-does : (v : Volume) (n : ℕ) (op : Operation) → IsOfRebuilder v op → does (Rebuilder n) op ≡ true
rebuilder-does v n (operation.Rebuild node) is = refl
rebuilder-does v n (_) is = absurd is

pub does-it : (v : Volume) (by : Actor) (op : Operation) → IsOperation v by op → does by op ≡ true
does-it v (Client n) op is = client-does v n op is
does-it v (Rebuilder n) op is = rebuilder-does v n op is
does-it v Admin op is = absurd is
