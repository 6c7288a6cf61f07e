-- Where files lie: on as many nodes as the layout has positions, all of one cluster and no two alike.
use Rattle.std.proofs.Common.{◌≡◌, ◌≢◌, ◌⊎◌, inl, inr, ◌<◌, ◌≤◌, ◌+◌, ◌==◌, ℕ, zero, suc, Bool, true, false, cond, List, [], ◌∷◌, ◌++◌, length, map, take, drop, refl, sym, ◌∙◌, ap, subst, arith, Option, Some, None}
use Rattle.std.specs.Prelude.{slice_get, nat_eq}
use Rattle.std.specs.Option.{option_map_or}
use Rattle.std.specs.List.{AllByRecursion, IsDistinct}
use Rattle.std.proofs.lemmas.Bool.{eq-eqb}
use Rattle.mj_angles.specs.Layout.{safe_of}
use Rattle.rz_events.specs.Volume.{Volume, Cluster, nodes_of, IsCluster, IsVolume}
use Rattle.rz_events.specs.declared.files.NodeSpec.{NodeSpec}
use Rattle.rz_events.specs.declared.files.FileInfo.{FileInfo}
use Rattle.rz_events.specs.declared.tree.TreeCall.{TreeCall}
use Rattle.rz_events.specs.declared.tree.TreeCall.TheVariants as call
use Rattle.rz_events.specs.declared.tree.TreeReply.{TreeReply}
use Rattle.rz_events.specs.declared.tree.TreeReply.TheVariants as reply
use Rattle.rz_events.specs.declared.tree.TreeFault.{TreeFault}
use Rattle.rz_events.specs.declared.tree.TreeFault.TheVariants as fault
use Rattle.rz_events.specs.declared.events.Event.{Event}
use Rattle.rz_events.specs.declared.events.Event.TheVariants as e
use Rattle.rz_node_model.specs.Versions.{Stands}
use Rattle.rz_export_model.specs.Place.{NodeRoom, Rooms, clusters_of, best_of, is_before, at_its_place, in_order, placed_in, placed_among, place}
use Rattle.rz_export_model.specs.Tree.{Tree, Found, found_at}
use Rattle.rz_export_model.specs.Refusals.{path_in, refusal}
use Rattle.rz_export_model.specs.TreeCalls.{answer_to, reply_to}
use Rattle.rz_export_model.specs.Export.{Export, new_places, free_of}
use Rattle.rz_export_model.proofs.Rooms.{sids, all-insert, all-order, all-take, long-order, long-take, rooms-sids, rooms-long, long-both, long-drop, best-of, clusters-long, map-long, all-there}
use Rattle.rz_core.specs.History.{facts, places_of, placed_by, first_some}
use Rattle.rz_core.specs.ExportWord.{export_of}
use Rattle.rz_core.specs.NodeRows.{IsNodeOf}
use Rattle.rz_core.specs.Legal.{IsLegalInRuns}
use Rattle.rz_core.proofs.Stamps.{export}
use Rattle.rz_log_laws.specs.Places.{HasCluster, IsApart, sids_of, IsLaid, AreLaid}
use Rattle.rz_log_laws.proofs.Calls.{same-volume}

-- Distinct numbers.

abbrev AreDistinct : List ℕ → Type 0
AreDistinct [] = Unit {0}
AreDistinct (n ∷ ns) = AllByRecursion (λ m. m ≢ n) ns × AreDistinct ns

the_same : (a b : ℕ) → Some a ≡ Some b → a ≡ b
the_same a b q = cc

fresh-get : (s : ℕ) (ns : List ℕ) (p : ℕ) → AllByRecursion (λ m. m ≢ s) ns → slice_get ns p ≡ Some s → ⊥
fresh-get s [] p all is = cc
fresh-get s (n ∷ ns) zero all is = all.0 (the_same n s is)
fresh-get s (n ∷ ns) (suc p) all is = fresh-get s ns p all.1 is

distinct-apart : (ns : List ℕ) → AreDistinct ns → IsApart ns
distinct-apart [] all p q n at_p at_q = cc
distinct-apart (m ∷ ns) all zero zero n at_p at_q = refl
distinct-apart (m ∷ ns) all zero (suc q) n at_p at_q =
    let same : m ≡ n = the_same m n at_p in absurd (fresh-get m ns q all.0 (subst (λ z. slice_get ns q ≡ Some z) (sym same) at_q))
distinct-apart (m ∷ ns) all (suc p) zero n at_p at_q =
    let same : m ≡ n = the_same m n at_q in absurd (fresh-get m ns p all.0 (subst (λ z. slice_get ns p ≡ Some z) (sym same) at_p))
distinct-apart (m ∷ ns) all (suc p) (suc q) n at_p at_q = ap suc (distinct-apart ns all.1 p q n at_p at_q)

differ : (n : ℕ) (ns : List ℕ) → AllByRecursion (λ m. nat_eq n m ≡ false) ns → AllByRecursion (λ m. m ≢ n) ns
differ n [] all = tt
differ n (m ∷ ns) all = (λ same. (let on = eq-eqb n m (sym same) in let off = all.0 in cc), differ n ns all.1)

are-distinct : (ns : List ℕ) → IsDistinct nat_eq ns → AreDistinct ns
unfolding IsDistinct
are-distinct [] all = tt
are-distinct (n ∷ ns) all = (differ n ns all.0, are-distinct ns all.1)

-- The rooms of a cluster, in order.

distinct-insert : (n : NodeRoom) (ms : List NodeRoom) → AllByRecursion (λ m. m ≢ n.sid) (sids ms) → AreDistinct (sids ms) → AreDistinct (sids (at_its_place n ms))
distinct-insert n [] fresh distinct = (tt, tt)
distinct-insert n (m ∷ ms) fresh distinct = go (is_before n m) (distinct-insert n ms fresh.1 distinct.1)
  where
    go : (b : Bool) → AreDistinct (sids (at_its_place n ms)) → AreDistinct (sids (cond b (n ∷ m ∷ ms) (m ∷ at_its_place n ms)))
    go true rest = (fresh, distinct)
    go false rest = (all-insert (λ z. z ≢ m.sid) n ms (λ k. fresh.0 (sym k)) distinct.0, rest)

distinct-order : (ns : List NodeRoom) → AreDistinct (sids ns) → AreDistinct (sids (in_order ns))
distinct-order [] all = tt
distinct-order (n ∷ ns) all = distinct-insert n (in_order ns) (all-order (λ z. z ≢ n.sid) ns all.0) (distinct-order ns all.1)

distinct-take : (k : ℕ) (ns : List NodeRoom) → AreDistinct (sids ns) → AreDistinct (sids (take k ns))
distinct-take zero ns all = tt
distinct-take (suc k) [] all = tt
distinct-take (suc k) (n ∷ ns) all = (all-take (λ z. z ≢ n.sid) k ns all.0, distinct-take k ns all.1)

-- The rooms are those of a cluster of the volume.

-- a cluster has enough nodes, and no two of one number
record IsWide (safe : ℕ) (c : Cluster) : Type 0 where
  enough : safe ≤ length c.nodes
  distinct : AreDistinct (sids_of c)

-- rooms of such a cluster, which is one of these
record AreOf (v : Volume) (r : Rooms) : Type 0 where
  cluster : Cluster
  there : HasCluster v.clusters cluster
  wide : IsWide (safe_of v.layout) cluster
  nodes : sids r.nodes ≡ sids_of cluster
  many : length r.nodes ≡ length cluster.nodes

rooms-of : (v : Volume) (cs : List Cluster) (free : List ℕ) → length free ≡ length (nodes_of cs) → AllByRecursion (IsWide (safe_of v.layout)) cs
    → ((c : Cluster) → HasCluster cs c → HasCluster v.clusters c) → AllByRecursion (AreOf v) (clusters_of cs free)
rooms-of v [] free many all in_volume = tt
rooms-of v (c ∷ cs) free many all in_volume =
    let both = long-both c.nodes (nodes_of cs) in
    let few : length c.nodes ≤ length free = omega (arith, many, both) in
    let rest = long-drop (length c.nodes) free few in (
      record { cluster = c; there = in_volume c (inl refl); wide = all.0; nodes = rooms-sids c.nodes free few; many = rooms-long c.nodes free few },
      rooms-of v cs (drop (length c.nodes) free) (omega (arith, many, both, rest)) all.1 (λ d has. in_volume d (inr has)),
    )

-- The places.

all-stand : (ns ms : List ℕ) → ((n : ℕ) → Stands n ns → Stands n ms) → AllByRecursion (λ n. Stands n ms) ns
all-stand [] ms has = tt
all-stand (n ∷ ns) ms has = (has n (inl refl), all-stand ns ms (λ m s. has m (inr s)))

stands-left : (n : ℕ) (ns ms : List NodeSpec) → Stands n (map (λ (s : NodeSpec). s.sid) ns) → Stands n (map (λ (s : NodeSpec). s.sid) (ns ++ ms))
stands-left n [] ms stands = absurd stands
stands-left n (m ∷ ns) ms (inl same) = inl same
stands-left n (m ∷ ns) ms (inr stands) = inr (stands-left n ns ms stands)

stands-right : (n : ℕ) (ns ms : List NodeSpec) → Stands n (map (λ (s : NodeSpec). s.sid) ms) → Stands n (map (λ (s : NodeSpec). s.sid) (ns ++ ms))
stands-right n [] ms stands = stands
stands-right n (m ∷ ns) ms stands = inr (stands-right n ns ms stands)

of-cluster : (n : ℕ) (cs : List Cluster) (c : Cluster) → HasCluster cs c → Stands n (sids_of c) → Stands n (map (λ (s : NodeSpec). s.sid) (nodes_of cs))
of-cluster n [] c has stands = absurd has
of-cluster n (d ∷ cs) c (inl same) stands = stands-left n d.nodes (nodes_of cs) (subst (λ (z : Cluster). Stands n (sids_of z)) (sym same) stands)
of-cluster n (d ∷ cs) c (inr has) stands = stands-right n d.nodes (nodes_of cs) (of-cluster n cs c has stands)

all-of : (P Q : ℕ → Type 0) (ns : List ℕ) → ((n : ℕ) → P n → Q n) → AllByRecursion P ns → AllByRecursion Q ns
all-of P Q [] has all = tt
all-of P Q (n ∷ ns) has all = (has n all.0, all-of P Q ns has all.1)

laid-in : (v : Volume) (r : Rooms) → AreOf v r → IsLaid v (placed_in (safe_of v.layout) r).places
laid-in v r is =
    let l = long-order r.nodes in
    let few = is.wide.enough in
    let many = is.many in
    let distinct = subst AreDistinct (sym is.nodes) is.wide.distinct in
    let own : AllByRecursion (λ n. Stands n (sids_of is.cluster)) (sids r.nodes) = all-stand (sids r.nodes) (sids_of is.cluster) (λ n s. subst (Stands n) is.nodes s) in
    let all : AllByRecursion (λ n. Stands n (sids_of is.cluster)) (sids (take (safe_of v.layout) (in_order r.nodes))) =
    all-take (λ n. Stands n (sids_of is.cluster)) (safe_of v.layout) (in_order r.nodes) (all-order (λ n. Stands n (sids_of is.cluster)) r.nodes own) in
    record {
      many = long-take (safe_of v.layout) (in_order r.nodes) (omega (arith, l, few, many));
      apart = distinct-apart (sids (take (safe_of v.layout) (in_order r.nodes))) (distinct-take (safe_of v.layout) (in_order r.nodes) (distinct-order r.nodes distinct));
      cluster = (is.cluster, is.there, all);
      of_volume = all-of (λ n. Stands n (sids_of is.cluster)) (IsNodeOf v) (sids (take (safe_of v.layout) (in_order r.nodes))) (λ n s. of-cluster n v.clusters is.cluster is.there s) all;
    }

laid-among : (v : Volume) (rs : List Rooms) → 0 < length rs → AllByRecursion (AreOf v) rs → IsLaid v (placed_among (safe_of v.layout) rs).places
laid-among v [] some all = absurd (omega (arith, some))
laid-among v (r ∷ rs) some all = laid-in v (best_of r rs) (best-of (AreOf v) r rs all.0 all.1)

-- Volumes.

front : (P : ℕ → Type 0) (ns ms : List NodeSpec) → AllByRecursion P (map (λ (s : NodeSpec). s.sid) (ns ++ ms)) → AllByRecursion P (map (λ (s : NodeSpec). s.sid) ns)
front P [] ms all = tt
front P (n ∷ ns) ms all = (all.0, front P ns ms all.1)

distinct-left : (ns ms : List NodeSpec) → AreDistinct (map (λ (s : NodeSpec). s.sid) (ns ++ ms)) → AreDistinct (map (λ (s : NodeSpec). s.sid) ns)
distinct-left [] ms all = tt
distinct-left (n ∷ ns) ms all = (front (λ m. m ≢ n.sid) ns ms all.0, distinct-left ns ms all.1)

distinct-right : (ns ms : List NodeSpec) → AreDistinct (map (λ (s : NodeSpec). s.sid) (ns ++ ms)) → AreDistinct (map (λ (s : NodeSpec). s.sid) ms)
distinct-right [] ms all = all
distinct-right (n ∷ ns) ms all = distinct-right ns ms all.1

wide-all : (safe : ℕ) (cs : List Cluster) → AllByRecursion (IsCluster safe) cs → AreDistinct (map (λ (s : NodeSpec). s.sid) (nodes_of cs)) → AllByRecursion (IsWide safe) cs
wide-all safe [] all distinct = tt
wide-all safe (c ∷ cs) all distinct = (
  record { enough = all.0.enough_nodes; distinct = distinct-left c.nodes (nodes_of cs) distinct },
  wide-all safe cs all.1 (distinct-right c.nodes (nodes_of cs) distinct),
)

wide : (v : Volume) → IsVolume v → AllByRecursion (IsWide (safe_of v.layout)) v.clusters
wide v is =
    wide-all (safe_of v.layout) v.clusters (all-there (IsCluster (safe_of v.layout)) v.clusters is.clusters)
    (are-distinct (map (λ (s : NodeSpec). s.sid) (nodes_of v.clusters)) is.distinct_sids)

laid-new : (v : Volume) → IsVolume v → (s : Export) → s.volume ≡ v → IsLaid v (new_places s).places
laid-new v volume s is =
    subst (λ (y : Volume). IsLaid v (place y (free_of s)).places) (sym is)
    (let l = clusters-long v.clusters (free_of s) in
    let some = volume.some_cluster in
    laid-among v (clusters_of v.clusters (free_of s)) (omega (arith, l, some))
    (rooms-of v v.clusters (free_of s)
    (subst (λ (y : Volume). length (free_of s) ≡ length (nodes_of y.clusters)) is (map-long _ (nodes_of s.volume.clusters))) (wide v volume) (λ c has. has)))

-- Files.

-- a call that makes a file gives it the places
made-places : (t : Tree) (cid : ℕ) (ps : List ℕ) (c : TreeCall) (info : FileInfo) → reply_to t cid ps c ≡ reply.MadeFile info → info.places ≡ ps
made-places t cid ps c info is = by_fault (refusal t c) is
  where
    told : (o : Option Found) (tell : Found → TreeReply) → ((f : Found) → ¬ (tell f ≡ reply.MadeFile info)) → option_map_or tell o (reply.Refused fault.NoEntry) ≡ reply.MadeFile info → info.places ≡ ps
    told None tell never is = cc
    told (Some f) tell never is = absurd (never f is)

    answer : (c : TreeCall) → answer_to t cid ps c ≡ reply.MadeFile info → info.places ≡ ps
    answer (call.Create path) is = made is
      where
        made : (let i : FileInfo = record { fid = t.made + 1; cid = cid; places = ps; size = 0 } in reply.MadeFile i) ≡ reply.MadeFile info → info.places ≡ ps
        made is = let same : (let i : FileInfo = record { fid = t.made + 1; cid = cid; places = ps; size = 0 } in i) ≡ info = cc in sym (ap (λ (i : FileInfo). i.places) same)
    answer (call.Lookup path) is = told (found_at t (path_in path)) _ (λ f q. cc) is
    answer (call.Getattr path) is = told (found_at t (path_in path)) _ (λ f q. cc) is
    answer (call.Readlink path) is = told (found_at t (path_in path)) _ (λ f q. cc) is
    answer (call.OpenFile path) is = told (found_at t (path_in path)) _ (λ f q. cc) is
    answer _ is = cc

    by_fault : (o : Option TreeFault) → option_map_or reply.Refused o (answer_to t cid ps c) ≡ reply.MadeFile info → info.places ≡ ps
    by_fault None is = answer c is
    by_fault (Some why) is = cc

-- where a file lies, by the event that made it or by those before
first_cases : (a b : Option (List ℕ)) (ps : List ℕ) → first_some a b ≡ Some ps → (a ≡ Some ps) ⊎ (b ≡ Some ps)
first_cases None b ps is = inr is
first_cases (Some a) b ps is = inl is

pub laid : (v : Volume) → AreLaid v
laid v volume [] legal fid ps is = cc
laid v volume (x ∷ h) legal fid ps is =
    elim (first_cases (places_of h fid) (placed_by fid x) ps is) [
      | inl old ↦ laid v volume h legal.0 fid ps old
      | inr new ↦ made x legal new
    ]
  where
    made : (y : Event) → IsLegalInRuns v (y ∷ h) → placed_by fid y ≡ Some ps → IsLaid v ps
    made (e.Meta by c (reply.MadeFile info)) legal new = go (fid == info.fid) new
      where
        s : Export
        s = export_of v (facts h) (export h)

        lies : Some info.places ≡ Some ps → IsLaid v ps
        lies q =
            let told : info.places ≡ (new_places s).places = made-places s.tree (new_places s).cid (new_places s).places c info (sym legal.1.row.told) in
            let same : info.places ≡ ps = cc in
            subst (IsLaid v) (sym told ∙ same) (laid-new v volume s (same-volume v (facts h) (export h)))

        go : (t : Bool) → cond t (Some info.places) None ≡ Some ps → IsLaid v ps
        go true q = lies q
        go false q = cc
    made (e.Meta by c _) legal new = cc
    made _ legal new = cc
