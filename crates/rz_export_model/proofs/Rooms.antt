-- The rooms of clusters: in order, and as many as there are nodes.
use Rattle.std.proofs.Common.{◌≡◌, ◌≤◌, ◌+◌, ℕ, zero, suc, Bool, true, false, cond, List, [], ◌∷◌, ◌++◌, length, map, take, drop, All, refl, ap, arith}
use Rattle.std.specs.List.{AllByRecursion}
use Rattle.rz_events.specs.Volume.{Cluster}
use Rattle.rz_events.specs.declared.files.NodeSpec.{NodeSpec}
use Rattle.rz_export_model.specs.Place.{NodeRoom, Rooms, rooms_of, clusters_of, is_better, best_of, is_before, at_its_place, in_order}

abbrev pub sids : List NodeRoom → List ℕ
sids rooms = map (λ n. n.sid) rooms

pub all-insert : (P : ℕ → Type 0) (n : NodeRoom) (ms : List NodeRoom) → P n.sid → AllByRecursion P (sids ms) → AllByRecursion P (sids (at_its_place n ms))
all-insert P n [] own all = (own, tt)
all-insert P n (m ∷ ms) own all = go (is_before n m) (all-insert P n ms own all.1)
  where
    go : (b : Bool) → AllByRecursion P (sids (at_its_place n ms)) → AllByRecursion P (sids (cond b (n ∷ m ∷ ms) (m ∷ at_its_place n ms)))
    go true rest = (own, all)
    go false rest = (all.0, rest)

pub all-order : (P : ℕ → Type 0) (ns : List NodeRoom) → AllByRecursion P (sids ns) → AllByRecursion P (sids (in_order ns))
all-order P [] all = tt
all-order P (n ∷ ns) all = all-insert P n (in_order ns) all.0 (all-order P ns all.1)

pub all-take : (P : ℕ → Type 0) (k : ℕ) (ns : List NodeRoom) → AllByRecursion P (sids ns) → AllByRecursion P (sids (take k ns))
all-take P zero ns all = tt
all-take P (suc k) [] all = tt
all-take P (suc k) (n ∷ ns) all = (all.0, all-take P k ns all.1)

pub long-insert : (n : NodeRoom) (ms : List NodeRoom) → length (at_its_place n ms) ≡ length ms + 1
long-insert n [] = omega arith
long-insert n (m ∷ ms) = go (is_before n m) (long-insert n ms)
  where
    go : (b : Bool) → length (at_its_place n ms) ≡ length ms + 1 → length (cond b (n ∷ m ∷ ms) (m ∷ at_its_place n ms)) ≡ length (m ∷ ms) + 1
    go true rest = omega arith
    go false rest = omega (arith, rest)

pub long-order : (ns : List NodeRoom) → length (in_order ns) ≡ length ns
long-order [] = refl
long-order (n ∷ ns) = let i = long-insert n (in_order ns) in let r = long-order ns in omega (arith, i, r)

pub long-take : (k : ℕ) (ns : List NodeRoom) → k ≤ length ns → length (sids (take k ns)) ≡ k
long-take zero ns few = refl
long-take (suc k) [] few = absurd (omega (arith, few))
long-take (suc k) (n ∷ ns) few = let r = long-take k ns (omega (arith, few)) in omega (arith, r)

pub rooms-sids : (ns : List NodeSpec) (free : List ℕ) → length ns ≤ length free → sids (rooms_of ns free) ≡ map (λ n. n.sid) ns
rooms-sids [] free few = refl
rooms-sids (n ∷ ns) [] few = absurd (omega (arith, few))
rooms-sids (n ∷ ns) (f ∷ free) few = ap (λ (l : List ℕ). n.sid ∷ l) (rooms-sids ns free (omega (arith, few)))

pub rooms-long : (ns : List NodeSpec) (free : List ℕ) → length ns ≤ length free → length (rooms_of ns free) ≡ length ns
rooms-long [] free few = refl
rooms-long (n ∷ ns) [] few = absurd (omega (arith, few))
rooms-long (n ∷ ns) (f ∷ free) few = let r = rooms-long ns free (omega (arith, few)) in omega (arith, r)

pub long-both : (ns ms : List NodeSpec) → length (ns ++ ms) ≡ length ns + length ms
long-both [] ms = omega arith
long-both (n ∷ ns) ms = let r = long-both ns ms in omega (arith, r)

pub long-drop : (k : ℕ) (free : List ℕ) → k ≤ length free → length (drop k free) + k ≡ length free
long-drop zero free few = omega arith
long-drop (suc k) [] few = absurd (omega (arith, few))
long-drop (suc k) (f ∷ free) few = let r = long-drop k free (omega (arith, few)) in omega (arith, r)

pub best-of : (P : Rooms → Type 0) (best : Rooms) (cs : List Rooms) → P best → AllByRecursion P cs → P (best_of best cs)
best-of P best [] is all = is
best-of P best (c ∷ cs) is all = best-of P (cond (is_better c best) c best) cs (go (is_better c best)) all.1
  where
    go : (b : Bool) → P (cond b c best)
    go true = all.0
    go false = is

pub clusters-long : (cs : List Cluster) (free : List ℕ) → length (clusters_of cs free) ≡ length cs
clusters-long [] free = refl
clusters-long (c ∷ cs) free = let r = clusters-long cs (drop (length c.nodes) free) in omega (arith, r)

pub map-long : (g : NodeSpec → ℕ) (ns : List NodeSpec) → length (map g ns) ≡ length ns
map-long g [] = refl
map-long g (n ∷ ns) = let r = map-long g ns in omega (arith, r)

pub all-there : {X : Type 0} (P : X → Type 0) (xs : List X) → All P xs → AllByRecursion P xs
all-there P [] all = tt
all-there P (x ∷ xs) all = (all 0 x (omega arith), all-there P xs (λ k d few. all (suc k) d (omega (arith, few))))
