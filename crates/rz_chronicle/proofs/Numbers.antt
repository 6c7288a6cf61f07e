-- A kind is read back from its numbers.
use Rattle.std.proofs.Common.{◌≡◌, ℕ, zero, Bool, true, false, List, [], ◌∷◌, ◌++◌, length, drop, slice_index_or, refl, sym, ap, ap₂, subst, ◌∙◌}
use Rattle.std.specs.Prelude.{IsTrue}
use Rattle.std.proofs.lemmas.Bool.{and_parts}
use Rattle.std.proofs.Math.Seq.{take-append_seam, drop-append_seam}
use base.Stored.{Gv, gnil, gnum, gcons}
use Rattle.mj_angles.specs.declared.layout.Layout.{Layout}
use Rattle.mj_angles.specs.declared.layout.Layout.TheVariants.{L0, L1, L2, L0B1, L0B2, L0B3, L1B1, L1B2, L1B3, L2B1, L2B2, L2B3}
use Rattle.rz_events.specs.contracts.events.Event.{the_row}
use Rattle.rz_events.specs.declared.events.Event.{Event}
use Rattle.rz_events.specs.declared.files.NodeSpec.{NodeSpec}
use Rattle.rz_events.specs.Volume.{Cluster, Volume}
use Rattle.rz_core.specs.Legal.{IsLegalInRuns}
use Rattle.rz_chronicle.specs.Kinds.{layouts, layout_number, node_numbers, cluster_numbers, clusters_at, with_node, spelled, log_numbers, kind_of, kind_after, volume_in, earlier_in, keeps_legal, is_none, is_honest, goes_on, HasEarlierLog, Fits}

layout-back : (l : Layout) → slice_index_or layouts (layout_number l) L0 ≡ l
layout-back L0 = refl
layout-back L1 = refl
layout-back L2 = refl
layout-back L0B1 = refl
layout-back L0B2 = refl
layout-back L0B3 = refl
layout-back L1B1 = refl
layout-back L1B2 = refl
layout-back L1B3 = refl
layout-back L2B1 = refl
layout-back L2B2 = refl
layout-back L2B3 = refl

cluster : ℕ → List NodeSpec → Cluster
cluster cid nodes = record { cid = cid; nodes = nodes }

nodes-back : (cid : ℕ) (code : List ℕ) (ns : List NodeSpec) → clusters_at (node_numbers ns (zero ∷ cid ∷ code)) ≡ cluster cid ns ∷ clusters_at code
unfolding cluster
nodes-back cid code [] = refl
nodes-back cid code (n ∷ ns) = ap (with_node n) (nodes-back cid code ns)

clusters-back : (cs : List Cluster) → clusters_at (cluster_numbers cs) ≡ cs
unfolding cluster
clusters-back [] = refl
clusters-back (c ∷ cs) = nodes-back c.cid (cluster_numbers cs) c.nodes ∙ ap (λ (more : List Cluster). c ∷ more) (clusters-back cs)

pub volume-back-after : (honest : Bool) (v : Volume) (earlier : List Event) → volume_in (kind_after honest v earlier) ≡ v
volume-back-after honest v earlier =
    let clusters : clusters_at (drop (length (log_numbers earlier)) (log_numbers earlier ++ cluster_numbers v.clusters)) ≡ v.clusters =
    ap clusters_at (drop-append_seam (log_numbers earlier) (cluster_numbers v.clusters)) ∙ clusters-back v.clusters in
    ap₂ (λ (a : Layout) (b : List Cluster). let w : Volume = record { layout = a; clusters = b } in w) (layout-back v.layout) clusters

pub earlier-back : (honest : Bool) (v : Volume) (earlier : List Event) → earlier_in (kind_after honest v earlier) ≡ log_numbers earlier
earlier-back honest v earlier = take-append_seam (log_numbers earlier) (cluster_numbers v.clusters)

pub keeps-back : (honest : Bool) (v : Volume) (earlier : List Event) → keeps_legal (kind_after honest v earlier) ≡ honest
keeps-back true v earlier = refl
keeps-back false v earlier = refl

pub honest-back : (honest : Bool) (v : Volume) → is_honest (kind_of honest v) ≡ honest
honest-back true v = refl
honest-back false v = refl

-- No two logs have the same numbers.

spelled-back : (a b : Gv) (r s : List ℕ) → spelled a r ≡ spelled b s → (a ≡ b) × (r ≡ s)
spelled-back gnil gnil r s e = (refl, cc (e))
spelled-back (gnum n) (gnum m) r s e = (cc (e), cc (e))
spelled-back (gcons a b) (gcons c d) r s e =
    let one = spelled-back a c (spelled b r) (spelled d s) (cc (e)) in
    let two = spelled-back b d r s one.1 in
    (ap₂ gcons one.0 two.0, two.1)
spelled-back gnil (gnum m) r s e = absurd cc
spelled-back gnil (gcons c d) r s e = absurd cc
spelled-back (gnum n) gnil r s e = absurd cc
spelled-back (gnum n) (gcons c d) r s e = absurd cc
spelled-back (gcons a b) gnil r s e = absurd cc
spelled-back (gcons a b) (gnum m) r s e = absurd cc

-- each event has a number
pub some-numbers : (x : Event) (log : List Event) → is_none (log_numbers (x ∷ log)) ≡ false
some-numbers x log = go (the_row.coded.code x) (log_numbers log)
  where
    go : (g : Gv) (r : List ℕ) → is_none (spelled g r) ≡ false
    go gnil r = refl
    go (gnum n) r = refl
    go (gcons a b) r = refl

pub log-back : (xs ys : List Event) → log_numbers xs ≡ log_numbers ys → xs ≡ ys
log-back [] [] e = refl
log-back [] (y ∷ ys) e = let some = some-numbers y ys in let none : is_none (log_numbers (y ∷ ys)) ≡ true = sym (ap is_none e) in absurd cc
log-back (x ∷ xs) [] e = let some = some-numbers x xs in let none : is_none (log_numbers (x ∷ xs)) ≡ true = ap is_none e in absurd cc
log-back (x ∷ xs) (y ∷ ys) e =
    let one = spelled-back (the_row.coded.code x) (the_row.coded.code y) (log_numbers xs) (log_numbers ys) e in
    ap₂ (λ (z : Event) (zs : List Event). z ∷ zs) (the_row.coded.inj x y one.0) (log-back xs ys one.1)

-- so a kind has one earlier log
pub one-earlier : (kind : List ℕ) (a b : List Event) → HasEarlierLog kind a → HasEarlierLog kind b → a ≡ b
one-earlier kind a b p q = log-back a b (sym p.numbers ∙ q.numbers)

-- a log without events is fit, where the earlier one is legal
pub fits-nothing : (kind : List ℕ) (earlier : List Event) → HasEarlierLog kind earlier → (IsTrue (goes_on kind) → IsLegalInRuns (volume_in kind) earlier) → Fits kind []
fits-nothing kind earlier has legal = (
  (λ honest. tt),
  (λ on e is. subst (λ (z : List Event). IsLegalInRuns (volume_in kind) z) (one-earlier kind earlier e has is) (legal on)),
)

-- a log without events is fit, where the earlier one is legal
pub fits-first : (honest : Bool) (v : Volume) (earlier : List Event) → (IsTrue honest → IsLegalInRuns v earlier) → Fits (kind_after honest v earlier) []
fits-first honest v earlier legal =
    let kind : List ℕ = kind_after honest v earlier in (
      (λ honest-too. tt),
      (λ on e is.
          let same : earlier ≡ e = log-back earlier e (sym (earlier-back honest v earlier) ∙ is.numbers) in
          let keeps : IsTrue honest = sym (keeps-back honest v earlier) ∙ (and_parts _ _ on).0 in
          subst (λ (z : List Event). IsLegalInRuns (volume_in kind) z) same (subst (λ (u : Volume). IsLegalInRuns u earlier) (sym (volume-back-after honest v earlier)) (legal keeps))),
    )
