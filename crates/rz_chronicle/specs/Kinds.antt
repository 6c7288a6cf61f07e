-- The kind of a book: whether it is honest, the volume whose log it has, and the earlier log after which it goes on. It stands
-- as numbers among the ghost names of the book, and is read back from them.
use Rattle.std.specs.Prelude.{ℕ, zero, suc, ◌≡◌, ◌<◌, ◌+◌, ◌^◌, Bool, true, false, not, ◌&&◌, IsTrue, cond, List, [], ◌∷◌, ◌++◌, Some, length, take, drop, reverse, slice_index_or}
use base.Stored.{Gv, gnil, gnum, gcons}
use Rattle.std.specs.List.{AllByRecursion}
use Rattle.mj_angles.specs.declared.layout.Layout.{Layout}
use Rattle.mj_angles.specs.declared.layout.Layout.TheVariants.{L0, L1, L2, L0B1, L0B2, L0B3, L1B1, L1B2, L1B3, L2B1, L2B2, L2B3}
use Rattle.rz_events.specs.declared.files.NodeSpec.{NodeSpec}
use Rattle.rz_events.specs.contracts.events.Event.{the_row}
use Rattle.rz_events.specs.declared.events.Event.{Event}
use Rattle.rz_events.specs.Events.{word_of, by_of}
use Rattle.rz_events.specs.Volume.{Cluster, Volume}
use Rattle.rz_core.specs.History.{of_actor}
use Rattle.rz_core.specs.Legal.{IsLegal, IsAllowed, IsLegalAfter, IsAllowedIn}
use Rattle.rz_chronicle.specs.Keys.{IsMember, owner, sids_of}

-- The numbers of a kind.

abbrev pub layout_number : Layout → ℕ
layout_number L0 = 0
layout_number L1 = 1
layout_number L2 = 2
layout_number L0B1 = 3
layout_number L0B2 = 4
layout_number L0B3 = 5
layout_number L1B1 = 6
layout_number L1B2 = 7
layout_number L1B3 = 8
layout_number L2B1 = 9
layout_number L2B2 = 10
layout_number L2B3 = 11

-- 1, and what is said of a node; then the rest
abbrev pub node_numbers : List NodeSpec → List ℕ → List ℕ
node_numbers [] rest = rest
node_numbers (n ∷ ns) rest = 1 ∷ n.sid ∷ n.cells ∷ node_numbers ns rest

-- the nodes of a cluster, and 0 and the cluster's number after them
abbrev pub cluster_numbers : List Cluster → List ℕ
cluster_numbers [] = []
cluster_numbers (c ∷ cs) = node_numbers c.nodes (0 ∷ c.cid ∷ cluster_numbers cs)

-- a tree of numbers, each part behind a number that says what it is
abbrev pub spelled : Gv → List ℕ → List ℕ
spelled gnil rest = 0 ∷ rest
spelled (gnum n) rest = 1 ∷ n ∷ rest
spelled (gcons a b) rest = 2 ∷ spelled a (spelled b rest)

abbrev pub log_numbers : List Event → List ℕ
log_numbers [] = []
log_numbers (x ∷ log) = spelled (the_row.coded.code x) (log_numbers log)

-- a book whose log begins anew
abbrev pub kind_of : Bool → Volume → List ℕ
kind_of honest v = cond honest 1 0 ∷ layout_number v.layout ∷ 0 ∷ cluster_numbers v.clusters

-- the same with an earlier log, which has the newest event first
abbrev pub with_earlier : List ℕ → List Event → List ℕ
with_earlier (honest ∷ layout ∷ none ∷ code) earlier = honest ∷ layout ∷ length (log_numbers earlier) ∷ log_numbers earlier ++ code
with_earlier kind earlier = kind

-- a book that goes on after an earlier log
abbrev pub kind_after : Bool → Volume → List Event → List ℕ
kind_after honest v earlier = with_earlier (kind_of honest v) earlier

-- The kind that numbers say.

abbrev pub layouts : List Layout
layouts = L0 ∷ L1 ∷ L2 ∷ L0B1 ∷ L0B2 ∷ L0B3 ∷ L1B1 ∷ L1B2 ∷ L1B3 ∷ L2B1 ∷ L2B2 ∷ L2B3 ∷ []

abbrev pub with_node : NodeSpec → List Cluster → List Cluster
with_node n [] = []
with_node n (c ∷ cs) = record { cid = c.cid; nodes = n ∷ c.nodes } ∷ cs

abbrev pub clusters_at : List ℕ → List Cluster
clusters_at [] = []
clusters_at (a ∷ []) = []
clusters_at (zero ∷ cid ∷ code) = record { cid = cid; nodes = [] } ∷ clusters_at code
clusters_at (suc a ∷ sid ∷ []) = []
clusters_at (suc a ∷ sid ∷ cells ∷ code) = with_node (record { sid = sid; cells = cells }) (clusters_at code)

abbrev pub volume_in : List ℕ → Volume
volume_in (honest ∷ layout ∷ size ∷ code) = record { layout = slice_index_or layouts layout L0; clusters = clusters_at (drop size code) }
volume_in _ = record { layout = L0; clusters = [] }

-- the numbers of the earlier log
abbrev pub earlier_in : List ℕ → List ℕ
earlier_in (honest ∷ layout ∷ size ∷ code) = take size code
earlier_in _ = []

abbrev pub is_none : List ℕ → Bool
is_none [] = true
is_none (n ∷ ns) = false

-- the book keeps its log legal
abbrev pub keeps_legal : List ℕ → Bool
keeps_legal (suc n ∷ code) = true
keeps_legal _ = false

-- it does, and its log begins anew
abbrev pub is_honest : List ℕ → Bool
is_honest kind = keeps_legal kind && is_none (earlier_in kind)

-- it does, and goes on after an earlier log
abbrev pub goes_on : List ℕ → Bool
goes_on kind = keeps_legal kind && not (is_none (earlier_in kind))

-- This is the earlier log of a book. It leaves room for 2 ^ 62 events of each word.
pub record HasEarlierLog (kind : List ℕ) (earlier : List Event) : Type 0 where
  pub numbers : earlier_in kind ≡ log_numbers earlier
  pub short : length earlier < 2 ^ 63 + 512

-- What a kind says of histories.

-- the history of a log has the newest event first
abbrev pub history : List Event → List Event
history log = reverse log

-- the history of an honest book is legal
abbrev pub IsFit : List ℕ → List Event → Type 0
IsFit kind h = IsTrue (is_honest kind) → IsLegal (volume_in kind) h

-- the event may come next: in an honest book it is allowed
abbrev pub MayCome : List ℕ → List Event → Event → Type 0
MayCome kind h x = IsTrue (is_honest kind) → IsAllowed (volume_in kind) h x

-- the history of a book that goes on is legal after the earlier log
abbrev pub IsFitAfter : List ℕ → List Event → Type 0
IsFitAfter kind h = IsTrue (goes_on kind) → (earlier : List Event) → HasEarlierLog kind earlier → IsLegalAfter (volume_in kind) earlier h

-- the event may come next: in a book that goes on it is allowed after the earlier log
abbrev pub MayComeAfter : List ℕ → List Event → Event → Type 0
MayComeAfter kind h x = IsTrue (goes_on kind) → (earlier : List Event) → HasEarlierLog kind earlier
    → IsAllowedIn (volume_in kind) (h ++ earlier) (of_actor (by_of x) h) x

-- both, whether the log of the book begins anew or goes on
abbrev pub Fits : List ℕ → List Event → Type 0
Fits kind h = IsFit kind h × IsFitAfter kind h

abbrev pub MayFit : List ℕ → List Event → Event → Type 0
MayFit kind h x = MayCome kind h x × MayComeAfter kind h x

-- The event has a place in the book: it is by an actor that has a word there, and its own word stands there.
pub record HasPlace (kind : List ℕ) (x : Event) : Type 0 where
  pub member : IsMember (by_of x)
  pub place : ℕ
  pub low : place < 338
  pub owner_is : owner (sids_of (volume_in kind)) place ≡ Some (word_of x)

-- each event has one
abbrev pub HavePlaces : List ℕ → List Event → Type 0
HavePlaces kind h = AllByRecursion (HasPlace kind) h
