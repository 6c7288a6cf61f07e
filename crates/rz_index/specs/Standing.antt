-- How trees of entries stand in a row of nodes.
use Rattle.std.specs.Prelude.{ℕ, ◌≡◌, ◌+◌, ◌<◌, ◌≤◌, ◌==◌, zero, suc, cond, Bool, true, false, List, [], ◌∷◌, ◌++◌, length, slice_index_or, Option, Some, None}
use Rattle.rz_events.specs.declared.keys.Key.{Key}
use Rattle.rz_index.specs.declared.index.Entry.{Entry}
use Rattle.rz_index.specs.declared.nodes.IndexNode.{IndexNode}
use Rattle.rz_index.specs.Indexed.{pairs_of}

-- the nodes of a tree by their places, each with its entry between those before it and those behind it
pub data Shape : Type 0 where
  Bare : Shape
  Fork : Shape → (place : ℕ) → Entry → Shape → Shape

-- the entries of a tree in their order
abbrev pub entries_of : Shape → List Entry
entries_of Bare = []
entries_of (Fork before place e behind) = entries_of before ++ e ∷ entries_of behind

abbrev pub one_if : Bool → ℕ
one_if true = 1
one_if false = 0

-- how often a place is one of a tree's
abbrev pub times : ℕ → Shape → ℕ
times p Bare = 0
times p (Fork before place e behind) = times p before + times p behind + one_if (place == p)

-- this node stands at a place, which is not the first: 0 is the link to no node
pub record IsNode (row : List IndexNode) (place : ℕ) (node : IndexNode) : Type 0 where
  pub linked : 0 < place
  pub within : place < length row
  pub is : slice_index_or row place node ≡ node

-- what a link leads to
abbrev pub IsTree : List IndexNode → ℕ → Shape → Type 0
IsTree row link Bare = link ≡ 0
IsTree row link (Fork before place e behind) =
    (node : IndexNode) × (link ≡ place) × IsNode row place node × (node.packed ≡ e) × IsTree row node.left before × IsTree row node.right behind

-- a part of a row: the tree of a link with its entries, or a node by itself with its entry
pub data Part : Type 0 where
  Tree : (link : ℕ) → List Entry → Part
  Lone : (place : ℕ) → Entry → Part

abbrev pub Stands : List IndexNode → Part → Shape → Type 0
Stands row (Tree link entries) s = IsTree row link s × (entries_of s ≡ entries)
Stands row (Lone place e) s = (node : IndexNode) × (s ≡ Fork Bare place e Bare) × IsNode row place node × (node.packed ≡ e)

-- The parts stand in the row, and no place is in two of them, or in one twice. So often each is taken already.
abbrev pub HoldsBeside : List IndexNode → List Part → (ℕ → ℕ) → Type 0
HoldsBeside row [] taken = (p : ℕ) → taken p ≤ 1
HoldsBeside row (part ∷ parts) taken = (s : Shape) × Stands row part s × HoldsBeside row parts (λ p. times p s + taken p)

abbrev pub Holds : List IndexNode → List Part → Type 0
Holds row parts = HoldsBeside row parts (λ p. 0)

-- The tree of a link is its node by itself, with the trees of that node's links.
abbrev pub IsParted : List IndexNode → ℕ → List Entry → IndexNode → List Part → (ℕ → ℕ) → Type 0
IsParted row link entries node parts taken =
    (front back : List Entry) × (entries ≡ front ++ node.packed ∷ back) × HoldsBeside row (Tree node.left front ∷ Lone link node.packed ∷ Tree node.right back ∷ parts) taken

-- the node at a place
abbrev pub node_at : List IndexNode → ℕ → Option IndexNode
node_at [] place = None
node_at (node ∷ row) zero = Some node
node_at (node ∷ row) (suc place) = node_at row place

-- the entries of a node with those below its links
abbrev pub around : (ℕ → List Entry) → Option IndexNode → List Entry
around below None = []
around below (Some node) = below node.left ++ node.packed ∷ below node.right

-- the entries below a link, where no way down is longer than so many nodes: what an index shows of its row
abbrev pub entries_below : ℕ → List IndexNode → ℕ → List Entry
entries_below zero row link = []
entries_below (suc room) row link = cond (link == 0) [] (around (λ l. entries_below room row l) (node_at row link))

-- The tree of a link is the node there by itself, with the trees of its links.
pub record IsOpened (row : List IndexNode) (link : ℕ) (entries : List Entry) (parts : List Part) (left right : ℕ) : Type 0 where
  pub front : List Entry
  pub middle : Entry
  pub back : List Entry
  pub all : entries ≡ front ++ middle ∷ back
  pub holds : Holds row (Tree left front ∷ Lone link middle ∷ Tree right back ∷ parts)

-- Two trees were linked below a node by itself, and are now one tree.
abbrev pub Links : List IndexNode → List IndexNode → (left middle right link : ℕ) → Type 0
Links row after left middle right link =
    (l r : List Entry) (e : Entry) (parts : List Part) → Holds row (Tree left l ∷ Lone middle e ∷ Tree right r ∷ parts) → Holds after (Tree link (l ++ e ∷ r) ∷ parts)

-- The first entry's node is by itself, beside the tree of the other entries.
pub record IsSplit (row : List IndexNode) (entries : List Entry) (parts : List Part) (node rest : ℕ) : Type 0 where
  pub first : Entry
  pub others : List Entry
  pub all : entries ≡ first ∷ others
  pub holds : Holds row (Lone node first ∷ Tree rest others ∷ parts)

-- a tree of other entries
pub record IsTreeOf (row : List IndexNode) (link : ℕ) (entries : List (Key × Entry)) (parts : List Part) : Type 0 where
  pub its : List Entry
  pub are : pairs_of its ≡ entries
  pub holds : Holds row (Tree link its ∷ parts)

-- the node that was taken out of a tree, if any
abbrev pub freed_part : Option Entry → ℕ → List Part → List Part
freed_part None node parts = parts
freed_part (Some e) node parts = Lone node e ∷ parts

abbrev pub IsThere : Option Entry → ℕ → Type 0
IsThere None node = node ≡ 0
IsThere (Some e) node = 0 < node
