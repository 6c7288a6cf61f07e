-- Parts of a row: how they change places, come apart and are put together.
use Rattle.std.proofs.Common.{◌≡◌, ℕ, zero, suc, ◌+◌, ◌<◌, ◌≤◌, Bool, true, false, cond, List, [], ◌∷◌, ◌++◌, length, get_or, set, Some, sym, ap, subst, ◌∙◌, refl, arith, eq-eqb, eqb-true, length-append}
use Rattle.std.specs.Prelude.{◌==◌}
use Rattle.std.proofs.lemmas.List.{get_or_default, length-set, length_push, get_or_append_left, get_or_push, get_or-set_same, get_or-set_other}
use Rattle.rz_index.specs.declared.index.Entry.{Entry}
use Rattle.rz_index.specs.declared.nodes.IndexNode.{IndexNode}
use Rattle.rz_index.specs.Standing.{Shape, Bare, Fork, Part, Tree, Lone, entries_of, one_if, times, IsNode, IsTree, Stands, HoldsBeside, Holds, IsParted, node_at, around, entries_below}
use Rattle.rz_index.proofs.Cells.{not-same}

-- ---- how often a place is taken

-- no place is taken twice
pub once : (row : List IndexNode) (parts : List Part) (taken : ℕ → ℕ) → HoldsBeside row parts taken → (p : ℕ) → taken p ≤ 1
once row [] taken h = h
once row (part ∷ parts) taken h = λ p. let all : times p h.0 + taken p ≤ 1 = once row parts (λ q. times q h.0 + taken q) h.2 p in omega (arith, all)

-- the same parts where no place is taken more often
pub eased : (row : List IndexNode) (parts : List Part) (taken fewer : ℕ → ℕ) → ((p : ℕ) → fewer p ≤ taken p) → HoldsBeside row parts taken → HoldsBeside row parts fewer
eased row [] taken fewer less h = λ p. let a : fewer p ≤ taken p = less p in let b : taken p ≤ 1 = h p in omega (arith, a, b)
eased row (part ∷ parts) taken fewer less h =
    (h.0, h.1, eased row parts (λ p. times p h.0 + taken p) (λ p. times p h.0 + fewer p) (λ p. let a : fewer p ≤ taken p = less p in omega (arith, a)) h.2)

-- ---- parts change places

pub swapped : (row : List IndexNode) (a b : Part) (parts : List Part) (taken : ℕ → ℕ) → HoldsBeside row (a ∷ b ∷ parts) taken → HoldsBeside row (b ∷ a ∷ parts) taken
swapped row a b parts taken h =
    (h.2.0, h.2.1, (h.0, h.1, eased row parts (λ p. times p h.2.0 + (times p h.0 + taken p)) (λ p. times p h.0 + (times p h.2.0 + taken p)) (λ p. omega arith) h.2.2))

-- a change of the parts behind the first
pub under : (row after : List IndexNode) (a : Part) (parts others : List Part) (taken : ℕ → ℕ) → ((t : ℕ → ℕ) → HoldsBeside row parts t → HoldsBeside row others t) → HoldsBeside row (a ∷ parts) taken → HoldsBeside row (a ∷ others) taken
under row after a parts others taken change h = (h.0, h.1, change (λ p. times p h.0 + taken p) h.2)

-- a part is left out
pub dropped : (row : List IndexNode) (a : Part) (parts : List Part) (taken : ℕ → ℕ) → HoldsBeside row (a ∷ parts) taken → HoldsBeside row parts taken
dropped row a parts taken h = eased row parts (λ p. times p h.0 + taken p) taken (λ p. omega arith) h.2

-- a tree of nothing is put before
pub emptied : (row : List IndexNode) (parts : List Part) (taken : ℕ → ℕ) → HoldsBeside row parts taken → HoldsBeside row (Tree 0 [] ∷ parts) taken
emptied row parts taken h = (Bare, (refl, refl), eased row parts taken (λ p. 0 + taken p) (λ p. omega arith) h)

-- ---- a node is written

-- the nodes at all other places are as before
abbrev pub Elsewhere : List IndexNode → List IndexNode → ℕ → Type 0
Elsewhere row after place = (p : ℕ) (node : IndexNode) → (p ≡ place → ⊥) → IsNode row p node → IsNode after p node

not-before : (m p : ℕ) (l r : Shape) (e : Entry) → times m (Fork l p e r) ≡ 0 → times m l ≡ 0
not-before m p l r e nowhere = let sum : times m l + times m r + one_if (p == m) ≡ 0 = nowhere in omega (arith, sum)

not-behind : (m p : ℕ) (l r : Shape) (e : Entry) → times m (Fork l p e r) ≡ 0 → times m r ≡ 0
not-behind m p l r e nowhere = let sum : times m l + times m r + one_if (p == m) ≡ 0 = nowhere in omega (arith, sum)

not-between : (m p : ℕ) (l r : Shape) (e : Entry) → times m (Fork l p e r) ≡ 0 → p ≡ m → ⊥
not-between m p l r e nowhere same =
    let sum : times m l + times m r + one_if (p == m) ≡ 0 = nowhere in
    let one : one_if (p == m) ≡ 1 = ap one_if (eq-eqb p m same) in
    omega (arith, sum, one)

tree-kept : (row after : List IndexNode) (m : ℕ) → Elsewhere row after m → (s : Shape) (link : ℕ) → times m s ≡ 0 → IsTree row link s → IsTree after link s
tree-kept row after m same Bare link nowhere t = t
tree-kept row after m same (Fork l p e r) link nowhere t = (
  t.0,
  t.1,
  same p t.0 (not-between m p l r e nowhere) t.2,
  t.3,
  tree-kept row after m same l t.0.left (not-before m p l r e nowhere) t.4,
  tree-kept row after m same r t.0.right (not-behind m p l r e nowhere) t.5,
)

stands-kept : (row after : List IndexNode) (m : ℕ) → Elsewhere row after m → (part : Part) (s : Shape) → times m s ≡ 0 → Stands row part s → Stands after part s
stands-kept row after m same (Tree link es) s nowhere h = (tree-kept row after m same s link nowhere h.0, h.1)
stands-kept row after m same (Lone p e) s nowhere h =
    let none : times m (Fork Bare p e Bare) ≡ 0 = ap (times m) (sym h.1) ∙ nowhere in
    (h.0, h.1, same p h.0 (not-between m p Bare Bare e none) h.2, h.3)

-- a part that is not written stays
pub framed : (row after : List IndexNode) (m : ℕ) → Elsewhere row after m → (parts : List Part) (taken : ℕ → ℕ) → 1 ≤ taken m → HoldsBeside row parts taken → HoldsBeside after parts taken
framed row after m same [] taken there h = h
framed row after m same (part ∷ parts) taken there h =
    let most : times m h.0 + taken m ≤ 1 = once row parts (λ p. times p h.0 + taken p) h.2 m in (
      h.0,
      stands-kept row after m same part h.0 (omega (arith, most, there)) h.1,
      framed row after m same parts (λ p. times p h.0 + taken p) (omega (arith, there)) h.2,
    )

-- ---- a tree comes apart

pub same-node : (row : List IndexNode) (p : ℕ) (a b : IndexNode) → IsNode row p a → IsNode row p b → a ≡ b
same-node row p a b x y = sym x.is ∙ get_or_default row p a b x.within ∙ y.is

parted-at : (s : Shape) (row : List IndexNode) (link : ℕ) (es : List Entry) (parts : List Part) (taken : ℕ → ℕ) (node : IndexNode) → IsNode row link node → IsTree row link s → entries_of s ≡ es
    → HoldsBeside row parts (λ p. times p s + taken p) → IsParted row link es node parts taken
parted-at Bare row link es parts taken node is t all h = let some : 0 < link = is.linked in let none : link ≡ 0 = t in absurd (omega (arith, some, none))
parted-at (Fork l p e r) row link es parts taken node is t all h =
    let same : t.0 ≡ node = same-node row link t.0 node (subst (λ q. IsNode row q t.0) (sym t.1) t.2) is in
    let packed : node.packed ≡ e = ap (λ (n : IndexNode). n.packed) (sym same) ∙ t.3 in (
      entries_of l,
      entries_of r,
      sym all ∙ ap (λ (x : Entry). entries_of l ++ x ∷ entries_of r) (sym packed),
      (
        l,
        (subst (λ (n : IndexNode). IsTree row n.left l) same t.4, refl),
        (
          Fork Bare link node.packed Bare,
          (node, refl, is, refl),
          (
            r,
            (subst (λ (n : IndexNode). IsTree row n.right r) same t.5, refl),
            eased row parts (λ q. times q (Fork l p e r) + taken q) (λ q. times q r + (times q (Fork Bare link node.packed Bare) + (times q l + taken q)))
                (λ q. let here : one_if (link == q) ≡ one_if (p == q) = ap (λ (k : ℕ). one_if (k == q)) t.1 in omega (arith, here)) h,
          ),
        ),
      ),
    )

-- the tree of a node is the node, and the trees of its links
pub parted : (row : List IndexNode) (link : ℕ) (es : List Entry) (parts : List Part) (taken : ℕ → ℕ) (node : IndexNode) → IsNode row link node → HoldsBeside row (Tree link es ∷ parts) taken → IsParted row link es node parts taken
parted row link es parts taken node is h = parted-at h.0 row link es parts taken node is h.1.0 h.1.1 h.2

bare-at : (s : Shape) (row : List IndexNode) (link : ℕ) (es : List Entry) → ((node : IndexNode) → ¬ IsNode row link node) → IsTree row link s → entries_of s ≡ es → es ≡ []
bare-at Bare row link es none t all = sym all
bare-at (Fork l p e r) row link es none t all = absurd (none t.0 (subst (λ q. IsNode row q t.0) (sym t.1) t.2))

-- where no node stands, the tree is of nothing
pub bare : (row : List IndexNode) (link : ℕ) (es : List Entry) (parts : List Part) (taken : ℕ → ℕ) → ((node : IndexNode) → ¬ IsNode row link node) → HoldsBeside row (Tree link es ∷ parts) taken → es ≡ []
bare row link es parts taken none h = bare-at h.0 row link es none h.1.0 h.1.1

-- a node by itself is there
pub lone : (row : List IndexNode) (place : ℕ) (e : Entry) (parts : List Part) (taken : ℕ → ℕ) → HoldsBeside row (Lone place e ∷ parts) taken → (node : IndexNode) × IsNode row place node × (node.packed ≡ e)
lone row place e parts taken h = (h.1.0, h.1.2, h.1.3)

-- ---- a tree is put together

-- two trees are linked below a node by itself
pub joined : (row after : List IndexNode) (left m right : ℕ) (l r : List Entry) (e : Entry) (parts : List Part) (taken : ℕ → ℕ) (node : IndexNode) → Elsewhere row after m → IsNode after m node → node.packed ≡ e → node.left ≡ left → node.right ≡ right
    → HoldsBeside row (Tree left l ∷ Lone m e ∷ Tree right r ∷ parts) taken → HoldsBeside after (Tree m (l ++ e ∷ r) ∷ parts) taken
joined row after left m right l r e parts taken node same is packed to_left to_right h =
    let sl : Shape = h.0 in
    let sm : Shape = h.2.0 in
    let sr : Shape = h.2.2.0 in
    let its : sm ≡ Fork Bare m e Bare = h.2.1.1 in
    let one : one_if (m == m) ≡ 1 = ap one_if (eq-eqb m m refl) in
    let there : times m sm ≡ 1 = ap (times m) its ∙ omega (arith, one) in
    let all : times m sr + (times m sm + (times m sl + taken m)) ≤ 1 = once row parts (λ p. times p sr + (times p sm + (times p sl + taken p))) h.2.2.2 m in (
      Fork sl m e sr,
      (
        (
          node,
          refl,
          is,
          packed,
          tree-kept row after m same sl node.left (omega (arith, all, there)) (subst (λ k. IsTree row k sl) (sym to_left) h.1.0),
          tree-kept row after m same sr node.right (omega (arith, all, there)) (subst (λ k. IsTree row k sr) (sym to_right) h.2.2.1.0),
        ),
        ap (λ (xs : List Entry). xs ++ e ∷ entries_of sr) h.1.1 ∙ ap (λ (xs : List Entry). l ++ e ∷ xs) h.2.2.1.1,
      ),
      eased after parts (λ p. times p sr + (times p sm + (times p sl + taken p))) (λ p. times p (Fork sl m e sr) + taken p)
          (λ p. let here : times p sm ≡ 0 + 0 + one_if (m == p) = ap (times p) its in omega (arith, here))
          (framed row after m same parts (λ p. times p sr + (times p sm + (times p sl + taken p))) (omega (arith, there)) h.2.2.2),
    )

-- the entry of a node by itself is written
pub entry-set : (row after : List IndexNode) (m : ℕ) (old new : Entry) (parts : List Part) (taken : ℕ → ℕ) (node : IndexNode) → Elsewhere row after m → IsNode after m node → node.packed ≡ new
    → HoldsBeside row (Lone m old ∷ parts) taken → HoldsBeside after (Lone m new ∷ parts) taken
entry-set row after m old new parts taken node same is packed h =
    let its : h.0 ≡ Fork Bare m old Bare = h.1.1 in
    let one : one_if (m == m) ≡ 1 = ap one_if (eq-eqb m m refl) in
    let there : times m h.0 ≡ 1 = ap (times m) its ∙ omega (arith, one) in (
      Fork Bare m new Bare,
      (node, refl, is, packed),
      eased after parts (λ p. times p h.0 + taken p) (λ p. times p (Fork Bare m new Bare) + taken p) (λ p. let here : times p h.0 ≡ 0 + 0 + one_if (m == p) = ap (times p) its in omega (arith, here))
          (framed row after m same parts (λ p. times p h.0 + taken p) (omega (arith, there)) h.2),
    )

-- ---- what an index shows of its row

found-at : (row : List IndexNode) (p : ℕ) (node : IndexNode) → p < length row → get_or row p node ≡ node → node_at row p ≡ Some node
found-at [] p node lt is = absurd (omega arith)
found-at (x ∷ row) zero node lt is = ap (λ (n : IndexNode). Some n) is
found-at (x ∷ row) (suc p) node lt is = found-at row p node (omega (arith, lt)) is

below-fork : (room : ℕ) (row : List IndexNode) (link : ℕ) (node : IndexNode) (l r : List Entry) → IsNode row link node → entries_below room row node.left ≡ l → entries_below room row node.right ≡ r → entries_below (suc room) row link ≡ l ++ node.packed ∷ r
below-fork room row link node l r is left right =
    ap (λ (b : Bool). cond b [] (around (λ k. entries_below room row k) (node_at row link))) (not-same link 0 (λ none. omega (arith, none, is.linked)))
    ∙ ap (around (λ k. entries_below room row k)) (found-at row link node is.within is.is)
    ∙ ap (λ (xs : List Entry). xs ++ node.packed ∷ entries_below room row node.right) left
    ∙ ap (λ (xs : List Entry). l ++ node.packed ∷ xs) right

fork-long : (l r : Shape) (p : ℕ) (e : Entry) → length (entries_of (Fork l p e r)) ≡ length (entries_of l) + suc (length (entries_of r))
fork-long l r p e = length-append (entries_of l) (e ∷ entries_of r)

below-is : (s : Shape) (room : ℕ) (row : List IndexNode) (link : ℕ) → length (entries_of s) ≤ room → IsTree row link s → entries_below room row link ≡ entries_of s
below-is Bare zero row link fits t = refl
below-is Bare (suc room) row link fits t = ap (λ (b : Bool). cond b [] (around (λ k. entries_below room row k) (node_at row link))) (eq-eqb link 0 t)
below-is (Fork l p e r) zero row link fits t = let long = fork-long l r p e in absurd (omega (arith, fits, long))
below-is (Fork l p e r) (suc room) row link fits t =
    let long = fork-long l r p e in
    below-fork room row link t.0 (entries_of l) (entries_of r) (subst (λ q. IsNode row q t.0) (sym t.1) t.2)
    (below-is l room row t.0.left (omega (arith, fits, long)) t.4)
    (below-is r room row t.0.right (omega (arith, fits, long)) t.5)
    ∙ ap (λ (x : Entry). entries_of l ++ x ∷ entries_of r) t.3

pub shown : (row : List IndexNode) (link : ℕ) (es : List Entry) (parts : List Part) (taken : ℕ → ℕ) (room : ℕ) → HoldsBeside row (Tree link es ∷ parts) taken → length es ≤ room → entries_below room row link ≡ es
shown row link es parts taken room h fits = below-is h.0 room row link (subst (λ (xs : List Entry). length xs ≤ room) (sym h.1.1) fits) h.1.0 ∙ h.1.1

-- ---- one node of a list is written

pub some-link : (link : ℕ) → (link ≡ 0 → ⊥) → 0 < link
some-link zero differ = absurd (differ refl)
some-link (suc link) differ = omega arith

pub elsewhere : (row : List IndexNode) (m : ℕ) (node : IndexNode) → Elsewhere row (set row m node) m
elsewhere row m node = λ p n differ is. record {
  linked = is.linked;
  within = let same = length-set row m node in omega (arith, same, is.within);
  is = get_or-set_other row m p node n differ ∙ is.is;
}

pub written : (row : List IndexNode) (m : ℕ) (node : IndexNode) → 0 < m → m < length row → IsNode (set row m node) m node
written row m node linked within = record {
  linked = linked;
  within = let same = length-set row m node in omega (arith, same, within);
  is = get_or-set_same row m node node within;
}

pub read : (row : List IndexNode) (m : ℕ) (node : IndexNode) → 0 < m → m < length row → node ≡ get_or row m node → IsNode row m node
read row m node linked within is = record { linked = linked; within = within; is = sym is }

-- ---- a row grows

past-none : (s : Shape) (row : List IndexNode) (link p : ℕ) → IsTree row link s → length row ≤ p → times p s ≡ 0
past-none Bare row link p t past = refl
past-none (Fork l q e r) row link p t past =
    let a : times p l ≡ 0 = past-none l row t.0.left p t.4 past in
    let b : times p r ≡ 0 = past-none r row t.0.right p t.5 past in
    let within : q < length row = t.2.within in
    let c : one_if (q == p) ≡ 0 = ap one_if (not-same q p (λ same. omega (arith, same, within, past))) in
    omega (arith, a, b, c)

grown : (row : List IndexNode) (node : IndexNode) → Elsewhere row (row ++ node ∷ []) (length row)
grown row node = λ p n differ is. record {
  linked = is.linked;
  within = let long = length_push row node in omega (arith, long, is.within);
  is = get_or_append_left row (node ∷ []) n p is.within ∙ is.is;
}

at-end : (row : List IndexNode) (node : IndexNode) → 0 < length row → IsNode (row ++ node ∷ []) (length row) node
at-end row node some = record {
  linked = some;
  within = let long = length_push row node in omega (arith, long);
  is = get_or_push row node node (length row) refl;
}

at-most : (b : Bool) (n : ℕ) → n ≤ 1 → (b ≡ true → n ≡ 0) → n + one_if b ≤ 1
at-most true n le none = let z : n ≡ 0 = none refl in omega (arith, z)
at-most false n le none = omega (arith, le)

-- a node with the tree of all others behind it is put at the end
pub pushed : (row : List IndexNode) (link : ℕ) (blanks : List Entry) (node : IndexNode) → length row ≡ link + 1 → node.left ≡ 0 → node.right ≡ link → Holds row (Tree link blanks ∷ [])
    → Holds (row ++ node ∷ []) (Tree (link + 1) (node.packed ∷ blanks) ∷ [])
pushed row link blanks node long left right h =
    let s : Shape = h.0 in
    let after : List IndexNode = row ++ node ∷ [] in
    let unused : times (length row) s ≡ 0 = past-none s row link (length row) h.1.0 (omega arith) in
    let tree : IsTree after link s = tree-kept row after (length row) (grown row node) s link unused h.1.0 in (
      Fork Bare (link + 1) node.packed s,
      (
        (node, refl, subst (λ q. IsNode after q node) long (at-end row node (omega (arith, long))), refl, left, subst (λ k. IsTree after k s) (sym right) tree),
        ap (λ (xs : List Entry). node.packed ∷ xs) h.1.1,
      ),
      λ p.
          let few : times p s + 0 ≤ 1 = h.2 p in
          let most : times p s + one_if (link + 1 == p) ≤ 1 =
          at-most (link + 1 == p) (times p s) (omega (arith, few)) (λ same. past-none s row link p h.1.0 (let is : link + 1 ≡ p = eqb-true (link + 1) p same in omega (arith, is, long))) in
          omega (arith, most),
    )
