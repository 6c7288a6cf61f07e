-- Trees that are linked below nodes one after the other.
use Rattle.std.proofs.Common.{◌≡◌, ℕ, ◌+◌, List, [], ◌∷◌, ◌++◌, Option, Some, None, sym, ap, subst, ◌∙◌, refl, append_assoc}
use Rattle.rz_index.specs.declared.index.Entry.{Entry}
use Rattle.rz_index.specs.declared.nodes.IndexNode.{IndexNode}
use Rattle.rz_index.specs.Standing.{Part, Tree, Lone, times, HoldsBeside, Holds, Links, IsOpened, freed_part}
use Rattle.rz_index.proofs.Standing.{swapped, emptied}

-- a part comes before these
pub pulled : (row : List IndexNode) (front : List Part) (a : Part) (back : List Part) (taken : ℕ → ℕ) → HoldsBeside row (front ++ a ∷ back) taken → HoldsBeside row (a ∷ (front ++ back)) taken
pulled row [] a back taken h = h
pulled row (x ∷ front) a back taken h = swapped row x a (front ++ back) taken (h.0, h.1, pulled row front a back (λ p. times p h.0 + taken p) h.2)

abbrev pub none : ℕ → ℕ
none p = 0

-- the tree of this link comes apart so
abbrev pub Opens : List IndexNode → (link left right : ℕ) → Type 0
Opens row link left right = (entries : List Entry) (parts : List Part) → Holds row (Tree link entries ∷ parts) → IsOpened row link entries parts left right

pub rotated-right : (row one two : List IndexNode) (left middle right outer inner high link : ℕ) → Opens row left outer inner → Links row one inner middle right high → Links one two outer left high link → Links row two left middle right link
rotated-right row one two left middle right outer inner high link opens first second = λ l r e parts h.
    let o = opens l (Lone middle e ∷ Tree right r ∷ parts) h in
    let a = pulled row (Tree outer o.front ∷ Lone left o.middle ∷ Tree inner o.back ∷ Lone middle e ∷ []) (Tree right r) parts none o.holds in
    let b = pulled row (Tree right r ∷ Tree outer o.front ∷ Lone left o.middle ∷ Tree inner o.back ∷ []) (Lone middle e) parts none a in
    let c = pulled row (Lone middle e ∷ Tree right r ∷ Tree outer o.front ∷ Lone left o.middle ∷ []) (Tree inner o.back) parts none b in
    let d = first o.back r e (Tree outer o.front ∷ Lone left o.middle ∷ parts) c in
    let f = pulled one (Tree high (o.back ++ e ∷ r) ∷ Tree outer o.front ∷ []) (Lone left o.middle) parts none d in
    let g = pulled one (Lone left o.middle ∷ Tree high (o.back ++ e ∷ r) ∷ []) (Tree outer o.front) parts none f in
    let i = second o.front (o.back ++ e ∷ r) o.middle parts g in
    subst (λ (xs : List Entry). Holds two (Tree link xs ∷ parts)) (sym (ap (λ (xs : List Entry). xs ++ e ∷ r) o.all ∙ append_assoc o.front (o.middle ∷ o.back) (e ∷ r))) i

pub rotated-left : (row one two : List IndexNode) (left middle right inner outer low link : ℕ) → Opens row right inner outer → Links row one left middle inner low → Links one two low right outer link → Links row two left middle right link
rotated-left row one two left middle right inner outer low link opens first second = λ l r e parts h.
    let a = pulled row (Tree left l ∷ Lone middle e ∷ []) (Tree right r) parts none h in
    let o = opens r (Tree left l ∷ Lone middle e ∷ parts) a in
    let b = pulled row (Tree inner o.front ∷ Lone right o.middle ∷ Tree outer o.back ∷ Tree left l ∷ []) (Lone middle e) parts none o.holds in
    let c = pulled row (Lone middle e ∷ Tree inner o.front ∷ Lone right o.middle ∷ Tree outer o.back ∷ []) (Tree left l) parts none b in
    let d = first l o.front e (Lone right o.middle ∷ Tree outer o.back ∷ parts) c in
    let f = second (l ++ e ∷ o.front) o.back o.middle parts d in
    subst (λ (xs : List Entry). Holds two (Tree link xs ∷ parts)) (append_assoc l (e ∷ o.front) (o.middle ∷ o.back) ∙ ap (λ (xs : List Entry). l ++ e ∷ xs) (sym o.all)) f

-- the same where the inner side comes apart too
pub rotated-right-twice : (row one two three : List IndexNode) (left middle right outer inner front back low high link : ℕ) → Opens row left outer inner → Opens row inner front back
    → Links row one outer left front low → Links one two back middle right high → Links two three low inner high link → Links row three left middle right link
rotated-right-twice row one two three left middle right outer inner front back low high link opens again first second third = λ l r e parts h.
    let o = opens l (Lone middle e ∷ Tree right r ∷ parts) h in
    let a = pulled row (Tree outer o.front ∷ Lone left o.middle ∷ []) (Tree inner o.back) (Lone middle e ∷ Tree right r ∷ parts) none o.holds in
    let n = again o.back (Tree outer o.front ∷ Lone left o.middle ∷ Lone middle e ∷ Tree right r ∷ parts) a in
    let rest : List Part = Lone middle e ∷ Tree right r ∷ parts in
    let b = pulled row (Tree front n.front ∷ Lone inner n.middle ∷ Tree back n.back ∷ Tree outer o.front ∷ []) (Lone left o.middle) rest none n.holds in
    let c = pulled row (Lone left o.middle ∷ Tree front n.front ∷ Lone inner n.middle ∷ Tree back n.back ∷ []) (Tree outer o.front) rest none b in
    let d = first o.front n.front o.middle (Lone inner n.middle ∷ Tree back n.back ∷ rest) c in
    let its : List Entry = o.front ++ o.middle ∷ n.front in
    let f = pulled one (Tree low its ∷ Lone inner n.middle ∷ Tree back n.back ∷ Lone middle e ∷ []) (Tree right r) parts none d in
    let g = pulled one (Tree right r ∷ Tree low its ∷ Lone inner n.middle ∷ Tree back n.back ∷ []) (Lone middle e) parts none f in
    let i = pulled one (Lone middle e ∷ Tree right r ∷ Tree low its ∷ Lone inner n.middle ∷ []) (Tree back n.back) parts none g in
    let j = second n.back r e (Tree low its ∷ Lone inner n.middle ∷ parts) i in
    let k = pulled two (Tree high (n.back ++ e ∷ r) ∷ Tree low its ∷ []) (Lone inner n.middle) parts none j in
    let m = pulled two (Lone inner n.middle ∷ Tree high (n.back ++ e ∷ r) ∷ []) (Tree low its) parts none k in
    let p = third its (n.back ++ e ∷ r) n.middle parts m in
    subst (λ (xs : List Entry). Holds three (Tree link xs ∷ parts))
    (append_assoc o.front (o.middle ∷ n.front) (n.middle ∷ (n.back ++ e ∷ r)) ∙ ap (λ (xs : List Entry). o.front ++ o.middle ∷ xs) (sym (append_assoc n.front (n.middle ∷ n.back) (e ∷ r)) ∙ ap (λ (xs : List Entry). xs ++ e ∷ r) (sym n.all))
    ∙ sym (append_assoc o.front (o.middle ∷ o.back) (e ∷ r)) ∙ ap (λ (xs : List Entry). xs ++ e ∷ r) (sym o.all)) p

pub rotated-left-twice : (row one two three : List IndexNode) (left middle right inner outer front back low high link : ℕ) → Opens row right inner outer → Opens row inner front back
    → Links row one left middle front low → Links one two back right outer high → Links two three low inner high link → Links row three left middle right link
rotated-left-twice row one two three left middle right inner outer front back low high link opens again first second third = λ l r e parts h.
    let a = pulled row (Tree left l ∷ Lone middle e ∷ []) (Tree right r) parts none h in
    let o = opens r (Tree left l ∷ Lone middle e ∷ parts) a in
    let n = again o.front (Lone right o.middle ∷ Tree outer o.back ∷ Tree left l ∷ Lone middle e ∷ parts) o.holds in
    let b = pulled row (Tree front n.front ∷ Lone inner n.middle ∷ Tree back n.back ∷ Lone right o.middle ∷ Tree outer o.back ∷ Tree left l ∷ []) (Lone middle e) parts none n.holds in
    let c = pulled row (Lone middle e ∷ Tree front n.front ∷ Lone inner n.middle ∷ Tree back n.back ∷ Lone right o.middle ∷ Tree outer o.back ∷ []) (Tree left l) parts none b in
    let d = first l n.front e (Lone inner n.middle ∷ Tree back n.back ∷ Lone right o.middle ∷ Tree outer o.back ∷ parts) c in
    let its : List Entry = l ++ e ∷ n.front in
    let f = pulled one (Tree low its ∷ Lone inner n.middle ∷ Tree back n.back ∷ Lone right o.middle ∷ []) (Tree outer o.back) parts none d in
    let g = pulled one (Tree outer o.back ∷ Tree low its ∷ Lone inner n.middle ∷ Tree back n.back ∷ []) (Lone right o.middle) parts none f in
    let i = pulled one (Lone right o.middle ∷ Tree outer o.back ∷ Tree low its ∷ Lone inner n.middle ∷ []) (Tree back n.back) parts none g in
    let j = second n.back o.back o.middle (Tree low its ∷ Lone inner n.middle ∷ parts) i in
    let k = pulled two (Tree high (n.back ++ o.middle ∷ o.back) ∷ Tree low its ∷ []) (Lone inner n.middle) parts none j in
    let m = pulled two (Lone inner n.middle ∷ Tree high (n.back ++ o.middle ∷ o.back) ∷ []) (Tree low its) parts none k in
    let p = third its (n.back ++ o.middle ∷ o.back) n.middle parts m in
    subst (λ (xs : List Entry). Holds three (Tree link xs ∷ parts))
    (append_assoc l (e ∷ n.front) (n.middle ∷ (n.back ++ o.middle ∷ o.back)) ∙ ap (λ (xs : List Entry). l ++ e ∷ xs) (sym (append_assoc n.front (n.middle ∷ n.back) (o.middle ∷ o.back)) ∙ ap (λ (xs : List Entry). xs ++ o.middle ∷ o.back) (sym n.all) ∙ sym o.all)) p

-- ---- for the functions that go down a tree

pub nil-behind : (l : List Entry) → l ++ [] ≡ l
nil-behind [] = refl
nil-behind (e ∷ l) = ap (λ (xs : List Entry). e ∷ xs) (nil-behind l)

-- a node by itself between trees of nothing
pub alone : (row : List IndexNode) (node : ℕ) (e : Entry) (parts : List Part) → Holds row (Lone node e ∷ parts) → Holds row (Tree 0 [] ∷ Lone node e ∷ Tree 0 [] ∷ parts)
alone row node e parts h = emptied row (Lone node e ∷ Tree 0 [] ∷ parts) none (swapped row (Tree 0 []) (Lone node e) parts none (emptied row (Lone node e ∷ parts) none h))

-- the tree behind comes first, and goes back
pub back-first : (row : List IndexNode) (a b c : Part) (parts : List Part) → Holds row (a ∷ b ∷ c ∷ parts) → Holds row (c ∷ a ∷ b ∷ parts)
back-first row a b c parts h = pulled row (a ∷ b ∷ []) c parts none h

pub back-again : (row : List IndexNode) (a b c : Part) (parts : List Part) → Holds row (c ∷ a ∷ b ∷ parts) → Holds row (a ∷ b ∷ c ∷ parts)
back-again row a b c parts h = pulled row (b ∷ c ∷ []) a parts none (pulled row (c ∷ a ∷ []) b parts none h)

-- the fourth part comes second
pub fourth-second : (row : List IndexNode) (a b c d : Part) (parts : List Part) → Holds row (a ∷ b ∷ c ∷ d ∷ parts) → Holds row (a ∷ d ∷ b ∷ c ∷ parts)
fourth-second row a b c d parts h = swapped row d a (b ∷ c ∷ parts) none (pulled row (a ∷ b ∷ c ∷ []) d parts none h)

-- the first part comes fourth
pub first-fourth : (row : List IndexNode) (a b c d : Part) (parts : List Part) → Holds row (a ∷ b ∷ c ∷ d ∷ parts) → Holds row (b ∷ c ∷ d ∷ a ∷ parts)
first-fourth row a b c d parts h = pulled row (c ∷ d ∷ a ∷ []) b parts none (pulled row (d ∷ a ∷ b ∷ []) c parts none (pulled row (a ∷ b ∷ c ∷ []) d parts none h))

-- a node that was taken out of the first tree goes behind the two parts that follow
pub freed-behind : (row : List IndexNode) (a b c : Part) (parts : List Part) (o : Option Entry) (node : ℕ) → Holds row (a ∷ freed_part o node (b ∷ c ∷ parts)) → Holds row (a ∷ b ∷ c ∷ freed_part o node parts)
freed-behind row a b c parts None node h = h
freed-behind row a b c parts (Some e) node h =
    pulled row (b ∷ c ∷ []) a (Lone node e ∷ parts) none (pulled row (c ∷ a ∷ Lone node e ∷ []) b parts none (pulled row (a ∷ Lone node e ∷ b ∷ []) c parts none h))
