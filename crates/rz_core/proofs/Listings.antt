-- The first entry of a map that gives something, and the nodes that a mask names.
use Rattle.std.proofs.Common.{ℕ, zero, suc, Bool, true, false, ◌==◌, ◌&&◌, ◌≡◌, ◌⊎◌, inl, inr, ◌+◌, T, List, [], ◌∷◌, Option, Some, None, cond, refl, sym, ◌∙◌, ap, subst, arith}
use Rattle.std.specs.Prelude.{slice_get}
use Rattle.std.specs.Int.{bit_at}
use Rattle.std.specs.Option.{option_or}
use Rattle.std.specs.declared.cmp.Ordering.{Ordering}
use Rattle.std.specs.declared.cmp.Ordering.TheVariants.{Less, Equal, Greater}
use Rattle.std.specs.Ordering.{is_lt, is_eq, eq_by_cmp}
use Rattle.std.specs.Cmp.{tied_itself}
use Rattle.std.specs.FinMap.Entries.{find, is_sorted, below_all}
use Rattle.std.proofs.lemmas.Bool.{eqb-true, eq-eqb, and_parts, and_from, or_cases, or_left, or_right}
use Rattle.rz_events.specs.Keys.{key_cmp, keys_total, exact_keys}
use Rattle.rz_events.specs.declared.keys.Key.{Key}
use Rattle.rz_export_model.specs.Firsts.{first_given}
use Rattle.rz_export_model.specs.Export.{Block, names_node}
use Rattle.rz_events.specs.Masks.{has_bit, HasBit}

-- What the entries give.

tied_is : (r : Ordering) → is_eq r ≡ true → r ≡ Equal
tied_is Less is = cc
tied_is Equal is = refl
tied_is Greater is = cc

module _ {A : Type 0} (give : Key × Block → Option A) where
  -- where none gives anything, the entry of no key does
  pub none-given : (es : List (Key × Block)) → first_given give es ≡ None → (key : Key) (b : Block) → find key_cmp key es ≡ Some b → give (key, b) ≡ None
  none-given [] none key b is = cc
  none-given (x ∷ es) none key b is = go (λ q. none-given es q key b) (give x) refl none (eq_by_cmp key_cmp key x.0) refl is
    where
      go : (first_given give es ≡ None → find key_cmp key es ≡ Some b → give (key, b) ≡ None) → (o : Option A) → give x ≡ o → option_or o (first_given give es) ≡ None
          → (t : Bool) → eq_by_cmp key_cmp key x.0 ≡ t → cond t (Some x.1) (find key_cmp key es) ≡ Some b → give (key, b) ≡ None
      go rest (Some a) gives none t same is = cc
      go rest None gives none true same is = let at = exact_keys key x.0 (tied_is (key_cmp key x.0) same) in let there : x.1 ≡ b = cc in ap (λ k. give (k, b)) at ∙ ap (λ z. give (x.0, z)) (sym there) ∙ gives
      go rest None gives none false same is = rest none is

  -- the least key whose entry gives something
  pub record IsFirst (es : List (Key × Block)) (a : A) : Type 0 where
    pub key : Key
    pub block : Block
    pub there : find key_cmp key es ≡ Some block
    pub gives : give (key, block) ≡ Some a
    pub least : (k : Key) (c : Block) → key_cmp k key ≡ Less → find key_cmp k es ≡ Some c → give (k, c) ≡ None

  -- a key that is below all of these is none of them
  not_below : (k : Key) (es : List (Key × Block)) → T (below_all key_cmp k es) → find key_cmp k es ≡ None
  not_below k [] below = refl
  not_below k (x ∷ es) below = go (key_cmp k x.0) (not_below k es) below
    where
      go : (r : Ordering) → (T (below_all key_cmp k es) → find key_cmp k es ≡ None) → T (is_lt r && below_all key_cmp k es) → cond (is_eq r) (Some x.1) (find key_cmp k es) ≡ None
      go Less rest below = rest below
      go Equal rest below = absurd below
      go Greater rest below = absurd below

  -- what is below a key that stands before all of these is none of them
  before_all : (k x : Key) (es : List (Key × Block)) → key_cmp k x ≡ Less → T (below_all key_cmp x es) → T (below_all key_cmp k es)
  before_all k x [] less below = tt
  before_all k x (y ∷ es) less below = go (before_all k x es less) (key_cmp x y.0) refl below
    where
      go : (T (below_all key_cmp x es) → T (below_all key_cmp k es)) → (r : Ordering) → key_cmp x y.0 ≡ r → T (is_lt r && below_all key_cmp x es)
          → T (is_lt (key_cmp k y.0) && below_all key_cmp k es)
      go more Less is rest = subst (λ r. T (is_lt r && below_all key_cmp k es)) (sym (keys_total.trans k x y.0 less is)) (more rest)
      go more Equal is rest = absurd rest
      go more Greater is rest = absurd rest

  apart : (t u : Bool) → T (t && u) → T t × T u
  apart true u h = (tt, h)
  apart false u h = absurd h

  pub first-given : (es : List (Key × Block)) → T (is_sorted key_cmp es) → (a : A) → first_given give es ≡ Some a → IsFirst es a
  first-given [] sorted a is = cc
  first-given (x ∷ es) sorted a is = go (first-given es (apart _ _ sorted).1 a) (give x) refl is
    where
      below : T (below_all key_cmp x.0 es)
      below = (apart (below_all key_cmp x.0 es) (is_sorted key_cmp es) sorted).0

      no_less : (k : Key) (c : Block) → key_cmp k x.0 ≡ Less → find key_cmp k (x ∷ es) ≡ Some c → give (k, c) ≡ None
      no_less k c less is =
          let none = not_below k es (before_all k x.0 es less below) in
          let gone : find key_cmp k (x ∷ es) ≡ None = ap (λ r. cond (is_eq r) (Some x.1) (find key_cmp k es)) less ∙ none in
          cc

      own : (b : Block) → x.1 ≡ b → find key_cmp x.0 (x ∷ es) ≡ Some b
      own b same = ap (λ r. cond (is_eq r) (Some x.1) (find key_cmp x.0 es)) (tied_itself keys_total x.0) ∙ ap Some same

      later : (f : IsFirst es a) → give x ≡ None → (k : Key) (c : Block) → key_cmp k f.key ≡ Less → (r : Ordering) → key_cmp k x.0 ≡ r
          → cond (is_eq r) (Some x.1) (find key_cmp k es) ≡ Some c → give (k, c) ≡ None
      later f none k c less Less at is = f.least k c less is
      later f none k c less Equal at is = let there : x.1 ≡ c = cc in ap (λ z. give (z, c)) (exact_keys k x.0 at) ∙ ap (λ z. give (x.0, z)) (sym there) ∙ none
      later f none k c less Greater at is = f.least k c less is

      not_own : (f : IsFirst es a) → (r : Ordering) → key_cmp f.key x.0 ≡ r → find key_cmp f.key (x ∷ es) ≡ Some f.block
      not_own f Less at = ap (λ r. cond (is_eq r) (Some x.1) (find key_cmp f.key es)) at ∙ f.there
      not_own f Equal at =
          let none = not_below x.0 es below in
          let some : find key_cmp x.0 es ≡ Some f.block = ap (λ k. find key_cmp k es) (sym (exact_keys f.key x.0 at)) ∙ f.there in
          cc
      not_own f Greater at = ap (λ r. cond (is_eq r) (Some x.1) (find key_cmp f.key es)) at ∙ f.there

      go : (first_given give es ≡ Some a → IsFirst es a) → (o : Option A) → give x ≡ o → option_or o (first_given give es) ≡ Some a → IsFirst (x ∷ es) a
      go rest (Some c) gives is = record { key = x.0; block = x.1; there = own x.1 refl; gives = gives ∙ is; least = no_less }
      go rest None gives is =
          let f = rest is in
          record { key = f.key; block = f.block; there = not_own f (key_cmp f.key x.0) refl; gives = f.gives; least = λ k c less. later f gives k c less (key_cmp k x.0) refl }

-- The nodes of a mask.

-- the mask names the node at one of these places; `i` is the position of the first
pub record IsNamed (node mask i : ℕ) (places : List ℕ) : Type 0 where
  pub place : ℕ
  pub bit : HasBit mask (i + place)
  pub at : slice_get places place ≡ Some node

pub named-at : (node mask i : ℕ) (places : List ℕ) → names_node node mask i places ≡ true → IsNamed node mask i places
named-at node mask i [] is = cc
named-at node mask i (n ∷ places) is = go (named-at node mask (i + 1) places) (or_cases _ _ is)
  where
    go : (names_node node mask (i + 1) places ≡ true → IsNamed node mask (i + 1) places)
        → (((n == node) && has_bit mask i) ≡ true) ⊎ (names_node node mask (i + 1) places ≡ true) → IsNamed node mask i (n ∷ places)
    go rest (inl here) =
        let both = and_parts (n == node) (has_bit mask i) here in
        let first : i ≡ i + 0 = omega arith in
        record { place = 0; bit = subst (HasBit mask) first (eqb-true (bit_at mask i) 1 both.1); at = ap Some (eqb-true n node both.0) }
    go rest (inr later) =
        let r = rest later in
        let next : (i + 1) + r.place ≡ i + suc r.place = omega arith in
        record { place = suc r.place; bit = subst (HasBit mask) next r.bit; at = r.at }

pub at-named : (node mask i : ℕ) (places : List ℕ) (p : ℕ) → HasBit mask (i + p) → slice_get places p ≡ Some node → names_node node mask i places ≡ true
at-named node mask i [] p bit at = cc
at-named node mask i (n ∷ places) zero bit at =
    let first : i + 0 ≡ i = omega arith in
    let same : n ≡ node = cc in
    or_left _ _ (and_from _ _ (eq-eqb n node same) (eq-eqb (bit_at mask i) 1 (subst (HasBit mask) first bit)))
at-named node mask i (n ∷ places) (suc p) bit at =
    let next : i + suc p ≡ (i + 1) + p = omega arith in
    or_right _ _ (at-named node mask (i + 1) places p (subst (HasBit mask) next bit) at)
