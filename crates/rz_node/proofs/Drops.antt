-- The least block of a file, and its lesser version.
use Rattle.std.proofs.Common.{◌≡◌, ◌≢◌, ⊎_elim, ℕ, ◌<◌, Bool, true, false, cond, List, [], ◌∷◌, map, Option, Some, None, refl, sym, ◌∙◌, ap, subst, arith, eq-eqb}
use Rattle.std.specs.Prelude.{◌==◌, ◌||◌, nat_lt, is_some}
use Rattle.std.specs.Option.{option_map}
use Rattle.std.specs.List as lists
use Rattle.std.specs.Ordering.{eq_by_cmp, is_eq}
use Rattle.std.specs.Cmp.{tied_itself}
use Rattle.std.specs.FinMap as maps
use Rattle.std.specs.FinMap.{find, get-entries}
use Rattle.std.proofs.lemmas.Bool.Decides.{nat_tests}
use Rattle.rz_events.specs.Keys.{key_cmp, keys_total}
use Rattle.rz_events.specs.declared.keys.Key.{Key}
use Rattle.rz_events.specs.declared.records.Head.{Head}
use Rattle.rz_events.specs.declared.records.Held.{Held}
use Rattle.rz_node_model.specs.declared.pending.Pending.TheVariants as pending
use Rattle.rz_node_model.specs.Records.{held_of, stamp_of, key_at, first_block, least_block, with_held, carried}
use Rattle.rz_node_model.specs.Versions.{has_stamp, lesser_of, without}
use Rattle.rz_versions.specs.declared.versions.Version.{Version}
use Rattle.rz_versions.specs.Sides.{Sides, ordered, in_order, put_at, has, side_with, Differ}
use Rattle.rz_versions.specs.Sides as sides
use Rattle.rz_index.specs.declared.index.Entry.{Entry}
use Rattle.rz_index.specs.Indexed.{Indexed, first_of_file}
use Rattle.rz_cells_slots.specs.Held.{Apart}
use Rattle.rz_node.specs.Kept.{held_by, sides_in, records_in, version_of, versions_of, IsTied}
use Rattle.rz_node.proofs.Tied.{keys-held}
use Rattle.rz_node.proofs.Changes.{key-cases}
use Rattle.rz_node.proofs.Places.{Placed, held-key}
use Rattle.rz_node.proofs.Keeps.{sides-differ}
use Rattle.rz_node.proofs.Turns.{order-map}
use Rattle.rz_node.proofs.Ways.{has-sides}

-- ---- the least block

abbrev in_file : ℕ → List (Key × Entry) → Option (Key × Entry)
in_file fid es = lists.find (λ p. p.0.fid == fid) es

blocks-shown : (fid : ℕ) (es : List (Key × Entry)) → first_block fid (map (λ (p : Key × Entry). p.0) es) ≡ option_map (λ (p : Key × Entry). p.0.block) (in_file fid es)
blocks-shown fid [] = refl
blocks-shown fid (e ∷ es) =
    elim (e.0.fid == fid) as (λ b. cond b (Some e.0.block) (first_block fid (map (λ (p : Key × Entry). p.0) es)) ≡ option_map (λ (p : Key × Entry). p.0.block) (cond b (Some e) (in_file fid es))) [
      | true ↦ refl
      | false ↦ blocks-shown fid es
    ]

equal-from : (m n : ℕ) → (m == n) ≡ true → m ≡ n
equal-from m n is = grind (arith, nat_tests)

-- what is found of a file stands under its key
the-pair : (a b : Key × Entry) → Some a ≡ Some b → a ≡ b
the-pair a b is = cc

found-step : (fid : ℕ) (e : Key × Entry) (es : List (Key × Entry)) (p : Key × Entry) → (in_file fid es ≡ Some p → (p.0.fid ≡ fid) × (find key_cmp p.0 es ≡ Some p.1))
    → (b : Bool) → (e.0.fid == fid) ≡ b → cond b (Some e) (in_file fid es) ≡ Some p → (p.0.fid ≡ fid) × (find key_cmp p.0 (e ∷ es) ≡ Some p.1)
found-step fid e es p rest true same is =
    let one = the-pair e p is in
    subst (λ (q : Key × Entry). (q.0.fid ≡ fid) × (find key_cmp q.0 (e ∷ es) ≡ Some q.1)) one
    (equal-from e.0.fid fid same, ap (λ o. cond (is_eq o) (Some e.1) (find key_cmp e.0 es)) (tied_itself keys_total e.0))
found-step fid e es p rest false other is =
    let later = rest is in (
      later.0,
      ⊎_elim
          (λ (same : p.0 ≡ e.0).
          let yes : (e.0.fid == fid) ≡ true = eq-eqb e.0.fid fid (sym (ap (λ (k : Key). k.fid) same) ∙ later.0) in
          absurd (cc))
          (λ (differs : eq_by_cmp key_cmp p.0 e.0 ≡ false). ap (λ b. cond b (Some e.1) (find key_cmp p.0 es)) differs ∙ later.1)
          (key-cases p.0 e.0),
    )

found-there : (fid : ℕ) (es : List (Key × Entry)) (p : Key × Entry) → in_file fid es ≡ Some p → (p.0.fid ≡ fid) × (find key_cmp p.0 es ≡ Some p.1)
found-there fid [] p is = absurd (cc)
found-there fid (e ∷ es) p is = found-step fid e es p (found-there fid es p) (e.0.fid == fid) refl is

module _ (pairs : ℕ) (heads : List (Option Head)) (index : Indexed) (tied : IsTied pairs heads index) (fid : ℕ) where
  least-found : least_block (held_by index.entries heads) fid ≡ option_map (λ (p : Key × Entry). p.0.block) (in_file fid (maps.entries index.entries))
  least-found = ap (first_block fid) (keys-held index.entries heads) ∙ blocks-shown fid (maps.entries index.entries)

  -- the entry of the file's least block is its key's
  pub first-entry : (e : Entry) → Some e ≡ first_of_file index.entries fid → (maps.get index.entries e.key ≡ Some e) × (key_at fid e.key.block ≡ e.key) × (least_block (held_by index.entries heads) fid ≡ Some e.key.block)
  first-entry e is = go (in_file fid (maps.entries index.entries)) refl is
    where
      the-entry : (f g : Entry) → Some f ≡ Some g → g ≡ f
      the-entry f g is = cc

      go : (o : Option (Key × Entry)) → in_file fid (maps.entries index.entries) ≡ o → Some e ≡ option_map (λ (p : Key × Entry). p.1) o → (maps.get index.entries e.key ≡ Some e) × (key_at fid e.key.block ≡ e.key) × (least_block (held_by index.entries heads) fid ≡ Some e.key.block)
      go None found is = absurd (cc)
      go (Some p) found is =
          let there = found-there fid (maps.entries index.entries) p found in
          let one : p.1 ≡ e = the-entry e p.1 is in
          let got : maps.get index.entries p.0 ≡ Some e = get-entries index.entries p.0 ∙ there.1 ∙ ap (λ (f : Entry). Some f) one in
          let named = (tied.shown p.0 e got).named in (
            ap (maps.get index.entries) named ∙ got,
            (λ i. record { fid = (sym there.0 ∙ ap (λ (k : Key). k.fid) (sym named)) i; block = e.key.block }),
            least-found ∙ ap (option_map (λ (p : Key × Entry). p.0.block)) found ∙ ap (λ (k : Key). Some k.block) (sym named),
          )

  pub first-none : None ≡ first_of_file index.entries fid → least_block (held_by index.entries heads) fid ≡ None
  first-none is = go (in_file fid (maps.entries index.entries)) refl is
    where
      go : (o : Option (Key × Entry)) → in_file fid (maps.entries index.entries) ≡ o → None ≡ option_map (λ (p : Key × Entry). p.1) o → least_block (held_by index.entries heads) fid ≡ None
      go None found is = least-found ∙ ap (option_map (λ (p : Key × Entry). p.0.block)) found
      go (Some p) found is = absurd (cc)

  pub first-some : is_some (first_of_file index.entries fid) ≡ is_some (least_block (held_by index.entries heads) fid)
  first-some = go (in_file fid (maps.entries index.entries)) ∙ ap is_some (sym least-found)
    where
      go : (o : Option (Key × Entry)) → is_some (option_map (λ (p : Key × Entry). p.1) o) ≡ is_some (option_map (λ (p : Key × Entry). p.0.block) o)
      go None = refl
      go (Some p) = refl

-- ---- the lesser version

lesser-map : (rs : List Held) → lesser_of (map version_of rs) ≡ option_map version_of (lesser_of rs)
lesser-map [] = refl
lesser-map (a ∷ []) = refl
lesser-map (a ∷ b ∷ rs) = refl

-- the record of the lesser version
pub lesser-record : (s : Sides Held) (v : Version) → Some v ≡ lesser_of (in_order sides.version_stamp (versions_of s)) → (r : Held) × (lesser_of (in_order stamp_of s) ≡ Some r) × (r.stamp ≡ v.stamp)
lesser-record s v is = go (lesser_of (in_order stamp_of s)) refl (is ∙ ap lesser_of (order-map s) ∙ lesser-map (in_order stamp_of s))
  where
    stamps : (a b : Version) → Some a ≡ Some b → b.stamp ≡ a.stamp
    stamps a b is = let one : a ≡ b = cc in ap (λ (x : Version). x.stamp) (sym one)

    go : (o : Option Held) → lesser_of (in_order stamp_of s) ≡ o → Some v ≡ option_map version_of (lesser_of (in_order stamp_of s)) → (r : Held) × (lesser_of (in_order stamp_of s) ≡ Some r) × (r.stamp ≡ v.stamp)
    go None none is = let no_version : Some v ≡ None = is ∙ ap (option_map version_of) none in absurd (cc)
    go (Some r) some is = let same : Some v ≡ Some (version_of r) = is ∙ ap (option_map version_of) some in (r, some, stamps v (version_of r) same)

pub lesser-none : (s : Sides Held) → None ≡ lesser_of (in_order sides.version_stamp (versions_of s)) → lesser_of (in_order stamp_of s) ≡ None
lesser-none s is = go (lesser_of (in_order stamp_of s)) (is ∙ ap lesser_of (order-map s) ∙ lesser-map (in_order stamp_of s))
  where
    go : (o : Option Held) → None ≡ option_map version_of o → o ≡ None
    go None is = refl
    go (Some r) is = absurd (cc)

lesser-empty : (rs : List Held) → lesser_of rs ≡ None → rs ≡ []
lesser-empty [] none = refl
lesser-empty (a ∷ []) none = absurd (cc)
lesser-empty (a ∷ b ∷ rs) none = absurd (cc)

-- what is told of the side of the lesser version
pub record IsSide (s : Sides Held) (r : Held) (side : ℕ) : Type 0 where
  pub two : side < 2
  pub at : sides.at s side ≡ Some r
  pub without_is : in_order stamp_of (put_at s side None) ≡ without stamp_of r.stamp (in_order stamp_of s)

lt-of : (a b : ℕ) → nat_lt a b ≡ true → a < b
lt-of a b is = grind (arith, nat_tests)

same-stamp : (a : ℕ) → (a == a) ≡ true
same-stamp a = eq-eqb a a refl

other-stamp : (a b : ℕ) → a ≢ b → (a == b) ≡ false
other-stamp a b ne = grind (arith, nat_tests)

-- the first of two sides of which the test holds
abbrev chosen : Bool → Bool → Option ℕ
chosen x y = cond x (Some 0) (cond y (Some 1) None)

-- two records on two sides
abbrev pair_of : Held → Held → Sides Held
pair_of a b = record { zero = Some a; one = Some b }

chosen-zero : (x y : Bool) (side : ℕ) → Some side ≡ chosen x y → x ≡ true → side ≡ 0
chosen-zero true y side is t = cc
chosen-zero false y side is t = absurd (cc)

chosen-one : (x y : Bool) (side : ℕ) → Some side ≡ chosen x y → x ≡ false → side ≡ 1
chosen-one true y side is f = absurd (cc)
chosen-one false true side is f = cc
chosen-one false false side is f = absurd (cc)

the-held : (a b : Held) → Some a ≡ Some b → a ≡ b
the-held a b is = cc

module _ (r : Held) (side : ℕ) where
  one-left : (a : Held) → Some side ≡ chosen (a.stamp == r.stamp) false → a ≡ r → IsSide (record { zero = Some a; one = None }) r side
  one-left a is same =
      let here : side ≡ 0 = chosen-zero (a.stamp == r.stamp) false side is (ap (λ (x : Held). x.stamp == r.stamp) same ∙ same-stamp r.stamp) in
      subst (IsSide (record { zero = Some a; one = None }) r) (sym here) (record {
        two = omega arith;
        at = ap (λ (x : Held). Some x) same;
        without_is = sym (ap (λ b. cond b [] (a ∷ [])) (ap (λ (x : Held). x.stamp == r.stamp) same ∙ same-stamp r.stamp));
      })

  one-right : (b : Held) → Some side ≡ chosen false (b.stamp == r.stamp) → b ≡ r → IsSide (record { zero = None; one = Some b }) r side
  one-right b is same =
      let here : side ≡ 1 = chosen-one false (b.stamp == r.stamp) side is refl in
      subst (IsSide (record { zero = None; one = Some b }) r) (sym here) (record {
        two = omega arith;
        at = ap (λ (x : Held). Some x) same;
        without_is = sym (ap (λ t. cond t [] (b ∷ [])) (ap (λ (x : Held). x.stamp == r.stamp) same ∙ same-stamp r.stamp));
      })

  -- the greater one stays where the lesser is taken out
  last-out : (greater lesser : Held) → lesser ≡ r → greater.stamp ≢ lesser.stamp → without stamp_of r.stamp (greater ∷ lesser ∷ []) ≡ greater ∷ []
  last-out greater lesser same ne =
      let first : (greater.stamp == r.stamp) ≡ false = other-stamp greater.stamp r.stamp (λ is. ne (is ∙ ap (λ (x : Held). x.stamp) (sym same))) in
      let second : (lesser.stamp == r.stamp) ≡ true = ap (λ (x : Held). x.stamp == r.stamp) same ∙ same-stamp r.stamp in
      λ i. cond (first i) (lesser ∷ []) (greater ∷ cond (second i) [] (lesser ∷ []))

  two-sides : (a b : Held) (lt : Bool) → nat_lt a.stamp b.stamp ≡ lt → a.stamp ≢ b.stamp → Some side ≡ chosen (a.stamp == r.stamp) (b.stamp == r.stamp) → lesser_of (cond lt (b ∷ a ∷ []) (a ∷ b ∷ [])) ≡ Some r
      → (side < 2) × (sides.at (pair_of a b) side ≡ Some r) × (in_order stamp_of (put_at (pair_of a b) side None) ≡ without stamp_of r.stamp (cond lt (b ∷ a ∷ []) (a ∷ b ∷ [])))
  two-sides a b true lt ne is lesser =
      let same : a ≡ r = the-held a r lesser in
      let here : side ≡ 0 = chosen-zero (a.stamp == r.stamp) (b.stamp == r.stamp) side is (ap (λ (x : Held). x.stamp == r.stamp) same ∙ same-stamp r.stamp) in
      subst (λ (n : ℕ). (n < 2) × (sides.at (pair_of a b) n ≡ Some r) × (in_order stamp_of (put_at (pair_of a b) n None) ≡ without stamp_of r.stamp (b ∷ a ∷ []))) (sym here)
      (omega arith, ap (λ (x : Held). Some x) same, sym (last-out b a same (λ eq. ne (sym eq))))
  two-sides a b false lt ne is lesser =
      let same : b ≡ r = the-held b r lesser in
      let here : side ≡ 1 = chosen-one (a.stamp == r.stamp) (b.stamp == r.stamp) side is (other-stamp a.stamp r.stamp (λ eq. ne (eq ∙ ap (λ (x : Held). x.stamp) (sym same)))) in
      subst (λ (n : ℕ). (n < 2) × (sides.at (pair_of a b) n ≡ Some r) × (in_order stamp_of (put_at (pair_of a b) n None) ≡ without stamp_of r.stamp (a ∷ b ∷ []))) (sym here)
      (omega arith, ap (λ (x : Held). Some x) same, sym (last-out a b same ne))

  sides-lesser : (a b : Option Held) → Differ stamp_of a b → Some side ≡ chosen (has stamp_of a r.stamp) (has stamp_of b r.stamp) → lesser_of (ordered stamp_of a b) ≡ Some r → IsSide (record { zero = a; one = b }) r side
  sides-lesser None None differ is lesser = absurd (cc)
  sides-lesser (Some a) None differ is lesser = one-left a is (the-held a r lesser)
  sides-lesser None (Some b) differ is lesser = one-right b is (the-held b r lesser)
  sides-lesser (Some a) (Some b) differ is lesser =
      let parts = two-sides a b (nat_lt a.stamp b.stamp) refl differ is lesser in
      record { two = parts.0; at = parts.1; without_is = parts.2 }

has-version : (o : Option Held) (t : ℕ) → has sides.version_stamp (option_map version_of o) t ≡ has stamp_of o t
has-version None t = refl
has-version (Some r) t = refl

-- the side of the lesser version has the lesser record, and without it the others are left
pub lesser-side : (s : Sides Held) (r : Held) (side : ℕ) → Differ stamp_of s.zero s.one → lesser_of (in_order stamp_of s) ≡ Some r → Some side ≡ side_with sides.version_stamp (versions_of s) r.stamp → IsSide s r side
lesser-side s r side differ lesser is =
    sides-lesser r side s.zero s.one differ (is ∙ (λ i. chosen (has-version s.zero r.stamp i) (has-version s.one r.stamp i))) lesser

-- and it stands on a side
pub lesser-stands : (s : Sides Held) (r : Held) → lesser_of (in_order stamp_of s) ≡ Some r → None ≡ side_with sides.version_stamp (versions_of s) r.stamp → ⊥
lesser-stands s r lesser is = go s.zero s.one lesser (is ∙ (λ i. chosen (has-version s.zero r.stamp i) (has-version s.one r.stamp i)))
  where
    not-first : (x y : Bool) → None ≡ chosen x y → x ≡ true → ⊥
    not-first true y is t = absurd (cc)
    not-first false y is t = absurd (cc)

    not-second : (x y : Bool) → None ≡ chosen x y → y ≡ true → ⊥
    not-second true y is t = absurd (cc)
    not-second false true is t = absurd (cc)
    not-second false false is t = absurd (cc)

    is-own : (a : Held) → a ≡ r → (a.stamp == r.stamp) ≡ true
    is-own a same = ap (λ (x : Held). x.stamp == r.stamp) same ∙ same-stamp r.stamp

    both : (a b : Held) (lt : Bool) → lesser_of (cond lt (b ∷ a ∷ []) (a ∷ b ∷ [])) ≡ Some r → None ≡ chosen (a.stamp == r.stamp) (b.stamp == r.stamp) → ⊥
    both a b true lesser is = not-first (a.stamp == r.stamp) (b.stamp == r.stamp) is (is-own a (the-held a r lesser))
    both a b false lesser is = not-second (a.stamp == r.stamp) (b.stamp == r.stamp) is (is-own b (the-held b r lesser))

    go : (a b : Option Held) → lesser_of (ordered stamp_of a b) ≡ Some r → None ≡ chosen (has stamp_of a r.stamp) (has stamp_of b r.stamp) → ⊥
    go None None lesser is = absurd (cc)
    go (Some a) None lesser is = not-first (a.stamp == r.stamp) false is (is-own a (the-held a r lesser))
    go None (Some b) lesser is = not-second false (b.stamp == r.stamp) is (is-own b (the-held b r lesser))
    go (Some a) (Some b) lesser is = both a b (nat_lt a.stamp b.stamp) lesser is

-- ---- the stamp is there, and then it is not

not-right : (r : Held) (o : Option Held) → Differ stamp_of (Some r) o → has stamp_of o r.stamp ≡ false
not-right r None differ = refl
not-right r (Some b) differ = other-stamp b.stamp r.stamp (λ same. differ (sym same))

not-left : (r : Held) (o : Option Held) → Differ stamp_of o (Some r) → has stamp_of o r.stamp ≡ false
not-left r None differ = refl
not-left r (Some a) differ = other-stamp a.stamp r.stamp differ

or-true : (b : Bool) → b || true ≡ true
or-true true = refl
or-true false = refl

or-none : (b : Bool) → b ≡ false → b || false ≡ false
or-none b is = ap (λ x. x || false) is

at-sides : (a b : Option Held) (r : Held) (first : Bool) → Differ stamp_of a b → cond first a b ≡ Some r
    → (has stamp_of a r.stamp || has stamp_of b r.stamp ≡ true) × (has stamp_of (cond first None a) r.stamp || has stamp_of (cond first b None) r.stamp ≡ false)
at-sides a b r true differ is = (
  ap (λ (o : Option Held). has stamp_of o r.stamp || has stamp_of b r.stamp) is ∙ ap (λ x. x || has stamp_of b r.stamp) (same-stamp r.stamp),
  not-right r b (subst (λ (o : Option Held). Differ stamp_of o b) is differ),
)
at-sides a b r false differ is = (
  ap (λ (o : Option Held). has stamp_of a r.stamp || has stamp_of o r.stamp) is ∙ ap (λ x. has stamp_of a r.stamp || x) (same-stamp r.stamp) ∙ or-true (has stamp_of a r.stamp),
  or-none (has stamp_of a r.stamp) (not-left r a (subst (λ (o : Option Held). Differ stamp_of a o) is differ)),
)

stamp-goes : (s : Sides Held) (r : Held) (side : ℕ) → Differ stamp_of s.zero s.one → sides.at s side ≡ Some r
    → (has_stamp stamp_of r.stamp (in_order stamp_of s) ≡ true) × (has_stamp stamp_of r.stamp (in_order stamp_of (put_at s side None)) ≡ false)
stamp-goes s r side differ is =
    let both = at-sides s.zero s.one r (side == 0) differ is in
    (has-sides r.stamp s ∙ both.0, has-sides r.stamp (put_at s side None) ∙ both.1)

-- ---- together

-- what a drop takes: the record r of the file's least block
pub record Dropping (heads : List (Option Head)) (index : Indexed) (fid : ℕ) (e : Entry) (v : Version) (side : ℕ) : Type 0 where
  pub there : maps.get index.entries e.key ≡ Some e
  pub key_is : key_at fid e.key.block ≡ e.key
  pub two : side < 2
  pub gone : Held
  pub stamp_is : gone.stamp ≡ v.stamp
  pub least : least_block (held_by index.entries heads) fid ≡ Some e.key.block
  pub lesser : lesser_of (held_of (held_by index.entries heads) (key_at fid e.key.block)) ≡ Some gone
  pub before : held_of (held_by index.entries heads) (key_at fid e.key.block) ≡ records_in heads e.cell
  pub leaves : in_order stamp_of (put_at (sides_in heads e.cell) side None) ≡ without stamp_of v.stamp (records_in heads e.cell)
  pub had : has_stamp stamp_of v.stamp (records_in heads e.cell) ≡ true
  pub lost : has_stamp stamp_of v.stamp (in_order stamp_of (put_at (sides_in heads e.cell) side None)) ≡ false

module _ (pairs : ℕ) (heads : List (Option Head)) (index : Indexed) (tied : IsTied pairs heads index) (fid : ℕ) (e : Entry) (is : Some e ≡ first_of_file index.entries fid) where
  abbrev first : (maps.get index.entries e.key ≡ Some e) × (key_at fid e.key.block ≡ e.key) × (least_block (held_by index.entries heads) fid ≡ Some e.key.block)
  first = first-entry pairs heads index tied fid e is

  abbrev place : Placed pairs heads index e.key e
  place = held-key pairs heads index tied e.key e first.0

  held-before : held_of (held_by index.entries heads) (key_at fid e.key.block) ≡ records_in heads e.cell
  held-before = ap (held_of (held_by index.entries heads)) first.1 ∙ place.held

  shows : (t : Option Version) → t ≡ lesser_of (in_order sides.version_stamp e.versions) → t ≡ lesser_of (in_order sides.version_stamp (versions_of (sides_in heads e.cell)))
  shows t lesser = lesser ∙ ap (λ (x : Sides Version). lesser_of (in_order sides.version_stamp x)) place.versions

  -- an entry has a version
  pub some-lesser : None ≡ lesser_of (in_order sides.version_stamp e.versions) → ⊥
  some-lesser none = (tied.shown e.key e first.0).some (lesser-empty (records_in heads e.cell) (lesser-none (sides_in heads e.cell) (shows None none)))

  -- and each version a side
  pub side-stands : (v : Version) → Some v ≡ lesser_of (in_order sides.version_stamp e.versions) → None ≡ side_with sides.version_stamp e.versions v.stamp → ⊥
  side-stands v lesser none =
      let r = lesser-record (sides_in heads e.cell) v (shows (Some v) lesser) in
      lesser-stands (sides_in heads e.cell) r.0 r.1
      (none ∙ (λ i. side_with sides.version_stamp (place.versions i) (sym r.2 i)))

  pub dropping : Apart heads → (v : Version) → Some v ≡ lesser_of (in_order sides.version_stamp e.versions) → (side : ℕ) → Some side ≡ side_with sides.version_stamp e.versions v.stamp → Dropping heads index fid e v side
  dropping apart v lesser side at =
      let r = lesser-record (sides_in heads e.cell) v (shows (Some v) lesser) in
      let differ = sides-differ pairs heads index e.key e place apart in
      let shown = lesser-side (sides_in heads e.cell) r.0 side differ r.1 (at ∙ (λ i. side_with sides.version_stamp (place.versions i) (sym r.2 i))) in
      let goes = stamp-goes (sides_in heads e.cell) r.0 side differ shown.at in
      record {
        there = first.0;
        key_is = first.1;
        two = shown.two;
        gone = r.0;
        stamp_is = r.2;
        least = first.2;
        lesser = ap lesser_of held-before ∙ r.1;
        before = held-before;
        leaves = shown.without_is ∙ ap (λ (t : ℕ). without stamp_of t (records_in heads e.cell)) r.2;
        had = ap (λ (t : ℕ). has_stamp stamp_of t (records_in heads e.cell)) (sym r.2) ∙ goes.0;
        lost = ap (λ (t : ℕ). has_stamp stamp_of t (in_order stamp_of (put_at (sides_in heads e.cell) side None))) (sym r.2) ∙ goes.1;
      }

-- what is held after a drop, as the model says it
pub held-dropped : (heads : List (Option Head)) (index : Indexed) (fid : ℕ) (e : Entry) (v : Version) (side : ℕ) (d : Dropping heads index fid e v side)
    → with_held (held_by index.entries heads) e.key (in_order stamp_of (put_at (sides_in heads e.cell) side None)) ≡ carried (pending.Drop (key_at fid e.key.block) v.stamp) (held_by index.entries heads)
held-dropped heads index fid e v side d = λ i. with_held (held_by index.entries heads) (sym d.key_is i) ((d.leaves ∙ ap (without stamp_of v.stamp) (sym d.before)) i)
