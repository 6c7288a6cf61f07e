-- The rule of versions, for records on two sides: as it was proved of versions.
use Rattle.std.proofs.Common.{◌≡◌, ◌≢◌, ℕ, ◌<◌, ◌≤◌, Bool, true, false, cond, List, [], ◌∷◌, map, Option, Some, None, refl, ◌∙◌, ap, arith}
use Rattle.std.specs.Prelude.{◌==◌, ◌||◌, nat_lt, nat_le}
use Rattle.std.specs.Option.{option_map}
use Rattle.std.proofs.lemmas.Bool.Decides.{nat_tests}
use Rattle.rz_events.specs.declared.records.Held.{Held}
use Rattle.rz_node_model.specs.Records.{stamp_of, base_of}
use Rattle.rz_node_model.specs.Versions.{greater_goes, kept, refilled, has_stamp, is_past, passes_keep, passes_refill}
use Rattle.rz_versions.specs.Sides.{Sides, ordered, in_order, put_at, side_among, side_for, never}
use Rattle.rz_versions.specs.Sides as sides
use Rattle.rz_node.specs.Kept.{version_of, versions_of}

two-map : (a b : Held) (lt : Bool) → cond lt (version_of b ∷ version_of a ∷ []) (version_of a ∷ version_of b ∷ []) ≡ map version_of (cond lt (b ∷ a ∷ []) (a ∷ b ∷ []))
two-map a b true = refl
two-map a b false = refl

ordered-map : (a b : Option Held) → ordered sides.version_stamp (option_map version_of a) (option_map version_of b) ≡ map version_of (ordered stamp_of a b)
ordered-map None None = refl
ordered-map (Some a) None = refl
ordered-map None (Some b) = refl
ordered-map (Some a) (Some b) = two-map a b (nat_lt a.stamp b.stamp)

-- versions stand in the order of the records
pub order-map : (s : Sides Held) → in_order sides.version_stamp (versions_of s) ≡ map version_of (in_order stamp_of s)
order-map s = ordered-map s.zero s.one

passes-map : (t : ℕ) (rs : List Held) → passes_keep sides.version_stamp t (map version_of rs) ≡ passes_keep stamp_of t rs
passes-map t [] = refl
passes-map t (r ∷ rs) = refl

pub passes-keep : (s : Sides Held) (t : ℕ) → passes_keep sides.version_stamp t (in_order sides.version_stamp (versions_of s)) ≡ passes_keep stamp_of t (in_order stamp_of s)
passes-keep s t = ap (passes_keep sides.version_stamp t) (order-map s) ∙ passes-map t (in_order stamp_of s)

has-map : (t : ℕ) (rs : List Held) → has_stamp sides.version_stamp t (map version_of rs) ≡ has_stamp stamp_of t rs
has-map t [] = refl
has-map t (r ∷ rs) = ap (λ b. (r.stamp == t) || b) (has-map t rs)

past-map : (t : ℕ) (rs : List Held) → is_past sides.version_stamp sides.version_base t (map version_of rs) ≡ is_past stamp_of base_of t rs
past-map t [] = refl
past-map t (a ∷ []) = refl
past-map t (a ∷ b ∷ rs) = refl

refill-map : (t : ℕ) (rs : List Held) → passes_refill sides.version_stamp sides.version_base t (map version_of rs) ≡ passes_refill stamp_of base_of t rs
refill-map t [] = refl
refill-map t (r ∷ rs) = λ i. cond (has-map t (r ∷ rs) i || past-map t (r ∷ rs) i) (Some r.stamp) None

pub passes-refill : (s : Sides Held) (t : ℕ) → passes_refill sides.version_stamp sides.version_base t (in_order sides.version_stamp (versions_of s)) ≡ passes_refill stamp_of base_of t (in_order stamp_of s)
passes-refill s t = ap (passes_refill sides.version_stamp sides.version_base t) (order-map s) ∙ refill-map t (in_order stamp_of s)

among-map : (goes : ℕ → ℕ → Bool) (a b : Option Held) → side_among sides.version_stamp goes (option_map version_of a) (option_map version_of b) ≡ side_among stamp_of goes a b
among-map goes None None = refl
among-map goes None (Some b) = refl
among-map goes (Some a) None = refl
among-map goes (Some a) (Some b) = refl

pub side-map : (goes : ℕ → ℕ → Bool) (s : Sides Held) → side_for sides.version_stamp goes (versions_of s) ≡ side_for stamp_of goes s
side-map goes s = among-map goes s.zero s.one

-- ---- a keep

lt-true : (a b : ℕ) → a < b → nat_lt a b ≡ true
lt-true a b lt = grind (arith, nat_tests)

lt-false : (a b : ℕ) → b ≤ a → nat_lt a b ≡ false
lt-false a b le = grind (arith, nat_tests)

lt-of : (a b : ℕ) → nat_lt a b ≡ true → a < b
lt-of a b is = grind (arith, nat_tests)

le-of : (a b : ℕ) → nat_lt a b ≡ false → b ≤ a
le-of a b is = grind (arith, nat_tests)

above-of : (b : Bool) (t : ℕ) → cond b (Some t) None ≡ None → b ≡ false
above-of true t is = absurd (cc)
above-of false t is = refl

above : (t u : ℕ) → cond (nat_le t u) (Some u) None ≡ None → u < t
above t u is = let no = above-of (nat_le t u) u is in grind (arith, nat_tests)

-- a record above another one comes first, on either side
first-one : (a r : Held) → a.stamp < r.stamp → ordered stamp_of (Some a) (Some r) ≡ r ∷ a ∷ []
first-one a r lt = ap (λ b. cond b (r ∷ a ∷ []) (a ∷ r ∷ [])) (lt-true a.stamp r.stamp lt)

first-zero : (a r : Held) → a.stamp < r.stamp → ordered stamp_of (Some r) (Some a) ≡ r ∷ a ∷ []
first-zero a r lt = ap (λ b. cond b (a ∷ r ∷ []) (r ∷ a ∷ [])) (lt-false r.stamp a.stamp (omega arith))

keep-two : (a b r : Held) (lt goes : Bool) → nat_lt a.stamp b.stamp ≡ lt → a.stamp < r.stamp → b.stamp < r.stamp
    → in_order stamp_of (put_at (record { zero = Some a; one = Some b }) (cond lt (cond goes 1 0) (cond goes 0 1)) (Some r)) ≡ cond goes (r ∷ cond lt a b ∷ []) (r ∷ cond lt b a ∷ [])
keep-two a b r true true is above_a above_b = first-one a r above_a
keep-two a b r true false is above_a above_b = first-zero b r above_b
keep-two a b r false true is above_a above_b = first-zero b r above_b
keep-two a b r false false is above_a above_b = first-one a r above_a

kept-two : (a b r : Held) (lt : Bool) → nat_lt a.stamp b.stamp ≡ lt → passes_keep stamp_of r.stamp (cond lt (b ∷ a ∷ []) (a ∷ b ∷ [])) ≡ None
    → in_order stamp_of (put_at (record { zero = Some a; one = Some b }) (cond lt (cond (greater_goes r.base b.stamp a.stamp) 1 0) (cond (greater_goes r.base a.stamp b.stamp) 0 1)) (Some r))
    ≡ kept stamp_of r.base r (cond lt (b ∷ a ∷ []) (a ∷ b ∷ []))
kept-two a b r true is none =
    let lt = lt-of a.stamp b.stamp is in
    let up = above r.stamp b.stamp none in
    keep-two a b r true (greater_goes r.base b.stamp a.stamp) is (omega arith) up
kept-two a b r false is none =
    let le = le-of a.stamp b.stamp is in
    let up = above r.stamp a.stamp none in
    keep-two a b r false (greater_goes r.base a.stamp b.stamp) is up (omega arith)

kept-sides : (a b : Option Held) (r : Held) → passes_keep stamp_of r.stamp (ordered stamp_of a b) ≡ None
    → in_order stamp_of (put_at (record { zero = a; one = b }) (side_among stamp_of (greater_goes r.base) a b) (Some r)) ≡ kept stamp_of r.base r (ordered stamp_of a b)
kept-sides None None r none = refl
kept-sides (Some a) None r none = first-one a r (above r.stamp a.stamp none)
kept-sides None (Some b) r none = first-zero b r (above r.stamp b.stamp none)
kept-sides (Some a) (Some b) r none = kept-two a b r (nat_lt a.stamp b.stamp) refl none

-- a record on the side that the rule says leaves what the rule leaves
pub keep-leaves : (s : Sides Held) (r : Held) → passes_keep stamp_of r.stamp (in_order stamp_of s) ≡ None → in_order stamp_of (put_at s (side_for stamp_of (greater_goes r.base) s) (Some r)) ≡ kept stamp_of r.base r (in_order stamp_of s)
keep-leaves s r none = kept-sides s.zero s.one r none

-- ---- a refill

either-order : (a r : Held) (x y : Bool) → nat_lt a.stamp r.stamp ≡ x → nat_lt r.stamp a.stamp ≡ y → a.stamp ≢ r.stamp → cond y (a ∷ r ∷ []) (r ∷ a ∷ []) ≡ cond x (r ∷ a ∷ []) (a ∷ r ∷ [])
either-order a r true true p q ne = let l = lt-of a.stamp r.stamp p in let m = lt-of r.stamp a.stamp q in absurd (omega arith)
either-order a r true false p q ne = refl
either-order a r false true p q ne = refl
either-order a r false false p q ne = let l = le-of a.stamp r.stamp p in let m = le-of r.stamp a.stamp q in absurd (ne (omega arith))

no-first : (x y : Bool) (t : ℕ) → cond (x || y) (Some t) None ≡ None → x ≡ false
no-first true y t is = absurd (cc)
no-first false y t is = refl

no-left : (x y : Bool) → x || y ≡ false → x ≡ false
no-left true y is = absurd (cc)
no-left false y is = refl

differs : (a t : ℕ) → (a == t) ≡ false → a ≢ t
differs a t is = grind (arith, nat_tests)

-- a refill that is not passed over has another stamp than the greatest
not-greatest : (a r : Held) (more : List Held) → passes_refill stamp_of base_of r.stamp (a ∷ more) ≡ None → a.stamp ≢ r.stamp
not-greatest a r more none =
    let has = no-first (has_stamp stamp_of r.stamp (a ∷ more)) (is_past stamp_of base_of r.stamp (a ∷ more)) a.stamp none in
    differs a.stamp r.stamp (no-left (a.stamp == r.stamp) (has_stamp stamp_of r.stamp more) has)

refilled-two : (a b r : Held) (lt : Bool) → passes_refill stamp_of base_of r.stamp (cond lt (b ∷ a ∷ []) (a ∷ b ∷ [])) ≡ None
    → in_order stamp_of (put_at (record { zero = Some a; one = Some b }) (cond lt 0 1) (Some r)) ≡ refilled stamp_of r (cond lt (b ∷ a ∷ []) (a ∷ b ∷ []))
refilled-two a b r true none = either-order b r (nat_lt b.stamp r.stamp) (nat_lt r.stamp b.stamp) refl refl (not-greatest b r (a ∷ []) none)
refilled-two a b r false none = refl

refilled-sides : (a b : Option Held) (r : Held) → passes_refill stamp_of base_of r.stamp (ordered stamp_of a b) ≡ None
    → in_order stamp_of (put_at (record { zero = a; one = b }) (side_among stamp_of never a b) (Some r)) ≡ refilled stamp_of r (ordered stamp_of a b)
refilled-sides None None r none = refl
refilled-sides (Some a) None r none = refl
refilled-sides None (Some b) r none = either-order b r (nat_lt b.stamp r.stamp) (nat_lt r.stamp b.stamp) refl refl (not-greatest b r [] none)
refilled-sides (Some a) (Some b) r none = refilled-two a b r (nat_lt a.stamp b.stamp) none

pub refill-leaves : (s : Sides Held) (r : Held) → passes_refill stamp_of base_of r.stamp (in_order stamp_of s) ≡ None → in_order stamp_of (put_at s (side_for stamp_of never s) (Some r)) ≡ refilled stamp_of r (in_order stamp_of s)
refill-leaves s r none = refilled-sides s.zero s.one r none
