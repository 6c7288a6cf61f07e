-- Which record gives way.
use Rattle.std.proofs.Common.{◌≡◌, ℕ, ◌<◌, Bool, true, false, cond, not, [], ◌∷◌, Option, Some, None, refl, sym, ◌∙◌, ap, arith, eq-eqb}
use Rattle.std.specs.Prelude.{◌==◌, ◌&&◌, ◌||◌, nat_lt}
use Rattle.std.specs.Option.{option_map}
use Rattle.std.proofs.lemmas.Bool.Decides.{nat_tests}
use Rattle.rz_events.specs.declared.keys.Key.{Key}
use Rattle.rz_events.specs.declared.records.Head.{Head}
use Rattle.rz_events.specs.declared.records.Held.{Held}
use Rattle.rz_node_model.specs.Records.{record_of, stamp_of}
use Rattle.rz_node_model.specs.Versions.{has_stamp}
use Rattle.rz_versions.specs.Sides.{Sides, ordered, in_order, put_at, has, Differ}
use Rattle.rz_cells_slots.specs.Held.{names}

swap-or : (x y : Bool) → y || (x || false) ≡ x || y
swap-or true true = refl
swap-or true false = refl
swap-or false true = refl
swap-or false false = refl

or-none : (x : Bool) → x || false ≡ x
or-none true = refl
or-none false = refl

has-two : (t : ℕ) (a b : Held) (lt : Bool) → has_stamp stamp_of t (cond lt (b ∷ a ∷ []) (a ∷ b ∷ [])) ≡ (a.stamp == t) || (b.stamp == t)
has-two t a b true = swap-or (a.stamp == t) (b.stamp == t)
has-two t a b false = ap (λ c. (a.stamp == t) || c) (or-none (b.stamp == t))

has-ordered : (t : ℕ) (a b : Option Held) → has_stamp stamp_of t (ordered stamp_of a b) ≡ has stamp_of a t || has stamp_of b t
has-ordered t None None = refl
has-ordered t (Some a) None = refl
has-ordered t None (Some b) = or-none (b.stamp == t)
has-ordered t (Some a) (Some b) = has-two t a b (nat_lt a.stamp b.stamp)

pub has-sides : (t : ℕ) (s : Sides Held) → has_stamp stamp_of t (in_order stamp_of s) ≡ has stamp_of s.zero t || has stamp_of s.one t
has-sides t s = has-ordered t s.zero s.one

-- a head of the key is named by its stamp
names-own : (h : Head) (key : Key) (t : ℕ) → h.key ≡ key → names (Some h) key t ≡ (h.stamp == t)
names-own h key t same =
    let fid = eq-eqb h.key.fid key.fid (ap (λ (k : Key). k.fid) same) in
    let block = eq-eqb h.key.block key.block (ap (λ (k : Key). k.block) same) in
    λ i. (fid i && block i) && (h.stamp == t)

pub names-has : (gone : Option Head) (key : Key) (t : ℕ) → ((h : Head) → gone ≡ Some h → h.key ≡ key) → names gone key t ≡ has stamp_of (option_map record_of gone) t
names-has None key t named = refl
names-has (Some h) key t named = names-own h key t (named h refl)

both-of : (a b : Option Held) (t : ℕ) → Differ stamp_of a b → has stamp_of a t ≡ true → has stamp_of b t ≡ true → ⊥
both-of None b t differ x y = absurd (cc)
both-of (Some a) None t differ x y = absurd (cc)
both-of (Some a) (Some b) t differ x y = differ (stamps a.stamp b.stamp t x y)
  where
    stamps : (m n t : ℕ) → (m == t) ≡ true → (n == t) ≡ true → m ≡ n
    stamps m n t x y = grind (arith, nat_tests)

stay-one : (n x y : Bool) → (x ≡ true → y ≡ true → ⊥) → n || y ≡ n || ((x || y) && not x)
stay-one true x y apart = refl
stay-one false true true apart = absurd (apart refl refl)
stay-one false true false apart = refl
stay-one false false true apart = refl
stay-one false false false apart = refl

stay-zero : (n x y : Bool) → (x ≡ true → y ≡ true → ⊥) → x || n ≡ n || ((x || y) && not y)
stay-zero true true true apart = refl
stay-zero true true false apart = refl
stay-zero true false true apart = refl
stay-zero true false false apart = refl
stay-zero false true true apart = absurd (apart refl refl)
stay-zero false true false apart = refl
stay-zero false false true apart = refl
stay-zero false false false apart = refl

-- what was on a side gives way to what is put there
pub way-sides : (s : Sides Held) (side : ℕ) (o : Option Held) (t : ℕ) (gone : Bool) → side < 2 → Differ stamp_of s.zero s.one → gone ≡ has stamp_of (cond (side == 0) s.zero s.one) t
    → has_stamp stamp_of t (in_order stamp_of (put_at s side o)) ≡ has stamp_of o t || (has_stamp stamp_of t (in_order stamp_of s) && not gone)
way-sides s side o t gone two differ is =
    has-sides t (put_at s side o) ∙ go (side == 0) is ∙ ap (λ b. has stamp_of o t || (b && not gone)) (sym (has-sides t s))
  where
    go : (b : Bool) → gone ≡ has stamp_of (cond b s.zero s.one) t
        → has stamp_of (cond b o s.zero) t || has stamp_of (cond b s.one o) t ≡ has stamp_of o t || ((has stamp_of s.zero t || has stamp_of s.one t) && not gone)
    go true is =
        stay-one (has stamp_of o t) (has stamp_of s.zero t) (has stamp_of s.one t) (both-of s.zero s.one t differ)
        ∙ ap (λ b. has stamp_of o t || ((has stamp_of s.zero t || has stamp_of s.one t) && not b)) (sym is)
    go false is =
        stay-zero (has stamp_of o t) (has stamp_of s.zero t) (has stamp_of s.one t) (both-of s.zero s.one t differ)
        ∙ ap (λ b. has stamp_of o t || ((has stamp_of s.zero t || has stamp_of s.one t) && not b)) (sym is)
