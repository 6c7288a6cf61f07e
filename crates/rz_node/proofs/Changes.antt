-- One cell changes: the pairs that keep what they hold.
use Rattle.std.proofs.Common.{◌≡◌, ◌≢◌, ◌⊎◌, inl, inr, ⊎_elim, ℕ, ◌+◌, ◌*◌, ◌/◌, ◌<◌, Bool, true, false, cond, List, [], ◌∷◌, length, set, Option, Some, None, refl, sym, ◌∙◌, ap, subst, arith}
use Rattle.std.specs.Prelude.{◌==◌, nat_lt}
use Rattle.std.specs.Option.{option_map}
use Rattle.std.specs.List.{AllByRecursion}
use Rattle.std.specs.Ordering.{eq_by_cmp, is_eq}
use Rattle.std.specs.Cmp.{tied_itself}
use Rattle.std.specs.declared.cmp.Ordering.{Ordering}
use Rattle.std.specs.declared.cmp.Ordering.TheVariants.{Less, Equal, Greater}
use Rattle.std.specs.FinMap as maps
use Rattle.std.specs.FinMap.{get-insert, get-remove}
use Rattle.std.proofs.lemmas.Bool.{cases_eq}
use Rattle.std.proofs.lemmas.List.{get_or-set_same, get_or-set_other}
use Rattle.rz_events.specs.Keys.{key_cmp, keys_total, exact_keys}
use Rattle.rz_events.specs.declared.keys.Key.{Key}
use Rattle.rz_events.specs.declared.records.Head.{Head}
use Rattle.rz_events.specs.declared.records.Held.{Held}
use Rattle.rz_node_model.specs.Records.{record_of, stamp_of}
use Rattle.rz_versions.specs.Sides.{Sides, ordered, in_order, put_at}
use Rattle.rz_index.specs.declared.index.Entry.{Entry}
use Rattle.rz_cells_slots.specs.Held.{in_cell}
use Rattle.rz_node.specs.Kept.{sides_in, version_of, versions_of, IsShown, IsFree}

-- ---- keys

is-equal : (o : Ordering) → is_eq o ≡ true → o ≡ Equal
is-equal Less is = absurd (cc)
is-equal Equal is = refl
is-equal Greater is = absurd (cc)

pub key-cases : (q key : Key) → (q ≡ key) ⊎ (eq_by_cmp key_cmp q key ≡ false)
key-cases q key = go (eq_by_cmp key_cmp q key) refl
  where
    go : (b : Bool) → eq_by_cmp key_cmp q key ≡ b → (q ≡ key) ⊎ (eq_by_cmp key_cmp q key ≡ false)
    go true is = inl (exact_keys q key (is-equal (key_cmp q key) is))
    go false is = inr is

own-key : (key : Key) → eq_by_cmp key_cmp key key ≡ true
own-key key = ap is_eq (tied_itself keys_total key)

pub not-key : (q key : Key) → eq_by_cmp key_cmp q key ≡ false → q ≢ key
not-key q key differs same =
    let yes : eq_by_cmp key_cmp q key ≡ true = subst (λ (k : Key). eq_by_cmp key_cmp q k ≡ true) same (own-key q) in
    absurd (cc)

module _ {X : Type 0} (m : maps.FinMap key_cmp X) (key : Key) where
  pub get-own : (x : X) → maps.get (maps.insert m key x) key ≡ Some x
  get-own x = get-insert keys_total m key x key ∙ ap (λ b. cond b (Some x) (maps.get m key)) (own-key key)

  pub get-other : (x : X) (q : Key) → eq_by_cmp key_cmp q key ≡ false → maps.get (maps.insert m key x) q ≡ maps.get m q
  get-other x q differs = get-insert keys_total m key x q ∙ ap (λ b. cond b (Some x) (maps.get m q)) differs

  pub gone-own : maps.get (maps.remove m key) key ≡ None
  gone-own = get-remove keys_total m key key ∙ ap (λ b. cond b None (maps.get m key)) (own-key key)

  pub gone-other : (q : Key) → eq_by_cmp key_cmp q key ≡ false → maps.get (maps.remove m key) q ≡ maps.get m q
  gone-other q differs = get-remove keys_total m key q ∙ ap (λ b. cond b None (maps.get m q)) differs

-- ---- sides

version-either : (b : Bool) (o p : Option Held) → option_map version_of (cond b o p) ≡ cond b (option_map version_of o) (option_map version_of p)
version-either true o p = refl
version-either false o p = refl

pub put-versions : (s : Sides Held) (side : ℕ) (o : Option Held) → versions_of (put_at s side o) ≡ put_at (versions_of s) side (option_map version_of o)
put-versions s side o = λ i. record { zero = version-either (side == 0) o s.zero i; one = version-either (side == 0) s.one o i }

some-two : (a b : Held) (lt : Bool) → cond lt (b ∷ a ∷ []) (a ∷ b ∷ []) ≢ []
some-two a b true is = absurd (cc)
some-two a b false is = absurd (cc)

pub some-left : (a : Held) (o : Option Held) → ordered stamp_of (Some a) o ≢ []
some-left a None is = absurd (cc)
some-left a (Some b) is = some-two a b (nat_lt a.stamp b.stamp) is

pub some-right : (o : Option Held) (b : Held) → ordered stamp_of o (Some b) ≢ []
some-right None b is = absurd (cc)
some-right (Some a) b is = some-two a b (nat_lt a.stamp b.stamp) is

pub put-some : (s : Sides Held) (side : ℕ) (r : Held) → in_order stamp_of (put_at s side (Some r)) ≢ []
put-some s side r = go (side == 0)
  where
    go : (b : Bool) → ordered stamp_of (cond b (Some r) s.zero) (cond b s.one (Some r)) ≢ []
    go true = some-left r s.one
    go false = some-right s.zero r

-- ---- heads

module _ (pairs : ℕ) (heads : List (Option Head)) (pair side cell : ℕ) (new : Option Head) (two : side < 2) (at : cell ≡ 2 * pair + side) (long : cell < length heads) where
  abbrev after : List (Option Head)
  after = set heads cell new

  pub own : (c : ℕ) → c ≡ cell → in_cell after c ≡ new
  own c is = ap (in_cell after) is ∙ get_or-set_same heads cell new None long

  pub other : (c : ℕ) → c ≢ cell → in_cell after c ≡ in_cell heads c
  other c ne = get_or-set_other heads cell c new None ne

  pub half : cell / 2 ≡ pair
  half = omega (arith, at, two)

  pub apart : (c : ℕ) → c / 2 ≢ pair → in_cell after c ≡ in_cell heads c
  apart c ne = other c (λ same. ne (ap (λ (n : ℕ). n / 2) same ∙ half))

  pub sides-other : (p : ℕ) → p ≢ pair → sides_in after p ≡ sides_in heads p
  sides-other p ne = λ i. record {
    zero = option_map record_of (other (2 * p) (λ same. ne (omega (arith, same, at, two))) i);
    one = option_map record_of (other (2 * p + 1) (λ same. ne (omega (arith, same, at, two))) i);
  }

  pub sides-own : sides_in after pair ≡ put_at (sides_in heads pair) side (option_map record_of new)
  sides-own = ⊎_elim
      (λ (low : side ≡ 0). subst (λ (n : ℕ). sides_in after pair ≡ put_at (sides_in heads pair) n (option_map record_of new)) (sym low)
      (λ i. record {
        zero = option_map record_of (own (2 * pair) (omega (arith, at, low)) i);
        one = option_map record_of (other (2 * pair + 1) (λ same. omega (arith, same, at, low)) i);
      }))
      (λ (high : side ≢ 0). subst (λ (n : ℕ). sides_in after pair ≡ put_at (sides_in heads pair) n (option_map record_of new)) (one-of high)
      (λ i. record {
        zero = option_map record_of (other (2 * pair) (λ same. high (omega (arith, same, at))) i);
        one = option_map record_of (own (2 * pair + 1) (omega (arith, at, one-of high)) i);
      }))
      (cases_eq side 0)
    where
      one-of : side ≢ 0 → 1 ≡ side
      one-of high = ⊎_elim (λ (same : side ≡ 1). sym same) (λ (ne : side ≢ 1). absurd (high (omega (arith, ne, two)))) (cases_eq side 1)

  pub shown-other : (q : Key) (f : Entry) → f.cell ≢ pair → IsShown pairs heads q f → IsShown pairs after q f
  shown-other q f ne shown = record {
    named = shown.named;
    within = shown.within;
    keys = λ c h is there. shown.keys c h is (sym (apart c (λ same. ne (sym is ∙ same))) ∙ there);
    versions = shown.versions ∙ ap versions_of (sym (sides-other f.cell ne));
    some = λ none. shown.some (ap (in_order stamp_of) (sym (sides-other f.cell ne)) ∙ none);
  }

  pub free-other : (ps : List ℕ) → AllByRecursion (λ p. p ≢ pair) ps → AllByRecursion (IsFree pairs heads) ps → AllByRecursion (IsFree pairs after) ps
  free-other [] ne all = tt
  free-other (p ∷ ps) ne all = (
    record {
      within = all.0.within;
      zero = apart (2 * p) (λ same. ne.0 (omega (arith, same))) ∙ all.0.zero;
      one = apart (2 * p + 1) (λ same. ne.0 (omega (arith, same))) ∙ all.0.one;
    },
    free-other ps ne.1 all.1,
  )
