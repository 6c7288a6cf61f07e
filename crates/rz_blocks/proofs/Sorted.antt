-- What is found among entries in the order of their keys.
use Rattle.std.proofs.Common.{◌≡◌, Bool, true, false, cond, ◌&&◌, T, List, [], ◌∷◌, Option, Some, None, sym, ap, ◌∙◌, refl}
use Rattle.std.specs.declared.cmp.Ordering.{Ordering}
use Rattle.std.specs.declared.cmp.Ordering.TheVariants.{Less, Equal, Greater}
use Rattle.std.specs.Option.{option_or}
use Rattle.std.specs.Ordering.{is_lt, is_eq, eq_by_cmp, ordering_reverse}
use Rattle.std.specs.Cmp.{tied_itself}
use Rattle.std.specs.FinMap.Entries.{find, is_sorted, below_all}
use Rattle.rz_events.specs.Keys.{key_cmp, keys_total, exact_keys}
use Rattle.rz_events.specs.declared.keys.Key.{Key}
use Rattle.rz_export_model.specs.Firsts.{first_given}

one : (a b : Bool) → T (a && b) → T a
one true b p = tt
one false b p = p

other : (a b : Bool) → T (a && b) → T b
other true b p = p
other false b p = absurd p

less : (r : Ordering) → T (is_lt r) → r ≡ Less
less Less p = refl
less Equal p = absurd p
less Greater p = absurd p

pub tied : (r : Ordering) → is_eq r ≡ true → r ≡ Equal
tied Less h = cc
tied Equal h = refl
tied Greater h = cc

module _ {X : Type 0} where
  below-found : (k : Key) (es : List (Key × X)) (q : Key) (v : X) → T (below_all key_cmp k es) → find key_cmp q es ≡ Some v → key_cmp k q ≡ Less
  below-found k [] q v h is = cc
  below-found k (e ∷ es) q v h is = elim (eq_by_cmp key_cmp q e.0) as (λ b. eq_by_cmp key_cmp q e.0 ≡ b → cond b (Some e.1) (find key_cmp q es) ≡ Some v → key_cmp k q ≡ Less) [
    | true ↦ λ same at. ap (key_cmp k) (exact_keys q e.0 (tied _ same)) ∙ less _ (one _ _ h)
    | false ↦ λ _ at. below-found k es q v (other _ _ h) at
  ] refl is

  -- what is found behind the first entry stands above it
  above-first : (e : Key × X) (es : List (Key × X)) (q : Key) (v : X) → T (is_sorted key_cmp (e ∷ es)) → find key_cmp q es ≡ Some v → key_cmp e.0 q ≡ Less
  above-first e es q v h is = below-found e.0 es q v (one _ _ h) is

  pub found-first : (e : Key × X) (es : List (Key × X)) → find key_cmp e.0 (e ∷ es) ≡ Some e.1
  found-first e es = ap (λ r. cond (is_eq r) (Some e.1) (find key_cmp e.0 es)) (tied_itself keys_total e.0)

  pub found-later : (e : Key × X) (es : List (Key × X)) (q : Key) (v : X) → T (is_sorted key_cmp (e ∷ es)) → find key_cmp q es ≡ Some v → find key_cmp q (e ∷ es) ≡ Some v
  found-later e es q v h is =
      let greater : key_cmp q e.0 ≡ Greater = keys_total.antisymm q e.0 ∙ ap ordering_reverse (above-first e es q v h is) in
      ap (λ r. cond (is_eq r) (Some e.1) (find key_cmp q es)) greater ∙ is

  -- nothing is given where no entry that is found gives something
  pub first-none : {A : Type 0} (give : Key × X → Option A) (es : List (Key × X)) → T (is_sorted key_cmp es) → ((q : Key) (v : X) → find key_cmp q es ≡ Some v → give (q, v) ≡ None) → first_given give es ≡ None
  first-none give [] h none = refl
  first-none give (e ∷ es) h none =
      ap (λ o. option_or o (first_given give es)) (none e.0 e.1 (found-first e es)) ∙ first-none give es (other _ _ h) (λ q v is. none q v (found-later e es q v h is))

  same_Some : (v w : X) → Some v ≡ Some w → v ≡ w
  same_Some v w h = ap (λ o. first_or o v) h
    where
      first_or : Option X → X → X
      first_or None d = d
      first_or (Some x) d = x

  -- an entry gives the first where none below it gives something
  pub first-some : {A : Type 0} (give : Key × X → Option A) (es : List (Key × X)) (k : Key) (v : X) (a : A) → T (is_sorted key_cmp es) → find key_cmp k es ≡ Some v → give (k, v) ≡ Some a
      → ((q : Key) (w : X) → find key_cmp q es ≡ Some w → key_cmp q k ≡ Less → give (q, w) ≡ None) → first_given give es ≡ Some a
  first-some give [] k v a h is gives none = cc
  first-some give (e ∷ es) k v a h is gives none = elim (eq_by_cmp key_cmp k e.0) as (λ b. eq_by_cmp key_cmp k e.0 ≡ b → cond b (Some e.1) (find key_cmp k es) ≡ Some v → option_or (give e) (first_given give es) ≡ Some a) [
    | true ↦ λ same at.
        let key : e.0 ≡ k = sym (exact_keys k e.0 (tied _ same)) in
        let value : e.1 ≡ v = same_Some e.1 v at in
        ap (λ x. option_or (give (x, e.1)) (first_given give es)) key ∙ ap (λ x. option_or (give (k, x)) (first_given give es)) value ∙ ap (λ o. option_or o (first_given give es)) gives
    | false ↦ λ _ at.
        ap (λ o. option_or o (first_given give es)) (none e.0 e.1 (found-first e es) (above-first e es k v h at))
        ∙ first-some give es k v a (other _ _ h) at gives (λ q w found. none q w (found-later e es q w h found))
  ] refl is
