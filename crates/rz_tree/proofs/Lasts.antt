-- A key that stands behind all keys of a map is the last one when it is inserted.
use Rattle.std.proofs.Common.{◌≡◌, Bool, true, false, cond, ◌&&◌, List, [], ◌∷◌, ◌++◌, Some, None, Ordering, sym, ap, ◌∙◌, refl}
use Rattle.std.specs.declared.cmp.Ordering.TheVariants.{Less, Equal, Greater}
use Rattle.std.specs.List.{list_all}
use Rattle.std.specs.Ordering.{is_eq, is_lt, eq_by_cmp, ordering_reverse}
use Rattle.std.specs.Cmp.{IsTotalOrder}
use Rattle.std.specs.FinMap as maps
use Rattle.std.specs.FinMap.{FinMap, entries-insert, get-entries}
use Rattle.std.specs.FinMap.Entries.{find, put, by_order}
use Rattle.rz_export_model.proofs.Tests.{eq_true}
use Rattle.rz_tree.specs.Added.{is_behind}
use Rattle.rz_tree.proofs.Keys.{not_none, false-true}

pub and-left : (a b : Bool) → (a && b) ≡ true → a ≡ true
and-left true b h = refl
and-left false b h = absurd (false-true h)

pub and-right : (a b : Bool) → (a && b) ≡ true → b ≡ true
and-right true b h = h
and-right false b h = absurd (false-true h)

lesser : (r : Ordering) → is_lt r ≡ true → r ≡ Less
lesser Less h = refl
lesser Equal h = absurd (false-true h)
lesser Greater h = absurd (false-true h)

module _ {K X : Type 0} {R : K → K → Ordering} (o : IsTotalOrder R) where
  greater : (k : K) (e : K × X) → is_lt (R e.0 k) ≡ true → R k e.0 ≡ Greater
  greater k e h = o.antisymm k e.0 ∙ ap ordering_reverse (lesser (R e.0 k) h)

  put-last : (k : K) (v : X) (es : List (K × X)) → list_all (λ e. is_lt (R e.0 k)) es ≡ true → put R k v es ≡ es ++ (k, v) ∷ []
  put-last k v [] h = refl
  put-last k v (e ∷ es) h =
      ap (λ r. by_order r ((k, v) ∷ e ∷ es) ((e.0, v) ∷ es) (e ∷ put R k v es)) (greater k e (and-left _ _ h))
      ∙ ap (λ l. e ∷ l) (put-last k v es (and-right _ _ h))

  find-none : (k : K) (es : List (K × X)) → list_all (λ e. is_lt (R e.0 k)) es ≡ true → find R k es ≡ None
  find-none k [] h = refl
  find-none k (e ∷ es) h = ap (λ r. cond (is_eq r) (Some e.1) (find R k es)) (greater k e (and-left _ _ h)) ∙ find-none k es (and-right _ _ h)

  found-less : (k q : K) (x : X) (es : List (K × X)) → list_all (λ e. is_lt (R e.0 k)) es ≡ true → find R q es ≡ Some x → R q k ≡ Less
  found-less k q x [] h is = absurd (not_none x (sym is))
  found-less k q x (e ∷ es) h is = go (eq_by_cmp R q e.0) refl is (found-less k q x es (and-right _ _ h))
    where
      go : (b : Bool) → eq_by_cmp R q e.0 ≡ b → cond b (Some e.1) (find R q es) ≡ Some x → (find R q es ≡ Some x → R q k ≡ Less) → R q k ≡ Less
      go true tied is later = o.congr q e.0 k (eq_true (R q e.0) tied) ∙ lesser (R e.0 k) (and-left _ _ h)
      go false tied is later = later is

  module _ (m : FinMap R X) (k : K) (last : is_behind m k ≡ true) where
    -- all keys that have an entry are lesser
    pub behind-less : (q : K) (x : X) → maps.get m q ≡ Some x → R q k ≡ Less
    behind-less q x is = found-less k q x (maps.entries m) last (sym (get-entries m q) ∙ is)

    -- it has no entry
    pub behind-none : maps.get m k ≡ None
    behind-none = get-entries m k ∙ find-none k (maps.entries m) last

    -- and its entry is the last one
    pub entries-last : (v : X) → maps.entries (maps.insert m k v) ≡ maps.entries m ++ (k, v) ∷ []
    entries-last v = entries-insert o m k v ∙ put-last k v (maps.entries m) last
