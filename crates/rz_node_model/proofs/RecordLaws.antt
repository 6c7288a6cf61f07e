-- What a change leaves of each key.
use Rattle.std.proofs.Common.{Bool, true, false, ◌≡◌, ◌==◌, ◌&&◌, List, [], ◌∷◌, Option, Some, None, cond, refl, sym, ap, ◌∙◌}
use Rattle.std.specs.FinMap as maps
use Rattle.std.specs.FinMap.{get-insert, get-remove, get-empty}
use Rattle.std.specs.Ordering.{eq_by_cmp, nat_cmp, is_eq}
use Rattle.std.specs.Cmp.{tied_then, unsigned_tied}
use Rattle.rz_events.specs.Keys.{key_cmp, keys_total}
use Rattle.rz_events.specs.Events.{same_key}
use Rattle.rz_events.specs.declared.keys.Key.{Key}
use Rattle.rz_events.specs.declared.records.Held.{Held}
use Rattle.rz_node_model.specs.Records.{Records, listed, held_of, with_held, IsWhole}

-- to tie in the order of keys is to be the same key
pub tie-same_key : (a b : Key) → eq_by_cmp key_cmp a b ≡ same_key a b
tie-same_key a b = sym (tied_then (nat_cmp a.fid b.fid) (nat_cmp a.block b.block)) ∙ ap (λ t. t && is_eq (nat_cmp a.block b.block)) (unsigned_tied a.fid b.fid) ∙ ap (λ t. (a.fid == b.fid) && t) (unsigned_tied a.block b.block)

listed-cond : (t : Bool) (rs : List Held) (o : Option (List Held)) → listed (cond t (Some rs) o) ≡ cond t rs (listed o)
listed-cond true rs o = refl
listed-cond false rs o = refl

listed-none : (t : Bool) (o : Option (List Held)) → listed (cond t None o) ≡ cond t [] (listed o)
listed-none true o = refl
listed-none false o = refl

-- the records of a key after a change of one key
pub held_of-with_held : (held : Records) (key : Key) (rs : List Held) (q : Key)
    → held_of (with_held held key rs) q ≡ cond (same_key q key) rs (held_of held q)
held_of-with_held held key [] q =
    ap listed (get-remove keys_total held key q) ∙ listed-none (eq_by_cmp key_cmp q key) (maps.get held q)
    ∙ ap (λ t. cond t [] (held_of held q)) (tie-same_key q key)
held_of-with_held held key (r ∷ rs) q =
    ap listed (get-insert keys_total held key (r ∷ rs) q) ∙ listed-cond (eq_by_cmp key_cmp q key) (r ∷ rs) (maps.get held q)
    ∙ ap (λ t. cond t (r ∷ rs) (held_of held q)) (tie-same_key q key)

pub whole-empty : IsWhole maps.empty
whole-empty key h = let e = get-empty {X = List Held} key_cmp key in cc

pub whole-with_held : (held : Records) (key : Key) (rs : List Held) → IsWhole held → IsWhole (with_held held key rs)
whole-with_held held key [] whole q h = go (eq_by_cmp key_cmp q key) (sym (get-remove keys_total held key q) ∙ h)
  where
    go : (t : Bool) → cond t None (maps.get held q) ≡ Some [] → ⊥
    go true e = cc
    go false e = whole q e
whole-with_held held key (r ∷ rs) whole q h = go (eq_by_cmp key_cmp q key) (sym (get-insert keys_total held key (r ∷ rs) q) ∙ h)
  where
    go : (t : Bool) → cond t (Some (r ∷ rs)) (maps.get held q) ≡ Some [] → ⊥
    go true e = cc
    go false e = whole q e
