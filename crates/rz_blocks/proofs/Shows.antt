-- The map that kept entries stand for.
use Rattle.std.proofs.Common.{◌≡◌, ℕ, Bool, true, false, cond, ◌&&◌, T, List, [], ◌∷◌, Option, Some, None, is_some, sym, ap, ◌∙◌, subst, refl}
use Rattle.std.specs.declared.cmp.Ordering.TheVariants.{Less}
use Rattle.std.specs.Option.{option_map, option_map_or, option_and_then}
use Rattle.std.specs.Ordering.{is_lt, eq_by_cmp}
use Rattle.std.specs.Cmp.{eq_by_cmp_equiv}
use Rattle.std.specs.BTreeMap.{is_at}
use Rattle.std.specs.Map.{keys_of}
use Rattle.std.specs.List.{AllByRecursion}
use Rattle.std.specs.List.Sorted.{IsStrictlySortedBy}
use Rattle.std.proofs.lemmas.Map.Keys.{sorted_head, sorted_tail}
use Rattle.std.specs.FinMap as maps
use Rattle.std.specs.FinMap.{same_map, get-from_entries, get-insert, get-remove, get-entries, entries_sorted}
use Rattle.std.specs.FinMap.Entries.{find, is_sorted, below_all, same_entries}
use Rattle.rz_events.specs.Keys.{key_cmp, keys_total, exact_keys}
use Rattle.rz_events.specs.declared.keys.Key.{Key}
use Rattle.rz_events.specs.declared.files.Published.{Published}
use Rattle.rz_export_model.proofs.Tests.{both}
use Rattle.rz_export_model.specs.Export.{Block, Blocks, begun, with_published, newer_of}
use Rattle.rz_blocks.specs.declared.blocks.BlockEntry.{BlockEntry}
use Rattle.rz_blocks.specs.Shown.{shown, shown_entries}
use Rattle.rz_blocks.specs.Marked.{kept_at}

abbrev pub Kept : Type 0
Kept = List (Key × BlockEntry)

abbrev pub map_of : Kept → Blocks
map_of es = maps.from_entries (shown_entries es)

pub find-shown : (es : Kept) (q : Key) → find key_cmp q (shown_entries es) ≡ option_map shown (kept_at es q)
find-shown [] q = refl
find-shown (e ∷ es) q = elim (is_at (key_cmp q) e.0) as (λ b. cond b (Some (shown e.1)) (find key_cmp q (shown_entries es)) ≡ option_map shown (cond b (Some e.1) (kept_at es q))) [
  | true ↦ refl
  | false ↦ find-shown es q
]

pub get-shown : (es : Kept) (q : Key) → maps.get (map_of es) q ≡ option_map shown (kept_at es q)
get-shown es q = get-from_entries keys_total (shown_entries es) q ∙ find-shown es q

pub some-shown : (o : Option BlockEntry) → is_some (option_map shown o) ≡ is_some o
some-shown None = refl
some-shown (Some e) = refl

-- a key that is there has an entry
pub there-kept : (es : Kept) (m : Blocks) → map_of es ≡ m → (q : Key) → is_some (maps.get m q) ≡ true → is_some (kept_at es q) ≡ true
there-kept es m view q h = sym (some-shown (kept_at es q)) ∙ ap is_some (sym (get-shown es q)) ∙ ap (λ x. is_some (maps.get x q)) view ∙ h

map-cond : (b : Bool) (o p : Option BlockEntry) → option_map shown (cond b o p) ≡ cond b (option_map shown o) (option_map shown p)
map-cond true o p = refl
map-cond false o p = refl

-- entries that differ at one key make maps that differ there
pub one-set : (es fs : Kept) (k : Key) (v : BlockEntry) → ((q : Key) → kept_at fs q ≡ cond (is_at (key_cmp k) q) (Some v) (kept_at es q)) → map_of fs ≡ maps.insert (map_of es) k (shown v)
one-set es fs k v h = same_map keys_total exact_keys _ _ (λ q.
    get-shown fs q ∙ ap (option_map shown) (h q) ∙ map-cond (is_at (key_cmp k) q) (Some v) (kept_at es q)
    ∙ ap (λ b. cond b (Some (shown v)) (option_map shown (kept_at es q))) ((eq_by_cmp_equiv keys_total).symm k q)
    ∙ sym (get-insert keys_total (map_of es) k (shown v) q ∙ ap (cond (eq_by_cmp key_cmp q k) (Some (shown v))) (get-shown es q)))

pub one-gone : (es fs : Kept) (k : Key) → ((q : Key) → kept_at fs q ≡ cond (is_at (key_cmp k) q) None (kept_at es q)) → map_of fs ≡ maps.remove (map_of es) k
one-gone es fs k h = same_map keys_total exact_keys _ _ (λ q.
    get-shown fs q ∙ ap (option_map shown) (h q) ∙ map-cond (is_at (key_cmp k) q) None (kept_at es q)
    ∙ ap (λ b. cond b None (option_map shown (kept_at es q))) ((eq_by_cmp_equiv keys_total).symm k q)
    ∙ sym (get-remove keys_total (map_of es) k q ∙ ap (cond (eq_by_cmp key_cmp q k) None) (get-shown es q)))

below-shown : (k : Key) (es : Kept) → AllByRecursion (λ y. key_cmp k y ≡ Less) (keys_of es) → T (below_all key_cmp k (shown_entries es))
below-shown k [] h = tt
below-shown k (e ∷ es) h = both _ _ (subst (λ r. T (is_lt r)) (sym h.0) tt) (below-shown k es h.1)

sorted-shown : (es : Kept) → IsStrictlySortedBy key_cmp (keys_of es) → T (is_sorted key_cmp (shown_entries es))
sorted-shown [] h = tt
sorted-shown (e ∷ es) h = both _ _ (below-shown e.0 es (sorted_head key_cmp e.0 (keys_of es) h)) (sorted-shown es (sorted_tail key_cmp e.0 (keys_of es) h))

-- the entries in order are the map's
pub entries-shown : (es : Kept) → IsStrictlySortedBy key_cmp (keys_of es) → maps.entries (map_of es) ≡ shown_entries es
entries-shown es h = same_entries key_cmp keys_total exact_keys (maps.entries (map_of es)) (shown_entries es) (entries_sorted (map_of es)) (sorted-shown es h)
    (λ q. sym (get-entries (map_of es) q) ∙ get-from_entries keys_total (shown_entries es) q)

-- an entry of the map that is written over
module _ (es : Kept) (m : Blocks) (key : Key) (e : BlockEntry) (view : map_of es ≡ m) (at : kept_at es key ≡ Some e) where
  there : maps.get m key ≡ Some (shown e)
  there = sym (ap (λ x. maps.get x key) view) ∙ get-shown es key ∙ ap (option_map shown) at

  pub set-begun : (stamp : ℕ) → maps.insert m key (shown (record e { latest = stamp })) ≡ begun m key stamp
  set-begun stamp = sym (ap (λ (o : Option Block). (let b : Block = record { latest = stamp; published = option_and_then (λ (b : Block). b.published) o } in maps.insert m key b)) there)

  pub set-published : (p : Published) → maps.insert m key (shown (record e { published = Some (newer_of e.published p) })) ≡ with_published m key p
  set-published p =
      sym (ap (λ (o : Option Block). (let b : Block = record { latest = option_map_or (λ (b : Block). b.latest) o 0; published = Some (newer_of (option_and_then (λ (b : Block). b.published) o) p) } in maps.insert m key b)) there)
