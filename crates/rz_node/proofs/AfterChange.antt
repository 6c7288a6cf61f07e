-- What a disk stands for after a change, and which of two a start finds.
use Rattle.std.proofs.Common.{◌≡◌, ◌⊎◌, inl, inr, ⊎_elim, ℕ, Bool, true, false, cond, not, List, [], ◌∷◌, Option, Some, None, is_some, refl, sym, ◌∙◌, ap, subst}
use Rattle.std.specs.Prelude.{◌==◌, ◌&&◌, ◌||◌, if◌then◌else◌}
use Rattle.std.specs.Option.{option_map}
use Rattle.std.specs.Ordering.{eq_by_cmp}
use Rattle.std.proofs.Math.Path.{fun_ext}
use Rattle.rz_events.specs.Keys.{key_cmp}
use Rattle.rz_events.specs.declared.keys.Key.{Key}
use Rattle.rz_events.specs.declared.records.Head.{Head}
use Rattle.rz_events.specs.declared.records.Held.{Held}
use Rattle.rz_record.specs.Slot.{Rec}
use Rattle.rz_node_model.specs.declared.pending.Pending.{Pending}
use Rattle.rz_node_model.specs.declared.pending.Pending.TheVariants as pending
use Rattle.rz_node_model.specs.Records.{listed, record_of, held_of, stamp_of, with_held, carried, found}
use Rattle.rz_node_model.specs.Records as held
use Rattle.rz_node_model.specs.Versions.{has_stamp}
use Rattle.rz_versions.specs.Sides.{has}
use Rattle.rz_cells_slots.specs.declared.geometry.Geometry.{Geometry}
use Rattle.rz_cells_slots.specs.Held.{Records, head_in, names, changed}
use Rattle.rz_cells_slots.specs.Stands.{StandsFor}
use Rattle.rz_node.specs.CrashOutcomes.{GivesWay, is_new}
use Rattle.rz_node.specs.Change.{AreHeld, records_after, IsOf, IsChangeLaw, IsBranch}
use Rattle.rz_node.specs.HeldOnDisk.{IsHeldOnDisk}
use Rattle.rz_node.specs.DownDisk.{has_change, has_taken, CanTell}
use Rattle.rz_node.proofs.Changes.{key-cases, not-key, get-other, gone-other}
use Rattle.rz_node.proofs.Maps.{names-it}
use Rattle.rz_node.proofs.Waits.{own-held}
use Rattle.rz_node.proofs.Ways.{names-has}

-- ---- the records of a key

other-held : (kept : held.Records) (key k : Key) (rs : List Held) → eq_by_cmp key_cmp k key ≡ false → held_of (with_held kept key rs) k ≡ held_of kept k
other-held kept key k [] differs = ap listed (gone-other kept key k differs)
other-held kept key k (r ∷ rs) differs = ap listed (get-other kept key (r ∷ rs) k differs)

-- a head of another key is not named
names-away : (h : Head) (key k : Key) (t : ℕ) → h.key ≡ key → eq_by_cmp key_cmp k key ≡ false → (b : Bool) → names (Some h) k t ≡ b → b ≡ false
names-away h key k t of differs false is = refl
names-away h key k t of differs true is = absurd (not-key k key differs (sym (names-it (record { head = h; bins = [] }) k t is).0 ∙ of))

names-other : (o : Option Head) (key k : Key) (t : ℕ) → ((h : Head) → o ≡ Some h → h.key ≡ key) → eq_by_cmp key_cmp k key ≡ false → names o k t ≡ false
names-other None key k t of differs = refl
names-other (Some h) key k t of differs = names-away h key k t (of h refl) differs (names (Some h) k t) refl

heads-of : (new : Option Rec) (key : Key) → IsOf key new → (h : Head) → head_in new ≡ Some h → h.key ≡ key
heads-of None key of h is = absurd (cc)
heads-of (Some r) key of h is = (let same : r.head ≡ h = cc in ap (λ (x : Head). x.key) (sym same)) ∙ of r refl

same-new : (new : Option Rec) (t : ℕ) → has stamp_of (option_map record_of (head_in new)) t ≡ is_new new t
same-new None t = refl
same-new (Some r) t = refl

-- ---- the records after a change

-- a record that is there only where its stamp is held
only-held : (o : Option Rec) (b : Bool) → is_some o ≡ b → o ≡ (if b then o else None)
only-held o true is = refl
only-held None false is = refl
only-held (Some r) false is = absurd (cc)

by-tests : (new o : Option Rec) (n b x : Bool) → is_some o ≡ b → (if n then new else (if x then None else o)) ≡ (if (n || (b && not x)) then (if n then new else o) else None)
by-tests new o true b x is = refl
by-tests new o false true true is = refl
by-tests new o false false true is = refl
by-tests new o false true false is = refl
by-tests new o false false false is = only-held o false is

module _ (key : Key) (kept : held.Records) (after : List Held) (new : Option Rec) (gone : Option Head) (way : GivesWay key (held_of kept key) after new gone) (of : IsOf key new) (records : Records) (held : AreHeld kept records) where
  abbrev both : Key → ℕ → Type 0
  both k t = changed records gone new k t ≡ records_after (with_held kept key after) new records k t

  at-own : (t : ℕ) → both key t
  at-own t =
      let named : names (head_in new) key t ≡ is_new new t = names-has (head_in new) key t (heads-of new key of) ∙ same-new new t in
      let stays : has_stamp stamp_of t (held_of (with_held kept key after) key) ≡ (names (head_in new) key t || (has_stamp stamp_of t (held_of kept key) && not (names gone key t))) =
      ap (has_stamp stamp_of t) (own-held kept key after) ∙ way.stays t ∙ ap (λ b. b || (has_stamp stamp_of t (held_of kept key) && not (names gone key t))) (sym named) in
      by-tests new (records key t) (names (head_in new) key t) (has_stamp stamp_of t (held_of kept key)) (names gone key t) (held key t)
      ∙ ap (λ b. if b then (if names (head_in new) key t then new else records key t) else None) (sym stays)

  at-other : (k : Key) (t : ℕ) → eq_by_cmp key_cmp k key ≡ false → both k t
  at-other k t differs =
      let n = names-other (head_in new) key k t (heads-of new key of) differs in
      let x = names-other gone key k t way.named differs in
      (λ i. if n i then new else (if x i then None else records k t))
      ∙ only-held (records k t) (has_stamp stamp_of t (held_of kept k)) (held k t)
      ∙ (λ i. if has_stamp stamp_of t (sym (other-held kept key k after differs) i) then (if sym n i then new else records k t) else None)

  at-each : (k : Key) (t : ℕ) → both k t
  at-each k t = ⊎_elim (λ (same : k ≡ key). subst (λ (q : Key). both q t) (sym same) (at-own t)) (λ (differs : eq_by_cmp key_cmp k key ≡ false). at-other k t differs) (key-cases k key)

  after-is : changed records gone new ≡ records_after (with_held kept key after) new records
  after-is = fun_ext (λ k. fun_ext (λ t. at-each k t))

pub change-law : IsChangeLaw
change-law key kept after new gone records way of held = after-is key kept after new gone way of records held

-- ---- a start

has-found : (t : ℕ) (rs : List Held) → is_some (found t rs) ≡ has_stamp stamp_of t rs
has-found t [] = refl
has-found t (r ∷ rs) = go (r.stamp == t) (has-found t rs)
  where
    go : (b : Bool) → is_some (found t rs) ≡ has_stamp stamp_of t rs → is_some (cond b (Some r) (found t rs)) ≡ (b || has_stamp stamp_of t rs)
    go true rest = refl
    go false rest = rest

some-head : (o : Option Rec) → is_some (option_map (λ (r : Rec). record_of r.head) o) ≡ is_some o
some-head None = refl
some-head (Some r) = refl

-- records that show the one and are the other: their stamps are the same
same-stamps : (kept kept' : held.Records) (records : Records) → IsHeldOnDisk kept' records → AreHeld kept records → (key : Key) (t : ℕ) → has_stamp stamp_of t (held_of kept' key) ≡ has_stamp stamp_of t (held_of kept key)
same-stamps kept kept' records shows held key t = sym (has-found t (held_of kept' key)) ∙ ap is_some (shows.same key t) ∙ some-head (records key t) ∙ held key t

same-change : (change : Pending) (kept kept' : held.Records) → ((key : Key) (t : ℕ) → has_stamp stamp_of t (held_of kept' key) ≡ has_stamp stamp_of t (held_of kept key)) → has_change change kept' ≡ has_change change kept
same-change (pending.Keep key r) kept kept' same = same key r.stamp
same-change (pending.Refill key r) kept kept' same = same key r.stamp
same-change (pending.Drop key s) kept kept' same = ap not (same key s)

not-both : {A : Type 0} (b : Bool) → b ≡ true → b ≡ false → A
not-both b t f = let never : true ≡ false = sym t ∙ f in absurd (cc)

by-answer : (g : Geometry) (fence : ℕ) (text : List ℕ) (change : Pending) (kept kept' : held.Records) (took : Bool) (records changed : Records) → CanTell (Some change) kept → took ≡ has_change change kept' → ((r : Records) → StandsFor g fence text r → IsHeldOnDisk kept' r)
    → AreHeld kept records → AreHeld (carried change kept) changed → StandsFor g fence text records ⊎ StandsFor g fence text changed → StandsFor g fence text (if took then changed else records)
by-answer g fence text change kept kept' true records changed tell took shows held with_it (inr has) = has
by-answer g fence text change kept kept' false records changed tell took shows held with_it (inl was) = was
by-answer g fence text change kept kept' true records changed tell took shows held with_it (inl was) =
    not-both true refl (took ∙ same-change change kept kept' (same-stamps kept kept' records (shows records was) held) ∙ tell.0)
by-answer g fence text change kept kept' false records changed tell took shows held with_it (inr has) =
    not-both false (took ∙ same-change change (carried change kept) kept' (same-stamps (carried change kept) kept' changed (shows changed has) with_it) ∙ tell.1) refl

pub branch : (g : Geometry) (fence : ℕ) (text : List ℕ) (undecided : Option Pending) (kept kept' : held.Records) (took : Bool) → CanTell undecided kept → took ≡ has_taken undecided kept' → ((r : Records) → StandsFor g fence text r → IsHeldOnDisk kept' r) → IsBranch g fence text undecided kept took
branch g fence text undecided kept kept' took tell took_is shows change records changed some held with_it either =
    by-answer g fence text change kept kept' took records changed (subst (λ (o : Option Pending). CanTell o kept) some tell) (took_is ∙ ap (λ (o : Option Pending). has_taken o kept') some) shows held with_it either
