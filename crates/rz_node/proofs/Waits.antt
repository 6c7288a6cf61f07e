-- What the images of a disk hold while a change is undecided.
use Rattle.std.proofs.Common.{◌≡◌, ◌≢◌, ◌⊎◌, inl, inr, ⊎_elim, ℕ, ◌+◌, ◌*◌, ◌<◌, Bool, true, false, cond, not, List, [], ◌∷◌, length, set, Option, Some, None, refl, sym, ◌∙◌, ap, subst, arith, eq-eqb}
use Rattle.std.specs.Prelude.{◌==◌, ◌||◌, nat_lt, nat_le, IsTrue}
use Rattle.std.specs.FinMap as maps
use Rattle.std.proofs.lemmas.Bool.{cases_eq}
use Rattle.std.proofs.lemmas.List.{map-set, get_or-set_same, get_or-set_other}
use Rattle.std.proofs.lemmas.Bool.Decides.{nat_tests}
use Rattle.rz_events.specs.declared.keys.Key.{Key}
use Rattle.rz_events.specs.declared.records.Head.{Head}
use Rattle.rz_events.specs.declared.records.Held.{Held}
use Rattle.rz_events.specs.declared.nodes.Phase.{Phase}
use Rattle.rz_events.specs.declared.nodes.Phase.TheVariants.{Up, Down, Lost}
use Rattle.rz_record.specs.Slot.{Rec}
use Rattle.rz_disk.specs.Images.{Within}
use Rattle.rz_node_model.specs.declared.pending.Pending.{Pending}
use Rattle.rz_node_model.specs.declared.pending.Pending.TheVariants as pending
use Rattle.rz_node_model.specs.Records.{Records, listed, record_of, held_of, stamp_of, base_of, with_held}
use Rattle.rz_node_model.specs.Versions.{has_stamp, kept, refilled, without, passes_keep, passes_refill, greater_goes}
use Rattle.rz_versions.specs.declared.versions.Version.{Version}
use Rattle.rz_versions.specs.Sides.{Sides, ordered, in_order, put_at}
use Rattle.rz_versions.specs.Sides as sides
use Rattle.rz_index.specs.declared.index.Entry.{Entry}
use Rattle.rz_index.specs.Indexed.{Indexed, taken_in, freed_by}
use Rattle.rz_cells_slots.specs.declared.geometry.Geometry.{Geometry}
use Rattle.rz_cells_slots.specs.Held.{Apart, Goes, Together, in_cell, head_in}
use Rattle.rz_cells_slots.specs.Stands.{HoldsCells, HoldsEither}
use Rattle.rz_cells_slots.specs.Open.{IsOpen, HoldsHeads}
use Rattle.rz_node.specs.Kept.{held_by, sides_in, records_in, version_of, IsTied}
use Rattle.rz_node.specs.View.{IsReady}
use Rattle.rz_node.specs.DownDisk.{Shown, HoldsEitherHeld, CanTell, IsDown}
use Rattle.rz_node.proofs.Places.{Placed}
use Rattle.rz_node.proofs.Puts.{tied-put, held-put}
use Rattle.rz_node.proofs.Puts as puts
use Rattle.rz_node.proofs.Clears.{cleared}
use Rattle.rz_node.proofs.Clears as clears
use Rattle.rz_node.proofs.Changes.{get-own, gone-own}

-- ---- images

-- each image holds the heads from before, or with one changed
pub either-heads : (g : Geometry) (fence : ℕ) (text : List ℕ) (image : List ℕ → Type 0) (heads : List (Option Head)) (cell : ℕ) (new : Option Rec)
    → HoldsHeads g fence text heads → HoldsEither g fence text image cell new → (c : List ℕ) → image c → HoldsHeads g fence c heads ⊎ HoldsHeads g fence c (set heads cell (head_in new))
either-heads g fence text image heads cell new known either c is =
    ⊎_elim
    (λ (same : HoldsCells g fence c known.0). inl (known.0, same, known.2))
    (λ (changed : HoldsCells g fence c (set known.0 cell new)). inr (set known.0 cell new, changed, map-set head_in known.0 cell new ∙ ap (λ (hs : List (Option Head)). set hs cell (head_in new)) known.2))
    (either known.0 c known.1 is)

-- of the heads with one changed an index shows the records with one changed
pub either-held : (g : Geometry) (fence : ℕ) (text : List ℕ) (image : List ℕ → Type 0) (heads : List (Option Head)) (cell : ℕ) (new : Option Rec) (index : Indexed) (after : Records)
    → IsTied g.cells heads index → Apart heads → Apart (set heads cell (head_in new)) → HoldsHeads g fence text heads → HoldsEither g fence text image cell new → Shown g.cells (set heads cell (head_in new)) after
    → HoldsEitherHeld g fence image (held_by index.entries heads) after
either-held g fence text image heads cell new index after tied apart changed_apart known either shown c is =
    ⊎_elim
    (λ (same : HoldsHeads g fence c heads). inl (heads, same, apart, (index, tied, refl)))
    (λ (changed : HoldsHeads g fence c (set heads cell (head_in new))). inr (set heads cell (head_in new), changed, changed_apart, shown))
    (either-heads g fence text image heads cell new known either c is)

module _ (pairs : ℕ) (heads : List (Option Head)) (index : Indexed) (tied : IsTied pairs heads index) where
  -- after a record was put
  pub shown-put : (h : Head) (e : Entry) → Placed pairs heads index h.key e → (side cell : ℕ) → side < 2 → cell ≡ 2 * e.cell + side → length heads ≡ 2 * pairs
      → Shown pairs (set heads cell (Some h)) (with_held (held_by index.entries heads) h.key (in_order stamp_of (put_at (sides_in heads e.cell) side (Some (record_of h)))))
  shown-put h e placed side cell two at long =
      let entry : Entry = record { key = h.key; cell = e.cell; versions = put_at e.versions side (Some (version_of (record_of h))) } in
      let index' : Indexed = record { entries = maps.insert index.entries h.key entry; free = taken_in (maps.get index.entries h.key) e.cell index.free } in (
        index',
        tied-put pairs heads index tied h e placed side cell two at long index' refl refl,
        held-put pairs heads index tied h e placed side cell two at long index'.entries refl
            ∙ ap (with_held (held_by index.entries heads) h.key) (puts.records-after pairs heads index tied h e placed side cell two at long),
      )

  -- after one was cleared
  module _ (key : Key) (e : Entry) (there : maps.get index.entries key ≡ Some e) (placed : Placed pairs heads index key e) (side cell : ℕ) (two : side < 2) (at : cell ≡ 2 * e.cell + side) (long : length heads ≡ 2 * pairs) where
    abbrev v : Sides Version
    v = put_at e.versions side None

    abbrev shows : Type 0
    shows = Shown pairs (set heads cell None) (with_held (held_by index.entries heads) key (in_order stamp_of (put_at (sides_in heads e.cell) side None)))

    finish : (index' : Indexed) → IsTied pairs (set heads cell None) index' × (held_by index'.entries (set heads cell None) ≡ with_held (held_by index.entries heads) key (records_in (set heads cell None) e.cell)) → shows
    finish index' both = (index', both.0, both.1 ∙ ap (with_held (held_by index.entries heads) key) (clears.records-after pairs heads index tied key e there placed side cell two at long))

    not-both : {A : Type 0} (x : Version) (xs : List Version) → in_order sides.version_stamp v ≡ x ∷ xs → in_order sides.version_stamp v ≡ [] → A
    not-both x xs some none = let never : x ∷ xs ≡ [] = sym some ∙ none in absurd (cc)

    by-versions : (vs : List Version) → in_order sides.version_stamp v ≡ vs → shows
    by-versions [] none =
        let index' : Indexed = record { entries = maps.remove index.entries key; free = freed_by (maps.get index.entries key) index.free } in
        finish index' (cleared pairs heads index tied key e there placed side cell two at long index' v refl (λ some. absurd (some none)) (λ some. absurd (some none)) (λ is. refl) (λ is. refl))
    by-versions (x ∷ xs) some =
        let index' : Indexed = record { entries = maps.insert index.entries key (record { key = key; cell = e.cell; versions = v }); free = taken_in (maps.get index.entries key) e.cell index.free } in
        finish index' (cleared pairs heads index tied key e there placed side cell two at long index' v refl (λ is. refl) (λ is. refl) (λ none. not-both x xs some none) (λ none. not-both x xs some none))

    pub shown-cleared : shows
    shown-cleared = by-versions (in_order sides.version_stamp v) refl

-- ---- heads that were changed

module _ (heads : List (Option Head)) (cell : ℕ) (long : cell < length heads) (apart : Apart heads) where
  set-own : (new : Option Head) (c : ℕ) (k : Head) → c ≡ cell → in_cell (set heads cell new) c ≡ Some k → new ≡ Some k
  set-own new c k same is = sym (get_or-set_same heads cell new None long) ∙ ap (in_cell (set heads cell new)) (sym same) ∙ is

  set-other : (new : Option Head) (c : ℕ) (k : Head) → c ≢ cell → in_cell (set heads cell new) c ≡ Some k → in_cell heads c ≡ Some k
  set-other new c k ne is = sym (get_or-set_other heads cell c new None ne) ∙ is

  the-head : (a b : Head) → Some a ≡ Some b → a ≡ b
  the-head a b is = cc

  -- a head that may go there, beside one that stands elsewhere
  beside : (h : Head) → Goes heads cell h → (d : ℕ) (k : Head) → d ≢ cell → in_cell heads d ≡ Some k → Together cell d h k
  beside h goes d k ne is = record {
    one_pair = λ same. sym (goes.no_other_pair d k is (sym same));
    one_key = λ pair. sym (goes.one_key d k ne is (sym pair));
    two_stamps = λ same stamps. goes.two_stamps d k ne is (goes.no_other_pair d k is (sym same)) (sym stamps);
  }

  turned : (c d : ℕ) (h k : Head) → Together c d h k → Together d c k h
  turned c d h k t = record {
    one_pair = λ same. sym (t.one_pair (sym same));
    one_key = λ pair. sym (t.one_key (sym pair));
    two_stamps = λ same stamps. t.two_stamps (sym same) (sym stamps);
  }

  pub apart-put : (h : Head) → Goes heads cell h → Apart (set heads cell (Some h))
  apart-put h goes c d a b ne p q = ⊎_elim
      (λ (first : c ≡ cell). ⊎_elim
      (λ (second : d ≡ cell). absurd (ne (first ∙ sym second)))
      (λ (away : d ≢ cell).
      let one : h ≡ a = the-head h a (set-own (Some h) c a first p) in
      subst (λ (n : ℕ). Together n d a b) (sym first) (subst (λ (x : Head). Together cell d x b) one (beside h goes d b away (set-other (Some h) d b away q))))
      (cases_eq d cell))
      (λ (away : c ≢ cell). ⊎_elim
      (λ (second : d ≡ cell).
      let one : h ≡ b = the-head h b (set-own (Some h) d b second q) in
      subst (λ (n : ℕ). Together c n a b) (sym second) (subst (λ (x : Head). Together c cell a x) one (turned cell c h a (beside h goes c a away (set-other (Some h) c a away p)))))
      (λ (too : d ≢ cell). apart c d a b ne (set-other (Some h) c a away p) (set-other (Some h) d b too q))
      (cases_eq d cell))
      (cases_eq c cell)

  not-none : {A : Type 0} (k : Head) → None ≡ Some k → A
  not-none k is = absurd (cc)

  pub apart-cleared : Apart (set heads cell None)
  apart-cleared c d a b ne p q = ⊎_elim
      (λ (first : c ≡ cell). not-none a (set-own None c a first p))
      (λ (away : c ≢ cell). ⊎_elim
      (λ (second : d ≡ cell). not-none b (set-own None d b second q))
      (λ (too : d ≢ cell). apart c d a b ne (set-other None c a away p) (set-other None d b too q))
      (cases_eq d cell))
      (cases_eq c cell)

-- ---- a change can be told

pub own-held : (held : Records) (key : Key) (rs : List Held) → held_of (with_held held key rs) key ≡ rs
own-held held key [] = ap listed (gone-own held key)
own-held held key (r ∷ rs) = ap listed (get-own held key (r ∷ rs))

own-stamp : (t : ℕ) (b : Bool) → (t == t) || b ≡ true
own-stamp t b = ap (λ x. x || b) (eq-eqb t t refl)

second-stamp : (b : Bool) (t : ℕ) (c : Bool) → b || ((t == t) || c) ≡ true
second-stamp true t c = refl
second-stamp false t c = own-stamp t c

has-either : (b : Bool) (t : ℕ) (xs ys : List Held) → has_stamp stamp_of t xs ≡ true → has_stamp stamp_of t ys ≡ true → has_stamp stamp_of t (cond b xs ys) ≡ true
has-either true t xs ys x y = x
has-either false t xs ys x y = y

has-kept : (base : ℕ) (r : Held) (rs : List Held) → has_stamp stamp_of r.stamp (kept stamp_of base r rs) ≡ true
has-kept base r [] = own-stamp r.stamp false
has-kept base r (a ∷ []) = own-stamp r.stamp (has_stamp stamp_of r.stamp (a ∷ []))
has-kept base r (a ∷ b ∷ more) =
    has-either (greater_goes base a.stamp b.stamp) r.stamp (r ∷ b ∷ []) (r ∷ a ∷ []) (own-stamp r.stamp (has_stamp stamp_of r.stamp (b ∷ []))) (own-stamp r.stamp (has_stamp stamp_of r.stamp (a ∷ [])))

has-refilled : (r : Held) (rs : List Held) → has_stamp stamp_of r.stamp (refilled stamp_of r rs) ≡ true
has-refilled r [] = own-stamp r.stamp false
has-refilled r (a ∷ more) =
    has-either (nat_lt a.stamp r.stamp) r.stamp (r ∷ a ∷ []) (a ∷ r ∷ []) (own-stamp r.stamp (has_stamp stamp_of r.stamp (a ∷ []))) (second-stamp (a.stamp == r.stamp) r.stamp false)

-- a keep that is not passed over has a new stamp
above-of : (b : Bool) (t : ℕ) → cond b (Some t) None ≡ None → b ≡ false
above-of true t is = absurd (cc)
above-of false t is = refl

not-equal : (t u : ℕ) → u < t → (u == t) ≡ false
not-equal t u lt = grind (arith, nat_tests)

above : (t u : ℕ) → nat_le t u ≡ false → u < t
above t u low = grind (arith, nat_tests)

keep-one : (t : ℕ) (a : Held) → cond (nat_le t a.stamp) (Some a.stamp) None ≡ None → (a.stamp == t) || false ≡ false
keep-one t a none = ap (λ b. b || false) (not-equal t a.stamp (above t a.stamp (above-of (nat_le t a.stamp) a.stamp none)))

neither : (x y : Bool) → x ≡ false → y ≡ false → x || (y || false) ≡ false
neither x y p q = λ i. p i || (q i || false)

lt-of : (a b : ℕ) → nat_lt a b ≡ true → a < b
lt-of a b is = grind (arith, nat_tests)

le-of : (a b : ℕ) → nat_lt a b ≡ false → b < a + 1
le-of a b is = grind (arith, nat_tests)

keep-two : (t : ℕ) (a b : Held) (lt : Bool) → nat_lt a.stamp b.stamp ≡ lt → passes_keep stamp_of t (cond lt (b ∷ a ∷ []) (a ∷ b ∷ [])) ≡ None → has_stamp stamp_of t (cond lt (b ∷ a ∷ []) (a ∷ b ∷ [])) ≡ false
keep-two t a b true is none =
    let high = above t b.stamp (above-of (nat_le t b.stamp) b.stamp none) in
    let lt = lt-of a.stamp b.stamp is in
    neither (b.stamp == t) (a.stamp == t) (not-equal t b.stamp high) (not-equal t a.stamp (omega (arith, high, lt)))
keep-two t a b false is none =
    let high = above t a.stamp (above-of (nat_le t a.stamp) a.stamp none) in
    let le = le-of a.stamp b.stamp is in
    neither (a.stamp == t) (b.stamp == t) (not-equal t a.stamp high) (not-equal t b.stamp (omega (arith, high, le)))

keep-new : (t : ℕ) (a b : Option Held) → passes_keep stamp_of t (ordered stamp_of a b) ≡ None → has_stamp stamp_of t (ordered stamp_of a b) ≡ false
keep-new t None None none = refl
keep-new t (Some a) None none = keep-one t a none
keep-new t None (Some b) none = keep-one t b none
keep-new t (Some a) (Some b) none = keep-two t a b (nat_lt a.stamp b.stamp) refl none

-- a refill that is not passed over has one too
no-first : (x y : Bool) (t : ℕ) → cond (x || y) (Some t) None ≡ None → x ≡ false
no-first true y t is = absurd (cc)
no-first false y t is = refl

refill-new : (t : ℕ) (rs : List Held) → passes_refill stamp_of base_of t rs ≡ None → has_stamp stamp_of t rs ≡ false
refill-new t [] none = refl
refill-new t (a ∷ more) none = no-first (has_stamp stamp_of t (a ∷ more)) _ a.stamp none

pub tell-keep : (held : Records) (key : Key) (r : Held) (s : Sides Held) → held_of held key ≡ in_order stamp_of s → passes_keep stamp_of r.stamp (held_of held key) ≡ None → CanTell (Some (pending.Keep key r)) held
tell-keep held key r s is none = (
  ap (has_stamp stamp_of r.stamp) is ∙ keep-new r.stamp s.zero s.one (ap (passes_keep stamp_of r.stamp) (sym is) ∙ none),
  ap (has_stamp stamp_of r.stamp) (own-held held key (kept stamp_of r.base r (held_of held key))) ∙ has-kept r.base r (held_of held key),
)

pub tell-refill : (held : Records) (key : Key) (r : Held) → passes_refill stamp_of base_of r.stamp (held_of held key) ≡ None → CanTell (Some (pending.Refill key r)) held
tell-refill held key r none = (
  refill-new r.stamp (held_of held key) none,
  ap (has_stamp stamp_of r.stamp) (own-held held key (refilled stamp_of r (held_of held key))) ∙ has-refilled r (held_of held key),
)

pub tell-drop : (held : Records) (key : Key) (t : ℕ) → has_stamp stamp_of t (held_of held key) ≡ true → has_stamp stamp_of t (without stamp_of t (held_of held key)) ≡ false → CanTell (Some (pending.Drop key t)) held
tell-drop held key t there gone = (ap not there, ap not (ap (has_stamp stamp_of t) (own-held held key (without stamp_of t (held_of held key))) ∙ gone))

-- ---- phases

-- what is open is held, and nothing is undecided
pub down-open : (tells : Bool) (text : List ℕ) (image : List ℕ → Type 0) (g : Geometry) (fence : ℕ) (gates : List ℕ) (heads : List (Option Head)) (index : Indexed) (undecided : Option Pending)
    → IsTied g.cells heads index → IsOpen tells text image g fence gates heads → undecided ≡ None → IsDown tells image g fence undecided (held_by index.entries heads)
down-open tells text image g fence gates heads index undecided tied is_open none = record {
  each = λ told c is. inl (heads, subst (λ (t : List ℕ). HoldsHeads g fence t heads) (sym (is_open.settled c is)) (is_open.holds told), is_open.apart, (index, tied, refl));
  told = subst (λ (o : Option Pending). CanTell o (held_by index.entries heads)) (sym none) tt;
}

-- fewer images
pub down-within : (tells : Bool) (image image' : List ℕ → Type 0) (g : Geometry) (fence : ℕ) (undecided : Option Pending) (held : Records) → (IsTrue tells → Within image image') → IsDown tells image g fence undecided held → IsDown tells image' g fence undecided held
down-within tells image image' g fence undecided held within down = record { each = λ told c is. down.each told c (within told c is); told = down.told }

-- where the cells stay open and no image comes, a node stays as it is
pub ready-again : (phase : Phase) {A B P Q : Type 0} → (A → B) → (P → Q) → IsReady phase A P → IsReady phase B Q
ready-again Up opens waits ready = opens ready
ready-again Down opens waits ready = waits ready
ready-again Lost opens waits ready = tt

-- the same, of what the heads and the index are afterwards
pub either-moved : (g g' : Geometry) (fence fence' : ℕ) (image : List ℕ → Type 0) (index index' : Indexed) (heads heads' : List (Option Head)) (key : Key) (rs : List Held) → g' ≡ g → fence' ≡ fence → index' ≡ index → heads' ≡ heads
    → HoldsEitherHeld g fence image (held_by index.entries heads) (with_held (held_by index.entries heads) key rs) → HoldsEitherHeld g' fence' image (held_by index'.entries heads') (with_held (held_by index'.entries heads') key rs)
either-moved g g' fence fence' image index index' heads heads' key rs same_g same_fence same_index same_heads given =
    subst (λ (y : Geometry). HoldsEitherHeld y fence' image (held_by index'.entries heads') (with_held (held_by index'.entries heads') key rs)) (sym same_g)
    (subst (λ (n : ℕ). HoldsEitherHeld g n image (held_by index'.entries heads') (with_held (held_by index'.entries heads') key rs)) (sym same_fence)
    (subst (λ (x : Indexed). HoldsEitherHeld g fence image (held_by x.entries heads') (with_held (held_by x.entries heads') key rs)) (sym same_index)
    (subst (λ (hs : List (Option Head)). HoldsEitherHeld g fence image (held_by index.entries hs) (with_held (held_by index.entries hs) key rs)) (sym same_heads) given)))

-- ---- a change that failed

module _ (tells : Bool) (image : List ℕ → Type 0) (g : Geometry) (fence : ℕ) (held held' : Records) (same : held' ≡ held) (key : Key) (rs : List Held) (waits : IsTrue tells → HoldsEitherHeld g fence image held' (with_held held' key rs)) where
  -- a record that was to be kept
  pub down-keep : (r : Held) (s : Sides Held) → held_of held key ≡ in_order stamp_of s → passes_keep stamp_of r.stamp (held_of held key) ≡ None → rs ≡ kept stamp_of r.base r (held_of held key)
      → IsDown tells image g fence (Some (pending.Keep key r)) held'
  down-keep r s is none leaves = record {
    each = λ told. subst (λ (xs : List Held). HoldsEitherHeld g fence image held' (with_held held' key xs)) (leaves ∙ ap (λ (h : Records). kept stamp_of r.base r (held_of h key)) (sym same)) (waits told);
    told = subst (CanTell (Some (pending.Keep key r))) (sym same) (tell-keep held key r s is none);
  }

  pub down-refill : (r : Held) → passes_refill stamp_of base_of r.stamp (held_of held key) ≡ None → rs ≡ refilled stamp_of r (held_of held key)
      → IsDown tells image g fence (Some (pending.Refill key r)) held'
  down-refill r none leaves = record {
    each = λ told. subst (λ (xs : List Held). HoldsEitherHeld g fence image held' (with_held held' key xs)) (leaves ∙ ap (λ (h : Records). refilled stamp_of r (held_of h key)) (sym same)) (waits told);
    told = subst (CanTell (Some (pending.Refill key r))) (sym same) (tell-refill held key r none);
  }

  -- the record of a stamp that was to go
  pub down-drop : (t : ℕ) → has_stamp stamp_of t (held_of held key) ≡ true → has_stamp stamp_of t rs ≡ false → rs ≡ without stamp_of t (held_of held key)
      → IsDown tells image g fence (Some (pending.Drop key t)) held'
  down-drop t there gone leaves = record {
    each = λ told. subst (λ (xs : List Held). HoldsEitherHeld g fence image held' (with_held held' key xs)) (leaves ∙ ap (λ (h : Records). without stamp_of t (held_of h key)) (sym same)) (waits told);
    told = subst (CanTell (Some (pending.Drop key t))) (sym same) (tell-drop held key t there (ap (has_stamp stamp_of t) (sym leaves) ∙ gone));
  }

-- ---- the cells stay as they are

pub up-decided : (phase : Phase) (undecided : Option Pending) → phase ≡ Up → (phase ≢ Down → undecided ≡ None) → undecided ≡ None
up-decided phase undecided up decided = decided (λ down. (let never : Up ≡ Down = sym up ∙ down in absurd (cc)))

pub tied-moved : (g g' : Geometry) (heads heads' : List (Option Head)) (index : Indexed) → g' ≡ g → heads' ≡ heads → IsTied g.cells heads index → IsTied g'.cells heads' index
tied-moved g g' heads heads' index same_g same_heads tied =
    subst (λ (y : Geometry). IsTied y.cells heads' index) (sym same_g) (subst (λ (hs : List (Option Head)). IsTied g.cells hs index) (sym same_heads) tied)

-- no image comes
pub down-moved : (tells : Bool) (image image' : List ℕ → Type 0) (g g' : Geometry) (fence fence' : ℕ) (heads heads' : List (Option Head)) (index : Indexed) (undecided : Option Pending) → g' ≡ g → fence' ≡ fence → heads' ≡ heads
    → (IsTrue tells → Within image image') → IsDown tells image g fence undecided (held_by index.entries heads) → IsDown tells image' g' fence' undecided (held_by index.entries heads')
down-moved tells image image' g g' fence fence' heads heads' index undecided same_g same_fence same_heads within down =
    subst (λ (y : Geometry). IsDown tells image' y fence' undecided (held_by index.entries heads')) (sym same_g)
    (subst (λ (n : ℕ). IsDown tells image' g n undecided (held_by index.entries heads')) (sym same_fence)
    (subst (λ (hs : List (Option Head)). IsDown tells image' g fence undecided (held_by index.entries hs)) (sym same_heads)
    (down-within tells image image' g fence undecided (held_by index.entries heads) within down)))
