-- What an index shows is held on the disk whose text stands for it.
use Rattle.std.proofs.Common.{◌≡◌, ◌≢◌, ⊎_elim, ℕ, ◌+◌, ◌*◌, ◌/◌, ◌<◌, ◌≤◌, Bool, true, false, cond, List, [], ◌∷◌, length, Option, Some, None, refl, sym, ◌∙◌, ap, subst, arith, eq-eqb}
use Rattle.std.specs.Prelude.{◌==◌, nat_lt}
use Rattle.std.specs.Option.{option_map}
use Rattle.std.specs.FinMap as maps
use Rattle.std.proofs.lemmas.List.{get_or-map, get_or_past, length-map}
use Rattle.std.proofs.lemmas.Bool.{cases_lt}
use Rattle.std.proofs.lemmas.Bool.Decides.{nat_tests}
use Rattle.rz_events.specs.declared.keys.Key.{Key}
use Rattle.rz_events.specs.declared.records.Head.{Head}
use Rattle.rz_events.specs.declared.records.Held.{Held}
use Rattle.rz_record.specs.Slot.{Rec}
use Rattle.rz_node_model.specs.Records.{IsWhole, record_of, held_of, stamp_of, found}
use Rattle.rz_versions.specs.Sides.{ordered, has, Differ}
use Rattle.rz_index.specs.declared.index.Entry.{Entry}
use Rattle.rz_index.specs.Indexed.{Indexed}
use Rattle.rz_cells_slots.specs.declared.geometry.Geometry.{Geometry}
use Rattle.rz_cells_slots.specs.Held.{Records, Made, in_cell, heads_of, head_in}
use Rattle.rz_cells_slots.specs.Stands.{StandsFor}
use Rattle.rz_cells_slots.specs.Open.{Finds}
use Rattle.rz_node.specs.Kept.{sides_in, records_in, held_by, IsShown, IsTied}
use Rattle.rz_node.specs.HeldOnDisk.{Falls, IsHeldOnDisk}
use Rattle.rz_node.proofs.Tied.{get-held, held-shown, held-not}
use Rattle.rz_node.proofs.Places.{two-cells, held-key}
use Rattle.rz_node.proofs.Keeps.{sides-differ}
use Rattle.rz_node.proofs.Found.{found-ordered}

-- ---- records fall by stamp

falls-two : (a b : Held) (lt : Bool) → nat_lt a.stamp b.stamp ≡ lt → a.stamp ≢ b.stamp → Falls (cond lt (b ∷ a ∷ []) (a ∷ b ∷ []))
falls-two a b true is ne = (less a.stamp b.stamp is, tt)
  where
    less : (m n : ℕ) → nat_lt m n ≡ true → m < n
    less m n is = grind (arith, nat_tests)
falls-two a b false is ne = (more a.stamp b.stamp is ne, tt)
  where
    more : (m n : ℕ) → nat_lt m n ≡ false → m ≢ n → n < m
    more m n is ne = grind (arith, nat_tests)

falls-ordered : (a b : Option Held) → Differ stamp_of a b → Falls (ordered stamp_of a b)
falls-ordered None None differ = tt
falls-ordered (Some a) None differ = tt
falls-ordered None (Some b) differ = tt
falls-ordered (Some a) (Some b) differ = falls-two a b (nat_lt a.stamp b.stamp) refl differ

-- ---- a record of a cell

-- the record with a head of these heads
record-in : (cells : List (Option Rec)) (cell : ℕ) (h : Head) → in_cell (heads_of cells) cell ≡ Some h → (r : Rec) × (in_cell cells cell ≡ Some r) × (r.head ≡ h)
record-in cells cell h is = ⊎_elim
    (λ (low : cell < length cells). go (in_cell cells cell) refl (sym (get_or-map head_in cells cell None None low) ∙ is))
    (λ (past : length cells ≤ cell). let none : None ≡ Some h = sym (get_or_past (heads_of cells) cell None (long past)) ∙ is in absurd (cc))
    (cases_lt cell (length cells))
  where
    long : length cells ≤ cell → length (heads_of cells) ≤ cell
    long past = let same = length-map cells head_in in omega (arith, past, same)

    the-head : (a b : Head) → Some a ≡ Some b → a ≡ b
    the-head a b is = cc

    go : (o : Option Rec) → in_cell cells cell ≡ o → head_in (in_cell cells cell) ≡ Some h → (r : Rec) × (in_cell cells cell ≡ Some r) × (r.head ≡ h)
    go None there is = let none : None ≡ Some h = sym (ap head_in there) ∙ is in absurd (cc)
    go (Some r) there is = (r, there, the-head r.head h (sym (ap head_in there) ∙ is))

pub head-in : (cells : List (Option Rec)) (cell : ℕ) (r : Rec) → in_cell cells cell ≡ Some r → in_cell (heads_of cells) cell ≡ Some r.head
head-in cells cell r is = ⊎_elim
    (λ (low : cell < length cells). get_or-map head_in cells cell None None low ∙ ap head_in is)
    (λ (past : length cells ≤ cell). let none : None ≡ Some r = sym (get_or_past cells cell None past) ∙ is in absurd (cc))
    (cases_lt cell (length cells))

equal-from : (m n : ℕ) → (m == n) ≡ true → m ≡ n
equal-from m n is = grind (arith, nat_tests)

module _ (pairs : ℕ) (cells : List (Option Rec)) (index : Indexed) (tied : IsTied pairs (heads_of cells) index) (records : Records) (made : Made cells records) where
  abbrev heads : List (Option Head)
  heads = heads_of cells

  -- a head with this key and stamp is that of the record
  record-is : (key : Key) (stamp cell : ℕ) (h : Head) → in_cell heads cell ≡ Some h → h.key ≡ key → h.stamp ≡ stamp → option_map (λ (r : Rec). record_of r.head) (records key stamp) ≡ Some (record_of h)
  record-is key stamp cell h is named stamped =
      let r = record-in cells cell h is in
      (λ i. option_map (λ (x : Rec). record_of x.head) (records (sym (ap (λ (x : Head). x.key) r.2 ∙ named) i) (sym (ap (λ (x : Head). x.stamp) r.2 ∙ stamped) i)))
      ∙ ap (option_map (λ (x : Rec). record_of x.head)) (made.only cell r.0 r.1) ∙ ap (λ (x : Head). Some (record_of x)) r.2

  -- no cell has a head with this key and stamp
  record-none : (key : Key) (stamp : ℕ) → ((cell : ℕ) (h : Head) → in_cell heads cell ≡ Some h → h.key ≡ key → h.stamp ≢ stamp) → option_map (λ (r : Rec). record_of r.head) (records key stamp) ≡ None
  record-none key stamp absent = go (records key stamp) refl
    where
      go : (o : Option Rec) → records key stamp ≡ o → option_map (λ (r : Rec). record_of r.head) o ≡ None
      go None is = refl
      go (Some r) is = let there = made.there key stamp r is in absurd (absent there.0 r.head (head-in cells there.0 r there.1) there.2 there.3)

  found-two : (key : Key) (stamp : ℕ) (e : Entry) → maps.get index.entries key ≡ Some e → (a b : Option Head) → in_cell heads (2 * e.cell) ≡ a → in_cell heads (2 * e.cell + 1) ≡ b
      → cond (has stamp_of (option_map record_of a) stamp) (option_map record_of a) (cond (has stamp_of (option_map record_of b) stamp) (option_map record_of b) None) ≡ option_map (λ (r : Rec). record_of r.head) (records key stamp)
  found-two key stamp e there a b p q = by_zero a p (has stamp_of (option_map record_of a) stamp) refl
    where
      shown : IsShown pairs heads key e
      shown = tied.shown key e there

      head-of : (cell : ℕ) (h : Head) → in_cell heads cell ≡ Some h → h.key ≡ key → cell / 2 ≡ e.cell
      head-of cell h is named =
          let at = tied.heads_in cell h is in
          let same : Some at.0 ≡ Some e = sym at.1 ∙ ap (maps.get index.entries) named ∙ there in
          let one : at.0 ≡ e = cc in
          at.2 ∙ ap (λ (x : Entry). x.cell) one

      the-head : (x y : Head) → Some x ≡ Some y → x ≡ y
      the-head x y is = cc

      not-zero : has stamp_of (option_map record_of a) stamp ≡ false → (h : Head) → in_cell heads (2 * e.cell) ≡ Some h → h.stamp ≢ stamp
      not-zero away h is stamped =
          let has_it : has stamp_of (option_map record_of a) stamp ≡ true = ap (λ (o : Option Head). has stamp_of (option_map record_of o) stamp) (sym p ∙ is) ∙ eq-eqb h.stamp stamp stamped in
          let never : true ≡ false = sym has_it ∙ away in absurd (cc)

      not-one : has stamp_of (option_map record_of b) stamp ≡ false → (h : Head) → in_cell heads (2 * e.cell + 1) ≡ Some h → h.stamp ≢ stamp
      not-one away h is stamped =
          let has_it : has stamp_of (option_map record_of b) stamp ≡ true = ap (λ (o : Option Head). has stamp_of (option_map record_of o) stamp) (sym q ∙ is) ∙ eq-eqb h.stamp stamp stamped in
          let never : true ≡ false = sym has_it ∙ away in absurd (cc)

      has-it : (o : Option Head) (cell : ℕ) → cell / 2 ≡ e.cell → in_cell heads cell ≡ o → has stamp_of (option_map record_of o) stamp ≡ true → option_map record_of o ≡ option_map (λ (r : Rec). record_of r.head) (records key stamp)
      has-it None cell pair is has_it = absurd (cc)
      has-it (Some h) cell pair is has_it = sym (record-is key stamp cell h is (shown.keys cell h pair is) (equal-from h.stamp stamp has_it))

      by_one : has stamp_of (option_map record_of a) stamp ≡ false → (y : Bool) → has stamp_of (option_map record_of b) stamp ≡ y → cond y (option_map record_of b) None ≡ option_map (λ (r : Rec). record_of r.head) (records key stamp)
      by_one away true has_it = has-it b (2 * e.cell + 1) (omega arith) q has_it
      by_one away false neither = sym (record-none key stamp (λ cell h is named stamped. ⊎_elim
          (λ (low : cell ≡ 2 * e.cell). not-zero away h (ap (in_cell heads) (sym low) ∙ is) stamped)
          (λ (high : cell ≡ 2 * e.cell + 1). not-one neither h (ap (in_cell heads) (sym high) ∙ is) stamped)
          (two-cells cell e.cell (head-of cell h is named))))

      by_zero : (o : Option Head) → in_cell heads (2 * e.cell) ≡ o → (x : Bool) → has stamp_of (option_map record_of a) stamp ≡ x
          → cond x (option_map record_of a) (cond (has stamp_of (option_map record_of b) stamp) (option_map record_of b) None) ≡ option_map (λ (r : Rec). record_of r.head) (records key stamp)
      by_zero o is true has_it = has-it a (2 * e.cell) (omega arith) p has_it
      by_zero o is false away = by_one away (has stamp_of (option_map record_of b) stamp) refl

  held-same : (key : Key) (stamp : ℕ) → found stamp (held_of (held_by index.entries heads) key) ≡ option_map (λ (r : Rec). record_of r.head) (records key stamp)
  held-same key stamp = go (maps.get index.entries key) refl
    where
      go : (o : Option Entry) → maps.get index.entries key ≡ o → found stamp (held_of (held_by index.entries heads) key) ≡ option_map (λ (r : Rec). record_of r.head) (records key stamp)
      go None none = ap (found stamp) (held-not index.entries heads key none) ∙ sym (record-none key stamp (λ cell h is named stamped.
          let at = tied.heads_in cell h is in
          let never : None ≡ Some at.0 = sym none ∙ ap (maps.get index.entries) (sym named) ∙ at.1 in absurd (cc)))
      go (Some e) there =
          ap (found stamp) (held-shown index.entries heads key e there) ∙ found-ordered stamp (sides_in heads e.cell).zero (sides_in heads e.cell).one
          ∙ found-two key stamp e there (in_cell heads (2 * e.cell)) (in_cell heads (2 * e.cell + 1)) refl refl

  held-whole : IsWhole (held_by index.entries heads)
  held-whole key is = go (maps.get index.entries key) refl (sym (get-held index.entries heads key) ∙ is)
    where
      the-list : (xs ys : List Held) → Some xs ≡ Some ys → xs ≡ ys
      the-list xs ys is = cc

      go : (o : Option Entry) → maps.get index.entries key ≡ o → option_map (λ (e : Entry). records_in heads e.cell) (maps.get index.entries key) ≡ Some [] → ⊥
      go None none is = let never : None ≡ Some [] = sym (ap (option_map (λ (e : Entry). records_in heads e.cell)) none) ∙ is in absurd (cc)
      go (Some e) there is = (tied.shown key e there).some (the-list (records_in heads e.cell) [] (sym (ap (option_map (λ (e : Entry). records_in heads e.cell)) there) ∙ is))

  held-falls : (key : Key) → Falls (held_of (held_by index.entries heads) key)
  held-falls key = go (maps.get index.entries key) refl
    where
      go : (o : Option Entry) → maps.get index.entries key ≡ o → Falls (held_of (held_by index.entries heads) key)
      go None none = subst Falls (sym (held-not index.entries heads key none)) tt
      go (Some e) there =
          subst Falls (sym (held-shown index.entries heads key e there))
          (falls-ordered (sides_in heads e.cell).zero (sides_in heads e.cell).one (sides-differ pairs heads index key e (held-key pairs heads index tied key e there) made.apart))

  held-made : IsHeldOnDisk (held_by index.entries heads) records
  held-made = record { same = held-same; whole = held-whole; falls = held-falls }

-- where the heads are those of the text, what the index shows is what the text stands for
pub held-found : (g : Geometry) (fence its : ℕ) (text : List ℕ) (heads : List (Option Head)) (index : Indexed) (records : Records) → IsTied g.cells heads index → Finds g text fence heads → StandsFor g its text records → IsHeldOnDisk (held_by index.entries heads) records
held-found g fence its text heads index records tied finds (cells, holds, made) =
    let same : heads ≡ heads_of cells = (finds its cells holds).1 in
    subst (λ (hs : List (Option Head)). IsHeldOnDisk (held_by index.entries hs) records) (sym same)
    (held-made g.cells cells index (subst (λ (hs : List (Option Head)). IsTied g.cells hs index) same tied) records made)
