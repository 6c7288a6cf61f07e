-- Which cells a text holds, and that a text that is refused stands for nothing.
use Rattle.std.proofs.Common.{◌≡◌, ◌≢◌, ◌⊎◌, inl, inr, ⊎_elim, ℕ, zero, suc, ◌*◌, ◌/◌, ◌<◌, ◌≤◌, Bool, true, false, IsTrue, if◌then◌else◌, Option, Some, None, Result, Err, IfErr, List, [], ◌∷◌, map, length, refl, sym, ◌∙◌, ap, subst, arith}
use Rattle.std.proofs.lemmas.Bool.{cases_lt, cases_eq}
use Rattle.std.proofs.lemmas.List.{ext_get_or, get_or_past, length-map}
use Rattle.std.proofs.lemmas.List.FromFn.{length-map-range_with_len, get_or-map-range_with_len}
use Rattle.std.specs.List.{range_with_len}
use Rattle.rz_disk.specs.Images.{Only}
use Rattle.rz_events.specs.declared.keys.Key.{Key}
use Rattle.rz_events.specs.declared.records.Head.{Head}
use Rattle.rz_events.specs.declared.nodes.OpenFault.{OpenFault}
use Rattle.rz_events.specs.declared.nodes.OpenFault.TheVariants.{NoMemory, WrongSize, DiskFault, Unformatted, BadHeader, Damaged, Twice}
use Rattle.rz_record.specs.Record.{bins_of}
use Rattle.rz_record.specs.Slot.{Rec, Reads}
use Rattle.rz_record.proofs.Laws.{numbers_behind, record-of_head, one_head}
use Rattle.rz_cells_slots.specs.declared.geometry.Geometry.{Geometry}
use Rattle.rz_cells_slots.specs.declared.geometry.DiskVersion.TheVariants.{Two}
use Rattle.rz_cells_slots.specs.Held.{Records, Together, Apart, Made, in_cell, heads_of, head_in, names}
use Rattle.std.proofs.Props.{props}
use Rattle.rz_cells_slots.specs.Shape.{IsGeometry, picked, disk_bytes, slot_of}
use Rattle.rz_cells_slots.specs.Stands.{IsHeader, IsFormatted, StandsFor, Suits}
use Rattle.rz_cells_slots.specs.Open.{Finds, IsOpen, HoldsHeads, Knows}
use Rattle.rz_cells_slots.specs.Opening.{CellRefused, FineTo, FitTo, GoesNext, ReadTo, ReadsHead, Refuses, Unreadable}
use Rattle.rz_cells_slots.proofs.Lifts.{fits_slot, same_cells}
use Rattle.rz_cells_slots.proofs.Made.{head_in-cell, head_some, has_head, named, names_own, bool_cases, chosen, passed}
use Rattle.rz_cells_slots.proofs.Opened.{agrees_of, slot_room}

-- what is true of a fault is true of the result that has it
pub on_fault : {T E : Type 0} (r : Result T E) (e : E) (P : E → Type 0) → r ≡ Err e → P e → IfErr r P
on_fault r e P is holds = subst (λ (q : Result _ _). IfErr q P) (sym is) holds

-- keys are equal or not
pub key_cases : (a b : Key) → (a ≡ b) ⊎ (a ≢ b)
key_cases a b = ⊎_elim
    (λ (fid : a.fid ≡ b.fid). ⊎_elim
    (λ (block : a.block ≡ b.block). inl (λ i. record { fid = fid i; block = block i }))
    (λ (ne : a.block ≢ b.block). inr (λ same. ne (ap (λ (k : Key). k.block) same)))
    (cases_eq a.block b.block))
    (λ (ne : a.fid ≢ b.fid). inr (λ same. ne (ap (λ (k : Key). k.fid) same)))
    (cases_eq a.fid b.fid)

-- the later of two heads has been judged
later : (heads : List (Option Head)) (c d : ℕ) (h k : Head) → c < d → in_cell heads c ≡ Some h → GoesNext heads d k → Together c d h k
later heads c d h k lt is goes = record {
  one_pair = λ same. ⊎_elim (λ (pair : c / 2 ≡ d / 2). pair)
      (λ (ne : c / 2 ≢ d / 2). absurd (goes.not_again c h lt record { earlier = lt; is = is; same = same; clash = inl ne }))
      (cases_eq (c / 2) (d / 2));
  one_key = λ pair. ⊎_elim (λ (same : h.key ≡ k.key). same)
      (λ (ne : h.key ≢ k.key). absurd (goes.no_other c h record { earlier = lt; is = is; pair = pair; other = ne }))
      (key_cases h.key k.key);
  two_stamps = λ same stamps. goes.not_again c h lt record { earlier = lt; is = is; same = same; clash = inr stamps };
}

turned : (c d : ℕ) (h k : Head) → Together c d h k → Together d c k h
turned c d h k t = record {
  one_pair = λ same. sym (t.one_pair (sym same));
  one_key = λ pair. sym (t.one_key (sym pair));
  two_stamps = λ same stamps. t.two_stamps (sym same) (sym stamps);
}

-- heads that were judged one by one are apart
pub fine_apart : (heads : List (Option Head)) → ((c : ℕ) (h : Head) → in_cell heads c ≡ Some h → GoesNext heads c h) → Apart heads
fine_apart heads fine c d h k ne is is' = ⊎_elim
    (λ (lt : c < d). later heads c d h k lt is (fine d k is'))
    (λ (le : d ≤ c). turned d c k h (later heads d c k h (omega (arith, ne)) is' (fine c h is)))
    (cases_lt c d)

-- the record of a head in a slot
record_of : Option Head → List ℕ → Option Rec
record_of None slot = None
record_of (Some h) slot = Some record { head = h; bins = numbers_behind slot (bins_of h) }

-- the records of heads in slots
module _ (g : Geometry) (n : ℕ) (slot : ℕ → List ℕ) (heads : List (Option Head)) (count : length heads ≡ n) (room : (c : ℕ) → c < n → length (slot c) ≡ slot_of g) (reads : (c : ℕ) → c < n → ReadsHead g (slot c) (in_cell heads c)) where
  pub cells : List (Option Rec)
  cells = map (λ c. record_of (in_cell heads c) (slot c)) (range_with_len 0 n)

  pub cells_long : length cells ≡ n
  unfolding cells
  cells_long = length-map-range_with_len (λ (c : ℕ). record_of (in_cell heads c) (slot c)) 0 n

  at : (c : ℕ) → c < n → in_cell cells c ≡ record_of (in_cell heads c) (slot c)
  unfolding cells
  at c lt = get_or-map-range_with_len (λ (c : ℕ). record_of (in_cell heads c) (slot c)) 0 n c c None lt (omega arith)

  spelled : (c : ℕ) → c < n → (o : Option Head) → ReadsHead g (slot c) o → Reads (slot c) (record_of o (slot c))
  unfolding record_of
  spelled c lt None is = is
  spelled c lt (Some h) is = record-of_head (slot c) h is.0 (omega (arith, fits_slot g h is.0.valid is.1, room c lt))

  suited : (c : ℕ) (o : Option Head) → ReadsHead g (slot c) o → (r : Rec) → record_of o (slot c) ≡ Some r → r.head.layout ≡ g.layout
  unfolding record_of
  suited c None is r same = absurd (cc)
  suited c (Some h) is r same = let one : h ≡ r.head = cc in ap (λ (k : Head). k.layout) (sym one) ∙ is.1

  own_head : (o : Option Head) (bytes : List ℕ) → head_in (record_of o bytes) ≡ o
  unfolding record_of
  own_head None bytes = refl
  own_head (Some h) bytes = refl

  pub cells_read : (c : ℕ) → c < n → Reads (slot c) (in_cell cells c)
  cells_read c lt = subst (Reads (slot c)) (sym (at c lt)) (spelled c lt (in_cell heads c) (reads c lt))

  pub cells_suit : (c : ℕ) → Suits g (in_cell cells c)
  cells_suit c r is = ⊎_elim
      (λ (lt : c < n). suited c (in_cell heads c) (reads c lt) r (sym (at c lt) ∙ is))
      (λ (le : n ≤ c). let none : None ≡ Some r = sym (get_or_past cells c None (omega (arith, cells_long))) ∙ is in absurd (cc))
      (cases_lt c n)

  pub cells_heads : heads_of cells ≡ heads
  cells_heads = ext_get_or None (heads_of cells) heads (length-heads ∙ sym count)
      (λ c lt. let below : c < n = omega (arith, length-heads) in head_in-cell cells c ∙ ap head_in (at c below) ∙ own_head (in_cell heads c) (slot c))
    where
      length-heads : length (heads_of cells) ≡ n
      length-heads = length-map cells head_in ∙ cells_long

pub holds_heads : (g : Geometry) (fence : ℕ) (text : List ℕ) (heads : List (Option Head)) → length text ≡ disk_bytes g → IsHeader g fence text → IsFormatted text → length heads ≡ 2 * g.cells → ReadTo g text heads (2 * g.cells) → HoldsHeads g fence text heads
holds_heads g fence text heads size header is_formatted count reads =
    let room : (c : ℕ) → c < 2 * g.cells → length (picked g text c) ≡ slot_of g = λ c lt. slot_room g text c size lt in (
      cells g (2 * g.cells) (picked g text) heads count room reads,
      record {
        size = size;
        header = header;
        formatted = is_formatted;
        count = cells_long g (2 * g.cells) (picked g text) heads count room reads;
        each = cells_read g (2 * g.cells) (picked g text) heads count room reads;
        suits = cells_suit g (2 * g.cells) (picked g text) heads count room reads;
      },
      cells_heads g (2 * g.cells) (picked g text) heads count room reads,
    )

-- the record with a key and a stamp in the first cell that has it
held_by : List (Option Rec) → Records
held_by [] key stamp = None
held_by (o ∷ os) key stamp = if names (head_in o) key stamp then o else held_by os key stamp

first_of : (cells : List (Option Rec)) (key : Key) (stamp : ℕ) (r : Rec) → held_by cells key stamp ≡ Some r → (c : ℕ) × (in_cell cells c ≡ Some r) × (r.head.key ≡ key) × (r.head.stamp ≡ stamp)
unfolding held_by
first_of [] key stamp r is = absurd (cc)
first_of (o ∷ os) key stamp r is = ⊎_elim
    (λ (hit : names (head_in o) key stamp ≡ true).
    let here : o ≡ Some r = sym (chosen (names (head_in o) key stamp) o (held_by os key stamp) hit) ∙ is in
    let n = named (head_in o) key stamp hit in
    let own : Some n.0 ≡ Some r.head = sym n.1 ∙ ap head_in here in
    let same : n.0 ≡ r.head = cc in
    (0, here, ap (λ (q : Head). q.key) (sym same) ∙ n.2, ap (λ (q : Head). q.stamp) (sym same) ∙ n.3))
    (λ (miss : names (head_in o) key stamp ≡ false).
    let rest = first_of os key stamp r (sym (passed (names (head_in o) key stamp) o (held_by os key stamp) miss) ∙ is) in
    (suc rest.0, rest.1, rest.2, rest.3))
    (bool_cases (names (head_in o) key stamp))

-- a record that stands in a cell is found by its key and stamp, or another with them stands before
found_of : (cells : List (Option Rec)) (c : ℕ) (r : Rec) → in_cell cells c ≡ Some r → (q : Rec) × (held_by cells r.head.key r.head.stamp ≡ Some q)
unfolding held_by
found_of [] c r is = absurd (cc)
found_of (o ∷ os) zero r is =
    let hit : names (head_in o) r.head.key r.head.stamp ≡ true = ap (λ (p : Option Rec). names (head_in p) r.head.key r.head.stamp) is ∙ names_own r.head in
    (r, chosen (names (head_in o) r.head.key r.head.stamp) o (held_by os r.head.key r.head.stamp) hit ∙ is)
found_of (o ∷ os) (suc c) r is = ⊎_elim
    (λ (hit : names (head_in o) r.head.key r.head.stamp ≡ true).
    let n = named (head_in o) r.head.key r.head.stamp hit in
    let q = head_some o n.0 n.1 in
    (q.0, chosen (names (head_in o) r.head.key r.head.stamp) o (held_by os r.head.key r.head.stamp) hit ∙ q.1))
    (λ (miss : names (head_in o) r.head.key r.head.stamp ≡ false).
    let rest = found_of os c r is in
    (rest.0, passed (names (head_in o) r.head.key r.head.stamp) o (held_by os r.head.key r.head.stamp) miss ∙ rest.1))
    (bool_cases (names (head_in o) r.head.key r.head.stamp))

-- cells whose heads are apart make a map
pub made_of : (cells : List (Option Rec)) → Apart (heads_of cells) → (held : Records) × Made cells held
made_of cells apart = (
  held_by cells,
  record {
    there = λ key stamp r is. first_of cells key stamp r is;
    only = λ c r is.
        let f = found_of cells c r is in
        let t = first_of cells r.head.key r.head.stamp f.0 f.1 in
        ⊎_elim
        (λ (same : t.0 ≡ c).
        let one : Some f.0 ≡ Some r = sym t.1 ∙ ap (λ (d : ℕ). in_cell cells d) same ∙ is in
        f.1 ∙ one)
        (λ (ne : t.0 ≢ c).
        let two = apart t.0 c f.0.head r.head ne (has_head cells t.0 f.0 t.1) (has_head cells c r is) in
        absurd (two.two_stamps t.2 t.3))
        (cases_eq t.0 c);
    apart = apart;
  },
)

pub stands_of : (g : Geometry) (fence : ℕ) (text : List ℕ) (heads : List (Option Head)) → HoldsHeads g fence text heads → Apart heads → (held : Records) × StandsFor g fence text held
stands_of g fence text heads known apart =
    let made = made_of known.0 (subst Apart (sym known.2) apart) in
    (made.0, (known.0, known.1, made.1))

-- A text that stands for records is not refused.
pub one_head_read : (g : Geometry) (slot : List ℕ) (o p : Option Head) → ReadsHead g slot o → ReadsHead g slot p → o ≡ p
one_head_read g slot None None a b = refl
one_head_read g slot None (Some h) a b = absurd (b.0.valid.some (b.0.stamp ∙ a))
one_head_read g slot (Some h) None a b = absurd (a.0.valid.some (a.0.stamp ∙ b))
one_head_read g slot (Some h) (Some k) a b = ap (λ (q : Head). Some q) (one_head slot h k a.0 b.0)

-- a record is read by its head
pub head_read : (g : Geometry) (o : Option Rec) (slot : List ℕ) → Reads slot o → Suits g o → ReadsHead g slot (head_in o)
head_read g None slot is suits = is
head_read g (Some r) slot is suits = (is.head, suits r refl)

module _ (g : Geometry) (fence : ℕ) (text : List ℕ) (held : Records) (stands : StandsFor g fence text held) where
  whole : List (Option Head)
  whole = heads_of stands.0

  reads_whole : (c : ℕ) → c < 2 * g.cells → ReadsHead g (picked g text c) (in_cell (heads_of stands.0) c)
  reads_whole c lt = subst (ReadsHead g (picked g text c)) (sym (head_in-cell stands.0 c)) (head_read g (in_cell stands.0 c) (picked g text c) (stands.1.each c lt) (stands.1.suits c))

  -- the heads of the first cells are those of all
  agree : (heads : List (Option Head)) (k c : ℕ) → k < 2 * g.cells → FineTo g text heads k → c < k → in_cell heads c ≡ in_cell (heads_of stands.0) c
  agree heads k c lt part below = one_head_read g (picked g text c) (in_cell heads c) (in_cell (heads_of stands.0) c) (part.reads c below) (reads_whole c (omega arith))

  at_cell : (k : ℕ) (h : Head) → k < 2 * g.cells → ReadsHead g (picked g text k) (Some h) → in_cell (heads_of stands.0) k ≡ Some h
  at_cell k h lt is = one_head_read g (picked g text k) (in_cell (heads_of stands.0) k) (Some h) (reads_whole k lt) is

  not_cell : (c : ℕ) (e : OpenFault) → CellRefused g text c e → ⊥
  not_cell c (Damaged cell) (lt, (heads, part, (h, is, (_, (d, q, bad))))) =
      let t = stands.2.apart d c q h (λ same. ne_self d c bad.earlier same) (sym (agree heads c d lt part bad.earlier) ∙ bad.is) (at_cell c h lt is) in
      bad.other (t.one_key bad.pair)
    where
      ne_self : (d c : ℕ) → d < c → d ≡ c → ⊥
      ne_self d c lt same = omega arith
  not_cell c (Twice first second) (lt, (heads, part, (h, is, (_, no_other, (q, bad), least)))) =
      let t = stands.2.apart first c q h (λ same. ne_self first c bad.earlier same) (sym (agree heads c first lt part bad.earlier) ∙ bad.is) (at_cell c h lt is) in
      ⊎_elim (λ (ne : first / 2 ≢ c / 2). ne (t.one_pair bad.same)) (λ (same : q.stamp ≡ h.stamp). t.two_stamps bad.same same) bad.clash
    where
      ne_self : (d c : ℕ) → d < c → d ≡ c → ⊥
      ne_self d c lt same = omega arith
  not_cell c NoMemory (lt, (heads, part, (h, is, bad))) = bad
  not_cell c (WrongSize have need) (lt, (heads, part, (h, is, bad))) = bad
  not_cell c DiskFault (lt, (heads, part, (h, is, bad))) = bad
  not_cell c Unformatted (lt, (heads, part, (h, is, bad))) = bad
  not_cell c (BadHeader field value) (lt, (heads, part, (h, is, bad))) = bad

  not_unread : (cell : ℕ) → cell < 2 * g.cells → Unreadable g (picked g text cell) → ⊥
  not_unread cell lt none = none (in_cell (heads_of stands.0) cell) (reads_whole cell lt)

  pub only_faults : (e : OpenFault) → Refuses g text e → (e ≡ NoMemory) ⊎ (e ≡ DiskFault)
  only_faults NoMemory bad = inl refl
  only_faults DiskFault bad = inr refl
  only_faults (WrongSize have need) bad = absurd (bad.2 (bad.0 ∙ stands.1.size ∙ sym bad.1))
  only_faults Unformatted bad = absurd (bad.1 stands.1.formatted)
  only_faults (BadHeader field value) bad = absurd (bad.2.differs (bad.2.found ∙ agrees_of Two g fence text stands.1.header field))
  only_faults (Damaged cell) bad = absurd (⊎_elim
      (λ (refused : CellRefused g text cell (Damaged cell)). not_cell cell (Damaged cell) refused)
      (λ (unread : (cell < 2 * g.cells) × ((heads : List (Option Head)) × FineTo g text heads cell × Unreadable g (picked g text cell))). not_unread cell unread.0 unread.1.2)
      bad.3)
  only_faults (Twice first second) bad = absurd (not_cell second (Twice first second) bad.3)

-- the fence and the heads that a text holds are found in it alone
pub finds_of : (g : Geometry) (text : List ℕ) (fence : ℕ) (heads : List (Option Head)) → HoldsHeads g fence text heads → Finds g text fence heads
finds_of g text fence heads known its cells holds = (
  sym known.1.header.fence_is ∙ holds.header.fence_is,
  sym (ap heads_of (same_cells g its fence text cells known.0 holds known.1) ∙ known.2),
)

-- what was read of a disk makes open cells
pub open_of : (tells : Bool) (text : List ℕ) (image : List ℕ → Type 0) (g : Geometry) (fence : ℕ) (gates : List ℕ) (heads : List (Option Head)) → length text ≡ disk_bytes g → Only text image → length heads ≡ 2 * g.cells → FitTo g heads (2 * g.cells)
    → (IsTrue tells → IsHeader g fence text × IsFormatted text) → (IsTrue tells → Knows g gates text) → (IsTrue tells → ReadTo g text heads (2 * g.cells)) → IsOpen tells text image g fence gates heads
open_of tells text image g fence gates heads size settled count fits header known reads = record {
  size = size;
  settled = settled;
  count = count;
  apart = fine_apart heads fits.fine;
  valid = fits.valid;
  layout = fits.layout;
  known = known;
  holds = λ told. holds_heads g fence text heads size (header told).0 (header told).1 count (reads told);
}

-- that a geometry is one that a disk may have is shown in one way
pub geometry_prop : (g : Geometry) → IsProp (IsGeometry g)
geometry_prop g = hlevel props
