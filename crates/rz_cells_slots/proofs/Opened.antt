-- What is read of a disk, cell by cell.
use Rattle.std.proofs.Common.{◌≡◌, ◌≢◌, inl, inr, ⊎_elim, ℕ, ◌+◌, ◌*◌, ◌%◌, ◌<◌, ◌≤◌, Option, Some, None, List, length, take, drop, get_or, set, sym, ◌∙◌, ap, subst, arith}
use Rattle.std.proofs.lemmas.Bool.{cases_lt, cases_eq}
use Rattle.std.proofs.lemmas.List.{get_or-set_same, get_or-set_other, take-take}
use Rattle.rz_disk.specs.Images.{window}
use Rattle.rz_disk.proofs.Images.{window-byte, window-length}
use Rattle.rz_events.specs.declared.records.Head.{Head}
use Rattle.rz_events.specs.declared.nodes.HeaderField.{HeaderField}
use Rattle.rz_events.specs.declared.nodes.HeaderField.TheVariants.{Magic, Layout, Bsize, Node, Cells, Reserved}
use Rattle.rz_events.specs.declared.nodes.OpenFault.{OpenFault}
use Rattle.rz_events.specs.declared.nodes.OpenFault.TheVariants.{NoMemory, WrongSize, DiskFault, Unformatted, BadHeader, Damaged, Twice}
use Rattle.rz_record.specs.Fields.{number_at}
use Rattle.rz_record.specs.Record.{IsValid}
use Rattle.rz_record.proofs.Codec.{number_at-front, byte-front, head-front}
use Rattle.rz_cells_slots.specs.declared.geometry.Geometry.{Geometry}
use Rattle.rz_cells_slots.specs.declared.geometry.DiskVersion.{DiskVersion}
use Rattle.rz_cells_slots.specs.declared.geometry.DiskVersion.TheVariants.{Two}
use Rattle.rz_cells_slots.specs.Held.{in_cell}
use Rattle.rz_cells_slots.specs.Shape.{picked, slot_at, slot_of, disk_bytes, gate_at}
use Rattle.rz_cells_slots.specs.Stands.{IsHeaderOf, IsFormatted}
use Rattle.rz_cells_slots.specs.Open.{Knows}
use Rattle.rz_cells_slots.specs.Opening.{Agrees, CellFault, CellRefused, CellsFault, FieldFault, FineTo, FitTo, GoesNext, HeaderFault, ReadTo, ReadsHead, Refuses, Unreadable, Wrong, value_at}
use Rattle.rz_cells_slots.proofs.Slots.{picked_is, slot_within}
use Rattle.rz_cells_slots.proofs.Lifts.{slot_long}

-- what was read from the front of a text begins as the text does
pub read_front : (n : ℕ) (header text : List ℕ) → header ≡ window 0 n text → take n header ≡ take n text
read_front n header text is = ap (take n) is ∙ take-take n n text (omega arith)

values_same : (new old : List ℕ) → take 33 new ≡ take 33 old → (field : HeaderField) → value_at new field ≡ value_at old field
values_same new old same Magic = number_at-front 0 8 33 new old same (omega arith)
values_same new old same Layout = byte-front 8 33 new old same (omega arith)
values_same new old same Bsize = byte-front 9 33 new old same (omega arith)
values_same new old same Node = number_at-front 10 2 33 new old same (omega arith)
values_same new old same Cells = number_at-front 12 4 33 new old same (omega arith)
values_same new old same Reserved = number_at-front 24 8 33 new old same (omega arith)

module _ (g : Geometry) (header text : List ℕ) (same : take 33 header ≡ take 33 text) where
  formatted_there : IsFormatted header → IsFormatted text
  formatted_there is = ap (λ (b : ℕ). b % 2) (sym (byte-front 32 33 header text same (omega arith))) ∙ is

  pub unformatted : get_or header 32 0 % 2 ≡ 0 → ¬ IsFormatted text
  unformatted is is_formatted = let byte = byte-front 32 33 header text same (omega arith) in omega (arith, byte, is, is_formatted)

  pub formatted : get_or header 32 0 % 2 ≢ 0 → IsFormatted text
  formatted is = formatted_there (omega (arith, is))

  -- the header of a text from the bytes that were read
  pub header_of : (v : DiskVersion) (fence : ℕ) → Agrees v g header → fence ≡ number_at 16 8 header → IsHeaderOf v g fence text
  header_of v fence agrees is = record {
    magic_is = sym (values_same header text same Magic) ∙ agrees Magic;
    layout = sym (values_same header text same Layout) ∙ agrees Layout;
    bsize = sym (values_same header text same Bsize) ∙ agrees Bsize;
    node = sym (values_same header text same Node) ∙ agrees Node;
    cells = sym (values_same header text same Cells) ∙ agrees Cells;
    fence_is = sym (number_at-front 16 8 33 header text same (omega arith)) ∙ sym is;
    reserved = sym (values_same header text same Reserved) ∙ agrees Reserved;
  }

  pub field_fault : (v : DiskVersion) → IsFormatted text → (e : OpenFault) → FieldFault v g header e → HeaderFault v g text e
  field_fault v is_formatted (BadHeader field value) bad = (
    is_formatted,
    record {
      found = bad.found ∙ values_same header text same field;
      differs = bad.differs;
      before = λ other lt. sym (values_same header text same other) ∙ bad.before other lt;
    },
  )
  field_fault v is_formatted (Damaged cell) bad = absurd bad
  field_fault v is_formatted DiskFault bad = absurd bad
  field_fault v is_formatted NoMemory bad = absurd bad
  field_fault v is_formatted (WrongSize have need) bad = absurd bad
  field_fault v is_formatted Unformatted bad = absurd bad
  field_fault v is_formatted (Twice first second) bad = absurd bad

-- a header agrees with its geometry
pub agrees_of : (v : DiskVersion) (g : Geometry) (fence : ℕ) (text : List ℕ) → IsHeaderOf v g fence text → Agrees v g text
agrees_of v g fence text is Magic = is.magic_is
agrees_of v g fence text is Layout = is.layout
agrees_of v g fence text is Bsize = is.bsize
agrees_of v g fence text is Node = is.node
agrees_of v g fence text is Cells = is.cells
agrees_of v g fence text is Reserved = is.reserved

-- the head that was read begins the picked slot
pub head_at : (g : Geometry) (text : List ℕ) (cell gate : ℕ) (bytes : List ℕ) → gate % 2 ≡ get_or text (gate_at cell) 0 % 2 → bytes ≡ window (slot_at g cell (gate % 2)) 48 text → take 48 (picked g text cell) ≡ take 48 bytes
head_at g text cell gate bytes known is =
    let at : ℕ = slot_at g cell (gate % 2) in
    ap (take 48) (picked_is g text cell (gate % 2) (sym known))
    ∙ take-take 48 (slot_of g) (drop (slot_at g cell (gate % 2)) text) (slot_long g)
    ∙ sym (take-take 48 48 (drop (slot_at g cell (gate % 2)) text) (omega arith))
    ∙ sym (ap (take 48) is)

pub slot_room : (g : Geometry) (text : List ℕ) (cell : ℕ) → length text ≡ disk_bytes g → cell < 2 * g.cells → length (picked g text cell) ≡ slot_of g
slot_room g text cell size lt = window-length (slot_at g cell (get_or text (gate_at cell) 0 % 2)) (slot_of g) text (omega (arith, size, slot_within g cell (get_or text (gate_at cell) 0 % 2) lt (omega arith)))

-- slots that begin alike are read alike
pub reads_alike : (g : Geometry) (new old : List ℕ) → take 48 new ≡ take 48 old → 48 ≤ length new → (o : Option Head) → ReadsHead g old o → ReadsHead g new o
reads_alike g new old same long None is = number_at-front 0 8 48 new old same (omega arith) ∙ is
reads_alike g new old same long (Some h) is = (head-front new old h same long is.0, is.1)

pub fine_of : (g : Geometry) (text : List ℕ) (heads : List (Option Head)) (k : ℕ) → FitTo g heads k → ReadTo g text heads k → FineTo g text heads k
fine_of g text heads k fits reads = record { reads = reads; past = fits.past; fine = fits.fine }

-- a head that goes next looks at earlier cells alone
same_before : (heads more : List (Option Head)) (cell : ℕ) (h : Head) → ((d : ℕ) → d < cell → in_cell more d ≡ in_cell heads d) → GoesNext heads cell h → GoesNext more cell h
same_before heads more cell h same goes = record {
  no_other = λ d q bad. goes.no_other d q record { earlier = bad.earlier; is = sym (same d bad.earlier) ∙ bad.is; pair = bad.pair; other = bad.other };
  not_again = λ d q lt bad. goes.not_again d q lt record { earlier = bad.earlier; is = sym (same d bad.earlier) ∙ bad.is; same = bad.same; clash = bad.clash };
}

-- no cell is read
pub fit_none : (g : Geometry) (heads : List (Option Head)) → ((c : ℕ) → in_cell heads c ≡ None) → FitTo g heads 0
fit_none g heads empty = record {
  past = λ c le. empty c;
  fine = λ c h is. let none : None ≡ Some h = sym (empty c) ∙ is in absurd (cc);
  valid = λ c h is. let none : None ≡ Some h = sym (empty c) ∙ is in absurd (cc);
  layout = λ c h is. let none : None ≡ Some h = sym (empty c) ∙ is in absurd (cc);
}

-- one cell more is read
module _ (g : Geometry) (heads : List (Option Head)) (k : ℕ) (o : Option Head) (in_range : k < length heads) where
  here : in_cell (set heads k o) k ≡ o
  here = get_or-set_same heads k o None in_range

  other : (c : ℕ) → c ≢ k → in_cell (set heads k o) c ≡ in_cell heads c
  other c ne = get_or-set_other heads k c o None ne

  own : (c : ℕ) (h : Head) → c ≡ k → in_cell (set heads k o) c ≡ Some h → o ≡ Some h
  own c h at is = sym here ∙ ap (λ (d : ℕ). in_cell (set heads k o) d) (sym at) ∙ is

  pub fit_more : FitTo g heads k → ((h : Head) → o ≡ Some h → GoesNext heads k h) → ((h : Head) → o ≡ Some h → IsValid h × (h.layout ≡ g.layout)) → FitTo g (set heads k o) (k + 1)
  fit_more fits goes valid = record {
    past = λ c le. other c (omega arith) ∙ fits.past c (omega arith);
    fine = λ c h is. ⊎_elim
        (λ (at : c ≡ k). subst (λ (d : ℕ). GoesNext (set heads k o) d h) (sym at) (same_before heads (set heads k o) k h (λ d lt. other d (omega arith)) (goes h (own c h at is))))
        (λ (ne : c ≢ k). ⊎_elim
        (λ (below : c < k). same_before heads (set heads k o) c h (λ d lt. other d (omega arith)) (fits.fine c h (sym (other c ne) ∙ is)))
        (λ (le : k ≤ c). let none : None ≡ Some h = sym (fits.past c le) ∙ sym (other c ne) ∙ is in absurd (cc))
        (cases_lt c k))
        (cases_eq c k);
    valid = λ c h is. ⊎_elim (λ (at : c ≡ k). (valid h (own c h at is)).0) (λ (ne : c ≢ k). fits.valid c h (sym (other c ne) ∙ is)) (cases_eq c k);
    layout = λ c h is. ⊎_elim (λ (at : c ≡ k). (valid h (own c h at is)).1) (λ (ne : c ≢ k). fits.layout c h (sym (other c ne) ∙ is)) (cases_eq c k);
  }

  pub read_more : (text : List ℕ) → ReadTo g text heads k → ReadsHead g (picked g text k) o → ReadTo g text (set heads k o) (k + 1)
  read_more text reads is c lt = ⊎_elim
      (λ (at : c ≡ k). subst (λ (d : ℕ). ReadsHead g (picked g text d) (in_cell (set heads k o) d)) (sym at) (subst (λ (p : Option Head). ReadsHead g (picked g text k) p) (sym here) is))
      (λ (ne : c ≢ k). subst (λ (p : Option Head). ReadsHead g (picked g text c) p) (sym (other c ne)) (reads c (omega arith)))
      (cases_eq c k)

-- a cell that was not read
pub cell_fault : (g : Geometry) (text : List ℕ) (heads : List (Option Head)) (k : ℕ) → FineTo g text heads k → k < 2 * g.cells → (e : OpenFault) → CellFault g text k e → CellsFault g text e
cell_fault g text heads k fine lt (Damaged cell) bad = inr (omega (arith, bad.0), (heads, subst (λ (n : ℕ). FineTo g text heads n) (sym bad.0) fine, subst (λ (n : ℕ). Unreadable g (picked g text n)) (sym bad.0) bad.1))
cell_fault g text heads k fine lt DiskFault bad = tt
cell_fault g text heads k fine lt NoMemory bad = absurd bad
cell_fault g text heads k fine lt (WrongSize have need) bad = absurd bad
cell_fault g text heads k fine lt Unformatted bad = absurd bad
cell_fault g text heads k fine lt (BadHeader field value) bad = absurd bad
cell_fault g text heads k fine lt (Twice first second) bad = absurd bad

-- a head that may not stand in its cell
pub wrong_fault : (g : Geometry) (text : List ℕ) (heads : List (Option Head)) (k : ℕ) → FineTo g text heads k → k < 2 * g.cells → (h : Head) → ReadsHead g (picked g text k) (Some h) → (e : OpenFault) → Wrong heads k h e → CellsFault g text e
wrong_fault g text heads k fine lt h is (Damaged cell) bad = inl (subst (λ (n : ℕ). CellRefused g text n (Damaged cell)) (sym bad.0) (lt, (heads, fine, (h, is, bad))))
wrong_fault g text heads k fine lt h is (Twice first second) bad = subst (λ (n : ℕ). CellRefused g text n (Twice first second)) (sym bad.0) (lt, (heads, fine, (h, is, bad)))
wrong_fault g text heads k fine lt h is DiskFault bad = absurd bad
wrong_fault g text heads k fine lt h is NoMemory bad = absurd bad
wrong_fault g text heads k fine lt h is (WrongSize have need) bad = absurd bad
wrong_fault g text heads k fine lt h is Unformatted bad = absurd bad
wrong_fault g text heads k fine lt h is (BadHeader field value) bad = absurd bad

-- the gates that were read
pub gates_read : (g : Geometry) (text gates : List ℕ) → gates ≡ window 64 (2 * g.cells) text → Knows g gates text
gates_read g text gates is c lt = ap (λ (b : ℕ). b % 2) (ap (λ (l : List ℕ). get_or l c 0) is ∙ window-byte 64 (2 * g.cells) text c lt)

-- the faults of the parts are those of the whole
pub header_refuses : (g : Geometry) (text : List ℕ) → length text ≡ disk_bytes g → (e : OpenFault) → HeaderFault Two g text e → Refuses g text e
header_refuses g text size (BadHeader field value) bad = (size, bad.0, bad.1)
header_refuses g text size Unformatted bad = (size, bad)
header_refuses g text size DiskFault bad = size
header_refuses g text size (Damaged cell) bad = absurd bad
header_refuses g text size NoMemory bad = absurd bad
header_refuses g text size (WrongSize have need) bad = absurd bad
header_refuses g text size (Twice first second) bad = absurd bad

pub cells_refuse : (g : Geometry) (text : List ℕ) → length text ≡ disk_bytes g → IsFormatted text → Agrees Two g text → (e : OpenFault) → CellsFault g text e → Refuses g text e
cells_refuse g text size is_formatted agrees (Damaged cell) bad = (size, is_formatted, agrees, bad)
cells_refuse g text size is_formatted agrees (Twice first second) bad = (size, is_formatted, agrees, bad)
cells_refuse g text size is_formatted agrees DiskFault bad = size
cells_refuse g text size is_formatted agrees NoMemory bad = absurd bad
cells_refuse g text size is_formatted agrees (WrongSize have need) bad = absurd bad
cells_refuse g text size is_formatted agrees Unformatted bad = absurd bad
cells_refuse g text size is_formatted agrees (BadHeader field value) bad = absurd bad
