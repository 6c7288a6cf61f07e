-- What is read of an old disk, cell by cell.
use Rattle.std.proofs.Common.{◌≡◌, ◌≢◌, ◌⊎◌, inl, inr, ⊎_elim, ℕ, ◌+◌, ◌<◌, ◌≤◌, Option, Some, None, List, length, set, refl, sym, ◌∙◌, ap, subst, arith}
use Rattle.std.proofs.lemmas.Bool.{cases_lt, cases_eq}
use Rattle.std.proofs.lemmas.List.{ext_get_or, get_or-set_same, get_or-set_other}
use Rattle.std.specs.HashMap.{HashMap, get}
use Rattle.rz_events.specs.declared.records.Head.{Head}
use Rattle.rz_events.specs.declared.nodes.OpenFault.{OpenFault}
use Rattle.rz_events.specs.declared.nodes.OpenFault.TheVariants.{NoMemory, WrongSize, DiskFault, Unformatted, BadHeader, Damaged, Twice}
use Rattle.rz_record.specs.Record.{IsValid}
use Rattle.rz_record.specs.Slot.{Rec}
use Rattle.rz_record.proofs.Laws.{one_reading}
use Rattle.rz_cells_slots.specs.declared.geometry.Geometry.{Geometry}
use Rattle.rz_cells_slots.specs.declared.geometry.DiskVersion.TheVariants.{One}
use Rattle.rz_cells_slots.specs.Held.{Apart, Records, heads_of, in_cell}
use Rattle.rz_cells_slots.specs.Shape.{slot_of}
use Rattle.rz_cells_slots.specs.Stands.{IsFormatted, IsHeaderOf}
use Rattle.rz_cells_slots.specs.Opening.{Agrees, HeaderFault, IsFirst, KnowsFirsts, Notes, ReadsHead, Unreadable, same_key}
use Rattle.rz_cells_slots.specs.Old.{HoldsOld, OldStandsFor, old_disk_bytes, old_slot}
use Rattle.rz_cells_slots.specs.OldOpening.{NoKeyTwice, OldCellsFault, OldFineTo, OldFitTo, OldReadTo, OldRefuses, OldTwice}
use Rattle.rz_cells_slots.proofs.Based.{old_slot_long}
use Rattle.rz_cells_slots.proofs.Firsts.{firsts_more, firsts_none}
use Rattle.rz_cells_slots.proofs.Made.{head_in-cell}
use Rattle.rz_cells_slots.proofs.Opened.{agrees_of}
use Rattle.rz_cells_slots.proofs.Pairs.{once_paired, paired_heads}
use Rattle.rz_cells_slots.proofs.Refused.{cells, cells_heads, cells_long, cells_read, cells_suit, head_read, one_head_read}

-- no cell is read
pub old_fit_none : (g : Geometry) (heads : List (Option Head)) → ((c : ℕ) → in_cell heads c ≡ None) → OldFitTo g heads 0
old_fit_none g heads empty = record {
  past = λ c le. empty c;
  once = λ c d h k lt is is'. let none : None ≡ Some h = sym (empty c) ∙ is in absurd (cc);
  valid = λ c h is. let none : None ≡ Some h = sym (empty c) ∙ is in absurd (cc);
  layout = λ c h is. let none : None ≡ Some h = sym (empty c) ∙ is in absurd (cc);
}

-- one cell more is read
module _ (g : Geometry) (heads : List (Option Head)) (k : ℕ) (o : Option Head) (in_range : k < length heads) where
  here : in_cell (set heads k o) k ≡ o
  here = get_or-set_same heads k o None in_range

  other : (c : ℕ) → c ≢ k → in_cell (set heads k o) c ≡ in_cell heads c
  other c ne = get_or-set_other heads k c o None ne

  own : (c : ℕ) (h : Head) → c ≡ k → in_cell (set heads k o) c ≡ Some h → o ≡ Some h
  own c h at is = sym here ∙ ap (λ (d : ℕ). in_cell (set heads k o) d) (sym at) ∙ is

  pub old_fit_more : OldFitTo g heads k → ((h : Head) → o ≡ Some h → IsFirst heads k h.key None) → ((h : Head) → o ≡ Some h → IsValid h × (h.layout ≡ g.layout)) → OldFitTo g (set heads k o) (k + 1)
  old_fit_more fits new valid = record {
    past = λ c le. other c (omega arith) ∙ fits.past c (omega arith);
    once = λ c d h q lt is is'. ⊎_elim
        (λ (at : d ≡ k). new q (own d q at is') c h (omega arith) (sym (other c (omega arith)) ∙ is))
        (λ (ne : d ≢ k). ⊎_elim
        (λ (below : d < k). fits.once c d h q lt (sym (other c (omega arith)) ∙ is) (sym (other d ne) ∙ is'))
        (λ (le : k ≤ d). let none : None ≡ Some q = sym (fits.past d le) ∙ sym (other d ne) ∙ is' in absurd (cc))
        (cases_lt d k))
        (cases_eq d k);
    valid = λ c h is. ⊎_elim (λ (at : c ≡ k). (valid h (own c h at is)).0) (λ (ne : c ≢ k). fits.valid c h (sym (other c ne) ∙ is)) (cases_eq c k);
    layout = λ c h is. ⊎_elim (λ (at : c ≡ k). (valid h (own c h at is)).1) (λ (ne : c ≢ k). fits.layout c h (sym (other c ne) ∙ is)) (cases_eq c k);
  }

  pub old_read_more : (text : List ℕ) → OldReadTo g text heads k → ReadsHead g (old_slot g text k) o → OldReadTo g text (set heads k o) (k + 1)
  old_read_more text reads is c lt = ⊎_elim
      (λ (at : c ≡ k). subst (λ (d : ℕ). ReadsHead g (old_slot g text d) (in_cell (set heads k o) d)) (sym at) (subst (λ (p : Option Head). ReadsHead g (old_slot g text k) p) (sym here) is))
      (λ (ne : c ≢ k). subst (λ (p : Option Head). ReadsHead g (old_slot g text c) p) (sym (other c ne)) (reads c (omega arith)))
      (cases_eq c k)

pub firsts_next : {S : Type 0} (old new : HashMap (ℕ × ℕ) ℕ S) (heads : List (Option Head)) (k : ℕ) (o : Option Head) → k < length heads → KnowsFirsts old heads k
    → (o ≡ None → new ≡ old) → ((h : Head) → o ≡ Some h → (get same_key old (h.key.fid, h.key.block) ≡ None) × Notes old new h.key k) → KnowsFirsts new (set heads k o) (k + 1)
firsts_next old new heads k None lt known none some =
    subst (λ (m : HashMap (ℕ × ℕ) ℕ _). KnowsFirsts m (set heads k None) (k + 1)) (sym (none refl)) (firsts_none heads k None lt old new known refl)
firsts_next old new heads k (Some h) lt known none some = firsts_more heads k (Some h) lt old new known h refl (some h refl).1

pub old_fine_of : (g : Geometry) (text : List ℕ) (heads : List (Option Head)) (k : ℕ) → OldFitTo g heads k → OldReadTo g text heads k → OldFineTo g text heads k
old_fine_of g text heads k fits reads = record { reads = reads; past = fits.past; once = fits.once }

-- a cell that was not read
pub old_cell_fault : (g : Geometry) (text : List ℕ) (heads : List (Option Head)) (k : ℕ) → OldFineTo g text heads k → k < g.cells → (e : OpenFault) → (e ≡ DiskFault) ⊎ ((e ≡ Damaged k) × Unreadable g (old_slot g text k)) → OldCellsFault g text e
old_cell_fault g text heads k fine lt e (inl fault) = subst (OldCellsFault g text) (sym fault) tt
old_cell_fault g text heads k fine lt e (inr bad) = subst (OldCellsFault g text) (sym bad.0) (lt, (heads, fine, bad.1))

-- a key that stands in an earlier cell
pub old_twice : (g : Geometry) (text : List ℕ) (heads : List (Option Head)) (k first : ℕ) (h : Head) → OldFineTo g text heads k → k < g.cells → ReadsHead g (old_slot g text k) (Some h) → IsFirst heads k h.key (Some first) → (e : OpenFault) → e ≡ Twice first k → OldCellsFault g text e
old_twice g text heads k first h fine lt reads is e bad = subst (OldCellsFault g text) (sym bad) (lt, (heads, fine, (h, reads, is)))

-- the faults of the parts are those of the whole
pub old_header_refuses : (g : Geometry) (text : List ℕ) → length text ≡ old_disk_bytes g → (e : OpenFault) → HeaderFault One g text e → OldRefuses g text e
old_header_refuses g text size (BadHeader field value) bad = (size, bad.0, bad.1)
old_header_refuses g text size Unformatted bad = (size, bad)
old_header_refuses g text size DiskFault bad = size
old_header_refuses g text size (Damaged cell) bad = absurd bad
old_header_refuses g text size NoMemory bad = absurd bad
old_header_refuses g text size (WrongSize have need) bad = absurd bad
old_header_refuses g text size (Twice first second) bad = absurd bad

pub old_cells_refuse : (g : Geometry) (text : List ℕ) → length text ≡ old_disk_bytes g → IsFormatted text → Agrees One g text → (e : OpenFault) → OldCellsFault g text e → OldRefuses g text e
old_cells_refuse g text size is_formatted agrees (Damaged cell) bad = (size, is_formatted, agrees, bad)
old_cells_refuse g text size is_formatted agrees (Twice first second) bad = (size, is_formatted, agrees, bad)
old_cells_refuse g text size is_formatted agrees DiskFault bad = size
old_cells_refuse g text size is_formatted agrees NoMemory bad = absurd bad
old_cells_refuse g text size is_formatted agrees (WrongSize have need) bad = absurd bad
old_cells_refuse g text size is_formatted agrees Unformatted bad = absurd bad
old_cells_refuse g text size is_formatted agrees (BadHeader field value) bad = absurd bad

-- what was read of an old disk makes cells
module _ (g : Geometry) (fence : ℕ) (text : List ℕ) (heads : List (Option Head)) (size : length text ≡ old_disk_bytes g) (header : IsHeaderOf One g fence text) (is_formatted : IsFormatted text) (count : length heads ≡ g.cells) (reads : OldReadTo g text heads g.cells) where
  room : (c : ℕ) → c < g.cells → length (old_slot g text c) ≡ slot_of g
  room c lt = old_slot_long g text size c lt

  pub holds_old : (its : List (Option Rec)) × HoldsOld g fence text its × (heads_of its ≡ heads)
  holds_old = (
    cells g g.cells (old_slot g text) heads count room reads,
    record {
      size = size;
      header = header;
      formatted = is_formatted;
      count = cells_long g g.cells (old_slot g text) heads count room reads;
      each = cells_read g g.cells (old_slot g text) heads count room reads;
      suits = cells_suit g g.cells (old_slot g text) heads count room reads;
    },
    cells_heads g g.cells (old_slot g text) heads count room reads,
  )

-- a text holds one list of cells
pub same_old_cells : (g : Geometry) (fence fence' : ℕ) (text : List ℕ) (its their : List (Option Rec)) → HoldsOld g fence text its → HoldsOld g fence' text their → its ≡ their
same_old_cells g fence fence' text its their holds holds' =
    ext_get_or None its their (holds.count ∙ sym holds'.count)
    (λ c lt. one_reading (old_slot g text c) (in_cell its c) (in_cell their c) (holds.each c (omega (arith, holds.count))) (holds'.each c (omega (arith, holds.count))))

-- A text that stands for records is refused for a failed device call alone.
module _ (g : Geometry) (fence : ℕ) (text : List ℕ) (held : Records) (stands : OldStandsFor g fence text held) where
  reads_whole : (c : ℕ) → c < g.cells → ReadsHead g (old_slot g text c) (in_cell (heads_of stands.0) c)
  reads_whole c lt = subst (ReadsHead g (old_slot g text c)) (sym (head_in-cell stands.0 c)) (head_read g (in_cell stands.0 c) (old_slot g text c) (stands.1.each c lt) (stands.1.suits c))

  once : NoKeyTwice (heads_of stands.0)
  once = once_paired (heads_of stands.0) (subst Apart (paired_heads stands.0) stands.2.apart)

  not_twice : (first second : ℕ) → OldTwice g text first second → ⊥
  not_twice first second (lt, (heads, fine, (h, reads, (below, (q, is, same), least)))) =
      let one : in_cell (heads_of stands.0) first ≡ Some q = sym (one_head_read g (old_slot g text first) (in_cell heads first) (in_cell (heads_of stands.0) first) (fine.reads first below) (reads_whole first (omega arith))) ∙ is in
      let two : in_cell (heads_of stands.0) second ≡ Some h = one_head_read g (old_slot g text second) (in_cell (heads_of stands.0) second) (Some h) (reads_whole second lt) reads in
      once first second q h below one two same

  pub only_old_faults : (e : OpenFault) → OldRefuses g text e → e ≡ DiskFault
  only_old_faults DiskFault bad = refl
  only_old_faults NoMemory bad = absurd bad
  only_old_faults (WrongSize have need) bad = absurd (bad.2 (bad.0 ∙ stands.1.size ∙ sym bad.1))
  only_old_faults Unformatted bad = absurd (bad.1 stands.1.formatted)
  only_old_faults (BadHeader field value) bad = absurd (bad.2.differs (bad.2.found ∙ agrees_of One g fence text stands.1.header field))
  only_old_faults (Damaged cell) (_, _, _, (lt, (heads, fine, none))) = absurd (none (in_cell (heads_of stands.0) cell) (reads_whole cell lt))
  only_old_faults (Twice first second) bad = absurd (not_twice first second bad.3)
