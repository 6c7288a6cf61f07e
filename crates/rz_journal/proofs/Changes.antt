-- The two changes of a disk: each image holds the entries from before, or the new ones.
use Rattle.std.proofs.Common.{◌≡◌, ◌⊎◌, inl, inr, ⊎_elim, ℕ, ◌+◌, ◌-◌, ◌%◌, ◌<◌, ◌≤◌, Bool, IsTrue, List, [], ◌∷◌, ◌++◌, length, take, drop, get_or, refl, sym, ◌∙◌, ap, subst, arith, length-append, length-drop}
use Rattle.std.proofs.lemmas.Bool.{cases_lt}
use Rattle.std.proofs.lemmas.List.{take_all}
use Rattle.byteorder.specs.Endian.{little_bytes}
use Rattle.byteorder.specs.Numbers.{length-bytes_low_first}
use Rattle.rz_disk.specs.Images.{window, Torn, Written}
use Rattle.rz_disk.proofs.Images.{apart, apart_byte, same_window, window-byte}
use Rattle.rz_journal.specs.Row.{Entries, taken, row_bytes, EndsAt}
use Rattle.rz_journal.specs.Stands.{disk_bytes, half_at, IsJournal, HalfHolds, StandsFor, IsHalfOpen, with_last}
use Rattle.rz_journal.proofs.FramedRows.{SameIn, row_kept, row_more, taken_more, window_split, entry_there, row_written, one_row, length-row_bytes}

pub size_is : disk_bytes ≡ 16_777_216
unfolding disk_bytes
size_is = refl

-- a text of the same header, of which the same half counts
journal_kept : (half : ℕ) (new old : List ℕ) → length new ≡ length old → SameIn 0 34 new old → IsJournal half old → IsJournal half new
journal_kept half new old size same is = record {
  size = size ∙ is.size;
  header = same_window 0 32 new old size (omega (arith, is.size, size_is)) (λ i from to. same i from (omega arith)) ∙ is.header;
  formatted = ap (λ (b : ℕ). b % 2) (same 32 (omega arith) (omega arith)) ∙ is.formatted;
  picked = ap (λ (b : ℕ). b % 2) (same 33 (omega arith) (omega arith)) ∙ is.picked;
}

half_small : (half : ℕ) (text : List ℕ) → IsJournal half text → half < 2
half_small half text is = omega (arith, is.picked)

ends_kept : (half : ℕ) (entries : Entries) (new old : List ℕ) → half < 2 → length new ≡ length old → length old ≡ disk_bytes → taken entries < 8_388_576 → SameIn (half_at half) (half_at half + taken entries + 1) new old → EndsAt (half_at half) entries old → EndsAt (half_at half) entries new
ends_kept half entries new old small size is room same ends = record {
  row = row_kept entries (half_at half) new old size (omega (arith, is, size_is)) (λ i from to. same i from (omega arith)) ends.row;
  shut = ap (λ (b : ℕ). b % 2) (same (half_at half + taken entries) (omega arith) (omega arith)) ∙ ends.shut;
}

-- what leaves the header and the half leaves the entries
pub holds_kept : (half : ℕ) (entries : Entries) (new old : List ℕ) → length new ≡ length old → SameIn 0 34 new old → SameIn (half_at half) (half_at half + taken entries + 1) new old → HalfHolds half entries old → HalfHolds half entries new
holds_kept half entries new old size header same is = record {
  journal = journal_kept half new old size header is.journal;
  ends = ends_kept half entries new old (half_small half old is.journal) size is.journal.size is.room same is.ends;
  room = is.room;
}

-- all of a row but its first gate
pub rest_all : (row : List ℕ) → take (length row - 1) (drop 1 row) ≡ drop 1 row
rest_all row = take_all (length row - 1) (drop 1 row) (omega (arith, length-drop 1 row))

-- ---- an entry is added

module _ (half : ℕ) (entries : Entries) (text entry row : List ℕ) (spelled : row ≡ row_bytes (entry ∷ [])) (fits : taken entries + (5 + length entry) < 8_388_576) (is : HalfHolds half entries text) where
  rest-is : drop 1 row ≡ (little_bytes 4 (length entry) ++ entry) ++ 0 ∷ []
  rest-is = ap (drop 1) spelled

  rest-length : length (drop 1 row) ≡ (4 + length entry) + 1
  rest-length = ap length rest-is ∙ length-append (little_bytes 4 (length entry) ++ entry) (0 ∷ []) ∙ ap (λ (k : ℕ). k + 1) (length-append (little_bytes 4 (length entry)) entry ∙ ap (λ (k : ℕ). k + length entry) (length-bytes_low_first 0 4 (length entry)))

  -- while it is written behind the shut gate
  pub add_staged : (c : List ℕ) → Torn (half_at half + taken entries + 1) (length (drop 1 row)) text c → HalfHolds half entries c
  add_staged c torn = holds_kept half entries c text torn.size (λ i from to. torn.below i (omega arith)) (λ i from to. torn.below i to) is

  module _ (mid : List ℕ) (written : Written (half_at half + taken entries + 1) (drop 1 row) text mid) (c : List ℕ) (torn : Torn (half_at half + taken entries) 1 mid c) where
    small : half < 2
    small = half_small half text is.journal

    size : length c ≡ length text
    size = torn.size ∙ written.torn.size

    below : SameIn 0 (half_at half + taken entries) c text
    below i from to = torn.below i to ∙ written.torn.below i (omega arith)

    there : window (half_at half + taken entries + 1) ((4 + length entry) + 1) c ≡ (little_bytes 4 (length entry) ++ entry) ++ 0 ∷ []
    there =
        apart (half_at half + taken entries) 1 mid c (half_at half + taken entries + 1) ((4 + length entry) + 1) torn (omega (arith, written.torn.size, is.journal.size, size_is, small)) (inr (omega arith))
        ∙ ap (λ (k : ℕ). window (half_at half + taken entries + 1) k mid) (sym rest-length)
        ∙ written.there
        ∙ rest-is

    pub gate_shut : get_or c (half_at half + taken entries) 0 % 2 ≡ 0 → HalfHolds half entries c
    gate_shut shut = record {
      journal = journal_kept half c text size (λ i from to. below i from (omega arith)) is.journal;
      ends = record {
        row = row_kept entries (half_at half) c text size (omega (arith, is.journal.size, size_is, small)) (λ i from to. below i (omega arith) to) is.ends.row;
        shut = shut;
      };
      room = is.room;
    }

    pub gate_open : get_or c (half_at half + taken entries) 0 % 2 ≡ 1 → HalfHolds half (with_last entry entries) c
    gate_open gate =
        let parts = window_split (half_at half + taken entries + 1) (4 + length entry) 1 c (little_bytes 4 (length entry) ++ entry) (0 ∷ []) (length-append (little_bytes 4 (length entry)) entry ∙ ap (λ (k : ℕ). k + length entry) (length-bytes_low_first 0 4 (length entry))) there in
        let one = entry_there (half_at half + taken entries) entry c (omega arith) gate parts.0 in
        let end : get_or c ((half_at half + taken entries + 1) + (4 + length entry) + 0) 0 ≡ 0 = sym (window-byte ((half_at half + taken entries + 1) + (4 + length entry)) 1 c 0 (omega arith)) ∙ ap (λ (l : List ℕ). get_or l 0 0) parts.1 in
        let place : (half_at half + taken entries + 1) + (4 + length entry) + 0 ≡ half_at half + taken (entries ++ entry ∷ []) = omega (arith, taken_more entries entry) in
        let shut : get_or c (half_at half + taken (entries ++ entry ∷ [])) 0 ≡ 0 = subst (λ (k : ℕ). get_or c k 0 ≡ 0) place end in
        record {
          journal = journal_kept half c text size (λ i from to. below i from (omega arith)) is.journal;
          ends = record {
            row = row_more entries (half_at half) entry c (row_kept entries (half_at half) c text size (omega (arith, is.journal.size, size_is, small)) (λ i from to. below i (omega arith) to) is.ends.row) one;
            shut = omega (arith, shut);
          };
          room = omega (arith, taken_more entries entry);
        }

    -- while its gate is opened
    pub add_flipped : HalfHolds half entries c ⊎ HalfHolds half (with_last entry entries) c
    add_flipped = ⊎_elim (λ (lt : get_or c (half_at half + taken entries) 0 % 2 < 1). inl (gate_shut (omega arith))) (λ (le : 1 ≤ get_or c (half_at half + taken entries) 0 % 2). inr (gate_open (omega arith))) (cases_lt (get_or c (half_at half + taken entries) 0 % 2) 1)

  -- and then
  pub add_done : (mid c : List ℕ) → Written (half_at half + taken entries + 1) (drop 1 row) text mid → Written (half_at half + taken entries) (1 ∷ []) mid c → HalfHolds half (with_last entry entries) c
  add_done mid c written gate =
      let here : half_at half + taken entries + 0 ≡ half_at half + taken entries = omega arith in
      let byte : get_or c (half_at half + taken entries) 0 ≡ 1 = ap (λ (k : ℕ). get_or c k 0) (sym here) ∙ sym (window-byte (half_at half + taken entries) 1 c 0 (omega arith)) ∙ ap (λ (l : List ℕ). get_or l 0 0) gate.there in
      gate_open mid written c gate.torn (omega (arith, byte))

-- ---- all entries are replaced

module _ (half : ℕ) (entries new : Entries) (text row : List ℕ) (spelled : row ≡ row_bytes new) (fits : taken new < 8_388_576) (is : HalfHolds half entries text) where
  other-small : half < 2
  other-small = half_small half text is.journal

  row-length : length row ≡ taken new + 1
  row-length = ap length spelled ∙ length-row_bytes new

  apart_from : (i : ℕ) → half_at half ≤ i → i < half_at half + taken entries + 1 → (i < half_at (1 - half)) ⊎ (half_at (1 - half) + length row ≤ i)
  apart_from i from to = ⊎_elim
      (λ (lt : half < 1). inl (omega (arith, is.room)))
      (λ (le : 1 ≤ half). inr (omega (arith, row-length, other-small)))
      (cases_lt half 1)

  -- while they are written into the half that does not count
  pub replace_staged : (c : List ℕ) → Torn (half_at (1 - half)) (length row) text c → HalfHolds half entries c
  replace_staged c torn = holds_kept half entries c text torn.size (λ i from to. torn.below i (omega arith))
      (λ i from to. apart_byte (half_at (1 - half)) (length row) text c i torn (apart_from i from to)) is

  module _ (mid : List ℕ) (written : Written (half_at (1 - half)) row text mid) (c : List ℕ) (torn : Torn 33 1 mid c) where
    replace-size : length c ≡ length text
    replace-size = torn.size ∙ written.torn.size

    front : SameIn 0 33 c text
    front i from to = torn.below i to ∙ written.torn.below i (omega arith)

    pub half_old : get_or c 33 0 % 2 ≡ half → HalfHolds half entries c
    half_old picked = record {
      journal = record {
        size = replace-size ∙ is.journal.size;
        header = same_window 0 32 c text replace-size (omega (arith, is.journal.size, size_is)) (λ i from to. front i from (omega arith)) ∙ is.journal.header;
        formatted = ap (λ (b : ℕ). b % 2) (front 32 (omega arith) (omega arith)) ∙ is.journal.formatted;
        picked = picked;
      };
      ends = ends_kept half entries c text other-small replace-size is.journal.size is.room
          (λ i from to. torn.above i (omega arith) ∙ apart_byte (half_at (1 - half)) (length row) text mid i written.torn (apart_from i from to)) is.ends;
      room = is.room;
    }

    pub half_new : get_or c 33 0 % 2 ≡ 1 - half → HalfHolds (1 - half) new c
    half_new picked =
        let there : window (half_at (1 - half)) (length row) c ≡ row = apart 33 1 mid c (half_at (1 - half)) (length row) torn (omega (arith, written.torn.size, is.journal.size, size_is, row-length, other-small)) (inr (omega arith)) ∙ written.there in
        let exact : window (half_at (1 - half)) (length (row_bytes new)) c ≡ row_bytes new = subst (λ (l : List ℕ). window (half_at (1 - half)) (length l) c ≡ l) spelled there in
        record {
          journal = record {
            size = replace-size ∙ is.journal.size;
            header = same_window 0 32 c text replace-size (omega (arith, is.journal.size, size_is)) (λ i from to. front i from (omega arith)) ∙ is.journal.header;
            formatted = ap (λ (b : ℕ). b % 2) (front 32 (omega arith) (omega arith)) ∙ is.journal.formatted;
            picked = picked;
          };
          ends = row_written new (half_at (1 - half)) c (omega arith) exact;
          room = fits;
        }

    -- while the other half is picked
    pub replace_flipped : HalfHolds half entries c ⊎ HalfHolds (1 - half) new c
    replace_flipped = ⊎_elim
        (λ (lt : get_or c 33 0 % 2 < 1). ⊎_elim (λ (zero : half < 1). inl (half_old (omega arith))) (λ (one : 1 ≤ half). inr (half_new (omega (arith, other-small)))) (cases_lt half 1))
        (λ (le : 1 ≤ get_or c 33 0 % 2). ⊎_elim (λ (zero : half < 1). inr (half_new (omega arith))) (λ (one : 1 ≤ half). inl (half_old (omega (arith, other-small)))) (cases_lt half 1))
        (cases_lt (get_or c 33 0 % 2) 1)

  -- and then
  pub replace_done : (mid c : List ℕ) → Written (half_at (1 - half)) row text mid → Written 33 ((1 - half) ∷ []) mid c → HalfHolds (1 - half) new c
  replace_done mid c written gate =
      let byte : get_or c 33 0 ≡ 1 - half = sym (window-byte 33 1 c 0 (omega arith)) ∙ ap (λ (l : List ℕ). get_or l 0 0) gate.there in
      half_new mid written c gate.torn (omega (arith, byte))

-- a text holds one list at most
pub one_list : (half other : ℕ) (a b : Entries) (text : List ℕ) → HalfHolds half a text → HalfHolds other b text → (half ≡ other) × (a ≡ b)
one_list half other a b text is-a is-b =
    let same : half ≡ other = sym is-a.journal.picked ∙ is-b.journal.picked in
    (same, one_row a b (half_at half) text is-a.ends (subst (λ (h : ℕ). EndsAt (half_at h) b text) (sym same) is-b.ends))

-- of a disk that is open, the list is the one whose bytes are counted
pub known_list : (tells : Bool) (text : List ℕ) (image : List ℕ → Type 0) (half used : ℕ) → IsHalfOpen tells text image half used → IsTrue tells → (entries : Entries) → StandsFor text entries → HalfHolds half entries text × (taken entries ≡ used)
known_list tells text image half used open_it told entries stands =
    let mine = open_it.holds told in
    let one = one_list half stands.0 mine.0 entries text mine.1 stands.1 in
    (subst (λ (es : Entries). HalfHolds half es text) one.1 mine.1, ap taken (sym one.1) ∙ mine.2)

-- in whichever half
pub either_half : (half other : ℕ) (a b : Entries) (c : List ℕ) → HalfHolds half a c ⊎ HalfHolds other b c → StandsFor c a ⊎ StandsFor c b
either_half half other a b c left = ⊎_elim (λ (h : HalfHolds half a c). inl (half, h)) (λ (h : HalfHolds other b c). inr (other, h)) left

-- the bytes of one entry, with the shut gate
pub length-one : (row entry : List ℕ) → row ≡ row_bytes (entry ∷ []) → length row ≡ 6 + length entry
length-one row entry spelled = omega (arith, ap length spelled, length-row_bytes (entry ∷ []))
