-- Entries in a text: which bytes they are, and what leaves them as they are.
use Rattle.std.proofs.Common.{◌≡◌, ℕ, ◌+◌, ◌%◌, ◌^◌, ◌<◌, ◌≤◌, List, [], ◌∷◌, ◌++◌, length, take, drop, get_or, refl, sym, ◌∙◌, ap, subst, arith, length-append}
use Rattle.std.proofs.lemmas.List.{append-nil, drop-drop, drop-take, drop_at, take-take, take_at}
use Rattle.byteorder.specs.Endian.{little_number, little_bytes}
use Rattle.byteorder.specs.Numbers.{length-bytes_low_first, little_from-take, little_number-reads_back}
use Rattle.rz_disk.specs.Images.{window}
use Rattle.rz_disk.proofs.Images.{same_window, window-byte}
use Rattle.rz_journal.specs.Row.{Entries, taken, framed, row_bytes, IsEntryAt, Row, EndsAt}

-- the bytes of a range are the same
abbrev pub SameIn : ℕ → ℕ → List ℕ → List ℕ → Type 0
SameIn from to new old = (i : ℕ) → from ≤ i → i < to → get_or new i 0 ≡ get_or old i 0

-- a number reads its own bytes alone
pub number_in : (at : ℕ) (text : List ℕ) → little_number 4 (window at 4 text) ≡ little_number 4 (drop at text)
number_in at text = little_from-take 0 4 4 (drop at text) (omega arith)

entry_kept : (at : ℕ) (e new old : List ℕ) → length new ≡ length old → at + (5 + length e) ≤ length old → SameIn at (at + (5 + length e)) new old → IsEntryAt at e old → IsEntryAt at e new
entry_kept at e new old size fits same is = record {
  gate = ap (λ (b : ℕ). b % 2) (same at (omega arith) (omega arith)) ∙ is.gate;
  count =
      sym (number_in (at + 1) new)
      ∙ ap (little_number 4) (same_window (at + 1) 4 new old size (omega arith) (λ i from to. same i (omega arith) (omega arith)))
      ∙ number_in (at + 1) old
      ∙ is.count;
  bytes = same_window (at + 5) (length e) new old size (omega arith) (λ i from to. same i (omega arith) (omega arith)) ∙ is.bytes;
}

pub row_kept : (es : Entries) (at : ℕ) (new old : List ℕ) → length new ≡ length old → at + taken es ≤ length old → SameIn at (at + taken es) new old → Row at es old → Row at es new
row_kept [] at new old size fits same row = tt
row_kept (e ∷ es) at new old size fits same row = (
  entry_kept at e new old size (omega arith) (λ i from to. same i from (omega arith)) row.0,
  row_kept es (at + (5 + length e)) new old size (omega arith) (λ i from to. same i (omega arith) (omega arith)) row.1,
)

-- one entry more
pub row_more : (es : Entries) (at : ℕ) (e text : List ℕ) → Row at es text → IsEntryAt (at + taken es) e text → Row at (es ++ e ∷ []) text
row_more [] at e text row is = let here : at + 0 ≡ at = omega arith in (subst (λ (k : ℕ). IsEntryAt k e text) here is, tt)
row_more (x ∷ xs) at e text row is =
    let there : at + ((5 + length x) + taken xs) ≡ (at + (5 + length x)) + taken xs = omega arith in
    (row.0, row_more xs (at + (5 + length x)) e text row.1 (subst (λ (k : ℕ). IsEntryAt k e text) there is))

pub taken_more : (es : Entries) (e : List ℕ) → taken (es ++ e ∷ []) ≡ taken es + (5 + length e)
taken_more [] e = omega arith
taken_more (x ∷ xs) e = omega (arith, taken_more xs e)

-- two ranges one behind the other
pub window_split : (at m n : ℕ) (text xs ys : List ℕ) → length xs ≡ m → window at (m + n) text ≡ xs ++ ys → (window at m text ≡ xs) × (window (at + m) n text ≡ ys)
window_split at m n text xs ys long is = (
  sym (take-take m (m + n) (drop at text) (omega arith)) ∙ ap (take m) is ∙ take_at xs ys m long,
  ap (take n) (sym (drop-drop m at text)) ∙ sym (drop-take m n (drop at text)) ∙ ap (drop m) is ∙ drop_at xs ys m long,
)

-- an entry behind an open gate
pub entry_there : (at : ℕ) (e text : List ℕ) → length e < 256 ^ 4 → get_or text at 0 % 2 ≡ 1 → window (at + 1) (4 + length e) text ≡ little_bytes 4 (length e) ++ e → IsEntryAt at e text
entry_there at e text short gate is =
    let parts = window_split (at + 1) 4 (length e) text (little_bytes 4 (length e)) e (length-bytes_low_first 0 4 (length e)) is in
    let back : little_number 4 (little_bytes 4 (length e)) ≡ length e = ap (little_number 4) (sym (append-nil (little_bytes 4 (length e)))) ∙ little_number-reads_back 4 (length e) [] short in
    let place : (at + 1) + 4 ≡ at + 5 = omega arith in
    record {
      gate = gate;
      count = sym (number_in (at + 1) text) ∙ ap (little_number 4) parts.0 ∙ back;
      bytes = subst (λ (k : ℕ). window k (length e) text ≡ e) place parts.1;
    }

-- a byte of a range
byte_of : (at n : ℕ) (text bytes : List ℕ) → 1 ≤ n → window at n text ≡ bytes → get_or text at 0 ≡ get_or bytes 0 0
byte_of at n text bytes some is =
    let here : at + 0 ≡ at = omega arith in
    ap (λ (k : ℕ). get_or text k 0) (sym here) ∙ sym (window-byte at n text 0 (omega arith)) ∙ ap (λ (l : List ℕ). get_or l 0 0) is

length-framed : (e : List ℕ) → length (framed e) ≡ 5 + length e
length-framed e = omega (arith, length-append (little_bytes 4 (length e)) e, length-bytes_low_first 0 4 (length e))

pub length-row_bytes : (es : Entries) → length (row_bytes es) ≡ taken es + 1
length-row_bytes [] = refl
length-row_bytes (e ∷ es) = omega (arith, length-append (framed e) (row_bytes es), length-framed e, length-row_bytes es)

entry_framed : (at : ℕ) (e text : List ℕ) → length e < 256 ^ 4 → window at (5 + length e) text ≡ framed e → IsEntryAt at e text
entry_framed at e text short is =
    let first : List ℕ = 1 ∷ [] in
    let rest : List ℕ = little_bytes 4 (length e) ++ e in
    let same : 5 + length e ≡ 1 + (4 + length e) = omega arith in
    let parts = window_split at 1 (4 + length e) text (1 ∷ []) (little_bytes 4 (length e) ++ e) refl (subst (λ (k : ℕ). window at k text ≡ framed e) same is) in
    let gate : get_or text at 0 ≡ 1 = byte_of at 1 text (1 ∷ []) (omega arith) parts.0 in
    entry_there at e text short (omega (arith, gate)) parts.1

-- the bytes of entries hold these entries
pub row_written : (es : Entries) (at : ℕ) (text : List ℕ) → taken es < 256 ^ 4 → window at (length (row_bytes es)) text ≡ row_bytes es → EndsAt at es text
row_written [] at text short is =
    let here : at + 0 ≡ at = omega arith in
    let shut : get_or text at 0 ≡ 0 = byte_of at 1 text (0 ∷ []) (omega arith) is in
    record { row = tt; shut = subst (λ (k : ℕ). get_or text k 0 % 2 ≡ 0) (sym here) (omega (arith, shut)) }
row_written (e ∷ es) at text short is =
    let long : length (framed e ++ row_bytes es) ≡ (5 + length e) + length (row_bytes es) = length-append (framed e) (row_bytes es) ∙ ap (λ (k : ℕ). k + length (row_bytes es)) (length-framed e) in
    let parts = window_split at (5 + length e) (length (row_bytes es)) text (framed e) (row_bytes es) (length-framed e) (subst (λ (k : ℕ). window at k text ≡ framed e ++ row_bytes es) long is) in
    let others = row_written es (at + (5 + length e)) text (omega arith) parts.1 in
    let place : (at + (5 + length e)) + taken es ≡ at + ((5 + length e) + taken es) = omega arith in
    record {
      row = (entry_framed at e text (omega arith) parts.0, others.row);
      shut = subst (λ (k : ℕ). get_or text k 0 % 2 ≡ 0) place others.shut;
    }

-- a text holds one list at most from an address on
pub one_row : (a b : Entries) (at : ℕ) (text : List ℕ) → EndsAt at a text → EndsAt at b text → a ≡ b
one_row [] [] at text is-a is-b = refl
one_row [] (y ∷ ys) at text is-a is-b = let here : at + 0 ≡ at = omega arith in absurd (omega (arith, ap (λ (k : ℕ). get_or text k 0 % 2) here, is-a.shut, is-b.row.0.gate))
one_row (x ∷ xs) [] at text is-a is-b = let here : at + 0 ≡ at = omega arith in absurd (omega (arith, ap (λ (k : ℕ). get_or text k 0 % 2) here, is-b.shut, is-a.row.0.gate))
one_row (x ∷ xs) (y ∷ ys) at text is-a is-b =
    let long : length x ≡ length y = sym is-a.row.0.count ∙ is-b.row.0.count in
    let first : x ≡ y = sym is-a.row.0.bytes ∙ ap (λ (k : ℕ). window (at + 5) k text) long ∙ is-b.row.0.bytes in
    let place-a : at + ((5 + length x) + taken xs) ≡ (at + (5 + length x)) + taken xs = omega arith in
    let place-b : at + ((5 + length y) + taken ys) ≡ (at + (5 + length x)) + taken ys = omega (arith, long) in
    let rest-a : EndsAt (at + (5 + length x)) xs text = record { row = is-a.row.1; shut = subst (λ (k : ℕ). get_or text k 0 % 2 ≡ 0) place-a is-a.shut } in
    let rest-b : EndsAt (at + (5 + length x)) ys text = record { row = subst (λ (k : ℕ). Row (at + (5 + k)) ys text) (sym long) is-b.row.1; shut = subst (λ (k : ℕ). get_or text k 0 % 2 ≡ 0) place-b is-b.shut } in
    ap (λ (z : List ℕ). z ∷ xs) first ∙ ap (λ (zs : Entries). y ∷ zs) (one_row xs ys (at + (5 + length x)) text rest-a rest-b)
