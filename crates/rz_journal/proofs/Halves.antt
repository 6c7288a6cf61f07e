-- What the bytes of a half hold, the disk holds there.
use Rattle.std.proofs.Common.{◌≡◌, ℕ, ◌+◌, ◌%◌, ◌<◌, ◌≤◌, List, [], ◌∷◌, length, drop, get_or, sym, ◌∙◌, ap, subst, arith}
use Rattle.std.proofs.lemmas.List.{ext_get_or}
use Rattle.byteorder.specs.Endian.{little_number}
use Rattle.rz_disk.specs.Images.{window}
use Rattle.rz_disk.proofs.Images.{window-byte, window-length}
use Rattle.rz_journal.specs.Row.{Entries, taken, IsEntryAt, Row, EndsAt}
use Rattle.rz_journal.proofs.FramedRows.{number_in}

-- an entry that stands at its place
pub entry_at_place : (half : List ℕ) (at count : ℕ) → get_or half at 0 % 2 ≡ 1 → little_number 4 (drop (at + 1) half) ≡ count → at + (5 + count) < length half → IsEntryAt at (window (at + 5) count half) half
entry_at_place half at count gate is room =
    let long : length (window (at + 5) count half) ≡ count = window-length (at + 5) count half (omega arith) in
    record { gate = gate; count = is ∙ sym long; bytes = ap (λ (n : ℕ). window (at + 5) n half) long }

module _ (from n : ℕ) (half text : List ℕ) (is : half ≡ window from n text) (fits : from + n ≤ length text) where
  pub half-length : length half ≡ n
  half-length = ap length is ∙ window-length from n text fits

  byte_moved : (i : ℕ) → i < n → get_or half i 0 ≡ get_or text (from + i) 0
  byte_moved i lt = ap (λ (l : List ℕ). get_or l i 0) is ∙ window-byte from n text i lt

  window_moved : (at m : ℕ) → at + m ≤ n → window at m half ≡ window (from + at) m text
  window_moved at m le = ext_get_or 0 (window at m half) (window (from + at) m text)
      (window-length at m half (omega (arith, half-length)) ∙ sym (window-length (from + at) m text (omega arith)))
      (λ i lt.
      let near : i < m = omega (arith, window-length at m half (omega (arith, half-length))) in
      window-byte at m half i near
      ∙ byte_moved (at + i) (omega arith)
      ∙ ap (λ (k : ℕ). get_or text k 0) (omega arith)
      ∙ sym (window-byte (from + at) m text i near))

  entry_moved : (at : ℕ) (e : List ℕ) → at + (5 + length e) ≤ n → IsEntryAt at e half → IsEntryAt (from + at) e text
  entry_moved at e le there =
      let next : from + (at + 1) ≡ (from + at) + 1 = omega arith in
      let behind : from + (at + 5) ≡ (from + at) + 5 = omega arith in
      record {
        gate = ap (λ (b : ℕ). b % 2) (sym (byte_moved at (omega arith))) ∙ there.gate;
        count =
            ap (λ (k : ℕ). little_number 4 (drop k text)) (sym next)
            ∙ sym (number_in (from + (at + 1)) text)
            ∙ ap (little_number 4) (sym (window_moved (at + 1) 4 (omega arith)))
            ∙ number_in (at + 1) half
            ∙ there.count;
        bytes = ap (λ (k : ℕ). window k (length e) text) (sym behind) ∙ sym (window_moved (at + 5) (length e) (omega arith)) ∙ there.bytes;
      }

  row_moved : (es : Entries) (at : ℕ) → at + taken es ≤ n → Row at es half → Row (from + at) es text
  row_moved [] at le row = tt
  row_moved (e ∷ es) at le row =
      let place : from + (at + (5 + length e)) ≡ (from + at) + (5 + length e) = omega arith in
      (entry_moved at e (omega arith) row.0, subst (λ (k : ℕ). Row k es text) place (row_moved es (at + (5 + length e)) (omega arith) row.1))

  pub ends_moved : (es : Entries) → taken es < n → EndsAt 0 es half → EndsAt from es text
  ends_moved es lt ends =
      let start : from + 0 ≡ from = omega arith in
      let place : 0 + taken es ≡ taken es = omega arith in
      record {
        row = subst (λ (k : ℕ). Row k es text) start (row_moved es 0 (omega arith) ends.row);
        shut = ap (λ (b : ℕ). b % 2) (sym (byte_moved (taken es) lt)) ∙ subst (λ (k : ℕ). get_or half k 0 % 2 ≡ 0) place ends.shut;
      }

  entry_back : (at : ℕ) (e : List ℕ) → at + (5 + length e) ≤ n → IsEntryAt (from + at) e text → IsEntryAt at e half
  entry_back at e le there =
      let next : from + (at + 1) ≡ (from + at) + 1 = omega arith in
      let behind : from + (at + 5) ≡ (from + at) + 5 = omega arith in
      record {
        gate = ap (λ (b : ℕ). b % 2) (byte_moved at (omega arith)) ∙ there.gate;
        count =
            sym (number_in (at + 1) half)
            ∙ ap (little_number 4) (window_moved (at + 1) 4 (omega arith))
            ∙ number_in (from + (at + 1)) text
            ∙ ap (λ (k : ℕ). little_number 4 (drop k text)) next
            ∙ there.count;
        bytes = window_moved (at + 5) (length e) (omega arith) ∙ ap (λ (k : ℕ). window k (length e) text) behind ∙ there.bytes;
      }

  row_back : (es : Entries) (at : ℕ) → at + taken es ≤ n → Row (from + at) es text → Row at es half
  row_back [] at le row = tt
  row_back (e ∷ es) at le row =
      let place : (from + at) + (5 + length e) ≡ from + (at + (5 + length e)) = omega arith in
      (entry_back at e (omega arith) row.0, row_back es (at + (5 + length e)) (omega arith) (subst (λ (k : ℕ). Row k es text) place row.1))

  -- and what the disk holds there, the half holds
  pub ends_back : (es : Entries) → taken es < n → EndsAt from es text → EndsAt 0 es half
  ends_back es lt ends =
      let start : from ≡ from + 0 = omega arith in
      let place : taken es ≡ 0 + taken es = omega arith in
      record {
        row = row_back es 0 (omega arith) (subst (λ (k : ℕ). Row k es text) start ends.row);
        shut = subst (λ (k : ℕ). get_or half k 0 % 2 ≡ 0) place (ap (λ (b : ℕ). b % 2) (byte_moved (taken es) lt) ∙ ends.shut);
      }
