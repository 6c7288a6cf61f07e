-- What is read of a disk is what stands on it.
use Rattle.std.proofs.Common.{◌≡◌, ◌≢◌, ℕ, ◌+◌, ◌%◌, ◌<◌, ◌≤◌, Bool, IsTrue, List, length, get_or, refl, sym, ◌∙◌, ap, arith}
use Rattle.rz_disk.specs.Images.{window}
use Rattle.rz_disk.proofs.Images.{window-byte}
use Rattle.rz_journal.specs.Row.{taken}
use Rattle.rz_journal.specs.Stands.{disk_bytes, half_bytes, half_at, header_bytes, IsJournal, IsHalfOpen}
use Rattle.rz_cells_slots.specs.Stands.{IsShut}
use Rattle.rz_journal.specs.HalfOpening.{IsHalf, HoldsSoFar}
use Rattle.rz_journal.proofs.Changes.{size_is}
use Rattle.rz_journal.proofs.Halves.{ends_moved}

pub half_size_is : half_bytes ≡ 8_388_576
unfolding half_bytes
half_size_is = refl

byte_there : (at n i : ℕ) (text out : List ℕ) → i < n → out ≡ window at n text → get_or text (at + i) 0 ≡ get_or out i 0
byte_there at n i text out lt is = sym (window-byte at n text i lt) ∙ ap (λ (l : List ℕ). get_or l i 0) (sym is)

module _ (text front gates : List ℕ) (is_gates : gates ≡ window 32 2 text) where
  gate_there : get_or text 32 0 ≡ get_or gates 0 0
  gate_there = byte_there 32 2 0 text gates (omega arith) is_gates

  pub shut_there : get_or gates 0 0 % 2 ≡ 0 → IsShut text
  shut_there shut = ap (λ (b : ℕ). b % 2) gate_there ∙ shut

  pub formatted_there : get_or gates 0 0 % 2 ≢ 0 → get_or text 32 0 % 2 ≡ 1
  formatted_there differs = let gate = gate_there in omega (arith, gate, differs)

  -- the header of a journal, and the half that it picks
  pub journal_there : front ≡ window 0 32 text → length text ≡ disk_bytes → get_or gates 0 0 % 2 ≢ 0 → front ≡ header_bytes → IsJournal (get_or gates 1 0 % 2) text
  journal_there is_front size differs same = record {
    size = size;
    header = sym is_front ∙ same;
    formatted = formatted_there differs;
    picked = ap (λ (b : ℕ). b % 2) (byte_there 32 2 1 text gates (omega arith) is_gates);
  }

-- the entries of the half are those of the disk
pub open_there : (tells : Bool) (text : List ℕ) (image : List ℕ → Type 0) (half used : ℕ) (bytes : List ℕ) → IsHalf tells text image half bytes → used < 8_388_576 → HoldsSoFar bytes used → IsHalfOpen tells text image half used
open_there tells text image half used bytes is room found = record {
  size = is.size;
  settled = is.settled;
  small = is.picked.0;
  room = room;
  holds = λ told. (
    found.0,
    record {
      journal = is.picked.1 told;
      ends = ends_moved (half_at half) half_bytes bytes text (is.same told) (omega (arith, is.size, is.picked.0, size_is, half_size_is)) found.0 (omega (arith, found.2, room, half_size_is)) found.1;
      room = omega (arith, found.2, room);
    },
    found.2,
  );
}
