-- Cells that are apart stand for a map.
use Rattle.std.proofs.Common.{◌≡◌, ◌≢◌, ℕ, zero, suc, Bool, true, false, List, [], ◌∷◌, Option, Some, None, refl, sym, ◌∙◌, ap, arith, eq-eqb}
use Rattle.std.specs.Prelude.{◌==◌, ◌&&◌, if◌then◌else◌}
use Rattle.std.proofs.lemmas.Bool.{and_parts, eqb-true}
use Rattle.rz_events.specs.declared.keys.Key.{Key}
use Rattle.rz_events.specs.declared.records.Head.{Head}
use Rattle.rz_record.specs.Slot.{Rec}
use Rattle.rz_cells_slots.specs.Held.{Apart, Records, Made, in_cell, heads_of, head_in, names}
use Rattle.rz_node.proofs.HeldOnDisk.{head-in}

-- the record of the first cell with this key and stamp
abbrev first_named : List (Option Rec) → Records
first_named [] key stamp = None
first_named (o ∷ cells) key stamp = if names (head_in o) key stamp then o else first_named cells key stamp

-- no two cells have one key and stamp
abbrev Single : List (Option Rec) → Type 0
Single cells = (c d : ℕ) (r s : Rec) → c ≢ d → in_cell cells c ≡ Some r → in_cell cells d ≡ Some s → r.head.key ≡ s.head.key → r.head.stamp ≢ s.head.stamp

same-key : (a b : Key) → a.fid ≡ b.fid → a.block ≡ b.block → a ≡ b
same-key a b f g = λ i. record { fid = f i; block = g i }

pub names-it : (r : Rec) (key : Key) (stamp : ℕ) → names (Some r.head) key stamp ≡ true → (r.head.key ≡ key) × (r.head.stamp ≡ stamp)
names-it r key stamp is =
    let p = and_parts ((r.head.key.fid == key.fid) && (r.head.key.block == key.block)) (r.head.stamp == stamp) is in
    let q = and_parts (r.head.key.fid == key.fid) (r.head.key.block == key.block) p.0 in
    (same-key r.head.key key (eqb-true r.head.key.fid key.fid q.0) (eqb-true r.head.key.block key.block q.1), eqb-true r.head.stamp stamp p.1)

names-own : (h : Head) → names (Some h) h.key h.stamp ≡ true
names-own h = λ i. (eq-eqb h.key.fid h.key.fid refl i && eq-eqb h.key.block h.key.block refl i) && eq-eqb h.stamp h.stamp refl i

there : (cells : List (Option Rec)) (key : Key) (stamp : ℕ) (r : Rec) → first_named cells key stamp ≡ Some r → (c : ℕ) × (in_cell cells c ≡ Some r) × (r.head.key ≡ key) × (r.head.stamp ≡ stamp)
there [] key stamp r is = absurd (cc)
there (o ∷ cells) key stamp r is = by-first o cells key stamp r (there cells key stamp r) (names (head_in o) key stamp) refl is
  where
    by-first : (o : Option Rec) (cells : List (Option Rec)) (key : Key) (stamp : ℕ) (r : Rec) → (first_named cells key stamp ≡ Some r → (c : ℕ) × (in_cell cells c ≡ Some r) × (r.head.key ≡ key) × (r.head.stamp ≡ stamp))
        → (b : Bool) → names (head_in o) key stamp ≡ b → (if b then o else first_named cells key stamp) ≡ Some r → (c : ℕ) × (in_cell (o ∷ cells) c ≡ Some r) × (r.head.key ≡ key) × (r.head.stamp ≡ stamp)
    by-first o cells key stamp r rest true named is =
        let n = names-it r key stamp (ap (λ (x : Option Rec). names (head_in x) key stamp) (sym is) ∙ named) in
        (0, is, n.0, n.1)
    by-first o cells key stamp r rest false named is = let t = rest is in (suc t.0, t.1, t.2, t.3)

only : (cells : List (Option Rec)) (c : ℕ) (r : Rec) → Single cells → in_cell cells c ≡ Some r → first_named cells r.head.key r.head.stamp ≡ Some r
only [] c r single is = absurd (cc)
only (o ∷ cells) zero r single is = ap (λ b. if b then o else first_named cells r.head.key r.head.stamp) (ap (λ (x : Option Rec). names (head_in x) r.head.key r.head.stamp) is ∙ names-own r.head) ∙ is
only (o ∷ cells) (suc c) r single is = later o cells c r single is (only cells c r (λ a b x y ne p q. single (suc a) (suc b) x y (λ same. ne (let e : a ≡ b = omega (arith, same) in e)) p q) is) o refl
  where
    later : (o : Option Rec) (cells : List (Option Rec)) (c : ℕ) (r : Rec) → Single (o ∷ cells) → in_cell cells c ≡ Some r → first_named cells r.head.key r.head.stamp ≡ Some r → (p : Option Rec) → o ≡ p
        → (if names (head_in o) r.head.key r.head.stamp then o else first_named cells r.head.key r.head.stamp) ≡ Some r
    later o cells c r single is rest None same = ap (λ (x : Option Rec). if names (head_in x) r.head.key r.head.stamp then o else first_named cells r.head.key r.head.stamp) same ∙ rest
    later o cells c r single is rest (Some s) same = ap (λ b. if b then o else first_named cells r.head.key r.head.stamp) (ap (λ (x : Option Rec). names (head_in x) r.head.key r.head.stamp) same ∙ other-name (names (Some s.head) r.head.key r.head.stamp) refl) ∙ rest
      where
        other-name : (b : Bool) → names (Some s.head) r.head.key r.head.stamp ≡ b → b ≡ false
        other-name false named = refl
        other-name true named =
            let n = names-it s r.head.key r.head.stamp named in
            absurd (single 0 (suc c) s r (λ zero_is. omega (arith, zero_is)) same is n.0 n.1)

single-apart : (cells : List (Option Rec)) → Apart (heads_of cells) → Single cells
single-apart cells apart c d r s ne p q same = (apart c d r.head s.head ne (head-in cells c r p) (head-in cells d s q)).two_stamps same

-- cells whose heads are apart stand for the records that they hold
pub made-apart : (cells : List (Option Rec)) → Apart (heads_of cells) → (records : Records) × Made cells records
made-apart cells apart = (first_named cells, record { there = there cells; only = λ c r is. only cells c r (single-apart cells apart) is; apart = apart })
