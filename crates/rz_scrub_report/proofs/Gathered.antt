-- The nodes of a block, asked one after the other.
use Rattle.std.proofs.Common.{ℕ, zero, suc, ◌≡◌, ◌≢◌, ◌<◌, ◌≤◌, ◌+◌, ◌∙◌, List, [], ◌∷◌, length, get_or, drop, take, replicate, Option, Some, None, refl, sym, ap, arith, subst}
use Rattle.std.proofs.lemmas.List.{drop_more, get_or-set_other}
use Rattle.mj_angles.specs.declared.layout.Layout.{Layout}
use Rattle.mj_angles.specs.Layout.{bins_at_of, safe_of}
use Rattle.rz_events.specs.declared.keys.Key.{Key}
use Rattle.rz_events.specs.declared.files.Listed.{Listed}
use Rattle.rz_events.specs.declared.records.Held.{Held}
use Rattle.rz_events.specs.declared.nodes.FetchAnswer.{FetchAnswer}
use Rattle.rz_events.specs.declared.nodes.FetchAnswer.TheVariants as fetch
use Rattle.rz_scrub.specs.Records.{Records, bins_at, no_records}
use Rattle.rz_scrub_report.specs.declared.finding.Finding.{Finding}
use Rattle.rz_scrub_report.specs.Stores.{State, AreBinsRead}
use Rattle.rz_scrub_report.specs.Asks.{AreAsked, IsRecordAsked, AreRecordsFound, with_given}

-- at first no position has bins
none-in : (n p : ℕ) → get_or (replicate n (let o : Option (List ℕ) = None in o)) p None ≡ None
none-in zero p = refl
none-in (suc n) zero = refl
none-in (suc n) (suc p) = none-in n p

pub bare-at-first : (layout : Layout) (p : ℕ) → bins_at (no_records layout) p ≡ None
bare-at-first layout p = none-in (safe_of layout) p

-- a position that is asked leaves the others
pub others : (s : Records) (position p : ℕ) (given : FetchAnswer) (room : List ℕ) → p ≢ position → bins_at (with_given s position given room) p ≡ bins_at s p
others s position p (fetch.Held told) room h = get_or-set_other s.bins position p (Some (take (bins_at_of s.layout position) room)) None h
others s position p fetch.Nothing room h = refl
others s position p fetch.Lost room h = refl
others s position p fetch.Down room h = refl
others s position p fetch.DiskFault room h = refl

pub bare-after : {gives : ℕ → Key → Held → List ℕ → List ℕ → Type 0} {l : Listed} {position n : ℕ} {w next : State} {s s' : Records}
    → IsRecordAsked gives l position n w next s s' → ((p : ℕ) → position ≤ p → bins_at s p ≡ None) → (p : ℕ) → position + 1 ≤ p → bins_at s' p ≡ None
bare-after {position = position} {s = s} asked before p h =
    ap (λ (t : Records). bins_at t p) asked.records
    ∙ others s position p asked.given asked.room (λ e. absurd (omega (arith, h, e)))
    ∙ before p (omega (arith, h))

-- What a store gives later, it gave at first.

read-before : {P Q : Held → List ℕ → List ℕ → Type 0} → ((told : Held) (a b : List ℕ) → P told a b → Q told a b) → (given : FetchAnswer) (a b : List ℕ)
    → AreBinsRead P given a b → AreBinsRead Q given a b
read-before to (fetch.Held told) a b h = to told a b h
read-before to fetch.Nothing a b h = h
read-before to fetch.Lost a b h = h
read-before to fetch.Down a b h = h
read-before to fetch.DiskFault a b h = h

pub asked-before : {gives earlier : ℕ → Key → Held → List ℕ → List ℕ → Type 0} {l : Listed} {position n : ℕ} {w next : State} {s s' : Records}
    → ((m : ℕ) (key : Key) (told : Held) (a b : List ℕ) → gives m key told a b → earlier m key told a b)
    → IsRecordAsked gives l position n w next s s' → IsRecordAsked earlier l position n w next s s'
asked-before {l = l} {n = n} to asked = record {
  given = asked.given;
  before = asked.before;
  room = asked.room;
  fetched = asked.fetched;
  read = read-before (to n l.key) asked.given asked.before asked.room asked.read;
  records = asked.records;
}

all-asked-before : {gives earlier : ℕ → Key → Held → List ℕ → List ℕ → Type 0} (l : Listed)
    → ((m : ℕ) (key : Key) (told : Held) (a b : List ℕ) → gives m key told a b → earlier m key told a b)
    → (nodes : List ℕ) (position : ℕ) (w next : State) (s s' : Records) → AreAsked gives l position nodes w next s s' → AreAsked earlier l position nodes w next s s'
all-asked-before l to [] position w next s s' h = h
all-asked-before l to (n ∷ nodes) position w next s s' h =
    (h.0, h.1, asked-before to h.2, all-asked-before l to nodes (position + 1) h.0 next h.1 s' h.3)

pub found-before : {gives earlier : ℕ → Key → Held → List ℕ → List ℕ → Type 0} (layout : Layout) (l : Listed) (w next : State) (finding : Finding)
    → ((m : ℕ) (key : Key) (told : Held) (a b : List ℕ) → gives m key told a b → earlier m key told a b)
    → AreRecordsFound layout gives l w finding next → AreRecordsFound layout earlier l w finding next
found-before layout l w next finding to found = (found.0, all-asked-before l to l.info.places 0 w next (no_records layout) found.0 found.1, found.2)

-- one node is asked, and then the rest
pub asked-next : (gives : ℕ → Key → Held → List ℕ → List ℕ → Type 0) (l : Listed) (nodes : List ℕ) (i : ℕ) (w mid next : State) (s s' t : Records)
    → i < length nodes → IsRecordAsked gives l i (get_or nodes i 0) w mid s s' → AreAsked gives l (i + 1) (drop (i + 1) nodes) mid next s' t
    → AreAsked gives l i (drop i nodes) w next s t
asked-next gives l nodes i w mid next s s' t h asked rest =
    let P : List ℕ → Type 0 = λ xs. AreAsked gives l i xs w next s t in
    subst P (sym (drop_more nodes i 0 h)) (mid, s', asked, rest)
