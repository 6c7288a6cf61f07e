-- The images by the log: what a longer log leaves, and the records that the events of a word give.
use Rattle.std.proofs.Common.{ℕ, zero, suc, Bool, true, false, ◌≡◌, ◌⊎◌, inl, inr, ◌+◌, ◌*◌, ◌<◌, ◌≤◌, ◌==◌, List, [], ◌∷◌, ◌++◌, map, length, get_or, Option, Some, None, is_some, cond, refl, sym, ap, ◌∙◌, subst, arith, eq-eqb}
use Rattle.std.specs.Prelude.{slice_get}
use Rattle.std.specs.Option.{option_map}
use Rattle.std.proofs.Math.Path.{fun_ext}
use Rattle.std.proofs.lemmas.Bool.{eqb-true, cases_lt}
use Rattle.std.proofs.lemmas.List.{get_or_past}
use Rattle.rz_events.specs.Volume.{Volume}
use Rattle.rz_events.specs.Events.{same_key}
use Rattle.rz_events.specs.declared.keys.Key.{Key}
use Rattle.rz_events.specs.declared.records.Change.{Change}
use Rattle.rz_events.specs.declared.records.Change.TheVariants as change
use Rattle.rz_events.specs.declared.records.Head.{Head}
use Rattle.rz_events.specs.declared.records.Held.{Held}
use Rattle.rz_events.specs.declared.events.Event.{Event}
use Rattle.rz_record.specs.Record.{IsRecord, IsValid}
use Rattle.rz_record.specs.Slot.{Rec, Reads}
use Rattle.rz_node_model.specs.declared.pending.Pending.{Pending}
use Rattle.rz_node_model.specs.Afterwards.{taken}
use Rattle.rz_node_model.specs.Records.{Records, held_of, with_held, carried, stamp_of}
use Rattle.rz_node_model.specs.States.{NodeState}
use Rattle.rz_node_model.specs.Versions.{kept, refilled, without, has_stamp}
use Rattle.rz_cells_slots.specs.declared.geometry.Geometry.{Geometry}
use Rattle.rz_cells_slots.specs.Held as cells
use Rattle.rz_cells_slots.specs.Shape.{picked}
use Rattle.rz_cells_slots.specs.Stands.{HoldsCells, StandsFor}
use Rattle.rz_node.specs.Change.{AreHeld}
use Rattle.rz_operation_model.specs.Rebuild.{position_in}
use Rattle.rz_core.specs.History.{Facts, Begun, facts}
use Rattle.rz_core.specs.Longer.{IsPermanent}
use Rattle.rz_core.specs.NodeWord.{undecided, held, base_begun, changed, settled, itself}
use Rattle.rz_core.specs.HeldRecords.{record_at, record_on, records_of, held_records, settled_records}
use Rattle.rz_core.specs.Tied.{record_in, pending_in, IsNode}
use Rattle.rz_log_laws.specs.Places.{IsApart}
use Rattle.rz_node_laws.specs.Records.{on_disk, stamps_of, records_in}
use Rattle.rz_node_laws.specs.Images.{AreImages, IsImaged}
use Rattle.rz_node_laws.specs.Laws.{IsLongerLaw, IsLogLaw, IsWrittenLaw, IsFetchLaw}
use Rattle.rz_node_model.proofs.RecordLaws.{held_of-with_held}
use Rattle.rz_node_laws.proofs.Held.{key-same, kept-stamps, refilled-stamps, without-stamps}
use Rattle.rz_node_laws.proofs.Records.{written, at-stamp, held-known}
use Rattle.rz_node_laws.proofs.ImageCalls.{text-stands, fetch-up}

-- ---- a longer log

-- a record whose write is known stays
record-stays : (v : Volume) (n stamp : ℕ) (b c : Option Begun) (p q : Option (List ℕ)) → ((x : Begun) → b ≡ Some x → c ≡ Some x) → ((x : List ℕ) → p ≡ Some x → q ≡ Some x)
    → is_some (on_disk (record_on v.layout n stamp b p)) ≡ true → record_on v.layout n stamp c q ≡ record_on v.layout n stamp b p
record-stays v n stamp (Some b) c (Some p) q wrote placed known =
    ap (λ (o : Option Begun). record_on v.layout n stamp o q) (wrote b refl) ∙ ap (record_on v.layout n stamp (Some b)) (placed p refl)
record-stays v n stamp None c p q wrote placed known = absurd (cc)
record-stays v n stamp (Some b) c None q wrote placed known = absurd (cc)

module _ (v : Volume) (h more : List Event) (n : ℕ) (permanent : IsPermanent h more) where
  abbrev fewer : Facts
  fewer = facts h

  abbrev further : Facts
  further = facts (more ++ h)

  written-stays : (key : Key) (stamp : ℕ) → is_some (written v fewer n key stamp) ≡ true → written v further n key stamp ≡ written v fewer n key stamp
  written-stays key stamp known =
      ap on_disk (record-stays v n stamp (fewer.wrote stamp) (further.wrote stamp) (fewer.places key.fid) (further.places key.fid) (permanent.wrote stamp) (permanent.places key.fid) known)

  records-stay : (kept : Records) → AreHeld kept (records_in v fewer n kept) → records_in v further n kept ≡ records_in v fewer n kept
  records-stay kept there = fun_ext (λ key. fun_ext (λ stamp.
      at-stamp v further n kept key stamp ∙ go key stamp (has_stamp stamp_of stamp (held_of kept key)) refl ∙ sym (at-stamp v fewer n kept key stamp)))
    where
      go : (key : Key) (stamp : ℕ) (b : Bool) → has_stamp stamp_of stamp (held_of kept key) ≡ b → cond b (written v further n key stamp) None ≡ cond b (written v fewer n key stamp) None
      go key stamp true has = written-stays key stamp (held-known v fewer n kept there key stamp has)
      go key stamp false has = refl

  still-held : (kept : Records) → AreHeld kept (records_in v fewer n kept) → AreHeld kept (records_in v further n kept)
  still-held kept there = subst (AreHeld kept) (sym (records-stay kept there)) there

  pub longer : (g : Geometry) (s : NodeState) (image : List ℕ → Type 0) → IsImaged v fewer n s g image → IsImaged v further n s g image
  longer g s image imaged = record {
    decided = imaged.decided;
    held = still-held s.held imaged.held;
    pending = still-held (taken s.undecided s.held) imaged.pending;
    each = λ there c left. elim (imaged.each there c left) [
      | inl was ↦ inl (subst (StandsFor g s.fence c) (sym (records-stay s.held imaged.held)) was)
      | inr has ↦ inr (subst (StandsFor g s.fence c) (sym (records-stay (taken s.undecided s.held) imaged.pending)) has)
    ];
  }

pub longer-law : {D : Type 0} (image : D → List ℕ → Type 0) → ((h more : List Event) → IsPermanent h more) → IsLongerLaw image
longer-law image permanent v h more n g s d imaged = longer v h more n (permanent h more) g s (image d) imaged

-- ---- by the log

stamps-back : (f : Facts) (stamps : List ℕ) → map stamp_of (map (record_in f) stamps) ≡ stamps
stamps-back f [] = refl
stamps-back f (s ∷ stamps) = ap (λ (rest : List ℕ). s ∷ rest) (stamps-back f stamps)

module _ (f : Facts) (w : List Event) (s : NodeState) (tied : IsNode f w s) where
  held-stamps : (key : Key) → stamps_of s.held key ≡ held f w key
  held-stamps key = ap (map stamp_of) (tied.held_is key) ∙ stamps-back f (held f w key)

  -- the stamps of a key after a change of one key
  other-key : (key : Key) (rs : List Held) (after : List ℕ → List ℕ) → map stamp_of rs ≡ after (stamps_of s.held key) → (q : Key)
      → stamps_of (with_held s.held key rs) q ≡ cond (same_key q key) (after (held f w q)) (held f w q)
  other-key key rs after is q = ap (map stamp_of) (held_of-with_held s.held key rs q) ∙ go (same_key q key) refl
    where
      go : (b : Bool) → same_key q key ≡ b → map stamp_of (cond b rs (held_of s.held q)) ≡ cond b (after (held f w q)) (held f w q)
      go true same = is ∙ ap after (held-stamps key) ∙ ap (λ (k : Key). after (held f w k)) (sym (key-same q key same))
      go false other = held-stamps q

  changed-stamps : (c : Change) (q : Key) → stamps_of (carried (pending_in f c) s.held) q ≡ changed f q c (held f w q)
  changed-stamps (change.Keep key stamp position) q =
      other-key key (kept stamp_of (base_begun f stamp) (record_in f stamp) (held_of s.held key)) (kept itself (base_begun f stamp) stamp)
      (kept-stamps (base_begun f stamp) (record_in f stamp) (held_of s.held key)) q
  changed-stamps (change.Refill fence key stamp position) q =
      other-key key (refilled stamp_of (record_in f stamp) (held_of s.held key)) (refilled itself stamp) (refilled-stamps (record_in f stamp) (held_of s.held key)) q
  changed-stamps (change.Drop key stamp) q =
      other-key key (without stamp_of stamp (held_of s.held key)) (without itself stamp) (without-stamps stamp (held_of s.held key)) q

  settled-stamps : (q : Key) → stamps_of (taken s.undecided s.held) q ≡ settled f q (undecided w) (held f w q)
  settled-stamps q = ap (λ (u : Option Pending). stamps_of (taken u s.held) q) tied.undecided_is ∙ go (undecided w)
    where
      go : (u : Option Change) → stamps_of (taken (option_map (pending_in f) u) s.held) q ≡ settled f q u (held f w q)
      go None = held-stamps q
      go (Some c) = changed-stamps c q

  module _ (v : Volume) (n : ℕ) where
    abbrev by-stamps : (Key → List ℕ) → cells.Records
    by-stamps stamps key stamp = on_disk (records_of v f n stamps key stamp)

    held-are : records_in v f n s.held ≡ (λ key stamp. on_disk (held_records v f w n key stamp))
    held-are = ap by-stamps (fun_ext held-stamps)

    settled-are : records_in v f n (taken s.undecided s.held) ≡ (λ key stamp. on_disk (settled_records v f w n key stamp))
    settled-are = ap by-stamps (fun_ext settled-stamps)

    pub images : (g : Geometry) (image : List ℕ → Type 0) → IsImaged v f n s g image → AreImages v f w n g image
    images g image imaged there c left =
        subst (λ (fence : ℕ). StandsFor g fence c (λ key stamp. on_disk (held_records v f w n key stamp)) ⊎ StandsFor g fence c (λ key stamp. on_disk (settled_records v f w n key stamp))) tied.fence_is
        (elim (imaged.each (λ lost. there (sym tied.phase_is ∙ lost)) c left) [
          | inl was ↦ inl (subst (StandsFor g s.fence c) held-are was)
          | inr has ↦ inr (subst (StandsFor g s.fence c) settled-are has)
        ])

pub log-law : {D : Type 0} (image : D → List ℕ → Type 0) → IsLogLaw image
log-law image v f w n g s d tied imaged = images f w s tied v n g (image d) imaged

-- ---- the record of a write

apart-more : (m : ℕ) (places : List ℕ) → IsApart (m ∷ places) → IsApart places
apart-more m places apart p q k at there = let same : suc p ≡ suc q = apart (suc p) (suc q) k at there in omega (arith, same)

-- the node of a position is found there, where no node stands twice
position-is : (n : ℕ) (places : List ℕ) (i p : ℕ) → IsApart places → slice_get places p ≡ Some n → position_in n i places ≡ i + p
position-is n [] i p apart at = absurd (cc)
position-is n (m ∷ places) i zero apart at = first (m == n) refl
  where
    first : (b : Bool) → (m == n) ≡ b → cond b i (position_in n (i + 1) places) ≡ i + 0
    first true is = omega arith
    first false is = let same : m ≡ n = cc in let yes : (m == n) ≡ true = eq-eqb m n same in absurd (cc)
position-is n (m ∷ places) i (suc p) apart at = next (position-is n places (i + 1) p (apart-more m places apart) at) (m == n) refl
  where
    next : position_in n (i + 1) places ≡ i + 1 + p → (b : Bool) → (m == n) ≡ b → cond b i (position_in n (i + 1) places) ≡ i + suc p
    next rest true is =
        let same : Some m ≡ Some n = ap Some (eqb-true m n is) in
        let never : 0 ≡ suc p = apart 0 (suc p) n same at in
        absurd (omega (arith, never))
    next rest false is = omega (arith, rest)

pub written-law : IsWrittenLaw
written-law v f n head bins w =
    let place : position_in n 0 w.places ≡ head.position = (let p = position-is n w.places 0 head.position w.apart w.at in omega (arith, p)) in
    ap (λ (o : Option Begun). record_on v.layout n head.stamp o (f.places head.key.fid)) w.wrote
    ∙ ap (record_on v.layout n head.stamp (Some w.begun)) w.placed
    ∙ ap (λ (p : ℕ). Some (record_at v.layout head.stamp w.begun p)) place
    ∙ (λ i. Some (sym w.head_is i, sym w.bins_are i))

-- ---- a record that was read

some-cond : (b : Bool) (o : Option Rec) (r : Rec) → cond b o None ≡ Some r → o ≡ Some r
some-cond true o r is = is
some-cond false o r is = absurd (cc)

from-disk : (o : Option (Head × List ℕ)) (r : Rec) → on_disk o ≡ Some r → o ≡ Some (r.head, r.bins)
from-disk None r is = absurd (cc)
from-disk (Some p) r is =
    let it : Rec = record { head = p.0; bins = p.1 } in
    let same : it ≡ r = cc in
    ap (λ (q : Rec). Some (q.head, q.bins)) same

-- a cell that has a record is one of them
in-cells : (cells : List (Option Rec)) (c : ℕ) (r : Rec) → get_or cells c None ≡ Some r → c < length cells
in-cells cells c r is = go (cases_lt c (length cells))
  where
    go : (c < length cells) ⊎ (length cells ≤ c) → c < length cells
    go (inl within) = within
    go (inr past) = let none : get_or cells c None ≡ None = get_or_past cells c None past in absurd (cc)

-- the head of a record that a text stands for may be one of a record
valid-head : (g : Geometry) (fence : ℕ) (text : List ℕ) (cells : List (Option Rec)) → HoldsCells g fence text cells → (c : ℕ) (r : Rec) → get_or cells c None ≡ Some r → IsValid r.head
valid-head g fence text cells holds c r is =
    let few : c < 2 * g.cells = (let within = in-cells cells c r is in let count = holds.count in omega (arith, within, count)) in
    let it : IsRecord (picked g text c) r.head r.bins = subst (λ (o : Option Rec). Reads (picked g text c) o) is (holds.each c few) in
    it.head.valid

pub fetch-law : {D : Type 0} (text : D → List ℕ) (image : D → List ℕ → Type 0) → ((d : D) → image d (text d)) → IsFetchLaw text image
fetch-law text image at v f n cells g s key position stamp told bins bins' old new given leaves imaged =
    let stands = text-stands v f n g s (text old) (image old) (at old) (fetch-up s.phase _ told (sym given)) imaged in
    let read = leaves.1 (records_in v f n s.held) stands in
    let r = read.0 in
    let there = stands.2.there key told.stamp r read.1 in
    let is : record_on v.layout n told.stamp (f.wrote told.stamp) (f.places key.fid) ≡ Some (r.head, r.bins) =
    from-disk (record_on v.layout n told.stamp (f.wrote told.stamp) (f.places key.fid)) r
    (some-cond (has_stamp stamp_of told.stamp (held_of s.held key)) (written v f n key told.stamp) r (sym (at-stamp v f n s.held key told.stamp) ∙ read.1)) in
    record {
      head = r.head;
      bins = r.bins;
      it = subst (λ (k : Key). record_on v.layout n r.head.stamp (f.wrote r.head.stamp) (f.places k.fid) ≡ Some (r.head, r.bins)) (sym there.2)
          (subst (λ (t : ℕ). record_on v.layout n t (f.wrote t) (f.places key.fid) ≡ Some (r.head, r.bins)) (sym there.3) is);
      valid = valid-head g s.fence (text old) stands.0 stands.1 there.0 r there.1;
      key_is = there.2;
      told_is = sym read.2;
      bins_are = read.3;
    }
