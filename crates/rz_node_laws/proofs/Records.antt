-- The records of a node after a change of what it holds.
use Rattle.std.proofs.Common.{ℕ, Bool, true, false, not, ◌≡◌, ◌==◌, ◌&&◌, ◌||◌, List, Option, Some, None, is_some, cond, refl, sym, ap, ◌∙◌, subst}
use Rattle.std.specs.Prelude.{if◌then◌else◌}
use Rattle.std.proofs.Math.Path.{fun_ext}
use Rattle.std.proofs.lemmas.Bool.{and_parts, eqb-true}
use Rattle.rz_events.specs.Volume.{Volume}
use Rattle.rz_events.specs.Events.{same_key}
use Rattle.rz_events.specs.declared.keys.Key.{Key}
use Rattle.rz_events.specs.declared.records.Head.{Head}
use Rattle.rz_events.specs.declared.records.Held.{Held}
use Rattle.rz_record.specs.Slot.{Rec}
use Rattle.rz_node_model.specs.Records.{held_of, with_held, stamp_of}
use Rattle.rz_node_model.specs.Records as held
use Rattle.rz_node_model.specs.Versions.{has_stamp}
use Rattle.rz_cells_slots.specs.Held.{changed, head_in, names}
use Rattle.rz_node.specs.CrashOutcomes.{GivesWay, is_new}
use Rattle.rz_node.specs.Change.{AreHeld, records_after, IsOf, IsChangeLaw}
use Rattle.rz_core.specs.History.{Facts}
use Rattle.rz_core.specs.HeldRecords.{record_on}
use Rattle.rz_core.specs.NodeWord.{itself}
use Rattle.rz_node_laws.specs.Records.{on_disk, stamps_of, records_in, IsRecordOf}
use Rattle.rz_node_model.proofs.RecordLaws.{held_of-with_held}
use Rattle.rz_node_laws.proofs.Held.{key-same, same-key, has-stamp}

-- the record of a write, as it stands on the disk of node n
abbrev pub written : Volume → Facts → ℕ → Key → ℕ → Option Rec
written v f n key stamp = on_disk (record_on v.layout n stamp (f.wrote stamp) (f.places key.fid))

split : (b : Bool) (o : Option (Head × List ℕ)) → on_disk (cond b o None) ≡ cond b (on_disk o) None
split true o = refl
split false o = refl

-- a stamp that is held has the record of its write
pub at-stamp : (v : Volume) (f : Facts) (n : ℕ) (kept : held.Records) (key : Key) (stamp : ℕ)
    → records_in v f n kept key stamp ≡ cond (has_stamp stamp_of stamp (held_of kept key)) (written v f n key stamp) None
at-stamp v f n kept key stamp =
    split (has_stamp itself stamp (stamps_of kept key)) (record_on v.layout n stamp (f.wrote stamp) (f.places key.fid))
    ∙ ap (λ b. cond b (written v f n key stamp) None) (has-stamp stamp (held_of kept key))

-- of each stamp that is held there is the write
abbrev pub Known : Volume → Facts → ℕ → held.Records → Type 0
Known v f n kept = (key : Key) (stamp : ℕ) → has_stamp stamp_of stamp (held_of kept key) ≡ true → is_some (written v f n key stamp) ≡ true

by-has : (b : Bool) (o : Option Rec) → (b ≡ true → is_some o ≡ true) → is_some (cond b o None) ≡ b
by-has true o known = known refl
by-has false o known = refl

pub known-held : (v : Volume) (f : Facts) (n : ℕ) (kept : held.Records) → Known v f n kept → AreHeld kept (records_in v f n kept)
known-held v f n kept known key stamp = ap is_some (at-stamp v f n kept key stamp) ∙ by-has (has_stamp stamp_of stamp (held_of kept key)) (written v f n key stamp) (known key stamp)

by-known : (b : Bool) (o : Option Rec) → is_some (cond b o None) ≡ b → b ≡ true → is_some o ≡ true
by-known true o is has = is
by-known false o is has = absurd (cc)

pub held-known : (v : Volume) (f : Facts) (n : ℕ) (kept : held.Records) → AreHeld kept (records_in v f n kept) → Known v f n kept
held-known v f n kept there key stamp has = by-known (has_stamp stamp_of stamp (held_of kept key)) (written v f n key stamp) (sym (ap is_some (at-stamp v f n kept key stamp)) ∙ there key stamp) has

-- ---- a new record

-- it is that of a write
abbrev pub IsWriteOf : Volume → Facts → ℕ → Option Rec → Type 0
IsWriteOf v f n new = (r : Rec) → new ≡ Some r → IsRecordOf v f n r.head r.bins

names-it : (h : Head) (key : Key) (stamp : ℕ) → names (Some h) key stamp ≡ true → (h.key ≡ key) × (h.stamp ≡ stamp)
names-it h key stamp is = let p = and_parts (same_key h.key key) (h.stamp == stamp) is in (key-same h.key key p.0, eqb-true h.stamp stamp p.1)

named-new : (v : Volume) (f : Facts) (n : ℕ) (new : Option Rec) → IsWriteOf v f n new → (key : Key) (stamp : ℕ) → names (head_in new) key stamp ≡ true → new ≡ written v f n key stamp
named-new v f n None write key stamp is = absurd (cc)
named-new v f n (Some r) write key stamp is =
    let p = names-it r.head key stamp is in
    let it : written v f n r.head.key r.head.stamp ≡ Some r = ap on_disk (write r refl) in
    subst (λ (q : Key). Some r ≡ written v f n q stamp) p.0 (subst (λ (t : ℕ). Some r ≡ written v f n r.head.key t) p.1 (sym it))

named-some : (new : Option Rec) (key : Key) (stamp : ℕ) → names (head_in new) key stamp ≡ true → is_some new ≡ true
named-some None key stamp is = absurd (cc)
named-some (Some r) key stamp is = refl

new-names : (new : Option Rec) (key : Key) (stamp : ℕ) → IsOf key new → names (head_in new) key stamp ≡ is_new new stamp
new-names None key stamp of = refl
new-names (Some r) key stamp of = ap (λ b. b && (r.head.stamp == stamp)) (subst (λ (q : Key). same_key r.head.key q ≡ true) (of r refl) (same-key r.head.key))

or-and : (a b c : Bool) → (a || (b && not c)) ≡ true → a ≡ false → b ≡ true
or-and true b c is absent = absurd (cc)
or-and false true c is absent = refl
or-and false false c is absent = is

-- ---- a change of the records of a key

module _ (v : Volume) (f : Facts) (n : ℕ) (kept : held.Records) (key : Key) (after : List Held) (new : Option Rec) (gone : Option Head)
    (way : GivesWay key (held_of kept key) after new gone) (of : IsOf key new) (write : IsWriteOf v f n new) (there : AreHeld kept (records_in v f n kept)) where
  abbrev later : held.Records
  later = with_held kept key after

  -- what is held then and is not new was held before
  before : (k : Key) (t : ℕ) → has_stamp stamp_of t (held_of later k) ≡ true → names (head_in new) k t ≡ false → has_stamp stamp_of t (held_of kept k) ≡ true
  before k t has other = go (same_key k key) refl (ap (has_stamp stamp_of t) (sym (held_of-with_held kept key after k)) ∙ has)
    where
      go : (b : Bool) → same_key k key ≡ b → has_stamp stamp_of t (cond b after (held_of kept k)) ≡ true → has_stamp stamp_of t (held_of kept k) ≡ true
      go false is has = has
      go true is has =
          let same = key-same k key is in
          let fresh : is_new new t ≡ false = sym (new-names new key t of) ∙ subst (λ (q : Key). names (head_in new) q t ≡ false) same other in
          subst (λ (q : Key). has_stamp stamp_of t (held_of kept q) ≡ true) (sym same)
          (or-and (is_new new t) (has_stamp stamp_of t (held_of kept key)) (names gone key t) (sym (way.stays t) ∙ has) fresh)

  known-then : Known v f n later
  known-then k t has = go (names (head_in new) k t) refl
    where
      go : (b : Bool) → names (head_in new) k t ≡ b → is_some (written v f n k t) ≡ true
      go true is = ap is_some (sym (named-new v f n new write k t is)) ∙ named-some new k t is
      go false is = held-known v f n kept there k t (before k t has is)

  pub held-then : AreHeld later (records_in v f n later)
  held-then = known-held v f n later known-then

  each : (k : Key) (t : ℕ) → records_after later new (records_in v f n kept) k t ≡ records_in v f n later k t
  each k t = go (has_stamp stamp_of t (held_of later k)) refl ∙ sym (at-stamp v f n later k t)
    where
      inner : (b : Bool) → names (head_in new) k t ≡ b → has_stamp stamp_of t (held_of later k) ≡ true → (if b then new else records_in v f n kept k t) ≡ written v f n k t
      inner true is has = named-new v f n new write k t is
      inner false is has = at-stamp v f n kept k t ∙ ap (λ (c : Bool). cond c (written v f n k t) None) (before k t has is)

      go : (b : Bool) → has_stamp stamp_of t (held_of later k) ≡ b
          → (if b then (if names (head_in new) k t then new else records_in v f n kept k t) else None) ≡ cond b (written v f n k t) None
      go true has = inner (names (head_in new) k t) refl has
      go false has = refl

  pub changed-is : IsChangeLaw → changed (records_in v f n kept) gone new ≡ records_in v f n later
  changed-is law = law key kept after new gone (records_in v f n kept) way of there ∙ fun_ext (λ k. fun_ext (λ t. each k t))
