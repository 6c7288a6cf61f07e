-- What is stored by a rule, and how a keep and a refill answer then.
use Rattle.std.proofs.Common.{◌≡◌, ℕ, ◌<◌, Bool, true, false, List, [], Option, Some, None, refl, sym, ◌∙◌, ap, subst, eq-eqb}
use Rattle.std.specs.Prelude.{IsTrue}
use Rattle.rz_events.specs.declared.keys.Key.{Key}
use Rattle.rz_events.specs.declared.records.Head.{Head}
use Rattle.rz_events.specs.declared.records.Held.{Held}
use Rattle.rz_events.specs.declared.nodes.Phase.{Phase}
use Rattle.rz_events.specs.declared.nodes.Phase.TheVariants.{Up}
use Rattle.rz_events.specs.declared.nodes.KeepAnswer.{KeepAnswer}
use Rattle.rz_events.specs.declared.nodes.RefillAnswer.{RefillAnswer}
use Rattle.std.specs.FinMap as maps
use Rattle.rz_events.specs.Keys.{key_cmp}
use Rattle.rz_node_model.specs.declared.pending.Pending.{Pending}
use Rattle.rz_node_model.specs.declared.pending.Pending.TheVariants as pending
use Rattle.rz_node_model.specs.Afterwards.{after_keep, after_refill}
use Rattle.rz_node_model.specs.Answers.{is_full, keep_unless, keep_room, keep_answer, refill_unless, refill_room, refill_answer, IsKeepAnswer, IsRefillAnswer}
use Rattle.rz_node_model.specs.Records.{Records, record_of, held_of, stamp_of, base_of, with_held, carried}
use Rattle.rz_node_model.specs.States.{NodeState}
use Rattle.rz_node_model.specs.Versions.{passes_keep, passes_refill}
use Rattle.rz_versions.specs.declared.versions.Room.TheVariants.{Put, Passed}
use Rattle.rz_versions.specs.Sides.{Sides, in_order, put_at, side_for, room}
use Rattle.rz_versions.specs.Sides as sides
use Rattle.rz_index.specs.declared.index.Entry.{Entry}
use Rattle.rz_index.specs.Indexed.{Indexed}
use Rattle.rz_cells_slots.specs.declared.geometry.Geometry.{Geometry}
use Rattle.rz_node.specs.declared.storing.Rule.{Rule}
use Rattle.rz_node.specs.declared.storing.Rule.TheVariants as rule
use Rattle.rz_node.specs.declared.storing.Stored.{Stored}
use Rattle.rz_node.specs.declared.storing.Stored.TheVariants as stored
use Rattle.rz_node.specs.DownDisk.{HoldsEitherHeld, IsDown}
use Rattle.rz_node.specs.Kept.{sides_in, held_by}
use Rattle.rz_node.specs.Spends.{keep_used, refill_used}
use Rattle.rz_node.specs.Stores.{passes, gives_way, stored_in, change_by, stored_room, stored_unless, stored_answer, IsStored, after_stored, stored_used, keep_of, refill_of}
use Rattle.rz_node.specs.View.{held_in}
use Rattle.rz_node.proofs.Keeps.{keep-passed, keep-put, refill-passed, refill-put, keep-answers, refill-answers}
use Rattle.rz_node.proofs.Places.{Placed}
use Rattle.rz_node.proofs.Views.{le-not}
use Rattle.rz_node.proofs.Waits.{down-keep, down-refill}

-- ---- by a rule

module _ (pairs : ℕ) (heads : List (Option Head)) (index : Indexed) (h : Head) (e : Entry) (placed : Placed pairs heads index h.key e) where
  pub by-passed : (by : Rule) (t : ℕ) → Passed t ≡ room (passes by sides.version_stamp sides.version_base h.stamp (in_order sides.version_stamp e.versions)) (side_for sides.version_stamp (gives_way by h.base) e.versions)
      → passes by stamp_of base_of h.stamp (held_of (held_by index.entries heads) h.key) ≡ Some t
  by-passed rule.Keep t is = keep-passed pairs heads index h e placed t is
  by-passed rule.Refill t is = refill-passed pairs heads index h e placed t is

  pub by-put : (by : Rule) (side : ℕ) → Put side ≡ room (passes by sides.version_stamp sides.version_base h.stamp (in_order sides.version_stamp e.versions)) (side_for sides.version_stamp (gives_way by h.base) e.versions)
      → (passes by stamp_of base_of h.stamp (held_of (held_by index.entries heads) h.key) ≡ None)
      × (in_order stamp_of (put_at (sides_in heads e.cell) side (Some (record_of h))) ≡ stored_in by (record_of h) (held_of (held_by index.entries heads) h.key))
  by-put rule.Keep side is = keep-put pairs heads index h e placed side is
  by-put rule.Refill side is = refill-put pairs heads index h e placed side is

pub by-none : (by : Rule) (t : ℕ) (held : List Held) → held ≡ [] → passes by stamp_of base_of t held ≡ None
by-none rule.Keep t held none = ap (passes_keep stamp_of t) none
by-none rule.Refill t held none = ap (passes_refill stamp_of base_of t) none

pub by-carried : (by : Rule) (key : Key) (r : Held) (held : Records) → with_held held key (stored_in by r (held_of held key)) ≡ carried (change_by by key r) held
by-carried rule.Keep key r held = refl
by-carried rule.Refill key r held = refl

-- the answer of a node that is up
pub stored-up : (phase : Phase) (entries : maps.FinMap key_cmp Entry) (heads : List (Option Head)) → phase ≡ Up → (pairs : ℕ) (by : Rule) (key : Key) (r : Held) (passed : Option ℕ) (no_room : Bool)
    → passes by stamp_of base_of r.stamp (held_of (held_by entries heads) key) ≡ passed → is_full pairs (held_by entries heads) key ≡ no_room → stored_answer pairs (held_in phase entries heads) by key r ≡ stored_unless passed (stored_room no_room)
stored-up phase entries heads up pairs by key r passed no_room p f =
    subst (λ (x : Phase). stored_answer pairs (held_in x entries heads) by key r ≡ stored_unless passed (stored_room no_room)) (sym up) (λ i. stored_unless (p i) (stored_room (f i)))

-- what a failing disk leaves
module _ (tells : Bool) (image : List ℕ → Type 0) (g : Geometry) (fence : ℕ) (held held' : Records) (same : held' ≡ held) (key : Key) (rs : List Held) (waits : IsTrue tells → HoldsEitherHeld g fence image held' (with_held held' key rs)) where
  by-down : (by : Rule) (r : Held) (s : Sides Held) → held_of held key ≡ in_order stamp_of s → passes by stamp_of base_of r.stamp (held_of held key) ≡ None → rs ≡ stored_in by r (held_of held key)
      → IsDown tells image g fence (Some (change_by by key r)) held'
  by-down rule.Keep r s is none leaves = down-keep tells image g fence held held' same key rs waits r s is none leaves
  by-down rule.Refill r s is none leaves = down-refill tells image g fence held held' same key rs waits r none leaves

  pub down-stored : (by : Rule) (r : Held) (s : Sides Held) (change : Pending) → change ≡ change_by by key r → held_of held key ≡ in_order stamp_of s → passes by stamp_of base_of r.stamp (held_of held key) ≡ None → rs ≡ stored_in by r (held_of held key)
      → IsDown tells image g fence (Some change) held'
  down-stored by r s change one is none leaves = subst (λ (x : Pending). IsDown tells image g fence (Some x) held') (sym one) (by-down by r s is none leaves)

-- ---- the answers of a keep and of a refill

as-keep : (sure given : Stored) → IsStored sure given → IsKeepAnswer (keep_of sure) (keep_of given)
as-keep sure stored.Kept is = ap keep_of is
as-keep sure (stored.Passed held) is = ap keep_of is
as-keep sure stored.Full is = ap keep_of is
as-keep sure stored.DiskFault is = ap keep_of is

as-refill : (sure given : Stored) → IsStored sure given → IsRefillAnswer (refill_of sure) (refill_of given)
as-refill sure stored.Kept is = ap refill_of is
as-refill sure (stored.Passed held) is = ap refill_of is
as-refill sure stored.Full is = ap refill_of is
as-refill sure stored.DiskFault is = ap refill_of is

of-keep : (passed : Option ℕ) (no_room : Bool) → keep_of (stored_unless passed (stored_room no_room)) ≡ keep_unless passed (keep_room no_room)
of-keep (Some t) no_room = refl
of-keep None true = refl
of-keep None false = refl

of-refill : (passed : Option ℕ) (no_room : Bool) → refill_of (stored_unless passed (stored_room no_room)) ≡ refill_unless passed (refill_room no_room)
of-refill (Some t) no_room = refl
of-refill None true = refl
of-refill None false = refl

pub answer-keep : (pairs : ℕ) (s : NodeState) (h : Head) (given : Stored) → s.phase ≡ Up → s.fence < h.stamp → IsStored (stored_answer pairs s.held rule.Keep h.key (record_of h)) given → IsKeepAnswer (keep_answer pairs s h.key h.stamp) (keep_of given)
answer-keep pairs s h given up above is =
    subst (λ (sure : KeepAnswer). IsKeepAnswer sure (keep_of given))
    (of-keep (passes_keep stamp_of h.stamp (held_of s.held h.key)) (is_full pairs s.held h.key)
    ∙ sym (keep-answers pairs s h.key h.stamp false (passes_keep stamp_of h.stamp (held_of s.held h.key)) (is_full pairs s.held h.key) up (le-not h.stamp s.fence above) refl refl))
    (as-keep (stored_answer pairs s.held rule.Keep h.key (record_of h)) given is)

pub answer-refill : (pairs : ℕ) (s : NodeState) (fence : ℕ) (h : Head) (given : Stored) → s.phase ≡ Up → fence ≡ s.fence → IsStored (stored_answer pairs s.held rule.Refill h.key (record_of h)) given
    → IsRefillAnswer (refill_answer pairs s fence h.key h.stamp) (refill_of given)
answer-refill pairs s fence h given up own is =
    subst (λ (sure : RefillAnswer). IsRefillAnswer sure (refill_of given))
    (of-refill (passes_refill stamp_of base_of h.stamp (held_of s.held h.key)) (is_full pairs s.held h.key)
    ∙ sym (refill-answers pairs s fence h.key h.stamp true (passes_refill stamp_of base_of h.stamp (held_of s.held h.key)) (is_full pairs s.held h.key) up (eq-eqb fence s.fence own) refl refl))
    (as-refill (stored_answer pairs s.held rule.Refill h.key (record_of h)) given is)

pub after-keep : (given : Stored) (s : NodeState) (key : Key) (r : Held) → after_stored given s (pending.Keep key r) ≡ after_keep (keep_of given) s key r
after-keep stored.Kept s key r = refl
after-keep (stored.Passed held) s key r = refl
after-keep stored.Full s key r = refl
after-keep stored.DiskFault s key r = refl

pub after-refill : (given : Stored) (s : NodeState) (key : Key) (r : Held) → after_stored given s (pending.Refill key r) ≡ after_refill (refill_of given) s key r
after-refill stored.Kept s key r = refl
after-refill (stored.Passed held) s key r = refl
after-refill stored.Full s key r = refl
after-refill stored.DiskFault s key r = refl

pub used-keep : (given : Stored) → stored_used given ≡ keep_used (keep_of given)
used-keep stored.Kept = refl
used-keep (stored.Passed held) = refl
used-keep stored.Full = refl
used-keep stored.DiskFault = refl

pub used-refill : (given : Stored) → stored_used given ≡ refill_used (refill_of given)
used-refill stored.Kept = refl
used-refill (stored.Passed held) = refl
used-refill stored.Full = refl
used-refill stored.DiskFault = refl
