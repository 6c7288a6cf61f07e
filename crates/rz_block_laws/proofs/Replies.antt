-- The replies of the export that a legal log has.
use Rattle.std.proofs.Common.{◌≡◌, ℕ, ◌<◌, ◌≤◌, ◌^◌, ◌==◌, true, List, ◌∷◌, Option, Some, None, refl, sym, subst, arith, nat_lt}
use Rattle.std.proofs.lemmas.Bool.{and_parts, ltb-true}
use Rattle.std.proofs.lemmas.Option.{slice_get_within}
use Rattle.std.specs.Prelude.{count_ones}
use Rattle.std.specs.Int.{bit_at}
use Rattle.mj_angles.specs.Layout.{safe_of, forward_of, block_bytes_of}
use Rattle.rz_events.specs.Volume.{Volume}
use Rattle.rz_events.specs.declared.keys.Actor.{Actor}
use Rattle.rz_events.specs.declared.keys.Key.{Key}
use Rattle.rz_events.specs.declared.files.Listed.{Listed}
use Rattle.rz_events.specs.declared.files.Published.{Published}
use Rattle.rz_events.specs.declared.tree.TreeCall.{TreeCall}
use Rattle.rz_events.specs.declared.tree.TreeCall.TheVariants as tree
use Rattle.rz_events.specs.declared.tree.TreeReply.{TreeReply}
use Rattle.rz_events.specs.declared.tree.TreeReply.TheVariants as told
use Rattle.rz_events.specs.declared.export.Call.{Call}
use Rattle.rz_events.specs.declared.export.Call.TheVariants as call
use Rattle.rz_events.specs.declared.export.Reply.{Reply}
use Rattle.rz_events.specs.declared.export.Reply.TheVariants as reply
use Rattle.rz_events.specs.declared.events.Event.{Event}
use Rattle.rz_events.specs.declared.events.Event.TheVariants as e
use Rattle.rz_export_model.specs.Export.{is_mask}
use Rattle.rz_export_model.specs.ExportEvents.{export_event}
use Rattle.rz_client_model.specs.Read.{IsTold}
use Rattle.rz_client_model.proofs.Masks.{in-below, safe-few}
use Rattle.rz_operation_model.specs.Rebuild.{IsNextAnswer, position_of}
use Rattle.rz_operation.specs.Answers.{IsReplyTo, HasPlaces}
use Rattle.rz_core.specs.History.{Begun, Facts, facts, length_in}
use Rattle.rz_core.specs.ExportWord.{accepted, published, stamp_in, with_length, last_drawn}
use Rattle.rz_core.specs.Legal.{IsLegalInRuns}
use Rattle.rz_core.proofs.Stamps.{export, accepted-begun, accepted-latest, accepted-mask, latest-drawn, positive}
use Rattle.rz_play_laws.specs.Own.{IsOpenReply}
use Rattle.rz_play_laws.specs.Fine.{IsTelling}
use Rattle.rz_play_laws.proofs.Telling.{wrote-short}
use Rattle.rz_block_laws.specs.Laws.{IsRepliedLaw}

same-event : (a b : Event) → Some a ≡ Some b → a ≡ b
same-event a b same = cc

-- ---- calls on names

tree-told : (v : Volume) (f : Facts) (c : TreeCall) (r : TreeReply) → IsOpenReply v f c r → HasPlaces v.layout r
tree-told v f (tree.OpenFile path) (told.File info) is = is.many
tree-told v f (_) (told.File info) is = absurd is
tree-told v f (_) (_) is = tt

module _ (v : Volume) (h : List Event) (legal : IsLegalInRuns v h) where
  -- ---- what is published

  mask-low : (mask : ℕ) → is_mask v.layout mask ≡ true → mask < 2 ^ safe_of v.layout
  mask-low mask is = ltb-true mask (2 ^ safe_of v.layout) (and_parts (count_ones mask == forward_of v.layout) (nat_lt mask (2 ^ safe_of v.layout)) is).1

  told-at : (key : Key) (a : Option (ℕ × ℕ)) → accepted (export h) key ≡ a → IsTold v.layout (with_length (facts h) a)
  told-at key None is = tt
  told-at key (Some a) is =
      let b = accepted-begun v h legal key a is in (
        positive v h legal a.0 b.0 b.1,
        mask-low a.1 (accepted-mask v h legal key a is),
        subst (λ (o : Option Begun). length_in o ≤ block_bytes_of v.layout) (sym b.1) (wrote-short v h legal a.0 b.0 b.1),
      )

  published-told : (key : Key) (p : Option Published) → p ≡ published (facts h) (export h) key → IsTold v.layout p
  published-told key p is = subst (IsTold v.layout) (sym is) (told-at key (accepted (export h) key) refl)

  -- ---- a begin

  based : (key : Key) (a : Option (ℕ × ℕ)) → accepted (export h) key ≡ a → stamp_in a ≤ last_drawn (export h)
  based key None is = omega arith
  based key (Some a) is =
      let latest = accepted-latest v h legal key a is in
      let drawn = latest-drawn v h legal key in
      omega (arith, latest, drawn)

  -- ---- each reply

  module _ (telling : IsTelling v) (by : Actor) where
    abbrev Follows : Event → Type 0
    Follows x = IsLegalInRuns v (x ∷ h)

    -- it follows as what it is
    as-is : (y x : Event) → Some y ≡ Some x → Follows x → Follows y
    as-is y x same = subst Follows (sym (same-event y x same))

    barred : (key : Key) (stamp mask position fence : ℕ) → Follows (e.Publish by key stamp mask (Some (position, fence))) → (position < 16) × (bit_at mask position ≡ 1)
    barred key stamp mask position fence follows =
        let row = follows.1.row in
        let low = in-below mask (safe_of v.layout) position (mask-low mask row.publishable.publishing.quorum) row.named in
        let few = safe-few v.layout in
        (omega (arith, low, few), row.named)

    listed : (n : ℕ) (after : Option Key) (l : Option Listed) → Follows (e.Next by n after l) → IsNextAnswer v.layout n l
    listed n after None follows = tt
    listed n after (Some l) follows =
        let it = telling h (e.Next by n after (Some l)) follows in
        let within = slice_get_within l.info.places (position_of n l) n it.at in
        let many = it.placing.many in
        record {
          places = many;
          position = omega (arith, within, many);
          published = published-told l.key (Some l.published) follows.1.row.listed.told;
        }

    pub replied : (c : Call) (r : Reply) (x : Event) → export_event by c r ≡ Some x → Follows x → IsReplyTo v.layout c r
    replied (call.Tree c) (reply.Tree a) x is follows = tree-told v (facts (e.Meta by c a ∷ h)) c a (telling h (e.Meta by c a) (as-is (e.Meta by c a) x is follows))
    replied (call.Tree c) (_) x is follows = absurd cc
    replied (call.Begin key text) (reply.Begun stamp base) x is follows =
        let row = (as-is (e.Begin by key stamp base text) x is follows).1.row in
        let next = row.next in
        let from = row.from in
        let low = based key (accepted (export h) key) refl in
        omega (arith, next, from, low)
    replied (call.Begin key text) (reply.Denied why) x is follows = tt
    replied (call.Begin key text) (_) x is follows = absurd cc
    replied (call.Publish key stamp mask size) reply.Accepted x is follows = tt
    replied (call.Publish key stamp mask size) (reply.Enrolled position fence) x is follows =
        barred key stamp mask position fence (as-is (e.Publish by key stamp mask (Some (position, fence))) x is follows)
    replied (call.Publish key stamp mask size) (reply.Revoked later) x is follows = tt
    replied (call.Publish key stamp mask size) (reply.Denied why) x is follows = tt
    replied (call.Publish key stamp mask size) (_) x is follows = absurd cc
    replied (call.Look key) (reply.Looked p) x is follows = published-told key p (as-is (e.Look by key p) x is follows).1.row.told
    replied (call.Look key) (reply.Denied why) x is follows = tt
    replied (call.Look key) (_) x is follows = absurd cc
    replied (call.Recheck key) (reply.Looked p) x is follows = published-told key p (as-is (e.Recheck by key p) x is follows).1.row.told
    replied (call.Recheck key) (reply.Denied why) x is follows = tt
    replied (call.Recheck key) (_) x is follows = absurd cc
    replied (call.Enroll n loss) (reply.Fence fence) x is follows = tt
    replied (call.Enroll n loss) (reply.Denied why) x is follows = tt
    replied (call.Enroll n loss) (_) x is follows = absurd cc
    replied (call.Next n after) (reply.Listed l) x is follows = listed n after l (as-is (e.Next by n after l) x is follows)
    replied (call.Next n after) (_) x is follows = absurd cc

pub replied-law : (v : Volume) → IsTelling v → IsRepliedLaw v
replied-law v telling h by c r x follows is = replied v h follows.0 telling by c r x is follows
