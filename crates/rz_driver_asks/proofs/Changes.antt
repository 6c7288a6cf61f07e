-- A call that changes the export: which ask it comes from, and that the machine which asked takes the reply and the log has room for it.
use Rattle.std.proofs.Common.{◌≡◌, ℕ, ◌≤◌, ◌+◌, ◌==◌, ◌&&◌, nat_lt, Bool, true, false, cond, List, [], ◌∷◌, Option, Some, None, IsSome, refl, arith}
use Rattle.std.specs.Prelude.{is_some, unwrap_or}
use Rattle.std.specs.Option.{option_map_or}
use Rattle.std.specs.FinMap as maps
use Rattle.mj_angles.specs.declared.layout.Layout.{Layout}
use Rattle.rz_events.specs.Masks.{has_bit}
use Rattle.rz_events.specs.declared.keys.Actor.{Actor}
use Rattle.rz_events.specs.declared.keys.Key.{Key}
use Rattle.rz_events.specs.declared.ends.Denial.{Denial}
use Rattle.rz_events.specs.declared.ends.Denial.TheVariants as denial
use Rattle.rz_events.specs.declared.tree.TreeCall.{TreeCall}
use Rattle.rz_events.specs.declared.tree.TreeCall.TheVariants as tree
use Rattle.rz_events.specs.declared.tree.TreeFault.{TreeFault}
use Rattle.rz_events.specs.declared.tree.TreeReply.{TreeReply}
use Rattle.rz_events.specs.declared.tree.TreeReply.TheVariants as told
use Rattle.rz_events.specs.declared.export.Call.{Call}
use Rattle.rz_events.specs.declared.export.Call.TheVariants as call
use Rattle.rz_events.specs.declared.export.Reply.{Reply}
use Rattle.rz_events.specs.declared.export.Reply.TheVariants as reply
use Rattle.rz_export_model.specs.TreeCalls.{reply_to}
use Rattle.rz_export_model.specs.Tree.{Tree}
use Rattle.rz_export_model.specs.Refusals.{refusal}
use Rattle.rz_export_model.specs.Export.{Enrolled, Export, barred, enroll_reply, export_reply, fence_of, new_fence, new_places, no_begin, no_publish, published_stamp, spent}
use Rattle.rz_export_model.specs.ExportEvents.{begin_event, enroll_event, publish_event}
use Rattle.rz_core.proofs.ExportPublish.{publish_cases}
use Rattle.rz_journal.specs.Said.{accepts, entry_of}
use Rattle.rz_operation.specs.Answers.{HasPlaces, IsBeginReply, IsEnrollReply, IsPublishReply, IsReplyTo}
use Rattle.rz_play.specs.Stops.{may_change}
use Rattle.rz_driver_asks.specs.Parts.{IsNotable, IsUncopied}

-- a call with an entry may change the export
pub entry-changes : (c : Call) → IsSome (entry_of c) → may_change c ≡ true
entry-changes (call.Tree (tree.Lookup path)) some = absurd (cc)
entry-changes (call.Tree (tree.Getattr path)) some = absurd (cc)
entry-changes (call.Tree (tree.Readlink path)) some = absurd (cc)
entry-changes (call.Tree (tree.Readdir path)) some = absurd (cc)
entry-changes (call.Tree (tree.OpenFile path)) some = absurd (cc)
entry-changes (call.Tree (tree.Rmdir path)) some = refl
entry-changes (call.Tree (tree.Mkdir path)) some = refl
entry-changes (call.Tree (tree.Create path)) some = refl
entry-changes (call.Tree (tree.Unlink path)) some = refl
entry-changes (call.Tree (tree.Setattr path mode mtime)) some = refl
entry-changes (call.Tree (tree.Rename path to)) some = refl
entry-changes (call.Tree (tree.Link path to)) some = refl
entry-changes (call.Tree (tree.Symlink target path)) some = refl
entry-changes (call.Begin key text) some = refl
entry-changes (call.Publish key stamp mask length) some = refl
entry-changes (call.Look key) some = absurd (cc)
entry-changes (call.Enroll node loss) some = refl
entry-changes (call.Next node after) some = absurd (cc)
entry-changes (call.Recheck key) some = absurd (cc)

-- a call joins those that the journal keeps
abbrev pub joins : Call → Reply → Bool
joins c r = is_some (entry_of c) && accepts r

-- ---- the replies to calls on names

-- neither names nor a target are in it, and no file was opened
abbrev IsPlain : Layout → TreeReply → Type 0
IsPlain layout r = HasPlaces layout r × IsUncopied r

module _ (layout : Layout) where
  either : (r : TreeReply) → IsPlain layout r → (o : Option TreeFault) → IsPlain layout (option_map_or told.Refused o r)
  either r plain None = plain
  either r plain (Some fault) = (tt, tt)

  names : (t : Tree) (cid : ℕ) (places : List ℕ) (c : TreeCall) → is_some (entry_of (call.Tree c)) ≡ true → IsPlain layout (reply_to t cid places c)
  names t cid places (tree.Lookup path) some = cc
  names t cid places (tree.Getattr path) some = cc
  names t cid places (tree.Readlink path) some = cc
  names t cid places (tree.Readdir path) some = cc
  names t cid places (tree.OpenFile path) some = cc
  names t cid places (tree.Rmdir path) some = either _ (tt, tt) (refusal t (tree.Rmdir path))
  names t cid places (tree.Mkdir path) some = either _ (tt, tt) (refusal t (tree.Mkdir path))
  names t cid places (tree.Create path) some = either _ (tt, tt) (refusal t (tree.Create path))
  names t cid places (tree.Unlink path) some = either _ (tt, tt) (refusal t (tree.Unlink path))
  names t cid places (tree.Setattr path mode mtime) some = either _ (tt, tt) (refusal t (tree.Setattr path mode mtime))
  names t cid places (tree.Rename path to) some = either _ (tt, tt) (refusal t (tree.Rename path to))
  names t cid places (tree.Link path to) some = either _ (tt, tt) (refusal t (tree.Link path to))
  names t cid places (tree.Symlink target path) some = either _ (tt, tt) (refusal t (tree.Symlink target path))

  -- ---- a call that joins is one whose reply the machine takes

  and-first : (a b : Bool) → (a && b) ≡ true → a ≡ true
  and-first true b is = refl
  and-first false b is = cc

  module _ (s : Export) where
    begins : (key : Key) → published_stamp s.blocks key ≤ s.last → (o : Option Denial) → IsBeginReply (option_map_or reply.Denied o (reply.Begun (s.last + 1) (published_stamp s.blocks key)))
    begins key low None = omega (arith, low)
    begins key low (Some why) = tt

    freed : (mask i fence : ℕ) (rest : Option Reply) → (accepts (unwrap_or rest reply.Accepted) ≡ true → IsPublishReply mask (unwrap_or rest reply.Accepted)) → (b : Bool)
        → accepts (unwrap_or (cond b (Some (reply.Enrolled i fence)) rest) reply.Accepted) ≡ true → IsPublishReply mask (unwrap_or (cond b (Some (reply.Enrolled i fence)) rest) reply.Accepted)
    freed mask i fence rest then true accepted = cc
    freed mask i fence rest then false accepted = then accepted

    free : (mask stamp i : ℕ) (places : List ℕ) → accepts (unwrap_or (barred s mask stamp i places) reply.Accepted) ≡ true → IsPublishReply mask (unwrap_or (barred s mask stamp i places) reply.Accepted)
    free mask stamp i [] is = tt
    free mask stamp i (n ∷ places) is =
        freed mask i (fence_of s n) (barred s mask stamp (i + 1) places) (free mask stamp (i + 1) places) (has_bit mask i && nat_lt stamp (fence_of s n)) is

    publishes : (key : Key) (stamp mask : ℕ) → accepts (unwrap_or (no_publish s key stamp mask) reply.Accepted) ≡ true → IsPublishReply mask (unwrap_or (no_publish s key stamp mask) reply.Accepted)
    publishes key stamp mask =
        publish_cases s key stamp mask (λ o. accepts (unwrap_or o reply.Accepted) ≡ true → IsPublishReply mask (unwrap_or o reply.Accepted))
        (λ none is. tt) (λ info there late is. tt) (λ info there low. free mask stamp 0 info.places)

    fences : (o : Option Denial) → IsEnrollReply (option_map_or reply.Denied o (reply.Fence (s.last + 1)))
    fences None = tt
    fences (Some why) = tt

    enrolls : (loss : ℕ) (o : Option Enrolled) → IsEnrollReply (enroll_reply s loss o)
    enrolls loss None = fences (spent s)
    enrolls loss (Some e) = old (nat_lt loss e.loss)
      where
        same : (b : Bool) → IsEnrollReply (cond b (reply.Fence e.fence) (new_fence s))
        same true = tt
        same false = fences (spent s)

        old : (b : Bool) → IsEnrollReply (cond b (reply.Denied (denial.OldLoss e.loss)) (cond (loss == e.loss) (reply.Fence e.fence) (new_fence s)))
        old true = tt
        old false = same (loss == e.loss)

    pub takes-joined : (c : Call) → joins c (export_reply s c) ≡ true → ((key : Key) → published_stamp s.blocks key ≤ s.last) → IsReplyTo layout c (export_reply s c)
    takes-joined (call.Tree c) is low = (names s.tree (new_places s).cid (new_places s).places c (and-first (is_some (entry_of (call.Tree c))) _ is)).0
    takes-joined (call.Begin key text) is low = begins key (low key) (no_begin s key)
    takes-joined (call.Publish key stamp mask length) is low = publishes key stamp mask is
    takes-joined (call.Look key) is low = cc
    takes-joined (call.Enroll node loss) is low = enrolls loss (maps.get s.enrolled node)
    takes-joined (call.Next node after) is low = cc
    takes-joined (call.Recheck key) is low = cc

    -- and of whose reply there is an event, for which nothing is copied

    free-noted : (by : Actor) (key : Key) (stamp mask length i fence : ℕ) (rest : Option Reply) → IsSome (publish_event by (call.Publish key stamp mask length) (unwrap_or rest reply.Accepted)) → (b : Bool)
        → IsSome (publish_event by (call.Publish key stamp mask length) (unwrap_or (cond b (Some (reply.Enrolled i fence)) rest) reply.Accepted))
    free-noted by key stamp mask length i fence rest then true = refl
    free-noted by key stamp mask length i fence rest then false = then

    free-event : (by : Actor) (key : Key) (stamp mask length i : ℕ) (places : List ℕ) → IsSome (publish_event by (call.Publish key stamp mask length) (unwrap_or (barred s mask stamp i places) reply.Accepted))
    free-event by key stamp mask length i [] = refl
    free-event by key stamp mask length i (n ∷ places) =
        free-noted by key stamp mask length i (fence_of s n) (barred s mask stamp (i + 1) places) (free-event by key stamp mask length (i + 1) places) (has_bit mask i && nat_lt stamp (fence_of s n))

    pub notes-joined : (by : Actor) (c : Call) → joins c (export_reply s c) ≡ true → IsNotable by c (export_reply s c)
    notes-joined by (call.Tree c) is = (_, refl, (names s.tree (new_places s).cid (new_places s).places c (and-first (is_some (entry_of (call.Tree c))) _ is)).1)
    notes-joined by (call.Begin key text) is = begun (no_begin s key)
      where
        begun : (o : Option Denial) → IsSome (begin_event by (call.Begin key text) (option_map_or reply.Denied o (reply.Begun (s.last + 1) (published_stamp s.blocks key))))
        begun None = refl
        begun (Some why) = refl
    notes-joined by (call.Publish key stamp mask length) is =
        publish_cases s key stamp mask (λ o. IsSome (publish_event by (call.Publish key stamp mask length) (unwrap_or o reply.Accepted)))
        (λ none. refl) (λ info there late. refl) (λ info there low. free-event by key stamp mask length 0 info.places)
    notes-joined by (call.Look key) is = cc
    notes-joined by (call.Enroll node loss) is = by_entry (maps.get s.enrolled node)
      where
        IsFenced : Reply → Type 0
        IsFenced r = IsSome (enroll_event by (call.Enroll node loss) r)

        fenced : (o : Option Denial) → IsFenced (option_map_or reply.Denied o (reply.Fence (s.last + 1)))
        fenced None = refl
        fenced (Some why) = refl

        by_entry : (o : Option Enrolled) → IsFenced (enroll_reply s loss o)
        by_entry None = fenced (spent s)
        by_entry (Some e) = old (nat_lt loss e.loss)
          where
            same : (b : Bool) → IsFenced (cond b (reply.Fence e.fence) (new_fence s))
            same true = refl
            same false = fenced (spent s)

            old : (b : Bool) → IsFenced (cond b (reply.Denied (denial.OldLoss e.loss)) (cond (loss == e.loss) (reply.Fence e.fence) (new_fence s)))
            old true = refl
            old false = same (loss == e.loss)
    notes-joined by (call.Next node after) is = cc
    notes-joined by (call.Recheck key) is = cc
