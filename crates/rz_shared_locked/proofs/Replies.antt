-- Whose the event of a reply is, and which replies have one.
use Rattle.std.proofs.Common.{◌≡◌, ℕ, Bool, true, false, List, [], ◌∷◌, Option, Some, None, refl, subst, cond, ◌+◌, ◌==◌}
use Rattle.std.specs.Prelude.{unwrap_or, nat_lt}
use Rattle.std.specs.Option.{option_map, option_map_or, option_and_then, option_or}
use Rattle.rz_events.specs.declared.keys.Key.{Key}
use Rattle.rz_events.specs.declared.keys.Actor.{Actor}
use Rattle.rz_events.specs.declared.files.FileInfo.{FileInfo}
use Rattle.rz_events.specs.declared.ends.Denial.{Denial}
use Rattle.rz_events.specs.declared.ends.Denial.TheVariants as denial
use Rattle.rz_events.specs.declared.export.Call.{Call}
use Rattle.rz_events.specs.declared.export.Call.TheVariants as call
use Rattle.rz_events.specs.declared.export.Reply.{Reply}
use Rattle.rz_events.specs.declared.export.Reply.TheVariants as reply
use Rattle.rz_events.specs.declared.events.Word.TheVariants.{Export}
use Rattle.rz_events.specs.declared.events.Event.{Event}
use Rattle.rz_events.specs.Events.{by_of, word_of}
use Rattle.rz_export_model.specs.Firsts.{given_if}
use Rattle.rz_export_model.specs.Tree.{file_of}
use Rattle.rz_export_model.specs.Export.{Export as State, export_reply, export_after, unknown_file, latest_of, published_of, published_stamp, no_begin, no_look, no_publish, barred, fence_of, spent, new_fence, enroll_reply, after_begin, after_publish, after_enroll, draws}
use Rattle.rz_export_model.specs.ExportEvents.{export_event}
use Rattle.std.specs.FinMap as maps
use Rattle.rz_export_model.specs.Export as model

abbrev IsOf : Actor → Event → Type 0
IsOf by x = (word_of x ≡ Export) × (by_of x ≡ by)

moved : (by : Actor) (a x : Event) → Some a ≡ Some x → IsOf by a → IsOf by x
moved by a x e i = let same : a ≡ x = cc (e) in subst (IsOf by) same i

pub event-of : (by : Actor) (question : Call) (given : Reply) (x : Event) → export_event by question given ≡ Some x → IsOf by x
event-of by (call.Tree c) (reply.Tree r) x is = moved by _ x is (refl, refl)
event-of by (call.Tree c) given x is = absurd cc
event-of by (call.Begin key text) (reply.Begun stamp base) x is = moved by _ x is (refl, refl)
event-of by (call.Begin key text) (reply.Denied why) x is = moved by _ x is (refl, refl)
event-of by (call.Begin key text) given x is = absurd cc
event-of by (call.Publish key stamp mask size) reply.Accepted x is = moved by _ x is (refl, refl)
event-of by (call.Publish key stamp mask size) (reply.Enrolled position fence) x is = moved by _ x is (refl, refl)
event-of by (call.Publish key stamp mask size) (reply.Revoked later) x is = moved by _ x is (refl, refl)
event-of by (call.Publish key stamp mask size) (reply.Denied why) x is = moved by _ x is (refl, refl)
event-of by (call.Publish key stamp mask size) given x is = absurd cc
event-of by (call.Look key) (reply.Looked answer) x is = moved by _ x is (refl, refl)
event-of by (call.Look key) (reply.Denied why) x is = moved by _ x is (refl, refl)
event-of by (call.Look key) given x is = absurd cc
event-of by (call.Enroll node loss) (reply.Fence fence) x is = moved by _ x is (refl, refl)
event-of by (call.Enroll node loss) (reply.Denied why) x is = moved by _ x is (refl, refl)
event-of by (call.Enroll node loss) given x is = absurd cc
event-of by (call.Next node after) (reply.Listed answer) x is = moved by _ x is (refl, refl)
event-of by (call.Next node after) given x is = absurd cc
event-of by (call.Recheck key) (reply.Looked answer) x is = moved by _ x is (refl, refl)
event-of by (call.Recheck key) (reply.Denied why) x is = moved by _ x is (refl, refl)
event-of by (call.Recheck key) given x is = absurd cc

-- want of memory has none
pub no-memory : (by : Actor) (question : Call) → export_event by question reply.NoMemory ≡ None
no-memory by (call.Tree c) = refl
no-memory by (call.Begin key text) = refl
no-memory by (call.Publish key stamp mask size) = refl
no-memory by (call.Look key) = refl
no-memory by (call.Enroll node loss) = refl
no-memory by (call.Next node after) = refl
no-memory by (call.Recheck key) = refl

-- Each reply of an export has one.

abbrev pub HasEvent : Actor → Call → Reply → Type 0
HasEvent by question given = (x : Event) × (export_event by question given ≡ Some x)

begin-event : (by : Actor) (key : Key) (text : List ℕ) (stamp base : ℕ) (o : Option Denial) → HasEvent by (call.Begin key text) (option_map_or reply.Denied o (reply.Begun stamp base))
begin-event by key text stamp base None = (_, refl)
begin-event by key text stamp base (Some why) = (_, refl)

look-event : (by : Actor) (key : Key) (p : _) (o : Option Denial) → HasEvent by (call.Look key) (option_map_or reply.Denied o (reply.Looked p))
look-event by key p None = (_, refl)
look-event by key p (Some why) = (_, refl)

recheck-event : (by : Actor) (key : Key) (p : _) (o : Option Denial) → HasEvent by (call.Recheck key) (option_map_or reply.Denied o (reply.Looked p))
recheck-event by key p None = (_, refl)
recheck-event by key p (Some why) = (_, refl)

fence-event : (by : Actor) (node loss fence : ℕ) (o : Option Denial) → HasEvent by (call.Enroll node loss) (option_map_or reply.Denied o (reply.Fence fence))
fence-event by node loss fence None = (_, refl)
fence-event by node loss fence (Some why) = (_, refl)

cond-event : (by : Actor) (question : Call) (b : Bool) (p q : Reply) → HasEvent by question p → HasEvent by question q → HasEvent by question (cond b p q)
cond-event by question true p q one two = one
cond-event by question false p q one two = two

enroll-event : (by : Actor) (node loss : ℕ) (s : State) (o : Option model.Enrolled) → HasEvent by (call.Enroll node loss) (enroll_reply s loss o)
enroll-event by node loss s None = fence-event by node loss (s.last + 1) (spent s)
enroll-event by node loss s (Some e) =
    cond-event by (call.Enroll node loss) (nat_lt loss e.loss) (reply.Denied (denial.OldLoss e.loss)) (cond (loss == e.loss) (reply.Fence e.fence) (new_fence s)) (_, refl)
    (cond-event by (call.Enroll node loss) (loss == e.loss) (reply.Fence e.fence) (new_fence s) (_, refl) (fence-event by node loss (s.last + 1) (spent s)))

module _ (by : Actor) (key : Key) (stamp mask size : ℕ) where
  -- what stands against a publish has an event, if it is anything
  abbrev AllHave : Option Reply → Type 0
  AllHave o = (r : Reply) → o ≡ Some r → HasEvent by (call.Publish key stamp mask size) r

  have-some : (p : Reply) → HasEvent by (call.Publish key stamp mask size) p → AllHave (Some p)
  have-some p has r e = let same : p ≡ r = cc (e) in subst (HasEvent by (call.Publish key stamp mask size)) same has

  have-none : AllHave None
  have-none r e = absurd (cc (e))

  have-or : (a b : Option Reply) → AllHave a → AllHave b → AllHave (option_or a b)
  have-or None b one two = two
  have-or (Some p) b one two = one

  have-unless : (o : Option Reply) → AllHave o → HasEvent by (call.Publish key stamp mask size) (unwrap_or o reply.Accepted)
  have-unless None all = (_, refl)
  have-unless (Some p) all = all p refl

  have-denied : (o : Option Denial) → AllHave (option_map reply.Denied o)
  have-denied None = have-none
  have-denied (Some why) = have-some (reply.Denied why) (_, refl)

  have-if : (b : Bool) (later : ℕ) → AllHave (given_if b (reply.Revoked later))
  have-if true later = have-some (reply.Revoked later) (_, refl)
  have-if false later = have-none

  have-cond : (b : Bool) (i fence : ℕ) (rest : Option Reply) → AllHave rest → AllHave (cond b (Some (reply.Enrolled i fence)) rest)
  have-cond true i fence rest all = have-some (reply.Enrolled i fence) (_, refl)
  have-cond false i fence rest all = all

  have-barred : (s : State) (i : ℕ) (places : List ℕ) → AllHave (barred s mask stamp i places)
  have-barred s i [] = have-none
  have-barred s i (n ∷ places) = have-cond _ i (fence_of s n) (barred s mask stamp (i + 1) places) (have-barred s (i + 1) places)

  have-file : (s : State) (o : Option FileInfo) → AllHave (option_and_then (λ (info : FileInfo). barred s mask stamp 0 info.places) o)
  have-file s None = have-none
  have-file s (Some info) = have-barred s 0 info.places

  pub publish-event : (s : State) → HasEvent by (call.Publish key stamp mask size) (unwrap_or (no_publish s key stamp mask) reply.Accepted)
  publish-event s = have-unless (no_publish s key stamp mask)
      (have-or _ _ (have-denied (unknown_file s key)) (have-or _ _ (have-if (nat_lt stamp (latest_of s.blocks key)) (latest_of s.blocks key)) (have-or _ _ (have-file s (file_of s.tree key.fid)) have-none)))

pub reply-event : (by : Actor) (question : Call) (s : State) → HasEvent by question (export_reply s question)
reply-event by (call.Tree c) s = (_, refl)
reply-event by (call.Begin key text) s = begin-event by key text (s.last + 1) (published_stamp s.blocks key) (no_begin s key)
reply-event by (call.Publish key stamp mask size) s = publish-event by key stamp mask size s
reply-event by (call.Look key) s = look-event by key (published_of s.blocks key) (no_look s key)
reply-event by (call.Enroll node loss) s = enroll-event by node loss s (maps.get s.enrolled node)
reply-event by (call.Next node after) s = (_, refl)
reply-event by (call.Recheck key) s = recheck-event by key (published_of s.blocks key) (no_look s key)

-- An export stays of its volume.

after-or : {A : Type 0} (s t : State) (o : Option A) → t.volume ≡ s.volume → (option_map_or (λ (why : A). s) o t).volume ≡ s.volume
after-or s t None same = same
after-or s t (Some why) same = refl

after-cond : (s t : State) (b : Bool) → t.volume ≡ s.volume → (cond b t s).volume ≡ s.volume
after-cond s t true same = same
after-cond s t false same = refl

pub volume-after : (question : Call) (s : State) → (export_after s question).volume ≡ s.volume
volume-after (call.Tree c) s = refl
volume-after (call.Begin key text) s = after-or s (after_begin s key) (no_begin s key) refl
volume-after (call.Publish key stamp mask size) s = after-or s (after_publish s key (record { stamp = stamp; mask = mask; length = size })) (no_publish s key stamp mask) refl
volume-after (call.Look key) s = refl
volume-after (call.Enroll node loss) s = after-cond s _ (draws s loss (maps.get s.enrolled node)) refl
volume-after (call.Next node after) s = refl
volume-after (call.Recheck key) s = refl
