-- Which events are shown.
use Rattle.std.proofs.Common.{◌≡◌, ℕ, false, cond, List, [], ◌∷◌, ◌++◌, Option, Some, None, refl, sym, ◌∙◌, ap, append-nil}
use Rattle.rz_events.specs.declared.keys.Actor.{Actor}
use Rattle.rz_events.specs.declared.files.FileInfo.{FileInfo}
use Rattle.rz_events.specs.declared.tree.TreeCall.{TreeCall}
use Rattle.rz_events.specs.declared.tree.TreeCall.TheVariants as tree
use Rattle.rz_events.specs.declared.tree.TreeReply.{TreeReply}
use Rattle.rz_events.specs.declared.tree.TreeReply.TheVariants as reply
use Rattle.rz_events.specs.declared.export.Call.{Call}
use Rattle.rz_events.specs.declared.export.Call.TheVariants as call
use Rattle.rz_events.specs.declared.export.Reply.{Reply}
use Rattle.rz_events.specs.declared.export.Reply.TheVariants as answer
use Rattle.rz_export_model.specs.ExportEvents.{export_event}
use Rattle.rz_events.specs.declared.events.Word.TheVariants.{Node}
use Rattle.rz_events.specs.declared.events.Event.{Event}
use Rattle.rz_events.specs.declared.events.Event.TheVariants as e
use Rattle.rz_events.specs.Events.{word_of}
use Rattle.rz_play.specs.Lines.{noted}
use Rattle.rz_show.specs.Shown.{file_in, is_open, is_shown, shown_in, shown_of}

pub shown-noted : (event : Option Event) (own : List Event) → shown_of (noted event own) ≡ shown_of own ++ shown_in event
shown-noted (Some x) own = refl
shown-noted None own = sym (append-nil (shown_of own))

-- no event of a node is shown
node-unshown : (x : Event) (n : ℕ) → word_of x ≡ Node n → is_shown x ≡ false
node-unshown (e.Got by number key part end) n is = cc
node-unshown (e.Gave by number key part end) n is = cc
node-unshown (e.Done by number answer) n is = cc
node-unshown (e.Meta by call reply) n is = cc
node-unshown (_) n is = refl

pub unshown-of : (x : Event) (own : List Event) → is_shown x ≡ false → shown_of (x ∷ own) ≡ shown_of own
unshown-of x own un = ap (λ b. shown_of own ++ cond b (x ∷ []) []) un ∙ append-nil (shown_of own)

pub node-shown : (event : Option Event) (n : ℕ) (own : List Event) → ((x : Event) → event ≡ Some x → word_of x ≡ Node n) → shown_of (noted event own) ≡ shown_of own
node-shown (Some x) n own is = unshown-of x own (node-unshown x n (is x refl))
node-shown None n own is = refl

-- a reply that tells no file has no event that is shown

unnamed : (by : Actor) (c : TreeCall) (r : TreeReply) → file_in (answer.Tree r) ≡ None → is_open c r ≡ false
unnamed by (tree.OpenFile path) (reply.File info) is = absurd (cc)
unnamed by (tree.OpenFile path) (_) is = refl
unnamed by (_) (_) is = refl

pub unopened : (by : Actor) (c : Call) (r : Reply) → file_in r ≡ None → shown_in (export_event by c r) ≡ []
unopened by (call.Tree c) (answer.Tree r) is = ap (λ b. cond b (e.Meta by c r ∷ []) []) (unnamed by c r is)
unopened by (call.Tree c) (_) is = refl
unopened by (call.Begin key text) (answer.Begun stamp base) is = refl
unopened by (call.Begin key text) (answer.Denied why) is = refl
unopened by (call.Begin key text) (_) is = refl
unopened by (call.Publish key stamp mask size) answer.Accepted is = refl
unopened by (call.Publish key stamp mask size) (answer.Enrolled position fence) is = refl
unopened by (call.Publish key stamp mask size) (answer.Revoked later) is = refl
unopened by (call.Publish key stamp mask size) (answer.Denied why) is = refl
unopened by (call.Publish key stamp mask size) (_) is = refl
unopened by (call.Look key) (answer.Looked p) is = refl
unopened by (call.Look key) (answer.Denied why) is = refl
unopened by (call.Look key) (_) is = refl
unopened by (call.Recheck key) (answer.Looked p) is = refl
unopened by (call.Recheck key) (answer.Denied why) is = refl
unopened by (call.Recheck key) (_) is = refl
unopened by (call.Enroll node loss) (answer.Fence fence) is = refl
unopened by (call.Enroll node loss) (answer.Denied why) is = refl
unopened by (call.Enroll node loss) (_) is = refl
unopened by (call.Next node after) (answer.Listed l) is = refl
unopened by (call.Next node after) (_) is = refl

pub told-file : (r : Reply) (info : FileInfo) → file_in r ≡ Some info → r ≡ answer.Tree (reply.File info)
told-file (answer.Tree (reply.File a)) info is = let same : a ≡ info = cc (is) in ap (λ (i : FileInfo). answer.Tree (reply.File i)) same
told-file (answer.Tree (_)) info is = absurd (cc)
told-file (_) info is = absurd (cc)
