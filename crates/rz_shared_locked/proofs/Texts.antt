-- The writes of a log begin with texts of bytes.
use Rattle.std.proofs.Common.{◌≡◌, ◌<◌, ◌==◌, ℕ, Bool, true, false, cond, List, [], ◌∷◌, ◌++◌, Option, Some, None, refl, sym, ◌∙◌, ap, subst, inl}
use Rattle.std.specs.List.{All}
use Rattle.rz_events.specs.declared.keys.Actor.{Actor}
use Rattle.rz_events.specs.declared.keys.Key.{Key}
use Rattle.rz_events.specs.declared.export.Call.{Call}
use Rattle.rz_events.specs.declared.export.Call.TheVariants as call
use Rattle.rz_events.specs.declared.export.Reply.{Reply}
use Rattle.rz_events.specs.declared.export.Reply.TheVariants as reply
use Rattle.rz_events.specs.declared.events.Word.TheVariants.{Export}
use Rattle.rz_events.specs.declared.events.Event.{Event}
use Rattle.rz_core.specs.History.{Begun, begun_by, first_some, wrote}
use Rattle.rz_core.proofs.Wrote.{wrote-export}
use Rattle.rz_chronicle.specs.Keys.{events_at, word_key}
use Rattle.rz_chronicle.specs.Holds.{Commits}
use Rattle.rz_chronicle.proofs.Same.{word-same}
use Rattle.rz_shared_locked.specs.LockedExports.{AreTextsOfBytes, IsCallOfBytes, event_given}

-- a log with the same events of the export
pub bytes-same : (old new : List Event) → events_at (word_key Export) new ≡ events_at (word_key Export) old → AreTextsOfBytes old → AreTextsOfBytes new
bytes-same old new same bytes s b is =
    bytes s b (sym (wrote-export old s) ∙ ap (λ (w : List Event). wrote w s) (sym (word-same Export new old same)) ∙ wrote-export new s ∙ is)

pub bytes-none : AreTextsOfBytes []
bytes-none s b is = absurd cc

-- an event more
by-stamp : (key : Key) (stamp base : ℕ) (text : List ℕ) (by : Actor) (s : ℕ) (b : Begun) → All (λ x. x < 256) text → (same : Bool) → cond same (Some (record { by = by; key = key; base = base; text = text })) None ≡ Some b → All (λ x. x < 256) b.text
by-stamp key stamp base text by s b bytes true is = let it : record { by = by; key = key; base = base; text = text } ≡ b = cc in subst (λ (w : Begun). All (λ x. x < 256) w.text) it bytes
by-stamp key stamp base text by s b bytes false is = absurd cc

event-bytes : (by : Actor) (q : Call) (given : Reply) → IsCallOfBytes q → (s : ℕ) (b : Begun) → begun_by s (event_given by q given) ≡ Some b → All (λ x. x < 256) b.text
event-bytes by (call.Begin key text) (reply.Begun stamp base) bytes s b is = by-stamp key stamp base text by s b bytes (s == stamp) is
event-bytes by (call.Begin key text) (reply.Denied why) bytes s b is = absurd cc
event-bytes by (call.Tree c) (reply.Tree r) bytes s b is = absurd cc
event-bytes by (call.Publish key stamp mask size) reply.Accepted bytes s b is = absurd cc
event-bytes by (call.Publish key stamp mask size) (reply.Enrolled position fence) bytes s b is = absurd cc
event-bytes by (call.Publish key stamp mask size) (reply.Revoked later) bytes s b is = absurd cc
event-bytes by (call.Publish key stamp mask size) (reply.Denied why) bytes s b is = absurd cc
event-bytes by (call.Look key) (reply.Looked given) bytes s b is = absurd cc
event-bytes by (call.Look key) (reply.Denied why) bytes s b is = absurd cc
event-bytes by (call.Enroll node loss) (reply.Fence fence) bytes s b is = absurd cc
event-bytes by (call.Enroll node loss) (reply.Denied why) bytes s b is = absurd cc
event-bytes by (call.Next node after) (reply.Listed given) bytes s b is = absurd cc
event-bytes by (call.Recheck key) (reply.Looked given) bytes s b is = absurd cc
event-bytes by (call.Recheck key) (reply.Denied why) bytes s b is = absurd cc
event-bytes by q given bytes s b is = absurd cc

by-old : (old : Option Begun) (x : Event) (s : ℕ) (b : Begun) → ((c : Begun) → old ≡ Some c → All (λ x. x < 256) c.text) → ((c : Begun) → begun_by s x ≡ Some c → All (λ x. x < 256) c.text) → first_some old (begun_by s x) ≡ Some b → All (λ x. x < 256) b.text
by-old None x s b before now is = now b is
by-old (Some c) x s b before now is = before b is

pub bytes-after : (by : Actor) (q : Call) (given : Reply) (ks : List ℕ) (old new : List Event) → IsCallOfBytes q → AreTextsOfBytes old → Commits (word_key Export ∷ ks) old (event_given by q given) new → AreTextsOfBytes new
bytes-after by q given ks old new has bytes it = subst AreTextsOfBytes (sym it.last)
    (λ s b is. by-old (wrote it.before s) (event_given by q given) s b (bytes-same old it.before (it.stays (word_key Export) (inl refl)) bytes s) (event-bytes by q given has s) is)

-- an earlier log behind it

first-assoc : (a b c : Option Begun) → first_some (first_some a b) c ≡ first_some a (first_some b c)
first-assoc None b c = refl
first-assoc (Some x) b c = refl

wrote-behind : (log earlier : List Event) (s : ℕ) → wrote (log ++ earlier) s ≡ first_some (wrote earlier s) (wrote log s)
wrote-behind [] earlier s = go (wrote earlier s)
  where
    go : (o : Option Begun) → o ≡ first_some o None
    go None = refl
    go (Some x) = refl
wrote-behind (x ∷ log) earlier s = ap (λ (o : Option Begun). first_some o (begun_by s x)) (wrote-behind log earlier s) ∙ first-assoc (wrote earlier s) (wrote log s) (begun_by s x)

pub bytes-behind : (log earlier : List Event) → AreTextsOfBytes log → AreTextsOfBytes earlier → AreTextsOfBytes (log ++ earlier)
bytes-behind log earlier now before s b is = go (wrote earlier s) refl (sym (wrote-behind log earlier s) ∙ is)
  where
    go : (o : Option Begun) → wrote earlier s ≡ o → first_some o (wrote log s) ≡ Some b → All (λ x. x < 256) b.text
    go None none found = now s b found
    go (Some c) there found = before s b (there ∙ found)
