-- Which event of the log an answer of the export is. Want of memory is none.
use Rattle.std.specs.Prelude.{Option, Some, None}
use Rattle.rz_events.specs.declared.keys.Actor.{Actor}
use Rattle.rz_events.specs.declared.export.Asked.TheVariants as asked
use Rattle.rz_events.specs.declared.export.Call.{Call}
use Rattle.rz_events.specs.declared.export.Call.TheVariants as call
use Rattle.rz_events.specs.declared.export.Reply.{Reply}
use Rattle.rz_events.specs.declared.export.Reply.TheVariants as reply
use Rattle.rz_events.specs.declared.events.Event.{Event}
use Rattle.rz_events.specs.declared.events.Event.TheVariants as event

abbrev pub tree_event : Actor → Call → Reply → Option Event
tree_event by (call.Tree c) (reply.Tree r) = Some (event.Meta by c r)
tree_event by _ _ = None

abbrev pub begin_event : Actor → Call → Reply → Option Event
begin_event by (call.Begin key text) (reply.Begun stamp base) = Some (event.Begin by key stamp base text)
begin_event by (call.Begin key text) (reply.Denied why) = Some (event.Denied by (asked.Begin key) why)
begin_event by _ _ = None

abbrev pub publish_event : Actor → Call → Reply → Option Event
publish_event by (call.Publish key stamp mask length) reply.Accepted = Some (event.Publish by key stamp mask None)
publish_event by (call.Publish key stamp mask length) (reply.Enrolled position fence) =
    Some (event.Publish by key stamp mask (Some (position, fence)))
publish_event by (call.Publish key stamp mask length) (reply.Revoked later) = Some (event.Revoked by key stamp later)
publish_event by (call.Publish key stamp mask length) (reply.Denied why) = Some (event.Denied by (asked.Publish key) why)
publish_event by _ _ = None

abbrev pub look_event : Actor → Call → Reply → Option Event
look_event by (call.Look key) (reply.Looked answer) = Some (event.Look by key answer)
look_event by (call.Look key) (reply.Denied why) = Some (event.Denied by (asked.Look key) why)
look_event by _ _ = None

abbrev pub recheck_event : Actor → Call → Reply → Option Event
recheck_event by (call.Recheck key) (reply.Looked answer) = Some (event.Recheck by key answer)
recheck_event by (call.Recheck key) (reply.Denied why) = Some (event.Denied by (asked.Recheck key) why)
recheck_event by _ _ = None

abbrev pub enroll_event : Actor → Call → Reply → Option Event
enroll_event by (call.Enroll node loss) (reply.Fence fence) = Some (event.Enroll by node loss fence)
enroll_event by (call.Enroll node loss) (reply.Denied why) = Some (event.Denied by (asked.Enroll node loss) why)
enroll_event by _ _ = None

abbrev pub next_event : Actor → Call → Reply → Option Event
next_event by (call.Next node after) (reply.Listed answer) = Some (event.Next by node after answer)
next_event by _ _ = None

-- the event of the export's reply to an actor's call
abbrev pub export_event : Actor → Call → Reply → Option Event
export_event by (call.Tree c) r = tree_event by (call.Tree c) r
export_event by (call.Begin key text) r = begin_event by (call.Begin key text) r
export_event by (call.Publish key stamp mask length) r = publish_event by (call.Publish key stamp mask length) r
export_event by (call.Look key) r = look_event by (call.Look key) r
export_event by (call.Enroll node loss) r = enroll_event by (call.Enroll node loss) r
export_event by (call.Next node after) r = next_event by (call.Next node after) r
export_event by (call.Recheck key) r = recheck_event by (call.Recheck key) r
