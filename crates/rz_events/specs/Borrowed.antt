-- The call that a borrowed call stands for.
use Rattle.rz_events.specs.declared.export.Call.{Call}
use Rattle.rz_events.specs.declared.export.Call.TheVariants as call
use Rattle.rz_events.specs.declared.export.CallRef.{CallRef}
use Rattle.rz_events.specs.declared.export.CallRef.TheVariants as borrowed

abbrev pub call_of : CallRef → Call
call_of (borrowed.Tree c) = call.Tree c.now
call_of (borrowed.Begin key text) = call.Begin key text.now
call_of (borrowed.Publish key p) = call.Publish key p.stamp p.mask p.length
call_of (borrowed.Look key) = call.Look key
call_of (borrowed.Recheck key) = call.Recheck key
call_of (borrowed.Enroll node loss) = call.Enroll node loss
call_of (borrowed.Next node after) = call.Next node after
