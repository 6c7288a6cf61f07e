-- What an operation that is about to say its last word tells the caller of a store.
use Rattle.std.specs.Prelude.{◌≡◌, ◌⊎◌, List, ℕ, Option, Some, None, Result, Ok, Err}
use Rattle.rz_events.specs.declared.ends.Denial.{Denial}
use Rattle.rz_events.specs.declared.ends.Denial.TheVariants as denial
use Rattle.rz_events.specs.declared.ends.ReadEnd.{ReadEnd}
use Rattle.rz_events.specs.declared.ends.ReadEnd.TheVariants as read
use Rattle.rz_events.specs.declared.ends.WriteEnd.{WriteEnd}
use Rattle.rz_events.specs.declared.ends.WriteEnd.TheVariants as write
use Rattle.rz_events.specs.declared.events.Answer.TheVariants as answer
use Rattle.rz_operation_model.specs.Ask.{Ask, Say, SayGot, SayGave, SayDone}
use Rattle.rz_operation_model.specs.Steps.{read_end}
use Rattle.rz_store_turns.specs.declared.sole.Stop.TheVariants as stop
use Rattle.rz_store.specs.declared.faults.ReadFault.{ReadFault}
use Rattle.rz_store.specs.declared.faults.ReadFault.TheVariants as unread
use Rattle.rz_store.specs.declared.faults.WriteFault.{WriteFault}
use Rattle.rz_store.specs.declared.faults.WriteFault.TheVariants as unwritten

-- A put: that the block is written, or why it is not.

abbrev pub write_denied : Denial → WriteFault
write_denied denial.BlockTooFar = unwritten.TooFar
write_denied denial.StampsSpent = unwritten.StampsSpent
write_denied _ = unwritten.Disturbed

abbrev pub end_told : WriteEnd → Result (Unit {0}) WriteFault
end_told (write.Acked stamp mask) = Ok tt
end_told (write.TooFew causes) = Err (unwritten.TooFew causes)
end_told (write.Denied why) = Err (write_denied why)
end_told (write.Revoked later) = Err unwritten.Disturbed

abbrev pub put_told : Ask → Result (Unit {0}) WriteFault
put_told (Say (SayGave key part end)) = end_told end
put_told (Say (SayDone (answer.Refused f))) = Err (unwritten.Names f)
put_told asked = Err unwritten.Disturbed

-- A get: what the block contains, or why it is not read.

abbrev pub read_denied : Denial → ReadFault
read_denied denial.BlockTooFar = unread.TooFar
read_denied _ = unread.Disturbed

abbrev pub told_by : ReadEnd → Result (Option (List ℕ)) ReadFault
told_by (read.Found stamp text) = Ok (Some text)
told_by read.Hole = Ok None
told_by (read.TooFew seen) = Err (unread.TooFew seen)
told_by read.Inconsistent = Err unread.Altered
told_by (read.Denied why) = Err (read_denied why)
told_by (read.Moved was now) = Err unread.Disturbed

abbrev pub get_told : List ℕ → Ask → Result (Option (List ℕ)) ReadFault
get_told text (Say (SayGot key part mark)) = told_by (read_end text mark)
get_told text (Say (SayDone (answer.Refused f))) = Err (unread.Names f)
get_told text asked = Err unread.Disturbed

-- it tells so, or memory is wanting
abbrev pub IsGetTold : List ℕ → Ask → Result (Option (List ℕ)) ReadFault → Type 0
IsGetTold text asked told = (told ≡ get_told text asked) ⊎ (told ≡ Err (unread.Stopped stop.NoMemory))
