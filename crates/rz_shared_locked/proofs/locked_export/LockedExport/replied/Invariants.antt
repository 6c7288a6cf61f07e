use Rattle.rz_shared_locked.proofs.locked_export.LockedExport.replied.Given as goal
use Rattle.rz_events.specs.Borrowed.{call_of}

-- the call is that of the pass's actor
abbrev pub ghosts-add_reply : goal.ghosts-add_reply
ghosts-add_reply g a = record { by = a.by; call = call_of a.call }
