-- Which calls a journal keeps, and what its entries say of them.
use Rattle.std.specs.Prelude.{ℕ, ◌+◌, ◌-◌, ◌<◌, ◌^◌, Bool, true, false, ◌||◌, nat_lt, cond, List, length, replicate, Option, Some, None}
use Rattle.rz_events.specs.declared.tree.TreeCall.{TreeCall}
use Rattle.rz_events.specs.declared.tree.TreeCall.TheVariants.{Lookup, Getattr, Rmdir, Mkdir, Create, Unlink, Readlink, Readdir, OpenFile, Setattr, Rename, Link, Symlink}
use Rattle.rz_events.specs.declared.tree.TreeReply.TheVariants as told
use Rattle.rz_events.specs.declared.export.Call.{Call}
use Rattle.rz_events.specs.declared.export.Call.TheVariants as call
use Rattle.rz_events.specs.declared.export.Reply.{Reply}
use Rattle.rz_events.specs.declared.export.Reply.TheVariants as reply
use Rattle.rz_journal_text.specs.declared.entry.JournalEntry.{JournalEntry}
use Rattle.rz_journal_text.specs.declared.entry.JournalEntry.TheVariants as entry

-- a call on names that only looks
abbrev pub only_looks : TreeCall → Bool
only_looks (Lookup path) = true
only_looks (Getattr path) = true
only_looks (Readlink path) = true
only_looks (Readdir path) = true
only_looks (OpenFile path) = true
only_looks (Rmdir path) = false
only_looks (Mkdir path) = false
only_looks (Create path) = false
only_looks (Unlink path) = false
only_looks (Setattr path mode mtime) = false
only_looks (Rename path to) = false
only_looks (Link path to) = false
only_looks (Symlink target path) = false

-- a text for whose length an entry has no room; the export refuses it
abbrev pub is_long : List ℕ → Bool
is_long text = nat_lt 65535 (length text)

-- a call on names with such a text
abbrev pub has_long_text : TreeCall → Bool
has_long_text (Lookup path) = is_long path
has_long_text (Getattr path) = is_long path
has_long_text (Rmdir path) = is_long path
has_long_text (Mkdir path) = is_long path
has_long_text (Create path) = is_long path
has_long_text (Unlink path) = is_long path
has_long_text (Readlink path) = is_long path
has_long_text (Readdir path) = is_long path
has_long_text (OpenFile path) = is_long path
has_long_text (Setattr path mode mtime) = is_long path
has_long_text (Rename path to) = is_long path || is_long to
has_long_text (Link path to) = is_long path || is_long to
has_long_text (Symlink target path) = is_long target || is_long path

-- the entry of a call that may change the export; of a write that begins its length alone is kept
abbrev pub entry_of : Call → Option JournalEntry
entry_of (call.Tree c) = cond (only_looks c || has_long_text c) None (Some (entry.Tree c))
entry_of (call.Begin key text) = Some (entry.Begin key (length text))
entry_of (call.Publish key stamp mask bytes) = Some (entry.Publish key stamp mask bytes)
entry_of (call.Enroll node loss) = Some (entry.Enroll node loss)
entry_of (call.Look key) = None
entry_of (call.Next node after) = None
entry_of (call.Recheck key) = None

-- the call that an entry says; zeros stand for the text of a write that begins
abbrev pub call_said : JournalEntry → Option Call
call_said (entry.Tree c) = Some (call.Tree c)
call_said (entry.Begin key bytes) = Some (call.Begin key (replicate bytes 0))
call_said (entry.Publish key stamp mask bytes) = Some (call.Publish key stamp mask bytes)
call_said (entry.Enroll node loss) = Some (call.Enroll node loss)
call_said (entry.Built part) = None

-- whether a reply accepts what was asked
abbrev pub accepts : Reply → Bool
accepts (reply.Tree (told.Refused fault)) = false
accepts (reply.Enrolled position fence) = false
accepts (reply.Denied why) = false
accepts (reply.Revoked later) = false
accepts reply.NoMemory = false
accepts _ = true

-- the bytes that the entries of a half take after a reply, with a row of so many bytes behind them where it accepts; of
-- the row its shut gate is not counted
abbrev pub used_after : Reply → ℕ → ℕ → ℕ
used_after r row used = cond (accepts r) ((used + row) - 1) used

-- the text of a write that begins has fewer than 2^32 bytes
abbrev pub HasShortText : Call → Type 0
HasShortText (call.Begin key text) = length text < 2 ^ 32
HasShortText _ = Unit {0}
