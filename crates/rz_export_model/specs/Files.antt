-- Which files come and go with a reply of the tree.
use Rattle.std.specs.Prelude.{ℕ, Bool, false, ◌==◌, Some}
use Rattle.rz_events.specs.declared.tree.TreeReply.{TreeReply}
use Rattle.rz_events.specs.declared.tree.TreeReply.TheVariants as reply

-- the reply makes the file
abbrev pub makes : TreeReply → ℕ → Bool
makes (reply.MadeFile info) fid = fid == info.fid
makes _ fid = false

-- with the reply the file's last name went
abbrev pub ends : TreeReply → ℕ → Bool
ends (reply.Gone (Some info)) fid = fid == info.fid
ends _ fid = false
