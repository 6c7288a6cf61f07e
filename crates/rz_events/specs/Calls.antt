-- The paths of calls on the tree.
use Rattle.std.specs.Prelude.{ℕ, List}
use Rattle.rz_events.specs.declared.tree.TreeCall.{TreeCall}
use Rattle.rz_events.specs.declared.tree.TreeCall.TheVariants as calls

-- the path of the object that a call is about
abbrev pub path_of : TreeCall → List ℕ
path_of (calls.Lookup path) = path
path_of (calls.Getattr path) = path
path_of (calls.Rmdir path) = path
path_of (calls.Mkdir path) = path
path_of (calls.Create path) = path
path_of (calls.Unlink path) = path
path_of (calls.Readlink path) = path
path_of (calls.Readdir path) = path
path_of (calls.OpenFile path) = path
path_of (calls.Setattr path mode mtime) = path
path_of (calls.Rename path to) = path
path_of (calls.Link path to) = path
path_of (calls.Symlink target path) = path
