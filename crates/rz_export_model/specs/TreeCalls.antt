-- What a call on the tree answers, and the tree after it.
use Rattle.std.specs.Prelude.{ℕ, ◌+◌, ◌&&◌, ◌==◌, cond, List, Option, None}
use Rattle.std.specs.Option.{option_map_or, option_and_then}
use Rattle.std.specs.FinMap as maps
use Rattle.rz_events.specs.declared.files.Attr.{Attr}
use Rattle.rz_events.specs.declared.files.FileInfo.{FileInfo}
use Rattle.rz_events.specs.declared.tree.TreeCall.{TreeCall}
use Rattle.rz_events.specs.declared.tree.TreeCall.TheVariants as call
use Rattle.rz_events.specs.declared.tree.TreeReply.{TreeReply}
use Rattle.rz_events.specs.declared.tree.TreeReply.TheVariants as reply
use Rattle.rz_events.specs.declared.tree.TreeFault.TheVariants as fault
use Rattle.rz_export_model.specs.Firsts.{given_if}
use Rattle.rz_export_model.specs.Paths.{Path}
use Rattle.rz_export_model.specs.Tree.{Tree, Object, Found, found_at, fid_at, is_file, links_of, info_of, names_under, moved, with_object, new_dir, new_file, new_link}
use Rattle.rz_export_model.specs.Refusals.{path_in, refusal, is_same_object}

abbrev pub attr_of : Tree → Found → Attr
attr_of t f = record {
  fid = f.fid;
  kind = f.object.kind;
  mode = f.object.mode;
  mtime = f.object.mtime;
  links = links_of t f;
  size = f.object.size;
}

-- what is told of the object at a path; an answered call finds one there
abbrev pub told : Tree → Path → (Found → TreeReply) → TreeReply
told t path tell = option_map_or tell (found_at t path) (reply.Refused fault.NoEntry)

-- the file whose last name the path is, if it is a file's last name
abbrev pub last_name_of : Tree → Path → Option FileInfo
last_name_of t path =
    option_and_then (λ f. given_if (is_file f.object.kind && (links_of t f == 1)) (info_of f)) (found_at t path)

-- the tree without this name; with its last name an object goes
abbrev pub without_name : Tree → Path → Tree
without_name t path =
    option_map_or
    (λ f. record t { names = maps.remove t.names path; objects = cond (links_of t f == 1) (maps.remove t.objects f.fid) t.objects })
    (found_at t path)
    t

-- the tree with one more name of an object
abbrev pub with_name : Tree → Path → ℕ → Tree
with_name t path fid = record t { names = maps.insert t.names path fid }

-- the tree with a new object, whose number is the next one
abbrev pub with_new : Tree → Path → Object → Tree
with_new t path o = record {
  names = maps.insert t.names path (t.made + 1);
  objects = maps.insert t.objects (t.made + 1) o;
  made = t.made + 1;
}

-- `path` and all paths below it go to `to`, and what stood there goes
abbrev pub renamed : Tree → Path → Path → Tree
renamed t path to =
    cond (is_same_object t path to) t
    (let rest = without_name t to in record rest { names = moved path to rest.names })

-- what a rename says to be gone
abbrev pub replaced : Tree → Path → Path → Option FileInfo
replaced t path to = cond (is_same_object t path to) None (last_name_of t to)

-- the answer to a call that is not refused; a new file gets the cluster and the places
abbrev pub answer_to : Tree → ℕ → List ℕ → TreeCall → TreeReply
answer_to t cid places (call.Lookup path) = told t (path_in path) (λ f. reply.Found f.fid f.object.kind)
answer_to t cid places (call.Getattr path) = told t (path_in path) (λ f. reply.Attr (attr_of t f))
answer_to t cid places (call.Setattr path mode mtime) = reply.Plain
answer_to t cid places (call.Mkdir path) = reply.Made (t.made + 1)
answer_to t cid places (call.Create path) =
    reply.MadeFile (record { fid = t.made + 1; cid = cid; places = places; size = 0 })
answer_to t cid places (call.Symlink target path) = reply.Made (t.made + 1)
answer_to t cid places (call.Rmdir path) = reply.Plain
answer_to t cid places (call.Unlink path) = reply.Gone (last_name_of t (path_in path))
answer_to t cid places (call.Link path to) = reply.Plain
answer_to t cid places (call.Rename path to) = reply.Gone (replaced t (path_in path) (path_in to))
answer_to t cid places (call.Readlink path) = told t (path_in path) (λ f. reply.Target f.object.target)
answer_to t cid places (call.Readdir path) = reply.Names (names_under t.names (path_in path))
answer_to t cid places (call.OpenFile path) = told t (path_in path) (λ f. reply.File (info_of f))

-- the tree after a call that is not refused
abbrev pub changed_by : Tree → ℕ → List ℕ → TreeCall → Tree
changed_by t cid places (call.Lookup path) = t
changed_by t cid places (call.Getattr path) = t
changed_by t cid places (call.Setattr path mode mtime) =
    option_map_or (λ fid. with_object t fid (λ o. record o { mode = mode; mtime = mtime })) (fid_at t (path_in path)) t
changed_by t cid places (call.Mkdir path) = with_new t (path_in path) new_dir
changed_by t cid places (call.Create path) = with_new t (path_in path) (new_file cid places)
changed_by t cid places (call.Symlink target path) = with_new t (path_in path) (new_link target)
changed_by t cid places (call.Rmdir path) = without_name t (path_in path)
changed_by t cid places (call.Unlink path) = without_name t (path_in path)
changed_by t cid places (call.Link path to) =
    option_map_or (λ fid. with_name t (path_in to) fid) (fid_at t (path_in path)) t
changed_by t cid places (call.Rename path to) = renamed t (path_in path) (path_in to)
changed_by t cid places (call.Readlink path) = t
changed_by t cid places (call.Readdir path) = t
changed_by t cid places (call.OpenFile path) = t

-- the reply to a call: the first fault that applies, or the answer
abbrev pub reply_to : Tree → ℕ → List ℕ → TreeCall → TreeReply
reply_to t cid places c = option_map_or reply.Refused (refusal t c) (answer_to t cid places c)

-- the tree after a call; a refused call changes nothing
abbrev pub tree_after : Tree → ℕ → List ℕ → TreeCall → Tree
tree_after t cid places c = option_map_or (λ f. t) (refusal t c) (changed_by t cid places c)
