-- The replies to the calls on names in the examples.
use Rattle.std.proofs.Common.{ℕ, ◌+◌, ◌≡◌, List, [], ◌∷◌, Option, Some, None, cond, refl, sym, ap, ◌∙◌, length, arith}
use Rattle.std.specs.FinMap as maps
use Rattle.std.specs.FinMap.{FinMap, entries-insert, get-insert, get-empty, len-insert, len-empty, len-entries}
use Rattle.std.specs.declared.cmp.Ordering.{Ordering}
use Rattle.rz_events.specs.Keys.{key_cmp}
use Rattle.rz_export_model.specs.Tree.{Object, Tree, new_file, file_of}
use Rattle.std.specs.Option.{option_map_or}
use Rattle.rz_events.specs.declared.tree.TreeFault.{TreeFault}
use Rattle.rz_export_model.specs.Export.{Block, Enrolled, Export as Store, new_places, after_tree, after_begin, after_publish}
use Rattle.rz_export_model.specs.TreeCalls.{tree_after}
use Rattle.std.specs.Ordering.{nat_cmp, eq_by_cmp}
use Rattle.std.specs.Cmp.{nat_cmp_total}
use Rattle.rz_events.specs.declared.tree.TreeCall.TheVariants as call
use Rattle.rz_events.specs.declared.tree.TreeReply.TheVariants as reply
use Rattle.rz_export_model.specs.Paths.{Path, path_cmp, paths_total}
use Rattle.rz_events.specs.declared.events.Word.TheVariants.{Export}
use Rattle.rz_core.specs.History.{Facts, facts, of_word}
use Rattle.rz_core.specs.ExportWord.{export_of}
use Rattle.rz_core.specs.ExportRows.{names_reply}
use Rattle.rz_examples.specs.Plain.{plain, small, path, block, file, places}
use Rattle.rz_examples.specs.Ordinary.{opened, kept_at, looked, with_file, with_begin, with_keeps, with_write}
use Rattle.rz_examples.specs.Mended.{with_disk}
use Rattle.rz_examples.specs.Ranged.{with_range}
use Rattle.rz_examples.specs.Fences.{above_published, with_above}
use Rattle.rz_examples.specs.Crashes.{with_start}
use Rattle.rz_examples.specs.Locked.{updated}
use Rattle.rz_examples.specs.Answers.{with_next, with_other_disk}

-- an empty map has no entries
pub no_entries : {K : Type 0} (R : K → K → Ordering) (X : Type 0) → maps.entries (maps.empty {X = X} {R = R}) ≡ []
no_entries R X = no_length (maps.entries maps.empty) (sym (len-entries maps.empty) ∙ len-empty R X)
  where
    no_length : {A : Type 0} (es : List A) → length es ≡ 0 → es ≡ []
    no_length [] e = refl
    no_length (x ∷ es) e = absurd (omega arith)

-- how maps answer
get_name : (names : FinMap path_cmp ℕ) (path : Path) (fid : ℕ) (q : Path)
    → maps.get (maps.insert names path fid) q ≡ cond (eq_by_cmp path_cmp q path) (Some fid) (maps.get names q)
get_name = get-insert paths_total

get_no_name : (q : Path) → maps.get (maps.empty {X = ℕ} {R = path_cmp}) q ≡ None
get_no_name = get-empty path_cmp

get_object : (objects : FinMap nat_cmp Object) (fid : ℕ) (o : Object) (q : ℕ)
    → maps.get (maps.insert objects fid o) q ≡ cond (eq_by_cmp nat_cmp q fid) (Some o) (maps.get objects q)
get_object = get-insert nat_cmp_total

get_no_object : (q : ℕ) → maps.get (maps.empty {X = Object} {R = nat_cmp}) q ≡ None
get_no_object = get-empty nat_cmp

len_objects : (objects : FinMap nat_cmp Object) (fid : ℕ) (o : Object)
    → maps.len (maps.insert objects fid o) ≡ cond (maps.contains_key objects fid) (maps.len objects) (maps.len objects + 1)
len_objects = len-insert nat_cmp_total

len_no_object : maps.len (maps.empty {X = Object} {R = nat_cmp}) ≡ 0
len_no_object = len-empty nat_cmp Object

no_blocks : maps.entries (maps.empty {X = Block} {R = key_cmp}) ≡ []
no_blocks = no_entries key_cmp Block

get_not_enrolled : (q : ℕ) → maps.get (maps.empty {X = Enrolled} {R = nat_cmp}) q ≡ None
get_not_enrolled = get-empty nat_cmp

name_entries : (names : FinMap path_cmp ℕ) (path : Path) (fid : ℕ)
    → maps.entries (maps.insert names path fid) ≡ maps.put path_cmp path fid (maps.entries names)
name_entries = entries-insert paths_total

no_names : maps.entries (maps.empty {X = ℕ} {R = path_cmp}) ≡ []
no_names = no_entries path_cmp ℕ

ruleset maps_answer = (name_entries, no_names, get_not_enrolled, get_name, get_no_name, get_object, get_no_object, len_objects, len_no_object, no_blocks)

pub create_reply : (f : Facts) → reply.MadeFile (file 0) ≡ names_reply (export_of plain f []) (call.Create path)
create_reply f = simp maps_answer refl

pub open_reply : reply.File (file 0) ≡ names_reply (export_of plain (facts with_file) (of_word Export with_file)) (call.OpenFile path)
open_reply = simp maps_answer refl

pub open_again : reply.File (file 5) ≡ names_reply (export_of plain (facts with_write) (of_word Export with_write)) (call.OpenFile path)
open_again = simp maps_answer refl

pub file_there : file_of (export_of plain (facts with_disk) (of_word Export with_disk)).tree 1 ≡ Some (file 5)
file_there = simp maps_answer refl

pub open_mended : reply.File (file 5) ≡ names_reply (export_of plain (facts with_disk) (of_word Export with_disk)) (call.OpenFile path)
open_mended = simp maps_answer refl

pub unlink_reply : reply.Gone (Some (file 5)) ≡ names_reply (export_of plain (facts with_write) (of_word Export with_write)) (call.Unlink path)
unlink_reply = simp maps_answer refl

pub unlink_replaced : reply.Gone (Some (file 5)) ≡ names_reply (export_of plain (facts with_other_disk) (of_word Export with_other_disk)) (call.Unlink path)
unlink_replaced = simp maps_answer refl

pub open_opened : reply.File (file 5) ≡ names_reply (export_of plain (facts (opened 5 ∷ with_write)) (of_word Export (opened 5 ∷ with_write))) (call.OpenFile path)
open_opened = simp maps_answer refl

pub open_next : reply.File (file 4101) ≡ names_reply (export_of plain (facts with_next) (of_word Export with_next)) (call.OpenFile path)
open_next = simp maps_answer refl

pub unlink_opened : reply.Gone (Some (file 5)) ≡ names_reply (export_of plain (facts (opened 5 ∷ with_write)) (of_word Export (opened 5 ∷ with_write))) (call.Unlink path)
unlink_opened = simp maps_answer refl

pub open_looked : reply.File (file 5) ≡ names_reply (export_of plain (facts (looked ∷ opened 5 ∷ with_write)) (of_word Export (looked ∷ opened 5 ∷ with_write))) (call.OpenFile path)
open_looked = simp maps_answer refl

pub open_begun : reply.File (file 0) ≡ names_reply (export_of plain (facts with_begin) (of_word Export with_begin)) (call.OpenFile path)
open_begun = simp maps_answer refl

pub open_twice : reply.File (file 0) ≡ names_reply (export_of plain (facts (opened 0 ∷ with_file)) (of_word Export (opened 0 ∷ with_file))) (call.OpenFile path)
open_twice = simp maps_answer refl

pub open_updated : reply.File (file 5) ≡ names_reply (export_of plain (facts updated) (of_word Export updated)) (call.OpenFile path)
open_updated = simp maps_answer refl

pub open_started : reply.File (file 5) ≡ names_reply (export_of plain (facts with_start) (of_word Export with_start)) (call.OpenFile path)
open_started = simp maps_answer refl

pub open_kept : reply.File (file 0) ≡ names_reply (export_of plain (facts with_keeps) (of_word Export with_keeps)) (call.OpenFile path)
open_kept = simp maps_answer refl

-- the file as an object, after the first write
abbrev written_file : Object
written_file = record (new_file 1 places) { size = 5 }

-- a second write of the same length leaves the file as it is
written_again : (s : Store) → s.volume ≡ plain → maps.get s.tree.objects 1 ≡ Some written_file → file_of (after_publish s block above_published).tree 1 ≡ Some (file 5)
written_again s volume_is is = simp (volume_is, is, get_object) refl

-- the export before the second write
abbrev store_mended : Store
store_mended = export_of plain (facts with_above) (of_word Export with_disk)

volume_there : store_mended.volume ≡ plain
volume_there = simp maps_answer refl

object_there : maps.get store_mended.tree.objects 1 ≡ Some written_file
object_there = simp maps_answer refl

-- an opening leaves the names as they are, refused or not
unchanged : (refused : Option TreeFault) (t : Tree) → option_map_or (λ f. t) refused t ≡ t
unchanged None t = refl
unchanged (Some f) t = refl

still : (t : Tree) (cid : ℕ) (nodes : List ℕ) → tree_after t cid nodes (call.OpenFile path) ≡ t
still t cid nodes = unchanged _ t

-- the export where the second write began
abbrev store_begun : Store
store_begun = after_begin (after_tree store_mended (call.OpenFile path)) block

still_there : maps.get store_begun.tree.objects 1 ≡ Some written_file
still_there =
    let placed = new_places store_mended in
    ap (λ (t : Tree). maps.get t.objects 1) (still store_mended.tree placed.cid placed.places) ∙ object_there

pub file_above : file_of (export_of plain (facts with_above) (of_word Export with_above)).tree 1 ≡ Some (file 5)
file_above = written_again store_begun volume_there still_there

-- the same in the small volume

pub create_small : (f : Facts) → reply.MadeFile (file 0) ≡ names_reply (export_of small f []) (call.Create path)
create_small f = simp maps_answer refl

pub open_small : reply.File (file 0) ≡ names_reply (export_of small (facts with_file) (of_word Export with_file)) (call.OpenFile path)
open_small = simp maps_answer refl

pub open_small_begun : reply.File (file 0) ≡ names_reply (export_of small (facts (kept_at 1 0 ∷ with_begin)) (of_word Export (kept_at 1 0 ∷ with_begin))) (call.OpenFile path)
open_small_begun = simp maps_answer refl

pub open_ranged : reply.File (file 8193) ≡ names_reply (export_of plain (facts with_range) (of_word Export with_range)) (call.OpenFile path)
open_ranged = simp maps_answer refl
