-- Each call of an export keeps its tree whole.
use Rattle.std.proofs.Common.{◌≡◌, ℕ, ◌+◌, ◌*◌, Bool, true, false, cond, Option, Some, None, is_some, refl}
use Rattle.std.specs.Prelude.{is_none}
use Rattle.std.specs.Option.{option_map, option_map_or}
use Rattle.std.specs.FinMap as maps
use Rattle.mj_angles.specs.Layout.{block_bytes_of}
use Rattle.rz_events.specs.declared.keys.Key.{Key}
use Rattle.rz_events.specs.declared.ends.Denial.{Denial}
use Rattle.rz_events.specs.declared.ends.Denial.TheVariants as denial
use Rattle.rz_events.specs.declared.export.Call.TheVariants as call
use Rattle.rz_events.specs.declared.export.Reply.{Reply}
use Rattle.rz_events.specs.declared.export.Reply.TheVariants as reply
use Rattle.rz_export_model.specs.Tree.{file_of}
use Rattle.rz_export_model.specs.Export.{Export, new_places, no_begin, no_publish, unknown_file, after_begin, after_publish, draws}
use Rattle.rz_export_laws.specs.WholeTree.{IsWholeTree, TreeStaysWhole}
use Rattle.rz_tree.proofs.Keys.{not_none}
use Rattle.rz_tree.proofs.Adds.{or_none, given-false}
use Rattle.rz_export_laws.proofs.TreeCalls.{stays-whole, grows-whole}

no-map : {A B : Type 0} (g : A → B) (o : Option A) → option_map g o ≡ None → o ≡ None
no-map g None h = refl
no-map g (Some x) h = absurd (not_none (g x) h)

some-if : {A : Type 0} (o : Option A) → is_none o ≡ false → is_some o ≡ true
some-if None h = cc
some-if (Some x) h = refl

-- an accepted publish is one of a live file
live : (s : Export) (key : Key) (stamp mask : ℕ) → no_publish s key stamp mask ≡ None → is_some (file_of s.tree key.fid) ≡ true
live s key stamp mask free =
    let first = or_none (option_map reply.Denied (unknown_file s key)) _ free in
    some-if (file_of s.tree key.fid) (given-false (is_none (file_of s.tree key.fid)) denial.UnknownFile (no-map reply.Denied (unknown_file s key) first.0))

pub tree-kept : TreeStaysWhole
tree-kept s (call.Tree c) w = stays-whole s.tree (new_places s).cid (new_places s).places c w
tree-kept s (call.Begin key text) w = go (no_begin s key)
  where
    go : (o : Option Denial) → IsWholeTree (option_map_or (λ (why : Denial). s) o (after_begin s key)).tree
    go None = w
    go (Some why) = w
tree-kept s (call.Publish key stamp mask size) w = go (no_publish s key stamp mask) refl
  where
    go : (o : Option Reply) → no_publish s key stamp mask ≡ o
        → IsWholeTree (option_map_or (λ (why : Reply). s) o (after_publish s key (record { stamp = stamp; mask = mask; length = size }))).tree
    go None free = grows-whole s.tree key.fid (key.block * block_bytes_of s.volume.layout + size) (live s key stamp mask free) w
    go (Some why) free = w
tree-kept s (call.Look key) w = w
tree-kept s (call.Enroll node loss) w = go (draws s loss (maps.get s.enrolled node))
  where
    go : (b : Bool) → IsWholeTree (cond b (record s { enrolled = maps.insert s.enrolled node (record { loss = loss; fence = s.last + 1 }); last = s.last + 1 }) s).tree
    go true = w
    go false = w
tree-kept s (call.Next node after) w = w
tree-kept s (call.Recheck key) w = w
