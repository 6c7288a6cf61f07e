-- The whole export: its state, its reply to each call, and its state after the call.
use Rattle.std.specs.Prelude.{ℕ, ◌+◌, ◌-◌, ◌*◌, ◌^◌, Bool, true, false, ◌&&◌, ◌||◌, ◌==◌, not, nat_lt, nat_le, cond, List, [], ◌∷◌, length, count_by, count_ones, map, Option, Some, None, is_some, is_none, unwrap_or}
use Rattle.std.specs.List.{list_any}
use Rattle.std.specs.Option.{option_map_or, option_and_then, option_map}
use Rattle.std.specs.Ordering.{nat_cmp, is_lt}
use Rattle.std.specs.FinMap as maps
use Rattle.std.specs.FinMap.{FinMap}
use Rattle.mj_angles.specs.declared.layout.Layout.{Layout}
use Rattle.mj_angles.specs.Layout.{block_bytes_of, forward_of, safe_of}
use Rattle.rz_events.specs.Keys.{key_cmp}
use Rattle.rz_events.specs.Masks.{has_bit}
use Rattle.rz_events.specs.Volume.{Volume, nodes_of}
use Rattle.rz_events.specs.declared.keys.Key.{Key}
use Rattle.rz_events.specs.declared.files.Published.{Published}
use Rattle.rz_events.specs.declared.files.Listed.{Listed}
use Rattle.rz_events.specs.declared.ends.Denial.{Denial}
use Rattle.rz_events.specs.declared.ends.Denial.TheVariants as denial
use Rattle.rz_events.specs.declared.export.Call.{Call}
use Rattle.rz_events.specs.declared.export.Call.TheVariants as call
use Rattle.rz_events.specs.declared.export.Reply.{Reply}
use Rattle.rz_events.specs.declared.export.Reply.TheVariants as reply
use Rattle.rz_events.specs.declared.tree.TreeCall.{TreeCall}
use Rattle.rz_events.specs.declared.tree.TreeReply.{TreeReply}
use Rattle.rz_events.specs.declared.tree.TreeReply.TheVariants as told
use Rattle.rz_export_model.specs.Firsts.{first_of, first_given, given_if}
use Rattle.rz_export_model.specs.Tree.{Tree, empty_tree, file_of, grown}
use Rattle.rz_export_model.specs.TreeCalls.{reply_to, tree_after}
use Rattle.rz_export_model.specs.Place.{Placed, place}

-- what is known of a block that was begun: the newest stamp begun, and what is published
pub record Block : Type 0 where
  pub latest : ℕ
  pub published : Option Published

-- the greatest loss of a node that was enrolled, and its fence
pub record Enrolled : Type 0 where
  pub loss : ℕ
  pub fence : ℕ

-- a map from keys to what is known of them; the keys that are there are prepared
abbrev pub Blocks : Type 0
Blocks = FinMap key_cmp Block

pub record Export : Type 0 where
  pub volume : Volume
  pub tree : Tree
  pub blocks : Blocks
  pub enrolled : FinMap nat_cmp Enrolled
  -- the last number drawn, as a stamp or as a fence
  pub last : ℕ

-- an export of a new store, which draws the numbers above `last`
abbrev pub new_export : Volume → ℕ → Export
new_export volume last = record { volume = volume; tree = empty_tree; blocks = maps.empty; enrolled = maps.empty; last = last }

-- ---- blocks

-- the newest stamp begun on a key, or 0
abbrev pub latest_of : Blocks → Key → ℕ
latest_of blocks key = option_map_or (λ b. b.latest) (maps.get blocks key) 0

-- what is published of a key
abbrev pub published_of : Blocks → Key → Option Published
published_of blocks key = option_and_then (λ b. b.published) (maps.get blocks key)

-- the stamp that is published, or 0
abbrev pub published_stamp : Blocks → Key → ℕ
published_stamp blocks key = option_map_or (λ p. p.stamp) (published_of blocks key) 0

-- the keys with `key` prepared
abbrev pub prepared : Blocks → Key → Blocks
prepared blocks key =
    cond (is_some (maps.get blocks key)) blocks (maps.insert blocks key (record { latest = 0; published = None }))

-- after a begin of `key` with this stamp
abbrev pub begun : Blocks → Key → ℕ → Blocks
begun blocks key stamp = maps.insert blocks key (record { latest = stamp; published = published_of blocks key })

-- of two publishes the one with the greater stamp, and at equal stamps the first
abbrev pub newer_of : Option Published → Published → Published
newer_of None p = p
newer_of (Some first) p = cond (nat_lt first.stamp p.stamp) p first

-- after a publish of `key`, which is prepared
abbrev pub with_published : Blocks → Key → Published → Blocks
with_published blocks key p =
    maps.insert blocks key (record { latest = latest_of blocks key; published = Some (newer_of (published_of blocks key) p) })

-- without the entries of a file
abbrev pub without_file : Blocks → ℕ → Blocks
without_file blocks fid = maps.retain_keys blocks (λ key. not (key.fid == fid))

-- whether a key stands after another, where this is given
abbrev pub is_after : Option Key → Key → Bool
is_after None key = true
is_after (Some after) key = is_lt (key_cmp after key)

-- the least published key of a file above `after`
abbrev pub next_of_file : Blocks → Option Key → ℕ → Option (Key × Published)
next_of_file blocks after fid =
    first_given
    (λ e. cond (is_after after e.0 && (e.0.fid == fid)) (option_map (λ p. (e.0, p)) e.1.published) None)
    (maps.entries blocks)

-- ---- published blocks of live files

-- a published block, where its file is live
abbrev pub listed_at : Tree → Key → Block → Option Listed
listed_at t key b =
    option_and_then
    (λ info. option_map (λ p. record { key = key; info = info; published = p }) b.published)
    (file_of t key.fid)

-- whether the mask names the node; `i` is the position of the first of these places
abbrev pub names_node : ℕ → ℕ → ℕ → List ℕ → Bool
names_node node mask i [] = false
names_node node mask i (n ∷ places) = ((n == node) && has_bit mask i) || names_node node mask (i + 1) places

-- whether the published mask names the node
abbrev pub is_on : ℕ → Listed → Bool
is_on node l = names_node node l.published.mask 0 l.info.places

-- how many published blocks of live files name the node
abbrev pub used_cells : Export → ℕ → ℕ
used_cells s node = count_by (λ e. option_map_or (is_on node) (listed_at s.tree e.0 e.1) false) (maps.entries s.blocks)

-- the free cells of each node: its cells less the used ones
abbrev pub free_of : Export → List ℕ
free_of s = map (λ n. n.cells - used_cells s n.sid) (nodes_of s.volume.clusters)

-- the places that a new file gets
abbrev pub new_places : Export → Placed
new_places s = place s.volume (free_of s)

-- the least published key of a live file above `after` that passes the test
abbrev pub first_listed : Export → Option Key → (Listed → Bool) → Option Listed
first_listed s after test =
    first_given
    (λ e. cond (is_after after e.0) (option_and_then (λ l. given_if (test l) l) (listed_at s.tree e.0 e.1)) None)
    (maps.entries s.blocks)

-- the least published key of a live file above `after`
abbrev pub published_after : Export → Option Key → Option Listed
published_after s after = first_listed s after (λ l. true)

-- the least key above `after`, over all live files, whose published mask names the node
abbrev pub next_on : Export → ℕ → Option Key → Option Listed
next_on s node after = first_listed s after (is_on node)

-- ---- denials

abbrev pub unknown_file : Export → Key → Option Denial
unknown_file s key = given_if (is_none (file_of s.tree key.fid)) denial.UnknownFile

-- a file has so many blocks
abbrev pub file_blocks : ℕ
file_blocks = 1048576

abbrev pub too_far : Key → Option Denial
too_far key = given_if (nat_le file_blocks key.block) denial.BlockTooFar

-- the last number drawn is the greatest one
abbrev pub spent : Export → Option Denial
spent s = given_if (nat_le (2 ^ 64 - 1) s.last) denial.StampsSpent

abbrev pub no_begin : Export → Key → Option Denial
no_begin s key = first_of (unknown_file s key ∷ too_far key ∷ spent s ∷ [])

abbrev pub no_look : Export → Key → Option Denial
no_look s key = first_of (unknown_file s key ∷ too_far key ∷ [])

-- the fence of the node's last enrolment, or 0
abbrev pub fence_of : Export → ℕ → ℕ
fence_of s node = option_map_or (λ e. e.fence) (maps.get s.enrolled node) 0

-- the least position of the mask whose node was enrolled above the stamp, with the fence; `i` is the
-- position of the first of these places
abbrev pub barred : Export → ℕ → ℕ → ℕ → List ℕ → Option Reply
barred s mask stamp i [] = None
barred s mask stamp i (n ∷ places) =
    cond (has_bit mask i && nat_lt stamp (fence_of s n))
    (Some (reply.Enrolled i (fence_of s n)))
    (barred s mask stamp (i + 1) places)

-- why a publish is not accepted
abbrev pub no_publish : Export → Key → ℕ → ℕ → Option Reply
no_publish s key stamp mask =
    first_of (
    option_map reply.Denied (unknown_file s key)
    ∷ given_if (nat_lt stamp (latest_of s.blocks key)) (reply.Revoked (latest_of s.blocks key))
    ∷ option_and_then (λ info. barred s mask stamp 0 info.places) (file_of s.tree key.fid)
    ∷ [])

-- ---- enrolments

-- a new fence, where a number is left
abbrev pub new_fence : Export → Reply
new_fence s = option_map_or reply.Denied (spent s) (reply.Fence (s.last + 1))

-- the reply to an enrolment of a loss, where this one is enrolled of the node
abbrev pub enroll_reply : Export → ℕ → Option Enrolled → Reply
enroll_reply s loss None = new_fence s
enroll_reply s loss (Some e) =
    cond (nat_lt loss e.loss) (reply.Denied (denial.OldLoss e.loss))
    (cond (loss == e.loss) (reply.Fence e.fence) (new_fence s))

-- whether an enrolment draws a number
abbrev pub draws : Export → ℕ → Option Enrolled → Bool
draws s loss None = is_none (spent s)
draws s loss (Some e) = nat_lt e.loss loss && is_none (spent s)

abbrev pub after_enroll : Export → ℕ → ℕ → Export
after_enroll s node loss =
    cond (draws s loss (maps.get s.enrolled node))
    (record s { enrolled = maps.insert s.enrolled node (record { loss = loss; fence = s.last + 1 }); last = s.last + 1 })
    s

-- ---- the conditions of the calls

-- the mask names as many positions as a write stores, all of them below the layout's number of positions
abbrev pub is_mask : Layout → ℕ → Bool
is_mask layout mask = (count_ones mask == forward_of layout) && nat_lt mask (2 ^ safe_of layout)

-- the stamp was drawn
abbrev pub is_drawn : Export → ℕ → Bool
is_drawn s stamp = nat_le 1 stamp && nat_le stamp s.last

-- the key is prepared, where its file is live
abbrev pub is_ready : Export → Key → Bool
is_ready s key = is_none (file_of s.tree key.fid) || is_some (maps.get s.blocks key)

abbrev pub is_node : Export → ℕ → Bool
is_node s node = list_any (λ n. n.sid == node) (nodes_of s.volume.clusters)

-- what a caller must keep to: lengths, masks, stamps and nodes are those of the volume, and a publish is one
-- of a block that was begun
abbrev pub is_proper : Export → Call → Bool
is_proper s (call.Tree c) = true
is_proper s (call.Begin key text) = nat_le (length text) (block_bytes_of s.volume.layout)
is_proper s (call.Publish key stamp mask length) =
    is_mask s.volume.layout mask && nat_le length (block_bytes_of s.volume.layout) && is_drawn s stamp && is_ready s key
is_proper s (call.Look key) = true
is_proper s (call.Enroll node loss) = is_node s node
is_proper s (call.Next node after) = true
is_proper s (call.Recheck key) = true

-- ---- the calls

-- the reply to a call
abbrev pub export_reply : Export → Call → Reply
export_reply s (call.Tree c) = reply.Tree (reply_to s.tree (new_places s).cid (new_places s).places c)
export_reply s (call.Begin key text) =
    option_map_or reply.Denied (no_begin s key) (reply.Begun (s.last + 1) (published_stamp s.blocks key))
export_reply s (call.Publish key stamp mask length) = unwrap_or (no_publish s key stamp mask) reply.Accepted
export_reply s (call.Look key) =
    option_map_or reply.Denied (no_look s key) (reply.Looked (published_of s.blocks key))
export_reply s (call.Enroll node loss) = enroll_reply s loss (maps.get s.enrolled node)
export_reply s (call.Next node after) = reply.Listed (next_on s node after)
export_reply s (call.Recheck key) =
    option_map_or reply.Denied (no_look s key) (reply.Looked (published_of s.blocks key))

-- the blocks after a reply on the tree: with a file its blocks go
abbrev pub blocks_after : Blocks → TreeReply → Blocks
blocks_after blocks (told.Gone (Some info)) = without_file blocks info.fid
blocks_after blocks _ = blocks

-- the export after a call on the tree
abbrev pub after_tree : Export → TreeCall → Export
after_tree s c = let p = new_places s in record s {
  tree = tree_after s.tree p.cid p.places c;
  blocks = blocks_after s.blocks (reply_to s.tree p.cid p.places c);
}

-- the export after a begin: the stamp is the next number, and the newest begun of the key
abbrev pub after_begin : Export → Key → Export
after_begin s key = record s { blocks = begun s.blocks key (s.last + 1); last = s.last + 1 }

-- the export after an accepted publish: the block is published, and its file is as long as the publish says
abbrev pub after_publish : Export → Key → Published → Export
after_publish s key p = record s {
  tree = grown s.tree key.fid (key.block * block_bytes_of s.volume.layout + p.length);
  blocks = with_published s.blocks key p;
}

-- the export after a call
abbrev pub export_after : Export → Call → Export
export_after s (call.Tree c) = after_tree s c
export_after s (call.Begin key text) = option_map_or (λ why. s) (no_begin s key) (after_begin s key)
export_after s (call.Publish key stamp mask length) =
    option_map_or (λ why. s) (no_publish s key stamp mask)
    (after_publish s key (record { stamp = stamp; mask = mask; length = length }))
export_after s (call.Look key) = s
export_after s (call.Enroll node loss) = after_enroll s node loss
export_after s (call.Next node after) = s
export_after s (call.Recheck key) = s
