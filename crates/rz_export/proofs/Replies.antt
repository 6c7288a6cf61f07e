-- What calls answer, by the first reason that applies.
use Rattle.std.proofs.Common.{◌≡◌, ℕ, ◌+◌, ◌-◌, ◌^◌, ◌<◌, ◌≤◌, true, false, cond, ◌&&◌, ◌||◌, [], ◌∷◌, Option, Some, None, is_some, sym, ap, ◌∙◌, refl}
use Rattle.std.specs.Prelude.{nat_lt, nat_le, is_none}
use Rattle.std.specs.Option.{option_map, option_and_then, option_or}
use Rattle.std.specs.FinMap as maps
use Rattle.std.proofs.lemmas.Bool.{and_parts, leb-true, leb-false, lt-ltb, le-ltb}
use Rattle.mj_angles.specs.Layout.{block_bytes_of}
use Rattle.rz_events.specs.declared.keys.Key.{Key}
use Rattle.rz_events.specs.declared.files.FileInfo.{FileInfo}
use Rattle.rz_events.specs.declared.files.Published.{Published}
use Rattle.rz_events.specs.declared.ends.Denial.TheVariants as denial
use Rattle.rz_events.specs.declared.export.Call.TheVariants as call
use Rattle.rz_events.specs.declared.export.Reply.{Reply}
use Rattle.rz_events.specs.declared.export.Reply.TheVariants as reply
use Rattle.rz_export_model.proofs.Firsts.{none_first, none_if}
use Rattle.rz_export_model.specs.Firsts.{first_of, given_if}
use Rattle.rz_export_model.specs.Tree.{file_of}
use Rattle.rz_export_model.specs.Export.{Export, latest_of, no_begin, unknown_file, too_far, spent, no_publish, barred, is_proper, is_mask, is_drawn, is_ready}
use Rattle.rz_export.specs.Kept.{with_fence}

-- ---- a publish

abbrev pub reasons : Export → Key → ℕ → ℕ → Option FileInfo → Option Reply
reasons s key stamp mask o =
    first_of (
    option_map reply.Denied (given_if (is_none o) denial.UnknownFile)
    ∷ given_if (nat_lt stamp (latest_of s.blocks key)) (reply.Revoked (latest_of s.blocks key))
    ∷ option_and_then (λ info. barred s mask stamp 0 info.places) o
    ∷ [])

pub unknown-publish : (s : Export) (key : Key) (stamp mask : ℕ) → file_of s.tree key.fid ≡ None → no_publish s key stamp mask ≡ Some (reply.Denied denial.UnknownFile)
unknown-publish s key stamp mask is = ap (reasons s key stamp mask) is

or_none : {A : Type 0} (o : Option A) → option_or o None ≡ o
or_none None = refl
or_none (Some x) = refl

pub revoked-publish : (s : Export) (key : Key) (stamp mask : ℕ) (info : FileInfo) → file_of s.tree key.fid ≡ Some info → stamp < latest_of s.blocks key
    → no_publish s key stamp mask ≡ Some (reply.Revoked (latest_of s.blocks key))
revoked-publish s key stamp mask info is low =
    ap (reasons s key stamp mask) is
    ∙ ap (λ t. option_or (given_if t (reply.Revoked (latest_of s.blocks key))) (option_or (barred s mask stamp 0 info.places) None)) (lt-ltb stamp (latest_of s.blocks key) low)

pub barred-publish : (s : Export) (key : Key) (stamp mask : ℕ) (info : FileInfo) → file_of s.tree key.fid ≡ Some info → latest_of s.blocks key ≤ stamp
    → no_publish s key stamp mask ≡ barred s mask stamp 0 info.places
barred-publish s key stamp mask info is high =
    ap (reasons s key stamp mask) is
    ∙ ap (λ t. option_or (given_if t (reply.Revoked (latest_of s.blocks key))) (option_or (barred s mask stamp 0 info.places) None)) (le-ltb stamp (latest_of s.blocks key) high)
    ∙ or_none (barred s mask stamp 0 info.places)

pub record IsFitting (s : Export) (key : Key) (p : Published) : Type 0 where
  pub fits : p.length ≤ block_bytes_of s.volume.layout
  pub begun : is_some (maps.get s.blocks key) ≡ true

-- what a publish of a live file keeps to
pub fitting : (s : Export) (key : Key) (p : Published) (info : FileInfo) → is_proper s (call.Publish key p.stamp p.mask p.length) ≡ true → file_of s.tree key.fid ≡ Some info → IsFitting s key p
fitting s key p info proper is =
    let d = and_parts (is_mask s.volume.layout p.mask && nat_le p.length (block_bytes_of s.volume.layout) && is_drawn s p.stamp) (is_ready s key) proper in
    let c = and_parts (is_mask s.volume.layout p.mask && nat_le p.length (block_bytes_of s.volume.layout)) (is_drawn s p.stamp) d.0 in
    let b = and_parts (is_mask s.volume.layout p.mask) (nat_le p.length (block_bytes_of s.volume.layout)) c.0 in
    record {
      fits = leb-true p.length (block_bytes_of s.volume.layout) b.1;
      begun = sym (ap (λ (o : Option FileInfo). is_none o || is_some (maps.get s.blocks key)) is) ∙ d.1;
    }

-- ---- a begin

pub record MayBegin (s : Export) (key : Key) : Type 0 where
  pub live : is_some (file_of s.tree key.fid) ≡ true
  pub near : key.block < 1048576
  pub room : s.last < 2 ^ 64 - 1

not_none : (o : Option FileInfo) → is_none o ≡ false → is_some o ≡ true
not_none None k = cc
not_none (Some i) k = refl

-- a file that is not live
pub unknown-begin : (s : Export) (key : Key) → file_of s.tree key.fid ≡ None → Some denial.UnknownFile ≡ no_begin s key
unknown-begin s key is = sym (ap (λ (o : Option FileInfo). option_or (given_if (is_none o) denial.UnknownFile) (option_or (too_far key) (option_or (spent s) None))) is)

-- where nothing forbids it
pub may-begin : (s : Export) (key : Key) → no_begin s key ≡ None → MayBegin s key
may-begin s key none =
    let a = none_first (unknown_file s key) (option_or (too_far key) (option_or (spent s) None)) none in
    let b = none_first (too_far key) (option_or (spent s) None) a.1 in
    let c = none_first (spent s) None b.1 in
    record {
      live = not_none (file_of s.tree key.fid) (none_if (is_none (file_of s.tree key.fid)) denial.UnknownFile a.0);
      near = leb-false 1048576 key.block (none_if (nat_le 1048576 key.block) denial.BlockTooFar b.0);
      room = leb-false (2 ^ 64 - 1) s.last (none_if (nat_le (2 ^ 64 - 1) s.last) denial.StampsSpent c.0);
    }

-- a number is left
pub may-draw : (s : Export) → spent s ≡ None → s.last < 2 ^ 64 - 1
may-draw s none = leb-false (2 ^ 64 - 1) s.last (none_if (nat_le (2 ^ 64 - 1) s.last) denial.StampsSpent none)

-- the export with a fence
abbrev pub fenced : Export → ℕ → ℕ → Export
fenced s node loss = record s { enrolled = maps.insert s.enrolled node (record { loss = loss; fence = s.last + 1 }); last = s.last + 1 }

pub fence-drawn : (s : Export) (node loss : ℕ) → spent s ≡ None → fenced s node loss ≡ with_fence s node loss
fence-drawn s node loss none = sym (ap (λ o. cond (is_none o) (fenced s node loss) s) none)
