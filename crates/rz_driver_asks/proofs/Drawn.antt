-- What is published was drawn before: its stamp is no greater than the last number that the export drew.
use Rattle.std.proofs.Common.{◌≡◌, ℕ, ◌≤◌, ◌+◌, inl, inr, ◌&&◌, Bool, true, false, cond, not, ◌==◌, List, [], ◌∷◌, Option, Some, None, sym, ap, ◌∙◌, subst, refl, arith}
use Rattle.std.specs.Prelude.{nat_le, nat_lt}
use Rattle.std.specs.Option.{option_map_or, option_and_then}
use Rattle.std.specs.FinMap as maps
use Rattle.std.specs.FinMap.{get-empty}
use Rattle.std.proofs.lemmas.Bool.{and_parts, leb-true}
use Rattle.mj_angles.specs.Layout.{block_bytes_of}
use Rattle.rz_events.specs.Keys.{key_cmp, keys_total, exact_keys}
use Rattle.rz_events.specs.declared.keys.Key.{Key}
use Rattle.rz_events.specs.declared.files.Published.{Published}
use Rattle.rz_events.specs.declared.ends.Denial.{Denial}
use Rattle.rz_events.specs.declared.tree.TreeReply.{TreeReply}
use Rattle.rz_events.specs.declared.tree.TreeReply.TheVariants as told
use Rattle.rz_events.specs.declared.export.Call.{Call}
use Rattle.rz_events.specs.declared.export.Call.TheVariants as call
use Rattle.rz_events.specs.declared.export.Reply.{Reply}
use Rattle.rz_export_model.specs.Export.{Block, Blocks, Export, after_begin, after_publish, blocks_after, draws, export_after, is_drawn, is_mask, is_proper, is_ready, new_export, newer_of, no_begin, no_publish, published_of, published_stamp, without_file, latest_of}
use Rattle.rz_export_model.proofs.Forgets.{get-without}
use Rattle.rz_journal.specs.JournalText.{AreAccepted, after_all}
use Rattle.rz_journal.specs.Kept.{IsExportAfter}
use Rattle.rz_tree.proofs.Keys.{get-beside, get-inserted, not_none, one-or-two, same_some}

abbrev public_in : Option Block → Option Published
public_in o = option_and_then (λ (b : Block). b.published) o

-- each stamp that is published is at most this
abbrev AreBelow : Blocks → ℕ → Type 0
AreBelow m last = (key : Key) (p : Published) → published_of m key ≡ Some p → p.stamp ≤ last

later : (m : Blocks) (last more : ℕ) → last ≤ more → AreBelow m last → AreBelow m more
later m last more le below = λ key p at. let low = below key p at in omega (arith, low, le)

without : (m : Blocks) (fid last : ℕ) → AreBelow m last → AreBelow (without_file m fid) last
without m fid last below = λ key p at. go key p (not (key.fid == fid)) (ap public_in (sym (get-without m fid key)) ∙ at)
  where
    go : (key : Key) (p : Published) (b : Bool) → public_in (cond b (maps.get m key) None) ≡ Some p → p.stamp ≤ last
    go key p true at = below key p at
    go key p false at = absurd (not_none p (sym at))

replied : (m : Blocks) (last : ℕ) (r : TreeReply) → AreBelow m last → AreBelow (blocks_after m r) last
replied m last (told.Gone (Some info)) below = without m info.fid last below
replied m last (told.Gone None) below = below
replied m last (told.Made fid) below = below
replied m last (told.MadeFile info) below = below
replied m last (told.Found fid kind) below = below
replied m last (told.Attr attr) below = below
replied m last told.Plain below = below
replied m last (told.Names names) below = below
replied m last (told.Target target) below = below
replied m last (told.File info) below = below
replied m last (told.Refused fault) below = below

inserted : (m : Blocks) (key : Key) (b : Block) (last : ℕ) → ((p : Published) → b.published ≡ Some p → p.stamp ≤ last) → AreBelow m last → AreBelow (maps.insert m key b) last
inserted m key b last own below = λ q p at. elim (one-or-two keys_total exact_keys q key) [
  | inl is ↦ own p (ap public_in (sym (ap (maps.get (maps.insert m key b)) is ∙ get-inserted keys_total exact_keys m key b)) ∙ at)
  | inr other ↦ below q p (ap public_in (sym (get-beside keys_total exact_keys m key b q other)) ∙ at)
]

module _ (s : Export) (below : AreBelow s.blocks s.last) where
  begins : (key : Key) (o : Option Denial) → (let t = option_map_or (λ (why : Denial). s) o (after_begin s key) in AreBelow t.blocks t.last)
  begins key (Some why) = below
  begins key None =
      inserted s.blocks key (record { latest = s.last + 1; published = published_of s.blocks key }) (s.last + 1)
      (λ p at. let low = below key p at in omega (arith, low)) (later s.blocks s.last (s.last + 1) (omega arith) below)

  newer : (key : Key) (p : Published) → p.stamp ≤ s.last → (o : Option Published) → published_of s.blocks key ≡ o → (newer_of o p).stamp ≤ s.last
  newer key p drawn None at = drawn
  newer key p drawn (Some first) at = go (nat_lt first.stamp p.stamp)
    where
      go : (b : Bool) → (cond b p first).stamp ≤ s.last
      go true = drawn
      go false = below key first at

  publishes : (key : Key) (p : Published) → p.stamp ≤ s.last → (o : Option Reply) → (let t = option_map_or (λ (why : Reply). s) o (after_publish s key p) in AreBelow t.blocks t.last)
  publishes key p drawn (Some why) = below
  publishes key p drawn None =
      inserted s.blocks key (record { latest = latest_of s.blocks key; published = Some (newer_of (published_of s.blocks key) p) }) s.last
      (λ q is. subst (λ (x : Published). x.stamp ≤ s.last) (same_some _ q is) (newer key p drawn (published_of s.blocks key) refl)) below

  step : (c : Call) → is_proper s c ≡ true → (let t = export_after s c in AreBelow t.blocks t.last)
  step (call.Tree c) proper = replied s.blocks s.last _ below
  step (call.Begin key text) proper = begins key (no_begin s key)
  step (call.Publish key stamp mask length) proper =
      let d = and_parts (is_mask s.volume.layout mask && nat_le length (block_bytes_of s.volume.layout) && is_drawn s stamp) (is_ready s key) proper in
      let e = and_parts (is_mask s.volume.layout mask && nat_le length (block_bytes_of s.volume.layout)) (is_drawn s stamp) d.0 in
      let f = and_parts (nat_le 1 stamp) (nat_le stamp s.last) e.1 in
      publishes key (record { stamp = stamp; mask = mask; length = length }) (leb-true stamp s.last f.1) (no_publish s key stamp mask)
  step (call.Look key) proper = below
  step (call.Enroll node loss) proper = go (draws s loss (maps.get s.enrolled node))
    where
      go : (b : Bool) → (let t = cond b (record s { enrolled = maps.insert s.enrolled node (record { loss = loss; fence = s.last + 1 }); last = s.last + 1 }) s in AreBelow t.blocks t.last)
      go true = later s.blocks s.last (s.last + 1) (omega arith) below
      go false = below
  step (call.Next node after) proper = below
  step (call.Recheck key) proper = below

all : (s : Export) (calls : List Call) → AreAccepted s calls → AreBelow s.blocks s.last → (let t = after_all s calls in AreBelow t.blocks t.last)
all s [] accepted below = below
all s (c ∷ calls) accepted below = all (export_after s c) calls accepted.1 (step s below c accepted.0.proper)

-- so it is of the export after calls that a new one accepted
pub base-drawn : (s : Export) (calls : List Call) → IsExportAfter s calls → (key : Key) → published_stamp s.blocks key ≤ s.last
base-drawn s calls after key = go (published_of s.blocks key) refl
  where
    none : AreBelow (new_export s.volume 0).blocks 0
    none = λ q p at. absurd (not_none p (sym at ∙ ap public_in (get-empty key_cmp q)))

    below : AreBelow s.blocks s.last
    below = subst (λ (t : Export). AreBelow t.blocks t.last) (sym after.made) (all (new_export s.volume 0) calls after.accepted none)

    go : (o : Option Published) → published_of s.blocks key ≡ o → option_map_or (λ (p : Published). p.stamp) o 0 ≤ s.last
    go None at = omega arith
    go (Some p) at = below key p at
