-- Looks after a legal log.
use Rattle.std.proofs.Common.{ℕ, Bool, true, false, ◌≡◌, ◌≤◌, ◌<◌, nat_le, is_some, is_none, List, Option, Some, None, cond, refl, sym, ◌∙◌, ap, subst}
use Rattle.std.specs.Option.{option_map_or, option_or}
use Rattle.std.specs.FinMap as maps
use Rattle.std.proofs.lemmas.Bool.{leb-true, leb-false}
use Rattle.rz_events.specs.Volume.{Volume}
use Rattle.rz_events.specs.declared.keys.Key.{Key}
use Rattle.rz_events.specs.declared.keys.Actor.{Actor}
use Rattle.rz_events.specs.declared.files.FileInfo.{FileInfo}
use Rattle.rz_events.specs.declared.export.Asked.TheVariants as asked
use Rattle.rz_events.specs.declared.export.Call.TheVariants as call
use Rattle.rz_events.specs.declared.ends.Denial.{Denial}
use Rattle.rz_events.specs.declared.ends.Denial.TheVariants as denial
use Rattle.rz_events.specs.declared.export.Reply.TheVariants as reply
use Rattle.rz_events.specs.declared.events.Event.{Event}
use Rattle.rz_events.specs.declared.events.Event.TheVariants as e
use Rattle.rz_export_model.specs.Tree.{file_of}
use Rattle.rz_export_model.specs.Export.{Export as ExportState, published_of, no_look}
use Rattle.rz_export_model.specs.ExportEvents.{look_event, recheck_event}
use Rattle.rz_core.specs.History.{Facts, facts, of_actor}
use Rattle.rz_core.specs.ExportWord.{is_live, export_of}
use Rattle.rz_core.specs.ExportRows.{LookRow, HasLooked, RecheckRow}
use Rattle.rz_core.specs.Legal.{IsLegalInRuns}
use Rattle.rz_core.specs.Tied.{IsExportStep, IsExportLawOf}
use Rattle.rz_core.proofs.Stamps.{export}
use Rattle.rz_core.proofs.NodeSteps.{the_some}
use Rattle.rz_core.proofs.ExportSteps.{same-export}
use Rattle.rz_core.proofs.EnrollLaws.{export-rows}
use Rattle.rz_core.proofs.BlockTies.{Ties, ties}
use Rattle.rz_core.proofs.ExportCalls.{Before, denied}

-- the files of the export are the live ones of the log, and lie where it says
pub record AreNamed (f : Facts) (w : List Event) (s : ExportState) : Type 0 where
  pub live : (fid : ℕ) → is_some (file_of s.tree fid) ≡ is_live w fid
  pub places : (fid : ℕ) (info : FileInfo) → file_of s.tree fid ≡ Some info → f.places fid ≡ Some info.places

-- so it is of every legal log
abbrev pub IsNaming : Volume → Type 0
IsNaming v = (h : List Event) → IsLegalInRuns v h → AreNamed (facts h) (export h) (export_of v (facts h) (export h))

pub named : (v : Volume) → IsNaming v → (h : List Event) (s : ExportState) → Before v h s → AreNamed (facts h) (export h) s
named v naming h s b = subst (AreNamed (facts h) (export h)) (sym b.tied) (naming h b.legal)

pub tied-blocks : (v : Volume) (h : List Event) (s : ExportState) → Before v h s → (key : Key) → is_live (export h) key.fid ≡ true → Ties (facts h) (export h) key (maps.get s.blocks key)
tied-blocks v h s b key live =
    subst (λ (z : ExportState). Ties (facts h) (export h) key (maps.get z.blocks key)) (sym b.tied)
    (ties v (facts h) (export h) (export-rows v h b.legal) b.room key live)

pub not-live : (f : Facts) (w : List Event) (s : ExportState) → AreNamed f w s → (fid : ℕ) → file_of s.tree fid ≡ None → is_live w fid ≡ false
not-live f w s n fid none = sym (n.live fid) ∙ ap (λ (o : Option FileInfo). is_some o) none

pub is-live : (f : Facts) (w : List Event) (s : ExportState) → AreNamed f w s → (fid : ℕ) (info : FileInfo) → file_of s.tree fid ≡ Some info → is_live w fid ≡ true
is-live f w s n fid info is = sym (n.live fid) ∙ ap (λ (o : Option FileInfo). is_some o) is

-- the block of a file: it is unknown, too far, or in the file
pub look-cases : (s : ExportState) (key : Key) (P : Option Denial → Type 0)
    → (file_of s.tree key.fid ≡ None → P (Some denial.UnknownFile))
    → ((info : FileInfo) → file_of s.tree key.fid ≡ Some info → 1048576 ≤ key.block → P (Some denial.BlockTooFar))
    → ((info : FileInfo) → file_of s.tree key.fid ≡ Some info → key.block < 1048576 → P None)
    → P (no_look s key)
look-cases s key P unknown far near = go (file_of s.tree key.fid) refl
  where
    by_block : (info : FileInfo) → file_of s.tree key.fid ≡ Some info → (t : Bool) → nat_le 1048576 key.block ≡ t → P (option_or (cond t (Some denial.BlockTooFar) None) None)
    by_block info is true past = far info is (leb-true 1048576 key.block past)
    by_block info is false there = near info is (leb-false 1048576 key.block there)

    go : (o : Option FileInfo) → file_of s.tree key.fid ≡ o
        → P (option_or (cond (is_none o) (Some denial.UnknownFile) None) (option_or (cond (nat_le 1048576 key.block) (Some denial.BlockTooFar) None) None))
    go None none = unknown none
    go (Some info) is = by_block info is (nat_le 1048576 key.block) refl

looked : (v : Volume) (h : List Event) (by : Actor) (s : ExportState) → Before v h s → (key : Key) → LookRow (facts h) (export h) key (published_of s.blocks key)
    → IsExportStep v h (e.Look by key (published_of s.blocks key)) s
looked v h by s b key row = record {
  allowed = λ run. record { room = b.room; word = tt; row = row };
  tied = b.tied ∙ sym (same-export v (e.Look by key (published_of s.blocks key)) h b.legal);
}

look_step : (v : Volume) (h : List Event) (by : Actor) (s : ExportState) → Before v h s → AreNamed (facts h) (export h) s → (key : Key) (x : Event)
    → look_event by (call.Look key) (option_map_or reply.Denied (no_look s key) (reply.Looked (published_of s.blocks key))) ≡ Some x → IsExportStep v h x s
look_step v h by s b n key x =
    look-cases s key (λ o. look_event by (call.Look key) (option_map_or reply.Denied o (reply.Looked (published_of s.blocks key))) ≡ Some x → IsExportStep v h x s)
    (λ none is. subst (λ y. IsExportStep v h y s) (the_some _ x is)
    (denied v h by s b (asked.Look key) denial.UnknownFile (not-live (facts h) (export h) s n key.fid none)))
    (λ info there far is. subst (λ y. IsExportStep v h y s) (the_some _ x is)
    (denied v h by s b (asked.Look key) denial.BlockTooFar (is-live (facts h) (export h) s n key.fid info there, far)))
    (λ info there near is. (
    let live = is-live (facts h) (export h) s n key.fid info there in
    subst (λ y. IsExportStep v h y s) (the_some _ x is)
    (looked v h by s b key (record { live = live; block = near; told = (tied-blocks v h s b key live).told }))))

pub export-look : (v : Volume) → IsNaming v → (key : Key) → IsExportLawOf v (call.Look key)
export-look v naming key h by s x legal tied room proper is =
    let b : Before v h s = record { legal = legal; tied = tied; room = room } in
    look_step v h by s b (named v naming h s b) key x is

rechecked : (v : Volume) (h : List Event) (by : Actor) (s : ExportState) → Before v h s → (key : Key)
    → RecheckRow (facts h) (export h) (of_actor by h) by key (published_of s.blocks key) → IsExportStep v h (e.Recheck by key (published_of s.blocks key)) s
rechecked v h by s b key row = record {
  allowed = λ run. record { room = b.room; word = tt; row = row };
  tied = b.tied ∙ sym (same-export v (e.Recheck by key (published_of s.blocks key)) h b.legal);
}

recheck_step : (v : Volume) (h : List Event) (by : Actor) (s : ExportState) → Before v h s → AreNamed (facts h) (export h) s → (key : Key) → HasLooked (of_actor by h) by key → (x : Event)
    → recheck_event by (call.Recheck key) (option_map_or reply.Denied (no_look s key) (reply.Looked (published_of s.blocks key))) ≡ Some x → IsExportStep v h x s
recheck_step v h by s b n key has x =
    look-cases s key (λ o. recheck_event by (call.Recheck key) (option_map_or reply.Denied o (reply.Looked (published_of s.blocks key))) ≡ Some x → IsExportStep v h x s)
    (λ none is. subst (λ y. IsExportStep v h y s) (the_some _ x is)
    (denied v h by s b (asked.Recheck key) denial.UnknownFile (not-live (facts h) (export h) s n key.fid none)))
    (λ info there far is. subst (λ y. IsExportStep v h y s) (the_some _ x is)
    (denied v h by s b (asked.Recheck key) denial.BlockTooFar (is-live (facts h) (export h) s n key.fid info there, far)))
    (λ info there near is. (
    let live = is-live (facts h) (export h) s n key.fid info there in
    subst (λ y. IsExportStep v h y s) (the_some _ x is)
    (rechecked v h by s b key (record { live = live; looked = has; told = (tied-blocks v h s b key live).told }))))

pub export-recheck : (v : Volume) → IsNaming v → (key : Key) → IsExportLawOf v (call.Recheck key)
export-recheck v naming key h by s x legal tied room proper is =
    let b : Before v h s = record { legal = legal; tied = tied; room = room } in
    recheck_step v h by s b (named v naming h s b) key proper x is
