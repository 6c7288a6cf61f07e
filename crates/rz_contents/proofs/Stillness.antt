-- What events make of the names, and which of them change nothing that users see.
use Rattle.std.proofs.Common.{ℕ, Bool, true, false, not, ◌&&◌, ◌≡◌, ◌+◌, ◌*◌, List, [], ◌∷◌, ◌++◌, None, cond, refl, sym, ◌∙◌, ap, ap₂, subst}
use Rattle.std.specs.FinMap as maps
use Rattle.mj_angles.specs.Layout.{block_bytes_of}
use Rattle.rz_events.specs.Volume.{Volume}
use Rattle.rz_events.specs.declared.keys.Key.{Key}
use Rattle.rz_events.specs.declared.tree.TreeReply.{TreeReply}
use Rattle.rz_events.specs.declared.events.Event.{Event}
use Rattle.rz_events.specs.declared.events.Event.TheVariants as e
use Rattle.rz_export_model.specs.Tree.{grown}
use Rattle.rz_export_model.specs.Export.{Export as ExportState, after_tree, after_enroll, draws}
use Rattle.rz_core.specs.History.{wrote, length_in}
use Rattle.rz_core.specs.ExportRows.{names_reply}
use Rattle.rz_core.specs.Legal.{IsLegalInRuns}
use Rattle.rz_core.proofs.Extends.{wrote-more}
use Rattle.rz_core.proofs.ExportSteps.{same-export}
use Rattle.rz_log_laws.specs.Changes.{only_asks, is_refused}
use Rattle.rz_log_laws.proofs.Changes.{same-tree}
use Rattle.rz_contents.specs.Contents.{publishes, IsUnpublished}
use Rattle.rz_contents.specs.Model.{export_at, AreNames, changes, IsStill, StaysStill}
use Rattle.rz_contents.proofs.Changing.{unchanged}

enrolled : (s : ExportState) (node loss : ℕ) → (after_enroll s node loss).tree ≡ s.tree
enrolled s node loss = go (draws s loss (maps.get s.enrolled node))
  where
    go : (b : Bool) → (cond b (record s { enrolled = maps.insert s.enrolled node (record { loss = loss; fence = s.last + 1 }); last = s.last + 1 }) s).tree ≡ s.tree
    go true = refl
    go false = refl

pub names : (v : Volume) → AreNames v
names v (e.Meta by call reply) h legal = (ap (λ (s : ExportState). (after_tree s call).tree) (same-export v (e.Meta by call reply) h legal.0), legal.1.row.told)
names v (e.Publish by key stamp mask None) h legal =
    let x : Event = e.Publish by key stamp mask None in
    let w = legal.1.row.publishable.publishing.writer in
    let size : length_in (wrote (x ∷ h) stamp) ≡ length_in (wrote h stamp) = ap length_in (wrote-more (x ∷ []) h stamp w.0 w.1.found ∙ sym w.1.found) in
    (ap₂ (λ (s : ExportState) (n : ℕ). grown s.tree key.fid (key.block * block_bytes_of s.volume.layout + n)) (same-export v x h legal.0) size, tt)
names v (e.Enroll by node loss fence) h legal =
    let same = same-export v (e.Enroll by node loss fence) h legal.0 in
    (ap (λ (s : ExportState). (after_enroll s node loss).tree) same ∙ enrolled (export_at v h) node loss, tt)
names v x h legal = (ap (λ (s : ExportState). s.tree) (same-export v x h legal.0), tt)

-- One event that changes nothing.

same-names : (v : Volume) (x : Event) (h : List Event) → IsLegalInRuns v (x ∷ h) → changes x ≡ false → (export_at v (x ∷ h)).tree ≡ (export_at v h).tree
same-names v (e.Meta by call reply) h legal quiet =
    let s = export_at v h in
    let asks : (not (only_asks call) && not (is_refused (names_reply s call))) ≡ false =
    subst (λ (r : TreeReply). (not (only_asks call) && not (is_refused r)) ≡ false) legal.1.row.told quiet in
    (names v (e.Meta by call reply) h legal).0 ∙ ap (λ (z : ExportState). z.tree) (same-tree s call asks)
same-names v (e.Publish by key stamp mask None) h legal quiet = cc
same-names v x h legal quiet = (names v x h legal).0

still-one : (key : Key) (x : Event) → changes x ≡ false → publishes key x ≡ false
still-one key (e.Publish by at stamp mask None) quiet = cc
still-one key x quiet = refl

pub unpublished : (key : Key) (xs : List Event) → IsStill xs → IsUnpublished key xs
unpublished key [] all = tt
unpublished key (x ∷ xs) all = (still-one key x all.0, unpublished key xs all.1)

still-names : (v : Volume) (xs h : List Event) → IsLegalInRuns v (xs ++ h) → IsStill xs → (export_at v (xs ++ h)).tree ≡ (export_at v h).tree
still-names v [] h legal all = refl
still-names v (x ∷ xs) h legal all = same-names v x (xs ++ h) legal all.0 ∙ still-names v xs h legal.0 all.1

pub still : (v : Volume) → StaysStill v
still v xs h legal all = record { names = still-names v xs h legal all; blocks = λ key. unchanged v xs h key legal (unpublished key xs all) }
