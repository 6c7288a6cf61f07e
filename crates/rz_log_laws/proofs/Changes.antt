-- Which events change the export.
use Rattle.std.proofs.Common.{Bool, true, false, not, ◌&&◌, ◌≡◌, List, [], ◌∷◌, Option, Some, None, cond, refl, ◌∙◌, ap, ap₂, subst}
use Rattle.std.specs.List.{filter}
use Rattle.std.specs.Option.{option_map_or}
use Rattle.rz_events.specs.Volume.{Volume}
use Rattle.rz_events.specs.declared.tree.TreeCall.{TreeCall}
use Rattle.rz_events.specs.declared.tree.TreeCall.TheVariants as call
use Rattle.rz_events.specs.declared.tree.TreeReply.{TreeReply}
use Rattle.rz_events.specs.declared.tree.TreeReply.TheVariants as reply
use Rattle.rz_events.specs.declared.tree.TreeFault.{TreeFault}
use Rattle.rz_events.specs.declared.tree.TreeFault.TheVariants as fault
use Rattle.rz_events.specs.declared.events.Event.{Event}
use Rattle.rz_events.specs.declared.events.Event.TheVariants as e
use Rattle.rz_export_model.specs.Tree.{Tree, Found, found_at}
use Rattle.rz_export_model.specs.Refusals.{path_in, refusal}
use Rattle.rz_export_model.specs.TreeCalls.{answer_to, changed_by}
use Rattle.rz_export_model.specs.Export.{Export, Blocks, new_places, blocks_after, after_tree, after_begin, after_publish, after_enroll}
use Rattle.rz_core.specs.History.{Facts, facts, length_in}
use Rattle.rz_core.specs.ExportWord.{export_of}
use Rattle.rz_core.specs.ExportRows.{names_reply}
use Rattle.rz_core.proofs.Stamps.{export}
use Rattle.rz_core.proofs.NodeLaws.{IsRows}
use Rattle.rz_core.proofs.EnrollLaws.{export-rows}
use Rattle.rz_log_laws.specs.Changes.{only_asks, is_refused, is_changing, AreDeciding}

-- the reply ends no file, or the call changes it
module _ (s : Export) where
  told : (o : Option Found) (tell : Found → TreeReply) → ((f : Found) → blocks_after s.blocks (tell f) ≡ s.blocks)
      → blocks_after s.blocks (option_map_or tell o (reply.Refused fault.NoEntry)) ≡ s.blocks
  told None tell same = refl
  told (Some f) tell same = same f

  abbrev tree_then : TreeCall → Option TreeFault → Tree
  tree_then c o = option_map_or (λ f. s.tree) o (changed_by s.tree (new_places s).cid (new_places s).places c)

  abbrev reply_then : TreeCall → Option TreeFault → TreeReply
  reply_then c o = option_map_or reply.Refused o (answer_to s.tree (new_places s).cid (new_places s).places c)

  abbrev Stays : TreeCall → Option TreeFault → Type 0
  Stays c o = (tree_then c o ≡ s.tree) × (blocks_after s.blocks (reply_then c o) ≡ s.blocks)

  stays : (c : TreeCall) (o : Option TreeFault) → (not (only_asks c) && not (is_refused (reply_then c o))) ≡ false → Stays c o
  stays c (Some f) quiet = (refl, refl)
  stays (call.Lookup path) None quiet = (refl, told (found_at s.tree (path_in path)) _ (λ f. refl))
  stays (call.Getattr path) None quiet = (refl, told (found_at s.tree (path_in path)) _ (λ f. refl))
  stays (call.Readlink path) None quiet = (refl, told (found_at s.tree (path_in path)) _ (λ f. refl))
  stays (call.Readdir path) None quiet = (refl, refl)
  stays (call.OpenFile path) None quiet = (refl, told (found_at s.tree (path_in path)) _ (λ f. refl))
  stays _ None quiet = cc

  pub same-tree : (c : TreeCall) → (not (only_asks c) && not (is_refused (names_reply s c))) ≡ false → after_tree s c ≡ s
  same-tree c quiet =
      let both = stays c (refusal s.tree c) quiet in
      ap₂ (λ (t : Tree) (b : Blocks). (let z : Export = record s { tree = t; blocks = b } in z)) both.0 both.1

decided : (v : Volume) (f : Facts) (w : List Event) → IsRows v f w → export_of v f w ≡ export_of v f (filter is_changing w)
decided v f [] rows = refl
decided v f (e.Meta by c given ∷ w) rows = go (decided v f w rows.0) (is_changing (e.Meta by c given)) refl
  where
    go : export_of v f w ≡ export_of v f (filter is_changing w) → (t : Bool) → is_changing (e.Meta by c given) ≡ t
        → after_tree (export_of v f w) c ≡ export_of v f (cond t (e.Meta by c given ∷ filter is_changing w) (filter is_changing w))
    go more true is = ap (λ (s : Export). after_tree s c) more
    go more false is =
        same-tree (export_of v f w) c (subst (λ (r : TreeReply). (not (only_asks c) && not (is_refused r)) ≡ false) rows.1.2.told is) ∙ more
decided v f (e.Begin by key stamp base text ∷ w) rows = ap (λ (s : Export). after_begin s key) (decided v f w rows.0)
decided v f (e.Publish by key stamp mask None ∷ w) rows =
    ap (λ (s : Export). after_publish s key (record { stamp = stamp; mask = mask; length = length_in (f.wrote stamp) })) (decided v f w rows.0)
decided v f (e.Publish by key stamp mask (Some refused) ∷ w) rows = decided v f w rows.0
decided v f (e.Enroll by node loss fence ∷ w) rows = ap (λ (s : Export). after_enroll s node loss) (decided v f w rows.0)
decided v f (x ∷ w) rows = decided v f w rows.0

pub deciding : (v : Volume) → AreDeciding v
deciding v h legal = decided v (facts h) (export h) (export-rows v h legal)
