-- Each call of the export after a legal log.
use Rattle.std.proofs.Common.{◌≡◌, List, ◌∷◌, [], sym, ◌∙◌, ap, subst}
use Rattle.rz_events.specs.Volume.{Volume}
use Rattle.rz_events.specs.declared.tree.TreeCall.{TreeCall}
use Rattle.rz_events.specs.declared.export.Call.TheVariants as call
use Rattle.rz_events.specs.declared.events.Word.TheVariants.{Export}
use Rattle.rz_events.specs.declared.events.Event.{Event}
use Rattle.rz_events.specs.declared.events.Event.TheVariants as e
use Rattle.rz_events.specs.Events.{word_of, same_word}
use Rattle.rz_export_model.specs.Export.{Export as ExportState, after_tree}
use Rattle.rz_core.specs.History.{facts}
use Rattle.rz_core.specs.ExportWord.{export_of}
use Rattle.rz_core.specs.ExportRows.{names_reply}
use Rattle.rz_core.specs.Legal.{IsLegalInRuns}
use Rattle.rz_core.specs.Tied.{IsExportStep, IsExportLawOf}
use Rattle.rz_core.proofs.Extends.{Knows, extends-more, export-extends}
use Rattle.rz_core.proofs.Locality.{legal-knows, all-filter}
use Rattle.rz_core.proofs.Stamps.{export}
use Rattle.rz_core.proofs.NodeSteps.{the_some}

-- one more event changes nothing of what the earlier ones leave
pub same-export : (v : Volume) (x : Event) (h : List Event) → IsLegalInRuns v h → export_of v (facts (x ∷ h)) (export h) ≡ export_of v (facts h) (export h)
same-export v x h legal =
    export-extends v (facts h) (facts (x ∷ h)) (extends-more (x ∷ []) h) (export h)
    (all-filter (Knows (facts h)) (λ y. same_word Export (word_of y)) h (legal-knows v h legal))

pub export-tree : (v : Volume) (c : TreeCall) → IsExportLawOf v (call.Tree c)
export-tree v c h by s x legal tied room proper is =
    subst (λ y. IsExportStep v h y (after_tree s c)) (the_some _ x is)
    (record {
      allowed = λ run. record { room = room; word = tt; row = record { told = ap (λ (z : ExportState). names_reply z c) tied } };
      tied = ap (λ (z : ExportState). after_tree z c) (tied ∙ sym (same-export v (e.Meta by c (names_reply s c)) h legal));
    })
