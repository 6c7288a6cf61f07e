-- The calls that build the export of a log.
use Rattle.std.proofs.Common.{ℕ, Bool, true, false, ◌≡◌, ◌+◌, List, [], ◌∷◌, Option, Some, None, cond, refl, sym, ◌∙◌, ap, subst, arith}
use Rattle.std.specs.List.{AllByRecursion}
use Rattle.std.specs.Option.{option_map_or, option_or}
use Rattle.rz_events.specs.Volume.{Volume}
use Rattle.rz_events.specs.Masks.{HasBit}
use Rattle.rz_events.specs.declared.keys.Key.{Key}
use Rattle.rz_events.specs.declared.keys.Actor.{Actor}
use Rattle.rz_events.specs.declared.files.FileInfo.{FileInfo}
use Rattle.rz_events.specs.declared.ends.Denial.{Denial}
use Rattle.rz_events.specs.declared.tree.TreeReply.{TreeReply}
use Rattle.rz_events.specs.declared.export.Call.TheVariants as calls
use Rattle.rz_events.specs.declared.export.Reply.{Reply}
use Rattle.rz_events.specs.declared.events.Word.TheVariants.{Export}
use Rattle.rz_events.specs.declared.events.Event.{Event}
use Rattle.rz_events.specs.declared.events.Event.TheVariants as e
use Rattle.rz_events.specs.Events.{word_of, same_word}
use Rattle.rz_export_model.specs.Tree.{file_of}
use Rattle.rz_export_model.specs.Export.{Export as ExportState, new_export, export_after, after_tree, after_begin, after_publish, unknown_file, too_far, no_begin, no_publish, barred}
use Rattle.rz_core.specs.History.{Facts, facts, length_in}
use Rattle.rz_core.specs.ExportWord.{export_of}
use Rattle.rz_core.specs.ExportRows.{BeginRow, AcceptedRow}
use Rattle.rz_core.specs.Legal.{IsLegalInRuns}
use Rattle.rz_core.proofs.Extends.{Extends, Knows, extends-more}
use Rattle.rz_core.proofs.Locality.{all-filter, legal-knows}
use Rattle.rz_core.proofs.Stamps.{export}
use Rattle.rz_core.proofs.ExportSteps.{same-export}
use Rattle.rz_core.proofs.ExportCalls.{Before, enrolment, left}
use Rattle.rz_core.proofs.ExportLooks.{named, tied-blocks, not-live, look-cases}
use Rattle.rz_core.proofs.ExportPublish.{publish_cases}
use Rattle.rz_core.proofs.Fences.{Bars, barred-some, fence-has}
use Rattle.rz_core.proofs.Naming.{naming}
use Rattle.rz_log_laws.specs.Changes.{is_changing, calls_of, built as built_by, IsBuilt}
use Rattle.rz_log_laws.proofs.Changes.{same-tree}

-- the calls are the same under more facts
calls-extend : (f g : Facts) → Extends f g → (w : List Event) → AllByRecursion (Knows f) w → calls_of g w ≡ calls_of f w
calls-extend f g ext [] k = refl
calls-extend f g ext (e.Meta by c given ∷ w) k = ap (λ cs. cond (is_changing (e.Meta by c given)) (calls.Tree c ∷ cs) cs) (calls-extend f g ext w k.1)
calls-extend f g ext (e.Begin by key stamp base text ∷ w) k = ap (λ cs. calls.Begin key text ∷ cs) (calls-extend f g ext w k.1)
calls-extend f g ext (e.Publish by key stamp mask None ∷ w) k =
    ap (λ b. calls.Publish key stamp mask (length_in b) ∷ calls_of g w) (ext.wrote stamp k.0.0 k.0.1 ∙ sym k.0.1)
    ∙ ap (λ cs. calls.Publish key stamp mask (length_in (f.wrote stamp)) ∷ cs) (calls-extend f g ext w k.1)
calls-extend f g ext (e.Publish by key stamp mask (Some refused) ∷ w) k = calls-extend f g ext w k.1
calls-extend f g ext (e.Enroll by node loss fence ∷ w) k = ap (λ cs. calls.Enroll node loss ∷ cs) (calls-extend f g ext w k.1)
calls-extend f g ext (x ∷ w) k = calls-extend f g ext w k.1

-- A begin of the log is not denied, and a publish that it accepts is not refused.

module _ (v : Volume) (h : List Event) (s : ExportState) (b : Before v h s) where
  begins : (key : Key) (stamp base : ℕ) (text : List ℕ) → BeginRow v (facts h) (export h) key stamp base text → no_begin s key ≡ None
  begins key stamp base text row =
      let n = named v (naming v) h s b in
      subst (λ o. o ≡ None) (ap (λ (o : Option Denial). option_or (unknown_file s key) (option_or (too_far key) (option_or o None))) (sym (left v h s b)))
      (look-cases s key (λ o. o ≡ None)
      (λ none. (let off = not-live (facts h) (export h) s n key.fid none in let on = row.live in cc))
      (λ info there far. (let near = row.block in absurd (omega (arith, far, near))))
      (λ info there near. refl))

  publishes : (o : List Event) (by : Actor) (key : Key) (stamp mask : ℕ) → AcceptedRow v (facts h) (export h) o by key stamp mask → no_publish s key stamp mask ≡ None
  publishes o by key stamp mask row =
      publish_cases s key stamp mask (λ r. r ≡ None)
      (λ none. (let off = not-live (facts h) (export h) s (named v (naming v) h s b) key.fid none in let on = row.publishable.live in cc))
      (λ info there late. (let t = (tied-blocks v h s b key row.publishable.live).begun in let newest = row.publishable.newest in absurd (omega (arith, late, t, newest))))
      (λ info there low. free info there (barred s mask stamp 0 info.places) refl)
    where
      stands : (info : FileInfo) → file_of s.tree key.fid ≡ Some info → (r : Reply) → Bars s mask stamp 0 info.places r → ⊥
      stands info there r bars =
          let at : 0 + bars.place ≡ bars.place = omega arith in
          let has = fence-has s (export h) (enrolment v h s b) bars.node stamp bars.above in
          let low = row.free bars.place bars.node (subst (HasBit mask) at bars.named) (info.places, (named v (naming v) h s b).places key.fid info there, bars.at) has.0 has.1 _ has.2 in
          let above = bars.above in
          omega (arith, low, above)

      free : (info : FileInfo) → file_of s.tree key.fid ≡ Some info → (r : Option Reply) → barred s mask stamp 0 info.places ≡ r → r ≡ None
      free info there None is = refl
      free info there (Some r) is = absurd (stands info there r (barred-some s mask stamp 0 info.places r is))

-- the export before the newest event, and the calls that built it
before : (v : Volume) (x : Event) (h : List Event) → IsLegalInRuns v h → export_of v (facts h) (export h) ≡ built_by (new_export v 0) (calls_of (facts h) (export h))
    → export_of v (facts (x ∷ h)) (export h) ≡ built_by (new_export v 0) (calls_of (facts (x ∷ h)) (export h))
before v x h legal ih =
    let known = all-filter (Knows (facts h)) (λ y. same_word Export (word_of y)) h (legal-knows v h legal) in
    same-export v x h legal ∙ ih
    ∙ ap (built_by (new_export v 0)) (sym (calls-extend (facts h) (facts (x ∷ h)) (extends-more (x ∷ []) h) (export h) known))

pub built : (v : Volume) → IsBuilt v
built v [] legal = refl
built v (e.Meta by c given ∷ h) legal =
    go (before v (e.Meta by c given) h legal.0 (built v h legal.0)) (is_changing (e.Meta by c given)) refl
  where
    go : export_of v (facts (e.Meta by c given ∷ h)) (export h) ≡ built_by (new_export v 0) (calls_of (facts (e.Meta by c given ∷ h)) (export h)) → (t : Bool) → is_changing (e.Meta by c given) ≡ t
        → after_tree (export_of v (facts (e.Meta by c given ∷ h)) (export h)) c ≡ built_by (new_export v 0) (cond t (calls.Tree c ∷ calls_of (facts (e.Meta by c given ∷ h)) (export h)) (calls_of (facts (e.Meta by c given ∷ h)) (export h)))
    go old true is = ap (λ (s : ExportState). after_tree s c) old
    go old false is =
        let same = same-export v (e.Meta by c given) h legal.0 in
        let stays = same-tree (export_of v (facts h) (export h)) c (subst (λ (r : TreeReply). is_changing (e.Meta by c r) ≡ false) legal.1.row.told is) in
        ap (λ (s : ExportState). after_tree s c) same ∙ stays ∙ sym same ∙ old
built v (e.Begin by key stamp base text ∷ h) legal =
    let x = e.Begin by key stamp base text in
    let same = same-export v x h legal.0 in
    let none = begins v h (export_of v (facts h) (export h)) (record { legal = legal.0; tied = refl; room = legal.1.room }) key stamp base text legal.1.row in
    let here : no_begin (export_of v (facts (x ∷ h)) (export h)) key ≡ None = ap (λ (s : ExportState). no_begin s key) same ∙ none in
    sym (ap (λ (o : Option Denial). option_map_or (λ why. export_of v (facts (x ∷ h)) (export h)) o (after_begin (export_of v (facts (x ∷ h)) (export h)) key)) here)
    ∙ ap (λ (s : ExportState). export_after s (calls.Begin key text)) (before v x h legal.0 (built v h legal.0))
built v (e.Publish by key stamp mask None ∷ h) legal =
    let x = e.Publish by key stamp mask None in
    let same = same-export v x h legal.0 in
    let none = publishes v h (export_of v (facts h) (export h)) (record { legal = legal.0; tied = refl; room = legal.1.room }) _ by key stamp mask legal.1.row in
    let here : no_publish (export_of v (facts (x ∷ h)) (export h)) key stamp mask ≡ None = ap (λ (s : ExportState). no_publish s key stamp mask) same ∙ none in
    let size = length_in ((facts (x ∷ h)).wrote stamp) in
    sym (ap (λ (o : Option Reply). option_map_or (λ why. export_of v (facts (x ∷ h)) (export h)) o
    (after_publish (export_of v (facts (x ∷ h)) (export h)) key (record { stamp = stamp; mask = mask; length = size }))) here)
    ∙ ap (λ (s : ExportState). export_after s (calls.Publish key stamp mask size)) (before v x h legal.0 (built v h legal.0))
built v (e.Publish by key stamp mask (Some refused) ∷ h) legal = before v (e.Publish by key stamp mask (Some refused)) h legal.0 (built v h legal.0)
built v (e.Enroll by node loss fence ∷ h) legal =
    ap (λ (s : ExportState). export_after s (calls.Enroll node loss)) (before v (e.Enroll by node loss fence) h legal.0 (built v h legal.0))
built v (x ∷ h) legal = before v x h legal.0 (built v h legal.0)
