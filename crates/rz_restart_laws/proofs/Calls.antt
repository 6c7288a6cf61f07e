-- The calls that changed the export of a log: one event more, and the export after all of them.
use Rattle.std.proofs.Common.{ℕ, Bool, true, false, not, ◌&&◌, ◌||◌, ◌≡◌, List, [], ◌∷◌, ◌++◌, Some, None, is_some, cond, refl, sym, ◌∙◌, ap, ap₂, subst}
use Rattle.std.specs.List.{AllByRecursion}
use Rattle.rz_events.specs.Volume.{Volume}
use Rattle.rz_events.specs.declared.keys.Actor.{Actor}
use Rattle.rz_events.specs.declared.tree.TreeCall.{TreeCall}
use Rattle.rz_events.specs.declared.tree.TreeCall.TheVariants as tree
use Rattle.rz_events.specs.declared.tree.TreeReply.{TreeReply}
use Rattle.rz_events.specs.declared.tree.TreeReply.TheVariants as named
use Rattle.rz_events.specs.declared.export.Call.{Call}
use Rattle.rz_events.specs.declared.export.Call.TheVariants as call
use Rattle.rz_events.specs.declared.export.Reply.{Reply}
use Rattle.rz_events.specs.declared.export.Reply.TheVariants as reply
use Rattle.rz_events.specs.declared.events.Word.TheVariants.{Export}
use Rattle.rz_events.specs.declared.events.Event.{Event}
use Rattle.rz_events.specs.declared.events.Event.TheVariants as e
use Rattle.rz_events.specs.Events.{word_of, same_word}
use Rattle.rz_export_model.specs.Export.{Export as ExportState, export_after, new_export}
use Rattle.rz_export_model.specs.ExportEvents.{export_event}
use Rattle.rz_core.specs.History.{Facts, facts, length_in}
use Rattle.rz_core.specs.Legal.{IsLegalInRuns}
use Rattle.rz_core.proofs.Extends.{Extends, Knows, extends-more}
use Rattle.rz_core.proofs.Locality.{all-filter, legal-knows}
use Rattle.rz_core.proofs.NodeSteps.{the_some}
use Rattle.rz_core.proofs.Stamps.{export}
use Rattle.rz_log_laws.specs.Changes.{only_asks, is_refused, is_changing, calls_of, built, IsBuilt}
use Rattle.rz_play_laws.proofs.Events.{export-event}
use Rattle.rz_journal_text.specs.declared.entry.JournalEntry.TheVariants as entry
use Rattle.rz_journal.specs.JournalText.{after_all}
use Rattle.rz_journal.specs.Said.{only_looks, has_long_text, entry_of, accepts}
use Rattle.rz_journal.specs.Seen.{calls_after}
use Rattle.rz_journal.proofs.Makings.{after_more}
use Rattle.rz_journal.proofs.Refused.{unkept_same}
use Rattle.rz_restart_laws.specs.Calls.{calls_told, changing_calls, HasLength}
use Rattle.rz_restart_laws.specs.Laws.{IsExportAgain, IsCallTold, IsNoCall}

-- ---- one event more

module _ (f : Facts) (w : List Event) where
  -- what an event makes of the calls before it
  abbrev Makes : List Call → Event → Type 0
  Makes calls x = calls ≡ calls_told f (x ∷ w)

  adds : (by : Actor) (c : Call) (r : Reply) (x : Event) → export_event by c r ≡ Some x → HasLength f c → Makes (calls_after r c (calls_told f w)) x
  adds by (call.Tree c) (reply.Tree given) x is long = subst (Makes (calls_after (reply.Tree given) (call.Tree c) (calls_told f w))) (the_some _ x is) refl
  adds by (call.Tree c) (_) x is long = cc
  adds by (call.Begin key text) (reply.Begun stamp base) x is long = subst (Makes (calls_told f w ++ call.Begin key text ∷ [])) (the_some _ x is) refl
  adds by (call.Begin key text) (reply.Denied why) x is long = subst (Makes (calls_told f w)) (the_some _ x is) refl
  adds by (call.Begin key text) (_) x is long = cc
  adds by (call.Publish key stamp mask size) reply.Accepted x is long =
      subst (Makes (calls_told f w ++ call.Publish key stamp mask size ∷ [])) (the_some _ x is)
      (ap (λ (n : ℕ). calls_told f w ++ call.Publish key stamp mask n ∷ []) long)
  adds by (call.Publish key stamp mask size) (reply.Enrolled p fence) x is long = subst (Makes (calls_told f w)) (the_some _ x is) refl
  adds by (call.Publish key stamp mask size) (reply.Revoked later) x is long = subst (Makes (calls_told f w)) (the_some _ x is) refl
  adds by (call.Publish key stamp mask size) (reply.Denied why) x is long = subst (Makes (calls_told f w)) (the_some _ x is) refl
  adds by (call.Publish key stamp mask size) (_) x is long = cc
  adds by (call.Look key) (reply.Looked p) x is long = subst (Makes (calls_told f w)) (the_some _ x is) refl
  adds by (call.Look key) (reply.Denied why) x is long = subst (Makes (calls_told f w)) (the_some _ x is) refl
  adds by (call.Look key) (_) x is long = cc
  adds by (call.Recheck key) (reply.Looked p) x is long = subst (Makes (calls_told f w)) (the_some _ x is) refl
  adds by (call.Recheck key) (reply.Denied why) x is long = subst (Makes (calls_told f w)) (the_some _ x is) refl
  adds by (call.Recheck key) (_) x is long = cc
  adds by (call.Enroll node loss) (reply.Fence fence) x is long = subst (Makes (calls_told f w ++ call.Enroll node loss ∷ [])) (the_some _ x is) refl
  adds by (call.Enroll node loss) (reply.Denied why) x is long = subst (Makes (calls_told f w)) (the_some _ x is) refl
  adds by (call.Enroll node loss) (_) x is long = cc
  adds by (call.Next node after) (reply.Listed l) x is long = subst (Makes (calls_told f w)) (the_some _ x is) refl
  adds by (call.Next node after) (_) x is long = cc

-- ---- more facts

-- the calls are the same under more facts
calls-extend : (f g : Facts) → Extends f g → (w : List Event) → AllByRecursion (Knows f) w → calls_told g w ≡ calls_told f w
calls-extend f g ext [] k = refl
calls-extend f g ext (e.Meta by c given ∷ w) k = ap (calls_after (reply.Tree given) (call.Tree c)) (calls-extend f g ext w k.1)
calls-extend f g ext (e.Begin by key stamp base text ∷ w) k = ap (λ cs. cs ++ call.Begin key text ∷ []) (calls-extend f g ext w k.1)
calls-extend f g ext (e.Publish by key stamp mask None ∷ w) k =
    ap (λ b. calls_told g w ++ call.Publish key stamp mask (length_in b) ∷ []) (ext.wrote stamp k.0.0 k.0.1 ∙ sym k.0.1)
    ∙ ap (λ cs. cs ++ call.Publish key stamp mask (length_in (f.wrote stamp)) ∷ []) (calls-extend f g ext w k.1)
calls-extend f g ext (e.Publish by key stamp mask (Some refused) ∷ w) k = calls-extend f g ext w k.1
calls-extend f g ext (e.Enroll by node loss fence ∷ w) k = ap (λ cs. cs ++ call.Enroll node loss ∷ []) (calls-extend f g ext w k.1)
calls-extend f g ext (x ∷ w) k = calls-extend f g ext w k.1

-- the calls of a log, by the facts of a longer one
longer : (v : Volume) (more h : List Event) → IsLegalInRuns v h → calls_told (facts (more ++ h)) (export h) ≡ changing_calls h
longer v more h legal =
    calls-extend (facts h) (facts (more ++ h)) (extends-more more h) (export h)
    (all-filter (Knows (facts h)) (λ y. same_word Export (word_of y)) h (legal-knows v h legal))

in-word : (x : Event) (h : List Event) (b : Bool) → same_word Export (word_of x) ≡ b → export (x ∷ h) ≡ cond b (x ∷ export h) (export h)
in-word x h b is = ap (λ b. cond b (x ∷ export h) (export h)) is

pub told : (v : Volume) → IsCallTold v
told v h x by c r legal is long =
    let grows : export (x ∷ h) ≡ x ∷ export h = in-word x h true (ap (same_word Export) (export-event by c r x is).word_is) in
    ap (calls_after r c) (sym (longer v (x ∷ []) h legal))
    ∙ adds (facts (x ∷ h)) (export h) by c r x is long
    ∙ ap (calls_told (facts (x ∷ h))) (sym grows)

pub untold : (v : Volume) → IsNoCall v
untold v h more legal same = ap (calls_told (facts (more ++ h))) same ∙ longer v more h legal

-- ---- the export after these calls

-- the calls that only ask are those that only look
looks : (c : TreeCall) → only_asks c ≡ only_looks c
looks (tree.Lookup path) = refl
looks (tree.Getattr path) = refl
looks (tree.Readlink path) = refl
looks (tree.Readdir path) = refl
looks (tree.OpenFile path) = refl
looks (tree.Rmdir path) = refl
looks (tree.Mkdir path) = refl
looks (tree.Create path) = refl
looks (tree.Unlink path) = refl
looks (tree.Setattr path mode mtime) = refl
looks (tree.Rename path to) = refl
looks (tree.Link path to) = refl
looks (tree.Symlink target path) = refl

accepted : (given : TreeReply) → not (is_refused given) ≡ accepts (reply.Tree given)
accepted (named.Refused fault) = refl
accepted _ = refl

changing : (by : Actor) (c : TreeCall) (given : TreeReply) → is_changing (e.Meta by c given) ≡ (not (only_looks c) && accepts (reply.Tree given))
changing by c given = ap₂ (λ a b. not a && b) (looks c) (accepted given)

module _ (f : Facts) (s : ExportState) where
  -- the export after the calls of a word
  abbrev Comes : List Event → Type 0
  Comes w = built s (calls_of f w) ≡ after_all s (calls_told f w)

  one-more : (w : List Event) (c : Call) → Comes w → export_after (built s (calls_of f w)) c ≡ after_all s (calls_told f w ++ c ∷ [])
  one-more w c rest = ap (λ (z : ExportState). export_after z c) rest ∙ sym (after_more s (calls_told f w) c)

  -- a call on names: one that changes nothing has no entry, or was refused
  names : (w : List Event) (c : TreeCall) → Comes w → (asks long given : Bool) → only_looks c ≡ asks → has_long_text c ≡ long
      → built s (cond (not asks && given) (call.Tree c ∷ calls_of f w) (calls_of f w))
      ≡ after_all s (cond (is_some (cond (asks || long) None (Some (entry.Tree c))) && given) (calls_told f w ++ call.Tree c ∷ []) (calls_told f w))
  names w c rest true long given asked wide = rest
  names w c rest false true false asked wide = rest
  names w c rest false false false asked wide = rest
  names w c rest false false true asked wide = one-more w (call.Tree c) rest
  names w c rest false true true asked wide =
      let none : entry_of (call.Tree c) ≡ None = ap₂ (λ (a b : Bool). cond (a || b) None (Some (entry.Tree c))) asked wide in
      unkept_same (built s (calls_of f w)) (call.Tree c) none ∙ rest

  comes : (w : List Event) → Comes w
  comes [] = refl
  comes (e.Meta by c given ∷ w) =
      ap (λ b. built s (cond b (call.Tree c ∷ calls_of f w) (calls_of f w))) (changing by c given)
      ∙ names w c (comes w) (only_looks c) (has_long_text c) (accepts (reply.Tree given)) refl refl
  comes (e.Begin by key stamp base text ∷ w) = one-more w (call.Begin key text) (comes w)
  comes (e.Publish by key stamp mask None ∷ w) = one-more w (call.Publish key stamp mask (length_in (f.wrote stamp))) (comes w)
  comes (e.Publish by key stamp mask (Some refused) ∷ w) = comes w
  comes (e.Enroll by node loss fence ∷ w) = one-more w (call.Enroll node loss) (comes w)
  comes (x ∷ w) = comes w

pub exported : ((v : Volume) → IsBuilt v) → (v : Volume) → IsExportAgain v
exported builds v h legal = sym (builds v h legal ∙ comes (facts h) (new_export v 0) (export h))
