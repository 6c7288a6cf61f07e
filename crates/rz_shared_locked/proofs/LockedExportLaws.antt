-- What lasts of the export while others act, and what may be added of its word, by the laws of the log.
use Rattle.std.proofs.Common.{◌≡◌, ◌<◌, ◌-◌, ◌^◌, List, ◌++◌, length, sym, ap, subst, arith}
use Rattle.rz_events.specs.Volume.{Volume}
use Rattle.rz_events.specs.declared.events.Word.TheVariants.{Export}
use Rattle.rz_events.specs.declared.events.Event.{Event}
use Rattle.rz_events.specs.Events.{by_of}
use Rattle.rz_export_model.specs.Export.{export_after}
use Rattle.rz_core.specs.History.{facts, of_word, of_actor}
use Rattle.rz_core.specs.Legal.{IsLegalAfter}
use Rattle.rz_core.specs.Longer.{IsNextRun}
use Rattle.rz_core.specs.Tied.{IsExport, IsProperCall, IsExportStep, IsExportLaw}
use Rattle.rz_log_laws.specs.Beside.{IsExportKept, IsCallKept}
use Rattle.rz_shared_locked.specs.Laws.{IsLockedExportKept, IsCallerKept, IsReplyLaw}
use Rattle.rz_shared_locked.proofs.Lasting.{AreWordsKept, AreActorsKept}
use Rattle.rz_shared_locked.proofs.Behind.{word-behind, actor-behind, later-behind}

pub locked_export-kept : (v : Volume) → IsNextRun v → IsExportKept v → AreWordsKept → IsLockedExportKept v
locked_export-kept v next kept words earlier old new s legal later same tied =
    let is = later-behind old new earlier later in
    let it : of_word Export (later.0 ++ (old ++ earlier)) ≡ of_word Export (old ++ earlier) =
    subst (λ (h : List Event). of_word Export h ≡ of_word Export (old ++ earlier)) is (word-behind Export earlier new old (words Export new old same)) in
    subst (λ (h : List Event). IsExport v (facts h) (of_word Export h) s) (sym is) (kept (old ++ earlier) later.0 s (next earlier old legal) it tied)

pub caller-kept : (v : Volume) → IsNextRun v → IsCallKept v → AreActorsKept → IsCallerKept v
caller-kept v next kept actors earlier old new by question legal later same proper =
    let is = later-behind old new earlier later in
    let it : of_actor by (later.0 ++ (old ++ earlier)) ≡ of_actor by (old ++ earlier) =
    subst (λ (h : List Event). of_actor by h ≡ of_actor by (old ++ earlier)) is (actor-behind by earlier new old (actors by new old same)) in
    subst (λ (h : List Event). IsProperCall v (facts h) (of_actor by h) by question) (sym is) (kept (old ++ earlier) later.0 by question (next earlier old legal) it proper)

pub reply-law : (v : Volume) → IsNextRun v → IsExportLaw v → IsExportKept v → IsCallKept v → AreWordsKept → AreActorsKept → IsReplyLaw v
reply-law v next exports kept calls words actors earlier h by question s x legal tied some proper is = record {
  allowed = (step h legal tied proper some).allowed (of_actor (by_of x) h);
  tied = λ before later same_w same_a after.
      (step before after.0 (locked_export-kept v next kept words earlier h before s legal later same_w tied)
      (caller-kept v next calls actors earlier h before by question legal later same_a proper) (room before (words Export before h same_w))).tied;
}
  where
    room : (g : List Event) → of_word Export g ≡ of_word Export h → length (of_word Export (g ++ earlier)) < 2 ^ 64 - 1
    room g same = (let r = some in let l = ap length (word-behind Export earlier g h same) in omega (arith, r, l))

    step : (g : List Event) → IsLegalAfter v earlier g → IsExport v (facts (g ++ earlier)) (of_word Export (g ++ earlier)) s → IsProperCall v (facts (g ++ earlier)) (of_actor by (g ++ earlier)) by question
        → length (of_word Export (g ++ earlier)) < 2 ^ 64 - 1 → IsExportStep v (g ++ earlier) x (export_after s question)
    step g fits at may few = exports question (g ++ earlier) by s x (next earlier g fits) at few may is
