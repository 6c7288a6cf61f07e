-- Enrolments and looks after a legal log.
use Rattle.std.proofs.Common.{ℕ, Bool, true, false, ◌==◌, ◌≡◌, ◌≤◌, ◌<◌, ◌+◌, ◌-◌, ◌^◌, nat_lt, is_none, List, length, Option, Some, None, cond, refl, sym, ◌∙◌, ap, subst, arith, ◌&&◌}
use Rattle.std.specs.Option.{option_map_or}
use Rattle.std.specs.FinMap as maps
use Rattle.std.proofs.lemmas.Bool.{eqb-true, eqb-false, le-ltb, ltb-true, ltb-false}
use Rattle.rz_events.specs.Volume.{Volume}
use Rattle.rz_events.specs.declared.keys.Actor.{Actor}
use Rattle.rz_events.specs.declared.export.Asked.{Asked}
use Rattle.rz_events.specs.declared.export.Asked.TheVariants as asked
use Rattle.rz_events.specs.declared.export.Call.TheVariants as call
use Rattle.rz_events.specs.declared.ends.Denial.{Denial}
use Rattle.rz_events.specs.declared.ends.Denial.TheVariants as denial
use Rattle.rz_events.specs.declared.export.Reply.TheVariants as reply
use Rattle.rz_events.specs.declared.events.Event.{Event}
use Rattle.rz_events.specs.declared.events.Event.TheVariants as e
use Rattle.rz_export_model.specs.Export.{Export as ExportState, Enrolled, spent, draws, new_fence, enroll_reply, after_enroll}
use Rattle.rz_export_model.specs.ExportEvents.{enroll_event}
use Rattle.rz_core.specs.History.{facts, of_actor, Has}
use Rattle.rz_core.specs.ExportWord.{last_drawn, enrolled, or_new}
use Rattle.rz_core.specs.ExportRows.{DeniedRow, OldLossRow, EnrollRow}
use Rattle.rz_core.specs.Legal.{IsLegalInRuns}
use Rattle.rz_core.specs.Tied.{IsExport, IsExportStep, IsExportLawOf}
use Rattle.rz_core.proofs.Stamps.{export}
use Rattle.rz_core.proofs.NodeSteps.{the_some}
use Rattle.rz_core.proofs.ExportSteps.{same-export}
use Rattle.rz_core.proofs.EnrollLaws.{AreEnrolled, enrols, export-rows, drawn-room, unspent, none_before, enrolled-has}

-- what is so before each call
pub record Before (v : Volume) (h : List Event) (s : ExportState) : Type 0 where
  pub legal : IsLegalInRuns v h
  pub tied : IsExport v (facts h) (export h) s
  pub room : length (export h) < 2 ^ 64 - 1

-- a denial leaves all as it was
pub denied : (v : Volume) (h : List Event) (by : Actor) (s : ExportState) → Before v h s → (question : Asked) (cause : Denial)
    → DeniedRow (export h) question cause → IsExportStep v h (e.Denied by question cause) s
denied v h by s b question cause row = record {
  allowed = λ run. record { room = b.room; word = tt; row = row };
  tied = b.tied ∙ sym (same-export v (e.Denied by question cause) h b.legal);
}

-- the enrolments that the export has are those of the log
pub enrolment : (v : Volume) (h : List Event) (s : ExportState) → Before v h s → AreEnrolled s (export h)
enrolment v h s b = subst (λ z. AreEnrolled z (export h)) (sym b.tied) (enrols v (facts h) (export h) (export-rows v h b.legal) b.room)

-- a number is left
pub left : (v : Volume) (h : List Event) (s : ExportState) → Before v h s → spent s ≡ None
left v h s b =
    let d = drawn-room v (facts h) (export h) (export-rows v h b.legal) in
    let last = (enrolment v h s b).last in
    let room = b.room in
    unspent s (omega (arith, d, last, room))

-- Enrolments.

gave : (v : Volume) (h : List Event) (by : Actor) (s : ExportState) → Before v h s → (node loss fence : ℕ)
    → EnrollRow (export h) (of_actor by h) by node loss fence → IsExportStep v h (e.Enroll by node loss fence) (after_enroll s node loss)
gave v h by s b node loss fence row = record {
  allowed = λ run. record { room = b.room; word = tt; row = row };
  tied = ap (λ (z : ExportState). after_enroll z node loss) (b.tied ∙ sym (same-export v (e.Enroll by node loss fence) h b.legal));
}

-- nothing is enrolled for a loss that is known to be older
kept : (s : ExportState) (node loss : ℕ) (r : Enrolled) → maps.get s.enrolled node ≡ Some r → loss < r.loss → after_enroll s node loss ≡ s
kept s node loss r q less = ap (λ o. cond (draws s loss o) new s) q ∙ ap (λ t. cond (t && is_none (spent s)) new s) (le-ltb r.loss loss (omega (arith, less)))
  where
    new : ExportState
    new = record s { enrolled = maps.insert s.enrolled node (record { loss = loss; fence = s.last + 1 }); last = s.last + 1 }

enroll_step : (v : Volume) (h : List Event) (by : Actor) (s : ExportState) → Before v h s → (node loss : ℕ) → Has (of_actor by h) (e.Probe by node (Some loss)) → (x : Event)
    → enroll_event by (call.Enroll node loss) (enroll_reply s loss (maps.get s.enrolled node)) ≡ Some x → IsExportStep v h x (after_enroll s node loss)
enroll_step v h by s b node loss probed x is = go (maps.get s.enrolled node) refl is
  where
    known : AreEnrolled s (export h)
    known = enrolment v h s b

    new : ((a : Actor) (l g : ℕ) → Has (export h) (e.Enroll a node l g) → l ≤ loss) → enrolled (export h) node loss ≡ None
        → enroll_event by (call.Enroll node loss) (new_fence s) ≡ Some x → IsExportStep v h x (after_enroll s node loss)
    new top none is =
        let fresh = ap (λ (o : Option Denial). enroll_event by (call.Enroll node loss) (option_map_or reply.Denied o (reply.Fence (s.last + 1)))) (left v h s b) in
        subst (λ y. IsExportStep v h y (after_enroll s node loss)) (the_some _ x (sym fresh ∙ is))
        (gave v h by s b node loss (s.last + 1) (record {
          probed = probed;
          top = top;
          fence_is = ap (λ n. n + 1) known.last ∙ sym (ap (λ o. or_new o (last_drawn (export h))) none);
        }))

    by_same : (r : Enrolled) → maps.get s.enrolled node ≡ Some r → r.loss ≤ loss → (t : Bool) → (loss == r.loss) ≡ t
        → enroll_event by (call.Enroll node loss) (cond t (reply.Fence r.fence) (new_fence s)) ≡ Some x → IsExportStep v h x (after_enroll s node loss)
    by_same r q low true same is =
        let i = known.some node r q in
        let at = eqb-true loss r.loss same in
        subst (λ y. IsExportStep v h y (after_enroll s node loss)) (the_some _ x is)
        (gave v h by s b node loss r.fence (record {
          probed = probed;
          top = λ a l g has. (let le = i.1 a l g has in omega (arith, le, at));
          fence_is = sym (ap (λ o. or_new o (last_drawn (export h))) (ap (enrolled (export h) node) at ∙ i.0));
        }))
    by_same r q low false other is =
        let i = known.some node r q in
        let apart = eqb-false loss r.loss other in
        new (λ a l g has. (let le = i.1 a l g has in omega (arith, le, low)))
        (none_before (export h) node loss (λ a g has. (let le = i.1 a loss g has in apart (omega (arith, le, low)))))
        is

    by_less : (r : Enrolled) → maps.get s.enrolled node ≡ Some r → (t : Bool) → nat_lt loss r.loss ≡ t
        → enroll_event by (call.Enroll node loss) (cond t (reply.Denied (denial.OldLoss r.loss)) (cond (loss == r.loss) (reply.Fence r.fence) (new_fence s))) ≡ Some x
        → IsExportStep v h x (after_enroll s node loss)
    by_less r q true less is =
        let i = known.some node r q in
        let has = enrolled-has (export h) node r.loss r.fence i.0 in
        let lt = ltb-true loss r.loss less in
        let row : OldLossRow (export h) (asked.Enroll node loss) r.loss = (record { enrolled = (has.0, r.fence, has.1); top = i.1 }, lt) in
        subst (λ z. IsExportStep v h x z) (sym (kept s node loss r q lt))
        (subst (λ y. IsExportStep v h y s) (the_some _ x is) (denied v h by s b (asked.Enroll node loss) (denial.OldLoss r.loss) row))
    by_less r q false less is = by_same r q (ltb-false loss r.loss less) (loss == r.loss) refl is

    go : (o : Option Enrolled) → maps.get s.enrolled node ≡ o → enroll_event by (call.Enroll node loss) (enroll_reply s loss o) ≡ Some x → IsExportStep v h x (after_enroll s node loss)
    go None q is = new (λ a l g has. absurd (known.none node q a l g has)) (none_before (export h) node loss (λ a g has. known.none node q a loss g has)) is
    go (Some r) q is = by_less r q (nat_lt loss r.loss) refl is

pub export-enroll : (v : Volume) (node loss : ℕ) → IsExportLawOf v (call.Enroll node loss)
export-enroll v node loss h by s x legal tied room proper is = enroll_step v h by s (record { legal = legal; tied = tied; room = room }) node loss proper x is
