-- The calls for which a journal stands, while the log grows; and what a call is that a machine asks for.
use Rattle.std.proofs.Common.{◌≡◌, inl, inr, ℕ, Bool, true, false, IsTrue, List, [], ◌∷◌, ◌++◌, Some, refl, sym, ◌∙◌, ap, subst}
use Rattle.mj_angles.specs.declared.layout.Layout.{Layout}
use Rattle.rz_events.specs.Volume.{Volume}
use Rattle.rz_events.specs.declared.keys.Actor.{Actor}
use Rattle.rz_events.specs.declared.tree.TreeCall.TheVariants as tree
use Rattle.rz_events.specs.declared.export.Call.{Call}
use Rattle.rz_events.specs.declared.export.Call.TheVariants as call
use Rattle.rz_events.specs.declared.export.Reply.{Reply}
use Rattle.rz_events.specs.declared.events.Event.{Event}
use Rattle.rz_events.specs.declared.events.Word.TheVariants.{Export}
use Rattle.rz_export_model.specs.ExportEvents.{export_event}
use Rattle.rz_core.specs.History.{Facts, facts, of_word, length_in}
use Rattle.rz_core.specs.Legal.{IsLegalInRuns}
use Rattle.rz_core.specs.Tied.{IsProperCall}
use Rattle.rz_core.proofs.Extends.{Extends}
use Rattle.rz_journal.specs.Seen.{calls_after}
use Rattle.rz_operation_model.specs.Ask.{Ask, AskExport, AskNode, AskLock, Say, Rest, ask_of}
use Rattle.rz_operation_model.specs.Work.{Work, Over}
use Rattle.rz_play_laws.specs.Own.{IsOwnOf, HasOwnEvents, IsProper, IsOwnProper}
use Rattle.rz_restart_laws.specs.Calls.{changing_calls, AreCallsTold, HasLength}
use Rattle.rz_restart_laws.specs.Laws.{IsCallTold, IsNoCall}
use Rattle.rz_driver_asks.specs.Asked.{call_asked}
use Rattle.rz_driver_asks.proofs.Keeping.{same-call}
use Rattle.rz_driver.specs.Endings.{AreCallsOf}
use Rattle.rz_driver_actors.proofs.ExportEvents.{word-grows}

-- ---- the calls of a log

-- a new log has none
pub no-calls : (tells : Bool) → AreCallsOf tells [] []
no-calls true = refl
no-calls false = refl

-- over disks that tell, those that changed its export
pub told-calls : (tells : Bool) → IsTrue tells → (h : List Event) (calls : List Call) → calls ≡ changing_calls h → AreCallsOf tells h calls
told-calls true told h calls are = are
told-calls false told h calls are = absurd (cc)

pub exactly : (tells : Bool) → IsTrue tells → (h : List Event) (calls : List Call) → AreCallsOf tells h calls → calls ≡ changing_calls h
exactly true told h calls are = are
exactly false told h calls are = absurd (cc)

-- one call more
pub calls-more : (v : Volume) → IsCallTold v → (h : List Event) (x : Event) (by : Actor) (c : Call) (r : Reply) (tells : Bool) → (IsTrue tells → IsLegalInRuns v h) → (IsTrue tells → HasLength (facts (x ∷ h)) c)
    → export_event by c r ≡ Some x → (calls : List Call) → AreCallsOf tells h calls → AreCallsOf tells (x ∷ h) (calls_after r c calls)
calls-more v told h x by c r true legal long is calls are = ap (calls_after r c) are ∙ told h x by c r (legal refl) is (long refl)
calls-more v told h x by c r false legal long is calls are =
    subst (λ (w : List Event). AreCallsTold w (calls_after r c calls)) (sym (word-grows by c r x h is)) (calls, are, record { by = by; call = c; reply = r; event_is = is; after_is = refl })

-- none more
pub calls-same : (v : Volume) → IsNoCall v → (h more : List Event) (tells : Bool) → (IsTrue tells → IsLegalInRuns v h) → of_word Export (more ++ h) ≡ of_word Export h
    → (calls : List Call) → AreCallsOf tells h calls → AreCallsOf tells (more ++ h) calls
calls-same v untold h more true legal same calls are = are ∙ sym (untold h more (legal refl) same)
calls-same v untold h more false legal same calls are = subst (λ (w : List Event). AreCallsTold w calls) (sym same) are

-- ---- the call that a machine asks for

module _ (v : Volume) (f g : Facts) (grows : Extends f g) (own run : List Event) (by : Actor) (number : ℕ) where
  -- a publish tells the length of its text, however the log grows
  proper-length : (c : Call) → IsProperCall v f own by c → HasLength g c
  proper-length (call.Tree c) p = tt
  proper-length (call.Begin key text) p = tt
  proper-length (call.Publish key stamp mask size) p =
      let it = p.0.writer in
      p.1 ∙ ap length_in (it.1.found ∙ sym (grows.wrote stamp it.0 it.1.found))
  proper-length (call.Look key) p = tt
  proper-length (call.Recheck key) p = tt
  proper-length (call.Enroll node loss) p = tt
  proper-length (call.Next node after) p = tt

  of-ask : (a : Ask) (c : Call) → IsProper v f own run by number a → call_asked a ≡ Some c → HasLength g c
  of-ask (AskExport d) c p is = subst (HasLength g) (same-call d c is) (proper-length d p)
  of-ask (AskLock path exclusive from count) c p is = subst (HasLength g) (same-call (call.Tree (tree.OpenFile path)) c is) tt
  of-ask (AskNode n question) c p is = absurd (cc)
  of-ask (Say said) c p is = absurd (cc)
  of-ask Rest c p is = absurd (cc)

  pub asked-length : IsOwnProper v → (y : Layout) (work : Work) → y ≡ v.layout → IsOwnOf v f own run by work → HasOwnEvents v by number run work → (c : Call) → call_asked (ask_of y work) ≡ Some c → HasLength g c
  asked-length proper y work layout owns (inl over) c is =
      let never : call_asked (ask_of y Over) ≡ Some c = ap (λ (w : Work). call_asked (ask_of y w)) (sym over) ∙ is in absurd (cc)
  asked-length proper y work layout owns (inr course) c is =
      of-ask (ask_of v.layout work) c (proper f own run by number work owns course) (ap (λ (z : Layout). call_asked (ask_of z work)) (sym layout) ∙ is)
