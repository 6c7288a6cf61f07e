-- A call under the lock of the export: the log before it, its event, and the export after it.
use Rattle.std.proofs.Common.{◌≡◌, ◌<◌, ◌-◌, ◌^◌, ℕ, IsTrue, List, [], ◌∷◌, ◌++◌, length, Option, Some, None, Result, Ok, Err, IfOk, IfErr, OnErr, refl, sym, ap, ◌∙◌, subst, inl, inr}
use Rattle.std.specs.Prelude.{unwrap_or}
use Rattle.rz_events.specs.declared.keys.Actor.{Actor}
use Rattle.rz_events.specs.declared.export.Call.{Call}
use Rattle.rz_events.specs.declared.export.Reply.{Reply}
use Rattle.rz_events.specs.declared.events.Word.TheVariants.{Export}
use Rattle.rz_events.specs.declared.events.Event.{Event}
use Rattle.rz_events.specs.Events.{by_of, word_of}
use Rattle.rz_export_model.specs.Export.{Export as State, export_reply, export_after}
use Rattle.rz_export_model.specs.ExportEvents.{export_event}
use Rattle.rz_core.specs.History.{facts, of_word, of_actor}
use Rattle.rz_core.specs.Legal.{IsLegalAfter}
use Rattle.rz_core.specs.Tied.{IsExport, IsProperCall}
use Rattle.rz_play.specs.Lines.{noted}
use Rattle.rz_journal.specs.Seen.{calls_after}
use Rattle.rz_restart_laws.specs.Calls.{changing_calls}
use Rattle.rz_chronicle.specs.Keys.{IsOneOf, word_key, actor_key}
use Rattle.rz_chronicle.specs.Kinds.{keeps_legal, volume_in}
use Rattle.rz_chronicle.specs.Holds.{Commits}
use Rattle.rz_chronicle.specs.Tokens.{mark}
use Rattle.rz_shared_locked.specs.Adding.{MayBeNext}
use Rattle.rz_shared_locked.specs.LockedExports.{AnswersCall, event_given}
use Rattle.rz_shared_locked.specs.Laws.{AreCallsAdded, IsLockedExportKept, IsLockedExportStep, IsReplyLaw}
use Rattle.rz_shared_locked.proofs.Logs.{stays-fewer}
use Rattle.rz_shared_locked.proofs.Replies.{event-of, reply-event}

pub ok-then : {A E : Type 0} (P Q : A → Type 0) (r : Result A E) → ((a : A) → P a → Q a) → IfOk r P → IfOk r Q
ok-then P Q (Ok a) goes it = goes a it
ok-then P Q (Err e) goes it = tt

pub err-then : {A E P Q : Type 0} (r : Result A E) → (P → Q) → OnErr r P → OnErr r Q
err-then (Ok a) goes it = tt
err-then (Err e) goes it = goes it

pub fault-then : {A E : Type 0} (P Q : E → Type 0) (r : Result A E) → ((e : E) → P e → Q e) → IfErr r P → IfErr r Q
fault-then P Q (Ok a) goes it = tt
fault-then P Q (Err e) goes it = goes e it

-- What is known once the export has replied: `h` is the log that the pass and the locked export have seen.
module _ (kind : List ℕ) (earlier h : List Event) (by : Actor) (q : Call) (given : Reply) (s new_s : State) (laws : IsReplyLaw (volume_in kind)) (kept : IsLockedExportKept (volume_in kind))
    (fit : IsTrue (keeps_legal kind) → IsLegalAfter (volume_in kind) earlier h) (of_volume : s.volume ≡ volume_in kind)
    (tied : IsTrue (keeps_legal kind) → IsExport (volume_in kind) (facts (h ++ earlier)) (of_word Export (h ++ earlier)) s) (room : length (of_word Export (h ++ earlier)) < 2 ^ 64 - 1)
    (may : IsTrue (keeps_legal kind) → IsProperCall (volume_in kind) (facts (h ++ earlier)) (of_actor by (h ++ earlier)) by q) (done : (given ≡ export_reply s q) × (new_s ≡ export_after s q)) where
  abbrev x : Event
  x = (reply-event by q s).0

  is : export_event by q given ≡ Some x
  is = ap (export_event by q) done.0 ∙ (reply-event by q s).1

  same : event_given by q given ≡ x
  same = ap (λ (o : Option Event). unwrap_or o mark) is

  step : IsTrue (keeps_legal kind) → IsLockedExportStep (volume_in kind) earlier h by x (export_after s q)
  step keeps = laws earlier h by q s x (fit keeps) (tied keeps) room (may keeps) (reply-event by q s).1

  pub its-event : (word_of (event_given by q given) ≡ Export) × (by_of (event_given by q given) ≡ by)
  its-event = subst (λ (e : Event). (word_of e ≡ Export) × (by_of e ≡ by)) (sym same) (event-of by q given x is)

  pub may-come : MayBeNext kind earlier h (event_given by q given)
  may-come = subst (MayBeNext kind earlier h) (sym same) (λ keeps. (step keeps).allowed)

  module _ (ks : List ℕ) (new : List Event) (it : Commits (word_key Export ∷ ks) h (event_given by q given) new) (own : IsOneOf (actor_key by) ks) (new_fit : IsTrue (keeps_legal kind) → IsLegalAfter (volume_in kind) earlier new) where
    last : new ≡ x ∷ it.before
    last = it.last ∙ ap (λ (e : Event). e ∷ it.before) same

    pub tied-after : IsTrue (keeps_legal kind) → IsExport (volume_in kind) (facts (new ++ earlier)) (of_word Export (new ++ earlier)) new_s
    tied-after keeps = subst (IsExport (volume_in kind) (facts (new ++ earlier)) (of_word Export (new ++ earlier))) (sym done.1)
        (subst (λ (g : List Event). IsExport (volume_in kind) (facts (g ++ earlier)) (of_word Export (g ++ earlier)) (export_after s q)) (sym last)
        ((step keeps).tied it.before it.later (it.stays (word_key Export) (inl refl)) (it.stays (actor_key by) (inr own)) (subst (IsLegalAfter (volume_in kind) earlier) last (new_fit keeps))))

    pub calls-after : AreCallsAdded (volume_in kind) → IsTrue (keeps_legal kind) → changing_calls (new ++ earlier) ≡ calls_after given q (changing_calls (h ++ earlier))
    calls-after added keeps = subst (λ (g : List Event). changing_calls (g ++ earlier) ≡ calls_after given q (changing_calls (h ++ earlier))) (sym last)
        (added earlier h it.before by q given x (fit keeps) (subst (IsLegalAfter (volume_in kind) earlier) last (new_fit keeps)).0 it.later (it.stays (word_key Export) (inl refl)) (may keeps) is)

    pub replied-so : AnswersCall kind earlier q given (export_event by q given) ks h new
    replied-so = record {
      adds = record {
        before = it.before;
        later = it.later;
        stays = stays-fewer (word_key Export) ks h it.before it.stays;
        last = last ∙ ap (λ (o : Option Event). noted o it.before) (sym is);
      };
      right = record {
        state = s;
        of_volume = of_volume;
        is = done.0;
        tied = λ keeps. kept earlier h it.before s (fit keeps) it.later (it.stays (word_key Export) (inl refl)) (tied keeps);
      };
    }
