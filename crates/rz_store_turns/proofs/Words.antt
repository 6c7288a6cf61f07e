-- What an operation has come to, and its last word.
use Rattle.std.proofs.Common.{ℕ, Bool, true, false, ◌≡◌, List, [], ◌∷◌, ◌++◌, refl, sym, ◌∙◌, ap, subst}
use Rattle.std.specs.Prelude.{IsTrue, Result, Ok, Err, OnOk, OnErr}
use Rattle.mj_angles.specs.declared.layout.Layout.{Layout}
use Rattle.rz_events.specs.declared.keys.Actor.{Actor}
use Rattle.rz_events.specs.declared.operations.Operation.{Operation}
use Rattle.rz_events.specs.declared.events.Event.{Event}
use Rattle.rz_operation.specs.Machine.{Machine, text_of}
use Rattle.rz_operation_model.specs.Ask.{Ask, Say, Saying, SayGot, SayGave, SayLeft, SayDone, ask_of}
use Rattle.rz_operation_model.specs.Work.{Work}
use Rattle.rz_operation_model.specs.Steps.{begun}
use Rattle.rz_operation_model.specs.Turns.{said_event, IsStep}
use Rattle.rz_core.specs.History.{facts}
use Rattle.rz_core.specs.Legal.{IsLegalInRuns}
use Rattle.rz_play.specs.Turns.{text_said}
use Rattle.rz_chronicle.specs.Kinds.{keeps_legal, volume_in}
use Rattle.rz_chronicle.specs.Rules.{PassView}
use Rattle.rz_contents.specs.Model.{IsStill, changes}
use Rattle.rz_contents.specs.Files.{is_word, IsSilentCourse}
use Rattle.rz_store_turns.specs.Sole.{SoleView, IsSameTurn}
use Rattle.rz_store_turns.specs.Runs.{HasRun, HasTurned}
use Rattle.rz_store_turns.specs.Performed.{HasCome, HasSaid, IsQuiet}

-- users see nothing of a word
unsaid : (by : Actor) (number : ℕ) (text : List ℕ) (saying : Saying) → changes (said_event by number text saying) ≡ false
unsaid by number text (SayGot key part m) = refl
unsaid by number text (SayGave key part end) = refl
unsaid by number text (SayLeft key why) = refl
unsaid by number text (SayDone a) = refl

module _ (kind : List ℕ) (earlier : List Event) where
  abbrev Keeps : Type 0
  Keeps = IsTrue (keeps_legal kind)

  abbrev IsLegalAt : SoleView → Type 0
  IsLegalAt s = Keeps → IsLegalInRuns (volume_in kind) (s.pass.log ++ earlier)

  pub has-come : (op : Operation) (old mid new : SoleView) (m m' : Machine) → mid.pass.log ≡ old.pass.log → m.work ≡ begun op → m.layout ≡ (volume_in kind).layout
      → IsSameTurn mid new → HasRun kind mid.number mid.pass new.pass m m' → IsLegalAt new → HasCome kind earlier op old new m'.work
  has-come op old mid new m m' log work layout same ran legal = record {
    events = ran.events;
    log = ran.log ∙ ap (λ (h : List Event). ran.events ++ h) log;
    course = λ keeps.
        subst (λ (w : Work). IsSilentCourse (volume_in kind).layout new.pass.actor new.number w ran.events m'.work) work
        (subst (λ (y : Layout). IsSilentCourse y new.pass.actor new.number m.work ran.events m'.work) layout
        (subst (λ (n : ℕ). IsSilentCourse m.layout new.pass.actor n m.work ran.events m'.work) (sym same.number)
        (subst (λ (a : Actor). IsSilentCourse m.layout a mid.number m.work ran.events m'.work) (sym same.actor) (ran.course keeps))));
    legal = legal;
  }

  module _ (old mid new : SoleView) (m m' : Machine) (last : new.pass ≡ mid.pass) (legal : IsLegalAt new) where
    said-log : HasTurned kind old.number old.pass mid.pass m m' → (saying : Saying) → ask_of m.layout m.work ≡ Say saying
        → (text : List ℕ) × (new.pass.log ≡ said_event old.pass.actor old.number text saying ∷ old.pass.log)
    said-log turned saying asked =
        let step : IsStep old.pass.actor old.number (Say saying) turned.answer turned.events =
        subst (λ (a : Ask). IsStep old.pass.actor old.number a turned.answer turned.events) asked turned.step in
        (step.0, ap (λ (p : PassView). p.log) last ∙ turned.log ∙ ap (λ (xs : List Event). xs ++ old.pass.log) step.2)

    pub has-said : {T E : Type 0} (r : Result T E) → OnOk r (HasTurned kind old.number old.pass mid.pass m m')
        → ((saying : Saying) → ask_of m.layout m.work ≡ Say saying → Keeps → text_of m ≡ text_said (facts (old.pass.log ++ earlier)) saying)
        → OnOk r ((saying : Saying) → ask_of m.layout m.work ≡ Say saying → HasSaid kind earlier old new m saying)
    has-said (Ok x) turned found = λ saying asked.
        (let s = said-log turned saying asked in record { text = s.0; log = s.1; legal = legal; found = found saying asked })
    has-said (Err e) turned found = tt

    pub is-quiet : {T E : Type 0} (r : Result T E) → OnOk r (HasTurned kind old.number old.pass mid.pass m m') → OnErr r (Keeps → mid.pass.log ≡ old.pass.log)
        → is_word (ask_of m.layout m.work) ≡ true → IsQuiet kind earlier old new
    is-quiet (Ok x) turned still word = go (ask_of m.layout m.work) refl word
      where
        go : (a : Ask) → ask_of m.layout m.work ≡ a → is_word a ≡ true → IsQuiet kind earlier old new
        go (Say saying) asked is =
            let s = said-log turned saying asked in
            record { events = said_event old.pass.actor old.number s.0 saying ∷ []; log = λ keeps. s.1; still = (unsaid old.pass.actor old.number s.0 saying, tt); legal = legal }
        go (_) asked is = cc
    is-quiet (Err e) turned still word = record { events = []; log = λ keeps. ap (λ (p : PassView). p.log) last ∙ still keeps; still = tt; legal = legal }
