-- Nodes that are started, and nodes that get a new disk.
use Rattle.std.proofs.Common.{ℕ, ◌≡◌, ◌==◌, ◌-◌, ◌^◌, ◌+◌, Bool, true, false, cond, List, ◌∷◌, ◌++◌, Option, Some, None, refl, sym, ◌∙◌, ap, eq-eqb, append_assoc}
use Rattle.std.specs.Prelude.{Result, Ok, Err, OnOk, IfOk, IfErr, IfNone, IsTrue}
use Rattle.std.proofs.lemmas.Bool.{eqb-true}
use Rattle.rz_events.specs.declared.ends.RebuildEnd.{RebuildEnd}
use Rattle.rz_events.specs.declared.ends.RebuildEnd.TheVariants as ends
use Rattle.rz_events.specs.declared.nodes.Phase.{Phase}
use Rattle.rz_events.specs.declared.nodes.Phase.TheVariants.{Up, Down, Lost}
use Rattle.rz_events.specs.declared.nodes.NodeAsk.TheVariants as ask
use Rattle.rz_events.specs.declared.nodes.NodeAnswer.TheVariants as answer
use Rattle.rz_events.specs.declared.nodes.StartAnswer.{StartAnswer}
use Rattle.rz_events.specs.declared.nodes.StartAnswer.TheVariants as start
use Rattle.rz_events.specs.declared.events.Word.TheVariants.{Node}
use Rattle.rz_events.specs.declared.events.Event.{Event}
use Rattle.rz_events.specs.declared.events.Event.TheVariants as e
use Rattle.rz_events.specs.declared.events.Answer.TheVariants as answers
use Rattle.rz_node_model.specs.Answers.{lose_in, next_loss}
use Rattle.rz_node_model.specs.NodeEvents.{start_event, lose_event}
use Rattle.rz_core.specs.History.{of_word}
use Rattle.rz_core.specs.NodeWord.{phase, losses}
use Rattle.rz_play.specs.Lines.{noted}
use Rattle.rz_chronicle.specs.Kinds.{keeps_legal, volume_in}
use Rattle.rz_shared_locked.specs.declared.swapping.SwapFault.{SwapFault}
use Rattle.rz_shared_locked.specs.declared.swapping.SwapFault.TheVariants as unswapped
use Rattle.rz_shared_locked.specs.LockedNodes.{IsAnswerAt}
use Rattle.rz_store_turns.specs.declared.sole.Stop.{Stop}
use Rattle.rz_store_turns.specs.Sole.{SoleView}
use Rattle.rz_store_turns.specs.Rebuilt as turns
use Rattle.rz_store.specs.declared.faults.ReplaceFault.{ReplaceFault}
use Rattle.rz_store.specs.declared.faults.ReplaceFault.TheVariants as unreplaced
use Rattle.rz_store.specs.declared.nodes.Rebuilt.{Rebuilt}
use Rattle.rz_store.specs.Store.{StoreView, IfLegal}
use Rattle.rz_store.specs.Nodes.{HasStarted, start_told, IsStartCause, rebuild_told, swap_told, HasRebuilt, HasRefilled, IsRebuildCause, after_loss, IsReplaceCause, IsUnreplaced}
use Rattle.rz_store.proofs.Mended.{left-some}
use Rattle.rz_store.proofs.Wholes.{view}

-- Starts.

up-again : (node : ℕ) (took : Bool) (h : List Event) → phase (of_word (Node node) (e.Start node took ∷ h)) ≡ Up
up-again node took h =
    ap (λ (b : Bool). phase (cond b (e.Start node took ∷ of_word (Node node) h) (of_word (Node node) h))) (eq-eqb node node refl)

pub has-started : (kind : List ℕ) (earlier : List Event) (old new : SoleView) (node : ℕ) (given : StartAnswer) → new.pass.log ≡ noted (start_event node given) old.pass.log
    → IsAnswerAt kind earlier old.pass.log node ask.Start (answer.Start given) → OnOk (start_told given) (IfLegal kind (HasStarted (view kind earlier old) node (view kind earlier new)))
has-started kind earlier old new node (start.Started took) log right = λ keeps. record {
  was = sym (right.tied keeps).phase_is ∙ right.is.0;
  is = ap (λ (h : List Event). phase (of_word (Node node) (h ++ earlier))) log ∙ up-again node took (old.pass.log ++ earlier);
}
has-started kind earlier old new node start.NotDown log right = tt
has-started kind earlier old new node start.NoMemory log right = tt
has-started kind earlier old new node (start.Unopened why) log right = tt

pub start-cause : (kind : List ℕ) (earlier : List Event) (old : SoleView) (node : ℕ) (given : StartAnswer) → IsAnswerAt kind earlier old.pass.log node ask.Start (answer.Start given)
    → IfErr (start_told given) (λ f. IfLegal kind (IsStartCause (view kind earlier old) node f))
start-cause kind earlier old node (start.Started took) right = tt
start-cause kind earlier old node (start.NotDown) right = λ keeps down. right.is ((right.tied keeps).phase_is ∙ down)
start-cause kind earlier old node (start.NoMemory) right = λ keeps. sym (right.tied keeps).phase_is ∙ right.is
start-cause kind earlier old node (start.Unopened why) right = λ keeps. (sym (right.tied keeps).phase_is ∙ right.is.0, right.opening keeps)

-- Rebuilds.

rebuilt-in : (kind : List ℕ) (earlier : List Event) (old new : SoleView) (node : ℕ) (end : RebuildEnd) → turns.HasRebuilt kind earlier node old new end → IsTrue (keeps_legal kind)
    → HasRebuilt (view kind earlier old) node end (view kind earlier new)
rebuilt-in kind earlier old new node end has keeps = record {
  by = new.pass.actor;
  number = has.number;
  events = has.events;
  log = ap (λ (h : List Event). h ++ earlier) has.log ∙ append_assoc (e.Done new.pass.actor has.number (answers.Rebuild end) ∷ has.events) old.pass.log earlier;
  course = has.course keeps;
}

pub has-refilled : (kind : List ℕ) (earlier : List Event) (old new : SoleView) (node : ℕ) (ended : Result RebuildEnd Stop) → IfOk ended (turns.HasRebuilt kind earlier node old new)
    → IfOk (rebuild_told ended) (λ told. IfLegal kind (HasRefilled (view kind earlier old) node told (view kind earlier new)))
has-refilled kind earlier old new node (Ok (ends.Rebuilt fence refilled)) has = λ keeps. record {
  end = ends.Rebuilt fence refilled;
  rebuilt = rebuilt-in kind earlier old new node (ends.Rebuilt fence refilled) has keeps;
  tells = refl;
  complete = λ none. (fence, has.whole keeps);
}
has-refilled kind earlier old new node (Ok (ends.Left fence refilled left)) has = λ keeps. record {
  end = ends.Left fence refilled left;
  rebuilt = rebuilt-in kind earlier old new node (ends.Left fence refilled left) has keeps;
  tells = refl;
  complete = λ none. absurd (left-some (volume_in kind).layout new.pass.actor has.number node fence refilled left has.events (has.course keeps) none);
}
has-refilled kind earlier old new node (Ok ends.NotLost) has = tt
has-refilled kind earlier old new node (Ok (ends.OtherLoss now)) has = tt
has-refilled kind earlier old new node (Ok (ends.OtherFence now)) has = tt
has-refilled kind earlier old new node (Ok ends.LostAgain) has = tt
has-refilled kind earlier old new node (Ok ends.DiskFault) has = tt
has-refilled kind earlier old new node (Ok (ends.Denied why)) has = tt
has-refilled kind earlier old new node (Err why) has = tt

pub rebuild-cause : (kind : List ℕ) (earlier : List Event) (old new : SoleView) (node : ℕ) (ended : Result RebuildEnd Stop) → IfOk ended (turns.HasRebuilt kind earlier node old new)
    → IfErr (rebuild_told ended) (λ f. IfLegal kind (IsRebuildCause (view kind earlier old) node f (view kind earlier new)))
rebuild-cause kind earlier old new node (Ok (ends.Rebuilt fence refilled)) has = tt
rebuild-cause kind earlier old new node (Ok (ends.Left fence refilled left)) has = tt
rebuild-cause kind earlier old new node (Ok ends.NotLost) has = λ keeps. (rebuilt-in kind earlier old new node ends.NotLost has keeps, refl)
rebuild-cause kind earlier old new node (Ok (ends.OtherLoss now)) has = λ keeps. (rebuilt-in kind earlier old new node (ends.OtherLoss now) has keeps, refl)
rebuild-cause kind earlier old new node (Ok (ends.OtherFence now)) has = λ keeps. (rebuilt-in kind earlier old new node (ends.OtherFence now) has keeps, refl)
rebuild-cause kind earlier old new node (Ok ends.LostAgain) has = λ keeps. (rebuilt-in kind earlier old new node ends.LostAgain has keeps, refl)
rebuild-cause kind earlier old new node (Ok ends.DiskFault) has = λ keeps. (rebuilt-in kind earlier old new node ends.DiskFault has keeps, refl)
rebuild-cause kind earlier old new node (Ok (ends.Denied why)) has = λ keeps. (rebuilt-in kind earlier old new node (ends.Denied why) has keeps, refl)
rebuild-cause kind earlier old new node (Err why) has = λ keeps. tt

pub disk-taken : (ended : Result RebuildEnd Stop) → IfErr (rebuild_told ended) (λ f. ¬ IsUnreplaced f)
disk-taken (Ok (ends.Rebuilt fence refilled)) = tt
disk-taken (Ok (ends.Left fence refilled left)) = tt
disk-taken (Ok ends.NotLost) = λ never. never
disk-taken (Ok (ends.OtherLoss now)) = λ never. never
disk-taken (Ok (ends.OtherFence now)) = λ never. never
disk-taken (Ok ends.LostAgain) = λ never. never
disk-taken (Ok ends.DiskFault) = λ never. never
disk-taken (Ok (ends.Denied why)) = λ never. never
disk-taken (Err why) = λ never. never

-- New disks.

pub if-ok-so : {T E : Type 0} (r : Result T E) (P Q : T → Type 0) → ((x : T) → P x → Q x) → IfOk r P → IfOk r Q
if-ok-so (Ok x) P Q so is = so x is
if-ok-so (Err f) P Q so is = tt

pub if-err-so : {T E : Type 0} (r : Result T E) (P Q : E → Type 0) → ((f : E) → P f → Q f) → IfErr r P → IfErr r Q
if-err-so (Ok x) P Q so is = tt
if-err-so (Err f) P Q so is = so f is

noted-on : (x : Option Event) (h earlier : List Event) → noted x h ++ earlier ≡ noted x (h ++ earlier)
noted-on None h earlier = refl
noted-on (Some x) h earlier = refl

-- after the loss of its disk the store is this
pub lost-view : (kind : List ℕ) (earlier : List Event) (old mid : SoleView) (node : ℕ) (loss : Option ℕ) → mid.pass.log ≡ noted (lose_event node loss) old.pass.log
    → view kind earlier mid ≡ after_loss (view kind earlier old) node loss
lost-view kind earlier old mid node loss log =
    ap (λ (h : List Event). record { volume = volume_in kind; log = h }) (ap (λ (h : List Event). h ++ earlier) log ∙ noted-on (lose_event node loss) old.pass.log earlier)

pub cause-rebuilt : (old : StoreView) (node : ℕ) (loss : Option ℕ) (f : ReplaceFault) (new : StoreView) → IsRebuildCause (after_loss old node loss) node f new → IsReplaceCause old node f new
cause-rebuilt old node loss unreplaced.NoSuchNode new is = absurd is
cause-rebuilt old node loss unreplaced.LossesSpent new is = absurd is
cause-rebuilt old node loss unreplaced.NoMemory new is = absurd is
cause-rebuilt old node loss (unreplaced.Stopped why) new is = (loss, is)
cause-rebuilt old node loss (unreplaced.Ended end) new is = (loss, is)

next-spent : (count : ℕ) → None ≡ next_loss count → count ≡ 2 ^ 64 - 1
next-spent count is = go (count == 2 ^ 64 - 1) refl is
  where
    go : (b : Bool) → (count == 2 ^ 64 - 1) ≡ b → None ≡ cond b None (Some (count + 1)) → count ≡ 2 ^ 64 - 1
    go true same none = eqb-true count (2 ^ 64 - 1) same
    go false other none = absurd (cc)

lose-spent : (p : Phase) (count : ℕ) → None ≡ lose_in p count → ¬ (p ≡ Lost) → count ≡ 2 ^ 64 - 1
lose-spent Lost count is not = absurd (not refl)
lose-spent Down count is not = next-spent count is
lose-spent Up count is not = next-spent count is

pub swap-cause : (kind : List ℕ) (earlier : List Event) (old : SoleView) (node : ℕ) (fault : SwapFault) (new : StoreView)
    → (fault ≡ unswapped.LossesSpent → IsAnswerAt kind earlier old.pass.log node ask.Lose (answer.Lose None)) → IsTrue (keeps_legal kind)
    → IsReplaceCause (view kind earlier old) node (swap_told fault) new
swap-cause kind earlier old node unswapped.NoMemory new right keeps = tt
swap-cause kind earlier old node unswapped.LossesSpent new right keeps = λ there.
    (let at = right refl in
    let tied = at.tied keeps in
    sym tied.losses_is ∙ lose-spent at.state.phase at.state.losses at.is (λ lost. there (sym tied.phase_is ∙ lost)))

pub none-so : {A : Type 0} (o : Option A) (P Q : Type 0) → (P → Q) → IfNone o P → IfNone o Q
none-so None P Q so is = so is
none-so (Some x) P Q so is = tt
