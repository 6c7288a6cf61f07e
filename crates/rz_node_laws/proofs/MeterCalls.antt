-- Each call of a node, by its answer.
use Rattle.std.proofs.Common.{◌≡◌, inl, inr, ℕ, ◌+◌, ◌≤◌, Bool, true, false, cond, List, ◌∷◌, Some, None, refl, sym, ◌∙◌, ap, subst, arith}
use Rattle.std.specs.Prelude.{◌==◌, ◌&&◌, not}
use Rattle.rz_disk.specs.Meter.{Meter, armed}
use Rattle.rz_events.specs.declared.records.Held.{Held}
use Rattle.rz_events.specs.declared.nodes.Phase.{Phase}
use Rattle.rz_events.specs.declared.nodes.Phase.TheVariants.{Up, Down, Lost}
use Rattle.rz_events.specs.declared.nodes.NodeAsk.TheVariants as ask
use Rattle.rz_events.specs.declared.nodes.NodeAnswer.TheVariants as answer
use Rattle.rz_events.specs.declared.nodes.KeepAnswer.TheVariants as keep
use Rattle.rz_events.specs.declared.nodes.RefillAnswer.TheVariants as refill
use Rattle.rz_events.specs.declared.nodes.FetchAnswer.{FetchAnswer}
use Rattle.rz_events.specs.declared.nodes.FetchAnswer.TheVariants as fetch
use Rattle.rz_events.specs.declared.nodes.DropAnswer.TheVariants as drop
use Rattle.rz_events.specs.declared.nodes.StartAnswer.TheVariants as start
use Rattle.rz_events.specs.declared.nodes.ReplaceAnswer.TheVariants as replace
use Rattle.rz_events.specs.declared.nodes.OpenFault.TheVariants as fault
use Rattle.rz_events.specs.declared.events.Event.{Event}
use Rattle.rz_events.specs.declared.events.Event.TheVariants as e
use Rattle.rz_node_model.specs.Answers.{fetch_in, replace_in}
use Rattle.rz_play.specs.Faults.{fuse_of, is_barred, is_unplanned, unplanned, slips}
use Rattle.rz_node_laws.specs.Metered.{IsMetered, IsFaultLaw, IsArmLaw, IsStartLaw, IsUnarmedLaw, IsCounted}
use Rattle.rz_node_laws.proofs.MeterSteps.{barred-zero, no-slip, zero-plus, quiet, went, failed}

quiet-slip-of : (w : List Event) (c : Bool) → cond (is_barred (fuse_of w) 0 && c) 1 0 + slips w ≡ slips w
quiet-slip-of w c = ap (λ (b : Bool). cond b 1 0 + slips w) (no-slip (is_barred (fuse_of w) 0) (barred-zero (fuse_of w)) c) ∙ zero-plus (slips w)

quiet-slip : (w : List Event) → cond (is_barred (fuse_of w) 0 && true) 1 0 + slips w ≡ slips w
quiet-slip w = quiet-slip-of w true

down-up : Down ≡ Up → ⊥
down-up is = absurd (cc)

lost-up : Lost ≡ Up → ⊥
lost-up is = absurd (cc)

-- a record that was fetched is that of an up node
fetched-up : (phase : Phase) (r : Held) (up : FetchAnswer) → fetch.Held r ≡ fetch_in phase up → phase ≡ Up
fetched-up Up r up is = refl
fetched-up Down r up is = absurd (cc)
fetched-up Lost r up is = absurd (cc)

-- a disk that could be replaced is lost
replaced-lost : (phase : Phase) (same : Bool) (losses : ℕ) → replace_in phase same losses ≡ replace.Replaced → phase ≡ Lost
replaced-lost Lost same losses is = refl
replaced-lost Down same losses is = absurd (cc)
replaced-lost Up same losses is = absurd (cc)

pub fault-law : IsFaultLaw
fault-law first k cells w s by n (ask.Keep h) (answer.Keep keep.Kept) old new below no_start given counts m = went first 4 _ w s.phase s.phase old new refl refl refl (inr (omega arith)) counts m
fault-law first k cells w s by n (ask.Keep h) (answer.Keep (keep.Passed held)) old new below no_start given counts m = quiet first _ w s.phase s.phase old new refl refl refl (λ up. up) counts m
fault-law first k cells w s by n (ask.Keep h) (answer.Keep keep.Lost) old new below no_start given counts m = quiet first _ w s.phase s.phase old new refl refl refl (λ up. up) counts m
fault-law first k cells w s by n (ask.Keep h) (answer.Keep keep.Down) old new below no_start given counts m = quiet first _ w s.phase s.phase old new refl refl refl (λ up. up) counts m
fault-law first k cells w s by n (ask.Keep h) (answer.Keep (keep.Fenced fence)) old new below no_start given counts m = quiet first _ w s.phase s.phase old new refl refl refl (λ up. up) counts m
fault-law first k cells w s by n (ask.Keep h) (answer.Keep keep.Full) old new below no_start given counts m = quiet first _ w s.phase s.phase old new refl refl refl (λ up. up) counts m
fault-law first k cells w s by n (ask.Keep h) (answer.Keep keep.DiskFault) old new below no_start given counts m = failed first 4 _ w s.phase Down old new below (omega arith) refl refl refl down-up counts m
fault-law first k cells w s by n (ask.Refill f h) (answer.Refill refill.Kept) old new below no_start given counts m = went first 4 _ w s.phase s.phase old new refl refl refl (inr (omega arith)) counts m
fault-law first k cells w s by n (ask.Refill f h) (answer.Refill (refill.Passed held)) old new below no_start given counts m = quiet first _ w s.phase s.phase old new refl refl refl (λ up. up) counts m
fault-law first k cells w s by n (ask.Refill f h) (answer.Refill refill.Lost) old new below no_start given counts m = quiet first _ w s.phase s.phase old new refl refl refl (λ up. up) counts m
fault-law first k cells w s by n (ask.Refill f h) (answer.Refill refill.Down) old new below no_start given counts m = quiet first _ w s.phase s.phase old new refl refl refl (λ up. up) counts m
fault-law first k cells w s by n (ask.Refill f h) (answer.Refill (refill.OtherFence fence)) old new below no_start given counts m = quiet first _ w s.phase s.phase old new refl refl refl (λ up. up) counts m
fault-law first k cells w s by n (ask.Refill f h) (answer.Refill refill.Full) old new below no_start given counts m = quiet first _ w s.phase s.phase old new refl refl refl (λ up. up) counts m
fault-law first k cells w s by n (ask.Refill f h) (answer.Refill refill.DiskFault) old new below no_start given counts m = failed first 4 _ w s.phase Down old new below (omega arith) refl refl refl down-up counts m
fault-law first k cells w s by n (ask.Fetch key p stamp) (answer.Fetch (fetch.Held r)) old new below no_start given counts m = went first 1 _ w s.phase s.phase old new refl refl refl (inl (fetched-up s.phase r _ given)) counts m
fault-law first k cells w s by n (ask.Fetch key p stamp) (answer.Fetch fetch.Nothing) old new below no_start given counts m = quiet first _ w s.phase s.phase old new refl refl refl (λ up. up) counts m
fault-law first k cells w s by n (ask.Fetch key p stamp) (answer.Fetch fetch.Lost) old new below no_start given counts m = quiet first _ w s.phase s.phase old new refl refl refl (λ up. up) counts m
fault-law first k cells w s by n (ask.Fetch key p stamp) (answer.Fetch fetch.Down) old new below no_start given counts m = quiet first _ w s.phase s.phase old new refl refl refl (λ up. up) counts m
fault-law first k cells w s by n (ask.Fetch key p stamp) (answer.Fetch fetch.DiskFault) old new below no_start given counts m = failed first 1 _ w s.phase Down old new below (omega arith) refl refl refl down-up counts m
fault-law first k cells w s by n (ask.Drop fid) (answer.Drop (drop.Dropped block stamp more)) old new below no_start given counts m = went first 4 _ w s.phase s.phase old new refl refl refl (inr (omega arith)) counts m
fault-law first k cells w s by n (ask.Drop fid) (answer.Drop drop.Nothing) old new below no_start given counts m = quiet first _ w s.phase s.phase old new refl refl refl (λ up. up) counts m
fault-law first k cells w s by n (ask.Drop fid) (answer.Drop drop.Lost) old new below no_start given counts m = quiet first _ w s.phase s.phase old new refl refl refl (λ up. up) counts m
fault-law first k cells w s by n (ask.Drop fid) (answer.Drop drop.Down) old new below no_start given counts m = quiet first _ w s.phase s.phase old new refl refl refl (λ up. up) counts m
fault-law first k cells w s by n (ask.Drop fid) (answer.Drop (drop.DiskFault block stamp)) old new below no_start given counts m = failed first 4 _ w s.phase Down old new below (omega arith) refl refl refl down-up counts m
fault-law first k cells w s by n ask.Probe (answer.Probe a) old new below no_start given counts m = quiet first _ w s.phase s.phase old new refl refl refl (λ up. up) counts m
fault-law first k cells w s by n ask.Stop (answer.Stop true) old new below no_start given counts m = quiet first _ w s.phase Down old new refl refl refl (λ up. absurd (down-up up)) counts m
fault-law first k cells w s by n ask.Stop (answer.Stop false) old new below no_start given counts m = subst (IsMetered first w s.phase) (sym counts) m
fault-law first k cells w s by n ask.Lose (answer.Lose (Some loss)) old new below no_start given counts m = quiet first _ w s.phase Lost old new refl refl refl (λ up. absurd (lost-up up)) counts m
fault-law first k cells w s by n ask.Lose (answer.Lose None) old new below no_start given counts m = subst (IsMetered first w s.phase) (sym counts) m
fault-law first k cells w s by n (ask.Replace loss fence) (answer.Replace replace.Replaced) old new below no_start given counts m = went first 4 _ w s.phase Up old new refl refl refl (inr (omega arith)) counts m
fault-law first k cells w s by n (ask.Replace loss fence) (answer.Replace replace.NotLost) old new below no_start given counts m = quiet first _ w s.phase s.phase old new refl refl refl (λ up. up) counts m
fault-law first k cells w s by n (ask.Replace loss fence) (answer.Replace (replace.OtherLoss now)) old new below no_start given counts m = quiet first _ w s.phase s.phase old new refl refl refl (λ up. up) counts m
fault-law first k cells w s by n (ask.Replace loss fence) (answer.Replace replace.NoMemory) old new below no_start given counts m = record {
  few = (let few = m.few in let lasts = counts.lasts.own in omega (arith, few, lasts));
  unarmed = λ none. counts.fuse ∙ m.unarmed none;
  least = λ left is. let had = m.least left is in (had.0, counts.fuse ∙ had.1, had.2);
  most = λ clean left l is there. m.most (let few = m.few in let lasts = counts.lasts.own in omega (arith, clean, few, lasts)) left l is (sym counts.fuse ∙ there);
  effect = λ clean. m.effect (let few = m.few in let lasts = counts.lasts.own in omega (arith, clean, few, lasts));
}
fault-law first k cells w s by n (ask.Replace loss fence) (answer.Replace replace.DiskFault) old new below no_start given counts m =
    failed first 4 _ w s.phase s.phase old new below (omega arith) refl refl refl (λ up. lost-up (sym (replaced-lost s.phase (loss == s.losses) s.losses given) ∙ up)) counts m
fault-law first k cells w s by n ask.Start given_answer old new below no_start given counts m = absurd no_start
fault-law first k cells w s by n question other old new below no_start given counts m = absurd given

-- ---- an arming

pub arm-law : IsArmLaw
arm-law first n k pick w phase m metered = record {
  few = (let few = metered.few in omega (arith, few));
  unarmed = λ none. absurd (cc);
  least = λ left is. (k, refl, (let same : k ≡ left = cc in omega (arith, same)));
  most = λ clean left l is there. inl (let one : k ≡ left = cc in let two : k ≡ l = cc in omega (arith, one, two));
  effect = λ clean. quiet-slip w ∙ metered.effect clean;
}

-- ---- a start

-- after an opening the disk is not armed
opened : (first k : ℕ) (x : Event) (w : List Event) (phase : Phase) (own : ℕ) (old new : Meter) → fuse_of (x ∷ w) ≡ None → slips (x ∷ w) ≡ slips w → first + unplanned (x ∷ w) ≤ new.own → new.fuse ≡ None → old.own ≤ new.own
    → IsMetered first w phase old → (phase' : Phase) → IsMetered first (x ∷ w) phase' new
opened first k x w phase own old new none slip few fuse lasts metered phase' = record {
  few = few;
  unarmed = λ _. fuse;
  least = λ left is. (let never : None ≡ Some left = sym none ∙ is in absurd (cc));
  most = λ clean left l is there. (let never : None ≡ Some left = sym none ∙ is in absurd (cc));
  effect = λ clean. slip ∙ metered.effect (let had = metered.few in omega (arith, clean, had, lasts));
}

at-most : (b : Bool) (n : ℕ) → cond b 1 0 + n ≤ 1 + n
at-most true n = omega arith
at-most false n = omega arith

unarmed-has : (k : ℕ) (m : Meter) → (n : ℕ) → (armed None m).fuse ≡ Some n → k ≤ n
unarmed-has k m n is = absurd (cc)

-- a disk that did not open for another cause than a fault
refused : (first n k cause : ℕ) (w : List Event) (phase : Phase) (old new : Meter) → (cause == 2) ≡ false → new.fuse ≡ None → old.own ≤ new.own → IsMetered first w phase old → IsMetered first (e.Unopened n cause ∷ w) phase new
refused first n k cause w phase old new other fuse lasts metered =
    opened first k (e.Unopened n cause) w phase 0 old new refl (quiet-slip-of w (not (cause == 2))) (subst (λ (j : ℕ). first + j ≤ new.own) (sym planned) (let few = metered.few in omega (arith, few, lasts))) fuse lasts metered phase
  where
    planned : unplanned (e.Unopened n cause ∷ w) ≡ unplanned w
    planned = ap (λ (b : Bool). cond (b && not (is_barred (fuse_of w) 0)) 1 0 + unplanned w) other ∙ zero-plus (unplanned w)

pub start-law : IsStartLaw
start-law first n k w s (start.Started true) old new below opening opens m =
    opened first k (e.Start n true) w s.phase 0 old new refl (quiet-slip w) (let few = m.few in let lasts = opens.lasts.own in omega (arith, few, lasts)) (opens.took.unarmed refl) opens.lasts.own m Up
start-law first n k w s (start.Started false) old new below opening opens m =
    opened first k (e.Start n false) w s.phase 0 old new refl (quiet-slip w) (let few = m.few in let lasts = opens.lasts.own in omega (arith, few, lasts)) (opens.took.unarmed refl) opens.lasts.own m Up
start-law first n k w s (start.Unopened fault.DiskFault) old new below opening opens m =
    opened first k (e.Unopened n 2) w s.phase 0 old new refl (quiet-slip-of w false)
    (let few = m.few in let rises = opens.own_risen refl (unarmed-has k old) in let most = at-most (is_unplanned (fuse_of w) (e.Unopened n 2)) (unplanned w) in omega (arith, few, rises, most, below))
    (opens.took.unarmed refl) opens.lasts.own m s.phase
start-law first n k w s (start.Unopened fault.NoMemory) old new below opening opens m = refused first n k 0 w s.phase old new refl (opens.took.unarmed refl) opens.lasts.own m
start-law first n k w s (start.Unopened (fault.WrongSize have need)) old new below opening opens m = refused first n k 1 w s.phase old new refl (opens.took.unarmed refl) opens.lasts.own m
start-law first n k w s (start.Unopened fault.Unformatted) old new below opening opens m = refused first n k 3 w s.phase old new refl (opens.took.unarmed refl) opens.lasts.own m
start-law first n k w s (start.Unopened (fault.BadHeader field value)) old new below opening opens m = refused first n k 4 w s.phase old new refl (opens.took.unarmed refl) opens.lasts.own m
start-law first n k w s (start.Unopened (fault.Damaged cell)) old new below opening opens m = refused first n k 5 w s.phase old new refl (opens.took.unarmed refl) opens.lasts.own m
start-law first n k w s (start.Unopened (fault.Twice one two)) old new below opening opens m = refused first n k 6 w s.phase old new refl (opens.took.unarmed refl) opens.lasts.own m
start-law first n k w s start.NotDown old new below opening opens m = absurd opening
start-law first n k w s start.NoMemory old new below opening opens m = absurd opening

-- ---- the beginning and the end

pub unarmed-law : IsUnarmedLaw
unarmed-law phase m none = record {
  few = omega arith;
  unarmed = λ _. none;
  least = λ left is. absurd (cc);
  most = λ clean left l is there. absurd (cc);
  effect = λ clean. refl;
}

pub counted-law : IsCounted
counted-law first w phase m metered = record {
  few = (let few = metered.few in omega (arith, few));
  effect = λ none. metered.effect (let few = metered.few in omega (arith, few, none));
}
