-- Each call of a node after a legal log.
use Rattle.std.proofs.Common.{ℕ, ◌≡◌, inl, inr, ◌≤◌, ◌<◌, ◌-◌, ◌^◌, List, ◌∷◌, length, Option, Some, None, refl, sym, ◌∙◌, subst, arith}
use Rattle.std.specs.Option.{option_map}
use Rattle.rz_events.specs.Volume.{Volume}
use Rattle.rz_events.specs.declared.keys.Key.{Key}
use Rattle.rz_events.specs.declared.keys.Actor.{Actor}
use Rattle.rz_events.specs.declared.records.Head.{Head}
use Rattle.rz_events.specs.declared.records.Held.{Held}
use Rattle.rz_events.specs.declared.records.Change.{Change}
use Rattle.rz_events.specs.declared.records.Change.TheVariants as change
use Rattle.rz_events.specs.declared.ends.Why.{Why}
use Rattle.rz_events.specs.declared.ends.Why.TheVariants as why
use Rattle.rz_events.specs.declared.nodes.Phase.TheVariants.{Up}
use Rattle.rz_events.specs.declared.nodes.KeepAnswer.{KeepAnswer}
use Rattle.rz_events.specs.declared.nodes.KeepAnswer.TheVariants as keep
use Rattle.rz_events.specs.declared.nodes.RefillAnswer.{RefillAnswer}
use Rattle.rz_events.specs.declared.nodes.RefillAnswer.TheVariants as refill
use Rattle.rz_events.specs.declared.nodes.FetchAnswer.{FetchAnswer}
use Rattle.rz_events.specs.declared.nodes.FetchAnswer.TheVariants as fetch
use Rattle.rz_events.specs.declared.nodes.NodeAsk.TheVariants as ask
use Rattle.rz_events.specs.declared.nodes.NodeAnswer.TheVariants as answer
use Rattle.rz_events.specs.declared.events.Word.TheVariants.{Node}
use Rattle.rz_events.specs.declared.events.Event.{Event}
use Rattle.rz_events.specs.declared.events.Event.TheVariants as e
use Rattle.rz_events.specs.Events.{word_of, same_word}
use Rattle.rz_node_model.specs.declared.pending.Pending.TheVariants as pending
use Rattle.rz_node_model.specs.Records.{record_of}
use Rattle.rz_node_model.specs.States.{NodeState}
use Rattle.rz_node_model.specs.Answers.{keep_answer, IsKeepAnswer, refill_answer, IsRefillAnswer, fetch_answer, IsFetchAnswer}
use Rattle.rz_node_model.specs.Afterwards.{with_change, after_fault, after_keep, after_refill, after_fetch}
use Rattle.rz_node_model.specs.NodeEvents.{keep_event, refill_event, fetch_event}
use Rattle.rz_node_model.proofs.VersionLaws.{keep-passed, refill-dated, refill-passed}
use Rattle.rz_core.specs.History.{facts, of_actor, IsPlace}
use Rattle.rz_core.specs.NodeWord.{phase, last_fence, held}
use Rattle.rz_core.specs.NodeRows.{cells_of, IsNodeOf, IsWriting, KeepRow, IsRebuilding, RefillRow, RefusedRow, FetchRow}
use Rattle.rz_core.specs.Legal.{IsLegalInRuns}
use Rattle.rz_core.specs.Tied.{pending_in, IsNode, IsOfWrite, IsNodeStep, IsNodeLawOf}
use Rattle.rz_core.proofs.Extends.{Knows}
use Rattle.rz_core.proofs.Locality.{legal-knows, all-filter}
use Rattle.rz_core.proofs.Stamps.{positive}
use Rattle.rz_core.proofs.NodeLaws.{node, pairs}
use Rattle.rz_core.proofs.NodeSays.{Keeps, keep-says, Refills, refill-says, fetch-says}
use Rattle.rz_core.proofs.NodeTies.{step, idle, same-record, carried-ties, whole-carried, keep-passes, refill-passes, above-all, has-cell, full-cells, answer-some, answer-none}

-- what is so before each call
pub record Before (v : Volume) (h : List Event) (n : ℕ) (s : NodeState) : Type 0 where
  pub legal : IsLegalInRuns v h
  pub there : IsNodeOf v n
  pub tied : IsNode (facts h) (node n h) s
  pub room : length (node n h) < 2 ^ 64 - 1

pub the_some : {A : Type 0} (a b : A) → Some a ≡ Some b → a ≡ b
the_some a b q = cc

pub up-there : (v : Volume) (h : List Event) (n : ℕ) (s : NodeState) → Before v h n s → s.phase ≡ Up → phase (node n h) ≡ Up
up-there v h n s b up = sym b.tied.phase_is ∙ up

-- a refusal leaves all as it was
pub refused : (v : Volume) (h : List Event) (by : Actor) (n : ℕ) (s : NodeState) → Before v h n s → (cause : Why) (told : ℕ)
    → RefusedRow v (facts h) (node n h) n cause told → IsNodeStep v h n (e.Refused by n cause told) s
refused v h by n s b cause told row =
    step v h n (e.Refused by n cause told) s refl (record { begins = λ z. refl; makes = λ z. refl }) b.there b.room row
    (idle (facts h) (node n h) (e.Refused by n cause told ∷ node n h) s refl refl refl (λ key. refl) refl b.tied)

-- a disk fault leaves the change undecided
pub broke : (v : Volume) (h : List Event) (by : Actor) (n : ℕ) (s : NodeState) → Before v h n s → (c : Option Change)
    → IsNode (facts h) (e.Broke by n c ∷ node n h) (after_fault s (option_map (pending_in (facts h)) c))
broke v h by n s b c = record {
  phase_is = refl;
  fence_is = b.tied.fence_is;
  losses_is = b.tied.losses_is;
  held_is = b.tied.held_is;
  whole = b.tied.whole;
  undecided_is = refl;
}

-- a change that is done
pub did : (v : Volume) (h : List Event) (by : Actor) (n : ℕ) (s : NodeState) → Before v h n s → (c : Change)
    → IsNode (facts h) (e.Did by n c ∷ node n h) (with_change s (pending_in (facts h) c))
did v h by n s b c = record {
  phase_is = b.tied.phase_is;
  fence_is = b.tied.fence_is;
  losses_is = b.tied.losses_is;
  held_is = λ q. carried-ties (facts h) (node n h) s b.tied c q;
  whole = whole-carried (facts h) c s.held b.tied.whole;
  undecided_is = b.tied.undecided_is;
}

-- Keeps.

keep_row : (v : Volume) (h : List Event) (by : Actor) (n : ℕ) (s : NodeState) → Before v h n s → (key : Key) (stamp position : ℕ)
    → IsWriting (facts h) by n key stamp position → Keeps (cells_of v n) s key stamp → KeepRow v (facts h) (node n h) by n key stamp position
keep_row v h by n s b key stamp position writing k = record {
  keep = record { up = up-there v h n s b k.up; fenced = subst (λ z. z < stamp) b.tied.fence_is k.above; writing = writing };
  above = above-all stamp (held (facts h) (node n h) key) (pairs v h b.legal n key) (sym (keep-passes (facts h) (node n h) s b.tied key stamp) ∙ k.passes);
  cell = has-cell v (facts h) (node n h) n s b.tied key k.room;
}

not_zero : (a b : ℕ) → 1 ≤ a → a ≤ b → ¬ (b ≡ 0)
not_zero a b one le zero = omega (arith, one, le, zero)

keep_step : (v : Volume) (h : List Event) (by : Actor) (n : ℕ) (s : NodeState) → Before v h n s → (head : Head)
    → IsWriting (facts h) by n head.key head.stamp head.position → IsOfWrite (facts h) head → (given : KeepAnswer)
    → IsKeepAnswer (keep_answer (cells_of v n) s head.key head.stamp) given
    → IsNodeStep v h n (keep_event by n head.key head.stamp head.position given) (after_keep given s head.key (record_of head))
keep_step v h by n s b head writing written keep.Kept is =
    let k = keep-says (cells_of v n) s head.key head.stamp keep.Kept is in
    let x = e.Did by n (change.Keep head.key head.stamp head.position) in
    step v h n x (with_change s (pending.Keep head.key (record_of head))) refl (record { begins = λ z. refl; makes = λ z. refl }) b.there b.room
    (keep_row v h by n s b head.key head.stamp head.position writing k)
    (subst (λ r. IsNode (facts h) (x ∷ node n h) (with_change s (pending.Keep head.key r))) (sym (same-record (facts h) head written))
    (did v h by n s b (change.Keep head.key head.stamp head.position)))
keep_step v h by n s b head writing written keep.DiskFault is =
    let k = keep-says (cells_of v n) s head.key head.stamp keep.DiskFault is in
    let c = change.Keep head.key head.stamp head.position in
    step v h n (e.Broke by n (Some c)) (after_fault s (Some (pending.Keep head.key (record_of head)))) refl (record { begins = λ z. refl; makes = λ z. refl }) b.there b.room
    (keep_row v h by n s b head.key head.stamp head.position writing k)
    (subst (λ r. IsNode (facts h) (e.Broke by n (Some c) ∷ node n h) (after_fault s (Some (pending.Keep head.key r)))) (sym (same-record (facts h) head written))
    (broke v h by n s b (Some c)))
keep_step v h by n s b head writing written (keep.Passed now) is =
    let k = keep-says (cells_of v n) s head.key head.stamp (keep.Passed now) is in
    let p = keep-passed head.stamp now (held (facts h) (node n h) head.key) (sym (keep-passes (facts h) (node n h) s b.tied head.key head.stamp) ∙ k.2) in
    let x = e.Passed by n head.key head.stamp now in
    step v h n x s refl (record { begins = λ z. refl; makes = λ z. refl }) b.there b.room
    (inl (record {
      keep = (head.position, record { up = up-there v h n s b k.0; fenced = subst (λ z. z < head.stamp) b.tied.fence_is k.1; writing = writing });
      now_is = p.0;
      above = p.1;
    }))
    (idle (facts h) (node n h) (x ∷ node n h) s refl refl refl (λ key. refl) refl b.tied)
keep_step v h by n s b head writing written keep.Lost is =
    let k = keep-says (cells_of v n) s head.key head.stamp keep.Lost is in
    refused v h by n s b why.Lost 0 (sym b.tied.phase_is ∙ k, refl)
keep_step v h by n s b head writing written keep.Down is =
    let k = keep-says (cells_of v n) s head.key head.stamp keep.Down is in
    refused v h by n s b why.Down 0 (sym b.tied.phase_is ∙ k, refl)
keep_step v h by n s b head writing written (keep.Fenced told) is =
    let k = keep-says (cells_of v n) s head.key head.stamp (keep.Fenced told) is in
    let one = positive v h b.legal head.stamp writing.writer.0 writing.writer.1.found in
    refused v h by n s b why.Fenced told
    (up-there v h n s b k.0, not_zero head.stamp (last_fence (node n h)) one (subst (λ z. head.stamp ≤ z) b.tied.fence_is k.1), k.2 ∙ b.tied.fence_is)
keep_step v h by n s b head writing written keep.Full is =
    let k = keep-says (cells_of v n) s head.key head.stamp keep.Full is in
    refused v h by n s b why.Full 0 (up-there v h n s b k.0, full-cells v (facts h) (node n h) n s b.tied head.key k.1, refl)

pub node-keep : (v : Volume) (head : Head) → IsNodeLawOf v (ask.Keep head)
node-keep v head h by n s (answer.Keep given) x legal there tied room proper answered opening is =
    subst (λ y. IsNodeStep v h n y (after_keep given s head.key (record_of head))) (the_some _ x is)
    (keep_step v h by n s (record { legal = legal; there = there; tied = tied; room = room }) head proper.0 proper.1 given answered)
node-keep v head h by n s given x legal there tied room proper answered opening is = absurd answered

-- Refills.

refill_row : (v : Volume) (h : List Event) (by : Actor) (n : ℕ) (s : NodeState) → Before v h n s → (fence : ℕ) (key : Key) (stamp position : ℕ)
    → IsRebuilding v (facts h) (of_actor by h) by n fence key stamp position → Refills (cells_of v n) s fence key stamp
    → RefillRow v (facts h) (node n h) (of_actor by h) by n fence key stamp position
refill_row v h by n s b fence key stamp position rebuilding k =
    let d = refill-dated _ stamp (held (facts h) (node n h) key) (sym (refill-passes (facts h) (node n h) s b.tied key stamp) ∙ k.passes) in record {
      refill = record { up = up-there v h n s b k.up; fence_is = k.own ∙ b.tied.fence_is; rebuilding = rebuilding };
      absent = d.0;
      dated = d.1;
      cell = has-cell v (facts h) (node n h) n s b.tied key k.room;
    }

refill_step : (v : Volume) (h : List Event) (by : Actor) (n : ℕ) (s : NodeState) → Before v h n s → (fence : ℕ) (head : Head)
    → IsRebuilding v (facts h) (of_actor by h) by n fence head.key head.stamp head.position → IsOfWrite (facts h) head → (given : RefillAnswer)
    → IsRefillAnswer (refill_answer (cells_of v n) s fence head.key head.stamp) given
    → IsNodeStep v h n (refill_event by n fence head.key head.stamp head.position given) (after_refill given s head.key (record_of head))
refill_step v h by n s b fence head rebuilding written refill.Kept is =
    let k = refill-says (cells_of v n) s fence head.key head.stamp refill.Kept is in
    let c = change.Refill fence head.key head.stamp head.position in
    step v h n (e.Did by n c) (with_change s (pending.Refill head.key (record_of head))) refl (record { begins = λ z. refl; makes = λ z. refl }) b.there b.room
    (refill_row v h by n s b fence head.key head.stamp head.position rebuilding k)
    (subst (λ r. IsNode (facts h) (e.Did by n c ∷ node n h) (with_change s (pending.Refill head.key r))) (sym (same-record (facts h) head written)) (did v h by n s b c))
refill_step v h by n s b fence head rebuilding written refill.DiskFault is =
    let k = refill-says (cells_of v n) s fence head.key head.stamp refill.DiskFault is in
    let c = change.Refill fence head.key head.stamp head.position in
    step v h n (e.Broke by n (Some c)) (after_fault s (Some (pending.Refill head.key (record_of head)))) refl (record { begins = λ z. refl; makes = λ z. refl }) b.there b.room
    (refill_row v h by n s b fence head.key head.stamp head.position rebuilding k)
    (subst (λ r. IsNode (facts h) (e.Broke by n (Some c) ∷ node n h) (after_fault s (Some (pending.Refill head.key r)))) (sym (same-record (facts h) head written)) (broke v h by n s b (Some c)))
refill_step v h by n s b fence head rebuilding written (refill.Passed now) is =
    let k = refill-says (cells_of v n) s fence head.key head.stamp (refill.Passed now) is in
    let p = refill-passed _ head.stamp now (held (facts h) (node n h) head.key) (sym (refill-passes (facts h) (node n h) s b.tied head.key head.stamp) ∙ k.2) in
    let x = e.Passed by n head.key head.stamp now in
    let own = k.1 ∙ b.tied.fence_is in
    step v h n x s refl (record { begins = λ z. refl; makes = λ z. refl }) b.there b.room
    (inr (record {
      refill = (head.position, record { up = up-there v h n s b k.0; fence_is = refl; rebuilding = subst (λ z. IsRebuilding v (facts h) (of_actor by h) by n z head.key head.stamp head.position) own rebuilding });
      now_is = p.0;
      past = p.1;
    }))
    (idle (facts h) (node n h) (x ∷ node n h) s refl refl refl (λ key. refl) refl b.tied)
refill_step v h by n s b fence head rebuilding written refill.Lost is =
    let k = refill-says (cells_of v n) s fence head.key head.stamp refill.Lost is in
    refused v h by n s b why.Lost 0 (sym b.tied.phase_is ∙ k, refl)
refill_step v h by n s b fence head rebuilding written refill.Down is =
    let k = refill-says (cells_of v n) s fence head.key head.stamp refill.Down is in
    refused v h by n s b why.Down 0 (sym b.tied.phase_is ∙ k, refl)
refill_step v h by n s b fence head rebuilding written (refill.OtherFence told) is =
    let k = refill-says (cells_of v n) s fence head.key head.stamp (refill.OtherFence told) is in
    refused v h by n s b why.OtherFence told (up-there v h n s b k.0, k.1 ∙ b.tied.fence_is)
refill_step v h by n s b fence head rebuilding written refill.Full is =
    let k = refill-says (cells_of v n) s fence head.key head.stamp refill.Full is in
    refused v h by n s b why.Full 0 (up-there v h n s b k.0, full-cells v (facts h) (node n h) n s b.tied head.key k.1, refl)

pub node-refill : (v : Volume) (fence : ℕ) (head : Head) → IsNodeLawOf v (ask.Refill fence head)
node-refill v fence head h by n s (answer.Refill given) x legal there tied room proper answered opening is =
    subst (λ y. IsNodeStep v h n y (after_refill given s head.key (record_of head))) (the_some _ x is)
    (refill_step v h by n s (record { legal = legal; there = there; tied = tied; room = room }) fence head proper.0 proper.1 given answered)
node-refill v fence head h by n s given x legal there tied room proper answered opening is = absurd answered

-- Fetches.

fetched : (v : Volume) (h : List Event) (by : Actor) (n : ℕ) (s : NodeState) → Before v h n s → (key : Key) (position stamp : ℕ) (told : Option Held)
    → FetchRow (facts h) (node n h) n key position stamp told → IsNodeStep v h n (e.Fetch by n key position stamp told) s
fetched v h by n s b key position stamp told row =
    let x = e.Fetch by n key position stamp told in
    step v h n x s refl (record { begins = λ z. refl; makes = λ z. refl }) b.there b.room row
    (idle (facts h) (node n h) (x ∷ node n h) s refl refl refl (λ key. refl) refl b.tied)

fetch_step : (v : Volume) (h : List Event) (by : Actor) (n : ℕ) (s : NodeState) → Before v h n s → (key : Key) (position stamp : ℕ)
    → IsPlace (facts h) key.fid position n → (given : FetchAnswer) → IsFetchAnswer (fetch_answer s key stamp) given
    → IsNodeStep v h n (fetch_event by n key position stamp given) (after_fetch given s)
fetch_step v h by n s b key position stamp place (fetch.Held r) is =
    let k = fetch-says s key stamp (fetch.Held r) is in
    let known = all-filter (Knows (facts h)) (λ y. same_word (Node n) (word_of y)) h (legal-knows v h b.legal) in
    fetched v h by n s b key position stamp (Some r)
    (record { up = up-there v h n s b k.0; place = place; told = answer-some (facts h) (node n h) s b.tied known key stamp r k.1 })
fetch_step v h by n s b key position stamp place fetch.Nothing is =
    let k = fetch-says s key stamp fetch.Nothing is in
    fetched v h by n s b key position stamp None
    (record { up = up-there v h n s b k.0; place = place; told = answer-none (facts h) (node n h) s b.tied key stamp k.1 })
fetch_step v h by n s b key position stamp place fetch.Lost is =
    let k = fetch-says s key stamp fetch.Lost is in
    refused v h by n s b why.Lost 0 (sym b.tied.phase_is ∙ k, refl)
fetch_step v h by n s b key position stamp place fetch.Down is =
    let k = fetch-says s key stamp fetch.Down is in
    refused v h by n s b why.Down 0 (sym b.tied.phase_is ∙ k, refl)
fetch_step v h by n s b key position stamp place fetch.DiskFault is =
    let k = fetch-says s key stamp fetch.DiskFault is in
    step v h n (e.Broke by n None) (after_fault s None) refl (record { begins = λ z. refl; makes = λ z. refl }) b.there b.room (up-there v h n s b k) (broke v h by n s b None)

pub node-fetch : (v : Volume) (key : Key) (position stamp : ℕ) → IsNodeLawOf v (ask.Fetch key position stamp)
node-fetch v key position stamp h by n s (answer.Fetch given) x legal there tied room proper answered opening is =
    subst (λ y. IsNodeStep v h n y (after_fetch given s)) (the_some _ x is)
    (fetch_step v h by n s (record { legal = legal; there = there; tied = tied; room = room }) key position stamp proper given answered)
node-fetch v key position stamp h by n s given x legal there tied room proper answered opening is = absurd answered
