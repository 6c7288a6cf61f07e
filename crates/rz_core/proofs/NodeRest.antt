-- Drops, probes, stops, starts, losses and replacements of a node after a legal log.
use Rattle.std.proofs.Common.{ℕ, Bool, true, false, ◌==◌, ◌≡◌, ◌⊎◌, inl, inr, ◌≤◌, ◌+◌, List, [], ◌∷◌, map, Option, Some, None, IsSome, cond, refl, sym, ◌∙◌, ap, subst, arith}
use Rattle.std.specs.Option.{option_map}
use Rattle.std.specs.List.{AllByRecursion}
use Rattle.std.specs.FinMap as maps
use Rattle.std.proofs.lemmas.Bool.{eqb-true, eqb-false}
use Rattle.rz_events.specs.Volume.{Volume}
use Rattle.rz_events.specs.Keys.{key_cmp}
use Rattle.rz_events.specs.Nodes.{number_of}
use Rattle.rz_events.specs.declared.keys.Key.{Key}
use Rattle.rz_events.specs.declared.keys.Actor.{Actor}
use Rattle.rz_events.specs.declared.records.Held.{Held}
use Rattle.rz_events.specs.declared.records.Change.{Change}
use Rattle.rz_events.specs.declared.records.Change.TheVariants as change
use Rattle.rz_events.specs.declared.ends.Why.TheVariants as why
use Rattle.rz_events.specs.declared.nodes.Phase.{Phase}
use Rattle.rz_events.specs.declared.nodes.Phase.TheVariants.{Up, Down, Lost}
use Rattle.rz_events.specs.declared.nodes.DropAnswer.{DropAnswer}
use Rattle.rz_events.specs.declared.nodes.DropAnswer.TheVariants as drop
use Rattle.rz_events.specs.declared.nodes.StartAnswer.TheVariants as start
use Rattle.rz_events.specs.declared.nodes.ReplaceAnswer.TheVariants as replace
use Rattle.rz_events.specs.declared.nodes.NodeAsk.TheVariants as ask
use Rattle.rz_events.specs.declared.nodes.NodeAnswer.TheVariants as answer
use Rattle.rz_events.specs.declared.events.Event.{Event}
use Rattle.rz_events.specs.declared.events.Event.TheVariants as e
use Rattle.rz_node_model.specs.declared.pending.Pending.TheVariants as pending
use Rattle.rz_node_model.specs.Versions.{IsLesser, IsHeld, lesser_of}
use Rattle.rz_node_model.specs.Records.{held_of, key_at, first_block, least_block, listed, IsWhole}
use Rattle.rz_node_model.specs.States.{NodeState, opened}
use Rattle.rz_node_model.specs.Answers.{drop_answer, IsDropAnswer, probe_in}
use Rattle.rz_node_model.specs.Afterwards.{with_change, after_fault, after_drop, taken}
use Rattle.rz_node_model.specs.NodeEvents.{drop_event}
use Rattle.rz_node_model.proofs.RecordLaws.{whole-empty}
use Rattle.rz_core.specs.History.{Facts, facts, of_actor}
use Rattle.rz_core.specs.NodeWord.{phase, undecided, held, settled}
use Rattle.rz_core.specs.ExportRows.{IsLess}
use Rattle.rz_core.specs.NodeRows.{IsAmong, IsRising, HasGone, DropRow, ProbeRow}
use Rattle.rz_core.specs.Tied.{record_in, pending_in, IsNode, IsNodeStep, IsNodeLawOf, IsNodeLaw}
use Rattle.rz_core.proofs.Stamps.{key_ext}
use Rattle.rz_core.proofs.Keys.{less-parts}
use Rattle.rz_core.proofs.NodeLaws.{node, rows, undecided-down, lost-empty}
use Rattle.rz_core.proofs.NodeSays.{Drops, drop-says, replace-says, lose-says, stop-says}
use Rattle.rz_core.proofs.NodeTies.{step, idle, carried-ties, whole-carried, keys-rise, held-among, among-held}
use Rattle.rz_core.proofs.NodeSteps.{Before, the_some, up-there, refused, broke, did, node-keep, node-refill, node-fetch}

-- Drops.

some_is : (a b : ℕ) → Some a ≡ Some b → a ≡ b
some_is a b q = cc

first_least : (fid : ℕ) (ks : List Key) (block : ℕ) → first_block fid ks ≡ Some block → IsRising ks → (at : Key) → IsAmong at ks → at.fid ≡ fid → block ≤ at.block
first_least fid [] block q rise at among same = absurd among
first_least fid (k ∷ ks) block q rise at among same = go (λ q a. first_least fid ks block q rise.1 at a same) (k.fid == fid) refl q among
  where
    below : (ks : List Key) → AllByRecursion (λ b. IsLess k b) ks → IsAmong at ks → IsLess k at
    below [] all a = absurd a
    below (j ∷ js) all (inl is) = subst (IsLess k) is all.0
    below (j ∷ js) all (inr a) = below js all.1 a

    low : (k.fid ≡ fid) → k.block ≡ block → IsLess k at → block ≤ at.block
    low own is less = elim (less-parts k at less) [ inl l ↦ absurd (omega (arith, l, own, same)) | inr l ↦ (let m = l.1 in omega (arith, m, is)) ]

    go : (first_block fid ks ≡ Some block → IsAmong at ks → block ≤ at.block) → (t : Bool) → (k.fid == fid) ≡ t
        → cond t (Some k.block) (first_block fid ks) ≡ Some block → IsAmong at (k ∷ ks) → block ≤ at.block
    go rest true own q (inl is) = let m = some_is k.block block q in let here = ap (λ (z : Key). z.block) is in omega (arith, m, here)
    go rest true own q (inr a) = low (eqb-true _ _ own) (some_is k.block block q) (below ks rise.0 a)
    go rest false own q (inl is) = absurd (eqb-false k.fid fid own (ap (λ (z : Key). z.fid) is ∙ same))
    go rest false own q (inr a) = rest q a

none_own : (fid : ℕ) (ks : List Key) → first_block fid ks ≡ None → (at : Key) → IsAmong at ks → ¬ (at.fid ≡ fid)
none_own fid [] q at among same = absurd among
none_own fid (k ∷ ks) q at among same = go (λ q a. none_own fid ks q at a same) (k.fid == fid) refl q among
  where
    go : (first_block fid ks ≡ None → IsAmong at ks → ⊥) → (t : Bool) → (k.fid == fid) ≡ t
        → cond t (Some k.block) (first_block fid ks) ≡ None → IsAmong at (k ∷ ks) → ⊥
    go rest true own q a = cc
    go rest false own q (inl is) = eqb-false k.fid fid own (ap (λ (z : Key). z.fid) is ∙ same)
    go rest false own q (inr a) = rest q a

first_among : (fid : ℕ) (ks : List Key) (block : ℕ) → first_block fid ks ≡ Some block → IsAmong (key_at fid block) ks
first_among fid [] block q = cc
first_among fid (k ∷ ks) block q = go (first_among fid ks block) (k.fid == fid) refl q
  where
    go : (first_block fid ks ≡ Some block → IsAmong (key_at fid block) ks) → (t : Bool) → (k.fid == fid) ≡ t
        → cond t (Some k.block) (first_block fid ks) ≡ Some block → IsAmong (key_at fid block) (k ∷ ks)
    go rest true own q = inl (key_ext k (key_at fid block) (eqb-true _ _ own) (some_is k.block block q))
    go rest false own q = inr (rest q)

empty_or : (now : List ℕ) → ¬ IsHeld now → now ≡ []
empty_or [] none = refl
empty_or (a ∷ now) none = absurd (none tt)

lesser_is : (f : Facts) (now : List ℕ) (r : Held) → lesser_of (map (record_in f) now) ≡ Some r → IsLesser r.stamp now
lesser_is f [] r q = cc
lesser_is f (a ∷ []) r q = let same : record_in f a ≡ r = cc in ap (λ (z : Held). z.stamp) same
lesser_is f (a ∷ b ∷ now) r q = let same : record_in f b ≡ r = cc in ap (λ (z : Held). z.stamp) same

lesser_none : (f : Facts) (now : List ℕ) → lesser_of (map (record_in f) now) ≡ None → ¬ IsHeld now
lesser_none f [] q some = some
lesser_none f (a ∷ []) q some = cc
lesser_none f (a ∷ b ∷ now) q some = cc

drop_row : (v : Volume) (h : List Event) (by : Actor) (n : ℕ) (s : NodeState) → Before v h n s → (fid block stamp : ℕ)
    → HasGone (of_actor by h) by fid → Drops s fid block stamp → DropRow (facts h) (node n h) (of_actor by h) by (key_at fid block) stamp
drop_row v h by n s b fid block stamp gone k = record {
  up = up-there v h n s b k.up;
  least = λ at same less. empty_or (held (facts h) (node n h) at) (λ some. never at same less (first_least fid (maps.keys s.held) block k.least (keys-rise s.held) at (held-among (facts h) (node n h) s b.tied at some) same));
  lesser = subst (λ z. IsLesser z (held (facts h) (node n h) (key_at fid block))) k.lesser.2
      (lesser_is (facts h) (held (facts h) (node n h) (key_at fid block)) k.lesser.0 (ap lesser_of (sym (b.tied.held_is (key_at fid block))) ∙ k.lesser.1));
  gone = gone;
}
  where
    never : (at : Key) → at.fid ≡ fid → IsLess at (key_at fid block) → block ≤ at.block → ⊥
    never at same less le = elim (less-parts at (key_at fid block) less) [ inl l ↦ omega (arith, l, same) | inr l ↦ (let m = l.1 in omega (arith, m, le)) ]

drop_step : (v : Volume) (h : List Event) (by : Actor) (n : ℕ) (s : NodeState) → Before v h n s → (fid : ℕ)
    → HasGone (of_actor by h) by fid → (given : DropAnswer) → IsDropAnswer (drop_answer s fid) given
    → IsNodeStep v h n (drop_event by n fid given) (after_drop given s fid)
drop_step v h by n s b fid gone (drop.Dropped block stamp more) is =
    let k = drop-says s fid (drop.Dropped block stamp more) is in
    let c = change.Drop (key_at fid block) stamp in
    step v h n (e.Did by n c) (with_change s (pending.Drop (key_at fid block) stamp)) refl (record { begins = λ z. refl; makes = λ z. refl }) b.there b.room
    (drop_row v h by n s b fid block stamp gone k) (did v h by n s b c)
drop_step v h by n s b fid gone (drop.DiskFault block stamp) is =
    let k = drop-says s fid (drop.DiskFault block stamp) is in
    let c = change.Drop (key_at fid block) stamp in
    step v h n (e.Broke by n (Some c)) (after_fault s (Some (pending.Drop (key_at fid block) stamp))) refl (record { begins = λ z. refl; makes = λ z. refl }) b.there b.room
    (drop_row v h by n s b fid block stamp gone k) (broke v h by n s b (Some c))
drop_step v h by n s b fid gone drop.Nothing is =
    let k = drop-says s fid drop.Nothing is in
    step v h n (e.Void by n fid) s refl (record { begins = λ z. refl; makes = λ z. refl }) b.there b.room
    (record { up = up-there v h n s b k.0; none = λ key same. empty_or (held (facts h) (node n h) key) (λ some. never key same some k.1) })
    (idle (facts h) (node n h) (e.Void by n fid ∷ node n h) s refl refl refl (λ key. refl) refl b.tied)
  where
    never : (key : Key) → key.fid ≡ fid → IsHeld (held (facts h) (node n h) key)
        → (least_block s.held fid ≡ None) ⊎ ((block : ℕ) × (least_block s.held fid ≡ Some block) × (lesser_of (held_of s.held (key_at fid block)) ≡ None)) → ⊥
    never key same some (inl none) = none_own fid (maps.keys s.held) none key (held-among (facts h) (node n h) s b.tied key some) same
    never key same some (inr (block, least, none)) =
        lesser_none (facts h) (held (facts h) (node n h) (key_at fid block)) (ap lesser_of (sym (b.tied.held_is (key_at fid block))) ∙ none)
        (among-held (facts h) (node n h) s b.tied (key_at fid block) (first_among fid (maps.keys s.held) block least))
drop_step v h by n s b fid gone drop.Lost is = let k = drop-says s fid drop.Lost is in refused v h by n s b why.Lost 0 (sym b.tied.phase_is ∙ k, refl)
drop_step v h by n s b fid gone drop.Down is = let k = drop-says s fid drop.Down is in refused v h by n s b why.Down 0 (sym b.tied.phase_is ∙ k, refl)

pub node-drop : (v : Volume) (fid : ℕ) → IsNodeLawOf v (ask.Drop fid)
node-drop v fid h by n s (answer.Drop given) x legal there tied room proper answered opening is =
    subst (λ y. IsNodeStep v h n y (after_drop given s fid)) (the_some _ x is)
    (drop_step v h by n s (record { legal = legal; there = there; tied = tied; room = room }) fid proper given answered)
node-drop v fid h by n s given x legal there tied room proper answered opening is = absurd answered

-- Probes.

probe_row : (f : Facts) (w : List Event) (s : NodeState) → IsNode f w s → (p : Phase) → s.phase ≡ p → ProbeRow w (probe_in p s.losses)
probe_row f w s t Lost q = (sym t.phase_is ∙ q, t.losses_is)
probe_row f w s t Down q = λ lost. (let there = t.phase_is in cc)
probe_row f w s t Up q = λ lost. (let there = t.phase_is in cc)

pub node-probe : (v : Volume) → IsNodeLawOf v ask.Probe
node-probe v h by n s (answer.Probe given) x legal there tied room proper answered opening is =
    subst (λ y. IsNodeStep v h n y s) (the_some _ x is)
    (step v h n (e.Probe by n given) s refl (record { begins = λ z. refl; makes = λ z. refl }) there room
    (subst (ProbeRow (node n h)) (sym answered) (probe_row (facts h) (node n h) s tied s.phase refl))
    (idle (facts h) (node n h) (e.Probe by n given ∷ node n h) s refl refl refl (λ key. refl) refl tied))
node-probe v h by n s given x legal there tied room proper answered opening is = absurd answered

-- Stops.

pub node-stop : (v : Volume) → IsNodeLawOf v ask.Stop
node-stop v h by n s (answer.Stop true) x legal there tied room proper answered opening is =
    subst (λ y. IsNodeStep v h n y (record s { phase = Down })) (the_some _ x is)
    (step v h n (e.Stop n) (record s { phase = Down }) refl (record { begins = λ z. refl; makes = λ z. refl }) there room
    (sym tied.phase_is ∙ stop-says s.phase answered)
    (record { phase_is = refl; fence_is = tied.fence_is; losses_is = tied.losses_is; held_is = tied.held_is; whole = tied.whole; undecided_is = tied.undecided_is }))
node-stop v h by n s (answer.Stop false) x legal there tied room proper answered opening is = cc
node-stop v h by n s given x legal there tied room proper answered opening is = absurd answered

-- Starts.

pending_there : (f : Facts) (w : List Event) (s : NodeState) → IsNode f w s → IsSome s.undecided → (c : Change) × (undecided w ≡ Some c)
pending_there f w s t some = go (undecided w) refl t.undecided_is
  where
    go : (u : Option Change) → undecided w ≡ u → s.undecided ≡ option_map (pending_in f) u → (c : Change) × (undecided w ≡ Some c)
    go None q is = let never = subst IsSome is some in cc
    go (Some c) q is = (c, q)

pub started : (f : Facts) (w : List Event) (s : NodeState) (n : ℕ) → IsNode f w s
    → IsNode f (e.Start n true ∷ w) (record s { phase = Up; held = taken s.undecided s.held; undecided = None })
started f w s n t = record {
  phase_is = refl;
  fence_is = t.fence_is;
  losses_is = t.losses_is;
  held_is = λ q. go q (undecided w) t.undecided_is;
  whole = all (undecided w) t.undecided_is;
  undecided_is = refl;
}
  where
    go : (q : Key) (u : Option Change) → s.undecided ≡ option_map (pending_in f) u
        → held_of (taken s.undecided s.held) q ≡ map (record_in f) (settled f q u (held f w q))
    go q None is = subst (λ z. held_of (taken z s.held) q ≡ map (record_in f) (held f w q)) (sym is) (t.held_is q)
    go q (Some c) is = subst (λ z. held_of (taken z s.held) q ≡ map (record_in f) (settled f q (Some c) (held f w q))) (sym is) (carried-ties f w s t c q)

    all : (u : Option Change) → s.undecided ≡ option_map (pending_in f) u → IsWhole (taken s.undecided s.held)
    all None is = subst (λ z. IsWhole (taken z s.held)) (sym is) t.whole
    all (Some c) is = subst (λ z. IsWhole (taken z s.held)) (sym is) (whole-carried f c s.held t.whole)

pub node-start : (v : Volume) → IsNodeLawOf v ask.Start
node-start v h by n s (answer.Start (start.Started true)) x legal there tied room proper answered opening is =
    subst (λ y. IsNodeStep v h n y (record s { phase = Up; held = taken s.undecided s.held; undecided = None })) (the_some _ x is)
    (step v h n (e.Start n true) (record s { phase = Up; held = taken s.undecided s.held; undecided = None }) refl (record { begins = λ z. refl; makes = λ z. refl }) there room
    (record { down = sym tied.phase_is ∙ answered.0; pending = λ took. pending_there (facts h) (node n h) s tied (answered.1 took) })
    (started (facts h) (node n h) s n tied))
node-start v h by n s (answer.Start (start.Started false)) x legal there tied room proper answered opening is =
    subst (λ y. IsNodeStep v h n y (record s { phase = Up; undecided = None })) (the_some _ x is)
    (step v h n (e.Start n false) (record s { phase = Up; undecided = None }) refl (record { begins = λ z. refl; makes = λ z. refl }) there room
    (record { down = sym tied.phase_is ∙ answered.0; pending = λ took. cc })
    (record { phase_is = refl; fence_is = tied.fence_is; losses_is = tied.losses_is; held_is = tied.held_is; whole = tied.whole; undecided_is = refl }))
node-start v h by n s (answer.Start start.NotDown) x legal there tied room proper answered opening is = cc
node-start v h by n s (answer.Start start.NoMemory) x legal there tied room proper answered opening is = cc
node-start v h by n s (answer.Start (start.Unopened cause)) x legal there tied room proper answered opening is =
    subst (λ y. IsNodeStep v h n y s) (the_some _ x is)
    (step v h n (e.Unopened n (number_of cause)) s refl (record { begins = λ z. refl; makes = λ z. refl }) there room
    (record { down = sym tied.phase_is ∙ answered.0; cause_is = ap number_of opening })
    (idle (facts h) (node n h) (e.Unopened n (number_of cause) ∷ node n h) s refl refl refl (λ key. refl) refl tied))
node-start v h by n s given x legal there tied room proper answered opening is = absurd answered

-- Losses.

pub node-lose : (v : Volume) → IsNodeLawOf v ask.Lose
node-lose v h by n s (answer.Lose None) x legal there tied room proper answered opening is = cc
node-lose v h by n s (answer.Lose (Some loss)) x legal there tied room proper answered opening is =
    let k = lose-says s.phase s.losses loss answered in
    subst (λ y. IsNodeStep v h n y (record s { phase = Lost; losses = loss; held = maps.empty; undecided = None })) (the_some _ x is)
    (step v h n (e.Lose n loss) (record s { phase = Lost; losses = loss; held = maps.empty; undecided = None }) refl (record { begins = λ z. refl; makes = λ z. refl }) there room
    (record { there = λ lost. k.0 (tied.phase_is ∙ lost); next = k.1 ∙ ap (λ z. z + 1) tied.losses_is })
    (record { phase_is = refl; fence_is = tied.fence_is; losses_is = refl; held_is = λ q. ap listed (maps.get-empty {X = List Held} key_cmp q); whole = whole-empty; undecided_is = refl }))
node-lose v h by n s given x legal there tied room proper answered opening is = absurd answered

-- Replacements.

none_pending : (v : Volume) (h : List Event) (n : ℕ) (s : NodeState) → Before v h n s → phase (node n h) ≡ Lost → None ≡ option_map (pending_in (facts h)) (undecided (node n h))
none_pending v h n s b lost = go (undecided (node n h)) refl
  where
    go : (u : Option Change) → undecided (node n h) ≡ u → None ≡ option_map (pending_in (facts h)) u
    go None q = refl
    go (Some c) q = let down = undecided-down v (facts h) (node n h) (rows v h b.legal n) c q in cc

replaced : (v : Volume) (h : List Event) (by : Actor) (n : ℕ) (s : NodeState) → Before v h n s → phase (node n h) ≡ Lost → (loss fence : ℕ)
    → IsNode (facts h) (e.Replace by n loss fence ∷ node n h) (opened s.losses fence maps.empty)
replaced v h by n s b lost loss fence = record {
  phase_is = refl;
  fence_is = refl;
  losses_is = b.tied.losses_is;
  held_is = λ q. ap listed (maps.get-empty {X = List Held} key_cmp q) ∙ ap (map (record_in (facts h))) (sym (lost-empty v (facts h) (node n h) (rows v h b.legal n) q lost));
  whole = whole-empty;
  undecided_is = none_pending v h n s b lost;
}

pub node-replace : (v : Volume) (loss fence : ℕ) → IsNodeLawOf v (ask.Replace loss fence)
node-replace v loss fence h by n s (answer.Replace replace.Replaced) x legal there tied room proper answered opening is =
    let k = replace-says s loss replace.Replaced answered in
    let lost = sym tied.phase_is ∙ k.0 in
    subst (λ y. IsNodeStep v h n y (opened s.losses fence maps.empty)) (the_some _ x is)
    (step v h n (e.Replace by n loss fence) (opened s.losses fence maps.empty) refl (record { begins = λ z. refl; makes = λ z. refl }) there room
    (record { lost = lost; loss_is = k.1 ∙ tied.losses_is; enrolled = proper })
    (replaced v h by n s (record { legal = legal; there = there; tied = tied; room = room }) lost loss fence))
node-replace v loss fence h by n s (answer.Replace replace.NotLost) x legal there tied room proper answered opening is =
    let k = replace-says s loss replace.NotLost answered in
    subst (λ y. IsNodeStep v h n y s) (the_some _ x is)
    (refused v h by n s (record { legal = legal; there = there; tied = tied; room = room }) why.NotLost 0 (λ lost. k (tied.phase_is ∙ lost), refl))
node-replace v loss fence h by n s (answer.Replace (replace.OtherLoss now)) x legal there tied room proper answered opening is =
    let k = replace-says s loss (replace.OtherLoss now) answered in
    subst (λ y. IsNodeStep v h n y s) (the_some _ x is)
    (refused v h by n s (record { legal = legal; there = there; tied = tied; room = room }) why.OtherLoss now (sym tied.phase_is ∙ k.0, k.1 ∙ tied.losses_is))
node-replace v loss fence h by n s (answer.Replace replace.DiskFault) x legal there tied room proper answered opening is =
    let k = replace-says s loss replace.DiskFault answered in
    subst (λ y. IsNodeStep v h n y s) (the_some _ x is)
    (refused v h by n s (record { legal = legal; there = there; tied = tied; room = room }) why.DiskFault 0 (sym tied.phase_is ∙ k.0, refl))
node-replace v loss fence h by n s (answer.Replace replace.NoMemory) x legal there tied room proper answered opening is = cc
node-replace v loss fence h by n s given x legal there tied room proper answered opening is = absurd answered

-- Each call.
pub node-law : (v : Volume) → IsNodeLaw v
node-law v (ask.Keep head) = node-keep v head
node-law v (ask.Fetch key position stamp) = node-fetch v key position stamp
node-law v (ask.Refill fence head) = node-refill v fence head
node-law v (ask.Drop fid) = node-drop v fid
node-law v ask.Probe = node-probe v
node-law v ask.Stop = node-stop v
node-law v ask.Start = node-start v
node-law v ask.Lose = node-lose v
node-law v (ask.Replace loss fence) = node-replace v loss fence
