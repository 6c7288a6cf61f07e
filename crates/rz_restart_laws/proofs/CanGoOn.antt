-- From the log of earlier runs to the log in which a play goes on: nodes and export are those of it.
use Rattle.std.proofs.Common.{ℕ, Bool, true, false, ◌==◌, ◌≡◌, ◌⊎◌, inl, inr, ◌≤◌, cond, List, [], ◌∷◌, ◌++◌, map, length, Option, Some, None, refl, sym, ◌∙◌, ap, ap₂, subst, arith, eq-eqb}
use Rattle.std.specs.List.{AllByRecursion, filter}
use Rattle.std.proofs.lemmas.Bool.{eqb-true}
use Rattle.rz_events.specs.Volume.{Volume, IsVolume}
use Rattle.rz_events.specs.declared.keys.Key.{Key}
use Rattle.rz_events.specs.declared.records.Change.{Change}
use Rattle.rz_events.specs.declared.nodes.Phase.{Phase}
use Rattle.rz_events.specs.declared.nodes.Phase.TheVariants.{Up, Down, Lost}
use Rattle.rz_events.specs.declared.events.Word.TheVariants.{Export, Node}
use Rattle.rz_events.specs.declared.events.Event.{Event}
use Rattle.rz_events.specs.declared.events.Event.TheVariants as e
use Rattle.rz_events.specs.Events.{word_of, same_word}
use Rattle.rz_node_model.specs.Records.{held_of, IsWhole}
use Rattle.rz_node_model.specs.States.{NodeState, fresh}
use Rattle.rz_node_model.specs.Versions.{Stands}
use Rattle.rz_export_model.specs.Export.{Export as ExportState}
use Rattle.rz_core.specs.History.{Facts, facts}
use Rattle.rz_core.specs.NodeWord.{phase, losses, last_fence, undecided, held, settled}
use Rattle.rz_core.specs.NodeRows.{IsNodeOf}
use Rattle.rz_core.specs.ExportWord.{export_of}
use Rattle.rz_core.specs.Legal.{IsLegalInRuns, HasWord}
use Rattle.rz_core.specs.Longer.{IsNextRun}
use Rattle.rz_core.specs.Tied.{record_in, IsNode, IsExport}
use Rattle.rz_core.proofs.Extends.{Knows}
use Rattle.rz_core.proofs.Locality.{all-filter, legal-knows}
use Rattle.rz_core.proofs.NodeLaws.{node, at-node, rows, IsRows, word-pair}
use Rattle.rz_core.proofs.Stamps.{export}
use Rattle.rz_log_laws.specs.Beside.{IsBeginning}
use Rattle.rz_log_laws.specs.Losses.{AreLossesEnrolled, AreLossesKnown}
use Rattle.rz_safety.specs.Sound.{IsSound, IsAnswering}
use Rattle.rz_safety.specs.Rebuilt.{AreRebuilt}
use Rattle.rz_safety.specs.Writes.{AreWritesEnded}
use Rattle.rz_play.specs.World.{world_after}
use Rattle.rz_play_laws.specs.Fine.{IsTelling, IsFine}
use Rattle.rz_play_laws.proofs.Plays.{by-beginning}
use Rattle.rz_restart_laws.specs.Earlier.{IsEarlier, numbers, stopped_if, restarted, IsRestart, IsRestarted}
use Rattle.rz_restart_laws.specs.Found.{IsNodeFound, IsStoreFound, StandsByLog}
use Rattle.rz_restart_laws.specs.Laws.{MayRestart, IsExportAgain, CanGoOn, MayGoOn, IsSoundAfterwards}
use Rattle.rz_restart_laws.proofs.Restarts.{at_rest, word-own}
use Rattle.rz_restart_laws.proofs.Founds.{fence-is, shown, held-list, held-recorded, settled-recorded, settled-pair}

-- ---- a node at rest is as it was

module _ (n : ℕ) (w : List Event) where
  rest-fence : (p : Phase) → last_fence (stopped_if p n w) ≡ last_fence w
  rest-fence Up = refl
  rest-fence Down = refl
  rest-fence Lost = refl

  rest-losses : (p : Phase) → losses (stopped_if p n w) ≡ losses w
  rest-losses Up = refl
  rest-losses Down = refl
  rest-losses Lost = refl

  rest-undecided : (p : Phase) → undecided (stopped_if p n w) ≡ undecided w
  rest-undecided Up = refl
  rest-undecided Down = refl
  rest-undecided Lost = refl

  rest-held : (f : Facts) (key : Key) (p : Phase) → held f (stopped_if p n w) key ≡ held f w key
  rest-held f key Up = refl
  rest-held f key Down = refl
  rest-held f key Lost = refl

-- ---- a node of the volume

-- a start of the node, with its undecided change or without, makes its state that of the log
abbrev pub IsStarted : List Event → ℕ → NodeState → Bool → Type 0
IsStarted h n s took = (took ≡ true → (c : Change) × (undecided (node n h) ≡ Some c)) × IsNode (facts h) (e.Start n took ∷ at_rest n (node n h)) s

module _ (v : Volume) (h : List Event) (legal : IsLegalInRuns v h) (n : ℕ) (text : List ℕ) (s : NodeState) (is : IsNodeFound v h n text s) (lost : s.losses ≡ losses (node n h)) where
  abbrev f : Facts
  f = facts h

  abbrev w : List Event
  w = node n h

  word-rows : IsRows v f w
  word-rows = rows v h legal n

  known : AllByRecursion (Knows f) w
  known = all-filter (Knows f) (λ y. same_word (Node n) (word_of y)) h (legal-knows v h legal)

  tied : (took : Bool) → s.fence ≡ last_fence w → ((key : Key) → held_of s.held key ≡ map (record_in f) (held f (e.Start n took ∷ at_rest n w) key)) → IsWhole s.held
      → IsNode f (e.Start n took ∷ at_rest n w) s
  tied took fence held_is whole = record {
    phase_is = ap (λ (z : NodeState). z.phase) is.state;
    fence_is = fence ∙ sym (rest-fence n w (phase w));
    losses_is = lost ∙ sym (rest-losses n w (phase w));
    held_is = held_is;
    whole = whole;
    undecided_is = ap (λ (z : NodeState). z.undecided) is.state;
  }

  abbrev settled_held : Key → List ℕ
  settled_held key = settled f key (undecided w) (held f w key)

  -- the disk has what was held
  without-change : ((key : Key) → held_of s.held key ≡ map (record_in f) (held f w key)) → s.fence ≡ last_fence w → IsWhole s.held → IsNode f (e.Start n false ∷ at_rest n w) s
  without-change are fence whole = tied false fence (λ key. are key ∙ ap (map (record_in f)) (sym (rest-held n w f key (phase w)))) whole

  -- or it has the undecided change too
  with-change : ((key : Key) → held_of s.held key ≡ map (record_in f) (settled_held key)) → s.fence ≡ last_fence w → IsWhole s.held → IsNode f (e.Start n true ∷ at_rest n w) s
  with-change are fence whole =
      tied true fence
      (λ key. are key ∙ ap (map (record_in f)) (sym (ap₂ (λ u now. settled f key u now) (rest-undecided n w (phase w)) (rest-held n w f key (phase w))))) whole

  by-settled : ((key : Key) → held_of s.held key ≡ map (record_in f) (settled_held key)) → s.fence ≡ last_fence w → IsWhole s.held
      → (u : Option Change) → undecided w ≡ u → (took : Bool) × IsStarted h n s took
  by-settled are fence whole None none = (
    false,
    (λ it. cc, without-change (λ key. are key ∙ ap (λ (u : Option Change). map (record_in f) (settled f key u (held f w key))) none) fence whole),
  )
  by-settled are fence whole (Some c) some = (true, (λ it. (c, some), with-change are fence whole))

  pub node-started : (took : Bool) × IsStarted h n s took
  node-started = go is.logged
    where
      go : StandsByLog v h n text → (took : Bool) × IsStarted h n s took
      go (inl at) = (
        false,
        (
          λ it. cc,
          without-change
              (λ key. held-list v f n (held f w) (last_fence w) text s at is.stands is.shows key (word-pair v f w word-rows key) (held-recorded v f key w word-rows known))
              (fence-is v f n (held f w) (last_fence w) text s at is.stands is.shows)
              (shown v f n (held f w) (last_fence w) text s at is.stands is.shows).whole,
        ),
      )
      go (inr at) =
          by-settled
          (λ key. held-list v f n settled_held (last_fence w) text s at is.stands is.shows key (settled-pair v f key w word-rows) (settled-recorded v f key w word-rows known))
          (fence-is v f n settled_held (last_fence w) text s at is.stands is.shows)
          (shown v f n settled_held (last_fence w) text s at is.stands is.shows).whole (undecided w) refl

-- ---- a number that no node of the volume has

empty-word : (v : Volume) (h : List Event) → IsLegalInRuns v h → (n : ℕ) → ¬ IsNodeOf v n → node n h ≡ []
empty-word v [] legal n none = refl
empty-word v (x ∷ h) legal n none =
    at-node x h n (λ w. w ≡ []) (λ is. absurd (none (subst (HasWord v) is legal.1.word))) (empty-word v h legal.0 n none)

either-number : (b : Bool) (n m : ℕ) → (m == n) ≡ b → (m ≡ n) ⊎ (m ≡ n → ⊥)
either-number true n m is = inl (eqb-true m n is)
either-number false n m is = inr (λ same. (let z : (m == n) ≡ true = eq-eqb m n same in cc))

pub there-or-not : (n : ℕ) (ns : List ℕ) → Stands n ns ⊎ (Stands n ns → ⊥)
there-or-not n [] = inr (λ there. there)
there-or-not n (m ∷ ns) = go (either-number (m == n) n m refl) (there-or-not n ns)
  where
    go : (m ≡ n) ⊎ (m ≡ n → ⊥) → Stands n ns ⊎ (Stands n ns → ⊥) → Stands n (m ∷ ns) ⊎ (Stands n (m ∷ ns) → ⊥)
    go (inl here) rest = inl (inl here)
    go (inr other) (inl there) = inl (inr there)
    go (inr other) (inr none) = inr (λ at. neither at)
      where
        neither : (m ≡ n) ⊎ Stands n ns → ⊥
        neither (inl here) = other here
        neither (inr there) = none there

-- ---- all of it

module _ (v : Volume) (rules : IsVolume v) (h : List Event) (export_now : ExportState) (nodes : ℕ → NodeState) (earlier : IsEarlier v h) (found : IsStoreFound v h export_now nodes)
    (restarts : MayRestart v) (again : IsExportAgain v) (begins : IsBeginning v) (enrolled : AreLossesEnrolled v) (known_losses : AreLossesKnown v) where
  export-is : IsExport v (facts h) (export h) export_now
  export-is = found.export_is ∙ again h earlier.legal

  word-short : (p : Event → Bool) (l : List Event) → length (filter p l) ≤ length l
  word-short p [] = omega arith
  word-short p (x ∷ l) = go (p x) (word-short p l)
    where
      go : (b : Bool) → length (filter p l) ≤ length l → length (cond b (x ∷ filter p l) (filter p l)) ≤ length (x ∷ l)
      go true low = omega (arith, low)
      go false low = omega (arith, low)

  lost-as-told : (n : ℕ) → IsNodeOf v n → (nodes n).losses ≡ losses (node n h)
  lost-as-told n there =
      let low = word-short (λ x. same_word Export (word_of x)) h in
      let few = earlier.few in
      found.losses n there
      ∙ known_losses h n export_now earlier.legal (omega (arith, low, few)) export-is
      ∙ sym (enrolled h n earlier.legal (earlier.there n there))

  by-node : (n : ℕ) → IsNodeOf v n → (took : Bool) × IsStarted h n (nodes n) took
  by-node n there = let it = found.found n there in node-started v h earlier.legal n it.0 (nodes n) it.1 (lost-as-told n there)

  abbrev IsOne : ℕ → Type 0
  IsOne n = IsNodeOf v n ⊎ (IsNodeOf v n → ⊥)

  abbrev pick : (n : ℕ) → IsOne n → Bool
  pick n (inl there) = (by-node n there).0
  pick n (inr none) = false

  abbrev took : ℕ → Bool
  took n = pick n (there-or-not n (numbers v))

  may-pick : (n : ℕ) (o : IsOne n) → pick n o ≡ true → (c : Change) × (undecided (node n h) ≡ Some c)
  may-pick n (inl there) it = (by-node n there).1.0 it
  may-pick n (inr none) it = cc

  picked : (n : ℕ) (o : IsOne n) → IsNodeOf v n → IsNode (facts h) (e.Start n (pick n o) ∷ at_rest n (node n h)) (nodes n)
  picked n (inl there) at = (by-node n there).1.1
  picked n (inr none) at = absurd (none at)

  abbrev old : List Event
  old = restarted v took h

  restart : IsRestart v h old
  restart = restarts h earlier took (λ n. may-pick n (there-or-not n (numbers v)))

  nodes-are : (n : ℕ) → IsNode (facts old) (node n old) (nodes n)
  nodes-are n = go (there-or-not n (numbers v))
    where
      go : IsOne n → IsNode (facts old) (node n old) (nodes n)
      go (inl there) =
          subst (λ g. IsNode g (node n old) (nodes n)) (sym restart.facts_are)
          (subst (λ w. IsNode (facts h) w (nodes n)) (sym (word-own v rules took h n there)) (picked n (there-or-not n (numbers v)) there))
      go (inr none) =
          subst (λ s. IsNode (facts old) (node n old) s) (sym (found.others n none))
          (subst (λ w. IsNode (facts old) w fresh) (sym (empty-word v old restart.legal n none)) (begins (facts old)).0)

  export-then : IsExport v (facts old) (export old) export_now
  export-then = export-is ∙ ap₂ (λ g w. export_of v g w) (sym restart.facts_are) (sym restart.export_word)

  fine : IsFine v old (world_after nodes export_now old)
  fine = record {
    run = [];
    log_is = refl;
    legal = restart.legal;
    nodes_are = nodes-are;
    export_is = export-then;
    own = λ by ok. tt;
    under_way = λ by ok. inl refl;
    todo = λ by. tt;
  }

  all-goes-on : CanGoOn v h export_now nodes old
  all-goes-on = record {
    restart = restart;
    nodes_are = nodes-are;
    export_is = export-then;
    fine = fine;
    begins = record { legal = restart.legal; nodes_are = nodes-are; export_is = export-then; few = (let few = earlier.few in let more = restart.few in omega (arith, few, more)) };
  }

  pub goes-on : (then : List Event) × IsRestarted v h then × CanGoOn v h export_now nodes then
  goes-on = (old, (took, λ n. may-pick n (there-or-not n (numbers v)), refl), all-goes-on)

pub may-go-on : (v : Volume) → IsVolume v → MayRestart v → IsExportAgain v → IsBeginning v → AreLossesEnrolled v → AreLossesKnown v → MayGoOn v
may-go-on v rules restarts again begins enrolled known_losses h export_now nodes earlier found =
    goes-on v rules h export_now nodes earlier found restarts again begins enrolled known_losses

-- ---- the play that goes on

pub afterwards : (v : Volume) → (IsVolume v → IsTelling v) → IsNextRun v → ((h : List Event) → IsLegalInRuns v h → IsSound v h) → ((h : List Event) → IsLegalInRuns v h → IsAnswering v h)
    → ((h : List Event) → IsLegalInRuns v h → AreWritesEnded v h) → ((h : List Event) → IsLegalInRuns v h → AreRebuilt h) → IsSoundAfterwards v
afterwards v tells next sound answering written rebuilt script rules nodes export_now old fine short log p =
    let leads = by-beginning v (tells rules.volume) old script rules.limits (world_after nodes export_now old) p.last p.played in
    let most = leads.most in
    let few = rules.few in
    let turns = p.few in
    let last : IsFine v old p.last = leads.keeps fine (omega (arith, most, few, turns, short)) in
    let is : log ≡ last.run ++ old = sym p.log_is ∙ last.log_is in
    let runs : IsLegalInRuns v log = subst (IsLegalInRuns v) (sym is) (next old last.run last.legal) in
    record { run = last.run; log_is = is; legal = last.legal; sound = sound log runs; answering = answering log runs; written = written log runs; rebuilt = rebuilt log runs }
