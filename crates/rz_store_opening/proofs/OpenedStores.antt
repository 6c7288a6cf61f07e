-- A store that is opened on the disks that are here goes on after the log that left them.
use Rattle.std.proofs.Common.{ℕ, Bool, true, false, ◌==◌, ◌≡◌, ◌≢◌, inl, inr, ◌-◌, ◌^◌, ◌<◌, List, [], ◌∷◌, map, length, Option, Some, None, is_some, cond, IsTrue, refl, sym, ◌∙◌, ap, ap₂, subst, arith, eqb-true, eq-eqb}
use Rattle.std.specs.Prelude.{unwrap_or, IfSome}
use Rattle.std.specs.List.{AllByRecursion, AllZip, zip}
use Rattle.std.proofs.lemmas.List.{length-map}
use Rattle.rz_disk.specs.Meter.{Meter, faults}
use Rattle.rz_disk.specs.UnderFuse.{UnderFuse}
use Rattle.rz_events.specs.Events.{word_of, same_word}
use Rattle.rz_events.specs.Volume.{Volume, IsVolume, nodes_of}
use Rattle.rz_events.specs.declared.files.NodeSpec.{NodeSpec}
use Rattle.rz_events.specs.declared.nodes.Phase.TheVariants.{Lost}
use Rattle.rz_events.specs.declared.events.Word.TheVariants.{Export}
use Rattle.rz_events.specs.declared.events.Event.{Event}
use Rattle.rz_events.specs.declared.export.Call.{Call}
use Rattle.rz_node_model.specs.States.{NodeState, fresh}
use Rattle.rz_node_model.specs.Versions.{Stands}
use Rattle.rz_export_model.specs.Export.{Export as ExportState, new_export, fence_of}
use Rattle.mj_angles.specs.Layout.{bsize_of}
use Rattle.mj_angles.specs.declared.layout.Layout.{Layout}
use Rattle.rz_cells_slots.specs.declared.geometry.Geometry.{Geometry}
use Rattle.rz_cells_slots.specs.Held.{Records}
use Rattle.rz_cells_slots.specs.Stands.{StandsFor}
use Rattle.rz_core.specs.History.{Facts, facts}
use Rattle.rz_core.specs.NodeWord.{phase, losses, last_fence}
use Rattle.rz_core.specs.NodeRows.{IsNodeOf}
use Rattle.rz_core.specs.Legal.{IsLegalInRuns}
use Rattle.rz_core.specs.Tied.{IsExport}
use Rattle.rz_core.proofs.NodeLaws.{node}
use Rattle.rz_core.proofs.Stamps.{export}
use Rattle.rz_log_laws.specs.Losses.{AreLossesEnrolled, AreLossesKnown}
use Rattle.rz_node_laws.specs.Images.{geometry_in}
use Rattle.rz_journal.specs.JournalText.{after_all, IsTextOf}
use Rattle.rz_journal.specs.Kept.{IsExportAfter}
use Rattle.rz_journal.specs.Opening.{IsJournalRefused}
use Rattle.rz_journal.specs.declared.rebuilding.JournalFault.{JournalFault}
use Rattle.rz_journal.specs.declared.rebuilding.JournalFault.TheVariants as fault
use Rattle.rz_metadata.specs.Enrolled.{loss_of}
use Rattle.rz_metadata.specs.Reopened.{AllTextsOf, IsAsItCame}
use Rattle.rz_metadata.specs.Stands.{Stands as JournalStands, export_in}
use Rattle.rz_nodes.specs.Arrived.{IsArrival, IsHere, IsMissing}
use Rattle.rz_nodes.specs.Formatted.{geometry_of}
use Rattle.rz_nodes.specs.declared.formatting.Server.{Server}
use Rattle.rz_nodes.specs.declared.arriving.KnownNode.{KnownNode}
use Rattle.rz_nodes.specs.declared.arriving.Arrival.{Arrival}
use Rattle.rz_nodes.specs.declared.arriving.Arrival.TheVariants as arrival
use Rattle.rz_nodes.specs.declared.arriving.Missing.{Missing}
use Rattle.rz_nodes.specs.declared.arriving.Missing.TheVariants as missing
use Rattle.rz_restart_laws.specs.Calls.{changing_calls, calls_told}
use Rattle.rz_restart_laws.specs.Earlier.{IsEarlier, numbers}
use Rattle.rz_restart_laws.specs.Fences.{AreFencesGiven, AreFencesKnown, AreStaleTold}
use Rattle.rz_restart_laws.specs.Found.{IsNodeFound, StandsByLog}
use Rattle.rz_restart_laws.specs.Laws.{IsExportAgain}
use Rattle.rz_restart_laws.specs.Returns.{AreBack, AreFoundHere, IsReplaced, MayGoOnWithout, MayReplace, MayReturn, NewDisk, replaced}
use Rattle.rz_restart_laws.proofs.Restarts.{Apart, numbers-apart, word-short}
use Rattle.rz_shared_locked.specs.LockedNodes.{IsAwayByLog}
use Rattle.rz_shared.specs.declared.seating.AwayNode.{AwayNode}
use Rattle.rz_shared.specs.declared.seating.Arrived.{Arrived}
use Rattle.rz_shared.specs.declared.seating.Arrived.TheVariants as arrived
use Rattle.rz_shared.proofs.Readiness.{IsDescribed, described}
use Rattle.rz_store_opening.specs.Opened.{IsOpenedAfter}
use Rattle.rz_store_opening.specs.Opening.{AreHandedBack, AreLeft, AreOpenedDisks, GoesOnAfter, IsBackAt, IsOpenedStore, IsPlaceBack, IsReopened, IsReopeningLaw, IsUnopened, MayStand, arrived_by, disk_in, disks_in, here_in, known_of, missing_in, nodes_in, reopened, sid_of, state_at}
use Rattle.rz_store_opening.specs.declared.disks.OpenedDisks.{OpenedDisks}
use Rattle.rz_store_opening.proofs.Openings.{opened}
use Rattle.rz_store_opening.proofs.Taken.{back-as-told}

-- ---- a disk under the fence that is known is the node's own

-- a text has one fence
one-fence : (g : Geometry) (f k : ℕ) (text : List ℕ) (these those : Records) → StandsFor g f text these → StandsFor g k text those → f ≡ k
one-fence g f k text these those one two = sym one.1.header.fence_is ∙ two.1.header.fence_is

log-fence : (v : Volume) (h : List Event) (n : ℕ) (text : List ℕ) → StandsByLog v h n text → (fence : ℕ) (records : Records) → StandsFor (geometry_in v n) fence text records → last_fence (node n h) ≡ fence
log-fence v h n text (inl at) fence records stands = one-fence (geometry_in v n) (last_fence (node n h)) fence text _ records at stands
log-fence v h n text (inr at) fence records stands = one-fence (geometry_in v n) (last_fence (node n h)) fence text _ records at stands

module _ (v : Volume) (given : AreFencesGiven v) (known : AreFencesKnown v) (stale : AreStaleTold v) (h : List Event) (earlier : IsEarlier v h) (s : ExportState) (tied : IsExport v (facts h) (export h) s) where
  short : length (export h) < 2 ^ 64 - 1
  short = let low = word-short (λ x. same_word Export (word_of x)) h in let few = earlier.few in omega (arith, low, few)

  pub its-own : (n : ℕ) → IsNodeOf v n → (text : List ℕ) → MayStand v h n text → (fence : ℕ) (records : Records) → StandsFor (geometry_in v n) fence text records → fence ≡ fence_of s n → StandsByLog v h n text
  its-own n at text (inl own) fence records stands is = own
  its-own n at text (inr (inl lost)) fence records stands is =
      let legal = subst (IsLegalInRuns v) lost.are earlier.legal in
      let alive = subst (λ (l : List Event). phase (node n l) ≢ Lost) lost.are (earlier.there n at) in
      let fewer = subst (λ (l : List Event). losses (node n lost.before) < losses (node n l)) lost.are lost.lost in
      let low = subst (λ (l : List Event). last_fence (node n lost.before) < last_fence (node n l)) (sym lost.are) (stale lost.before lost.since n legal lost.there alive fewer) in
      let old = log-fence v lost.before n text lost.stands fence records stands in
      let now = given h n earlier.legal (earlier.there n at) ∙ sym (known h n s earlier.legal short tied) in
      absurd (omega (arith, low, old, now, is))
  its-own n at text (inr (inr none)) fence records stands is = absurd (none fence records stands)

-- ---- what came of each disk

-- a node that is here was opened after the log, and its number and its losses are those that are known; one that is away is known so
abbrev pub IsFoundAt : {D : Type 0} → (D → Meter) → (D → List ℕ) → (D → List ℕ → Type 0) → Volume → List Event → ExportState → NodeSpec → Arrived D → Type 0
IsFoundAt meter text image v h s spec (arrived.Here server) =
    (server.sid ≡ spec.sid) × (server.node.state.losses ≡ loss_of s spec.sid) × IsOpenedAfter meter text image v h (λ n. 0) server
IsFoundAt meter text image v h s spec (arrived.Away a) = a ≡ record { sid = spec.sid; fence = fence_of s spec.sid; losses = loss_of s spec.sid }

module _ {D : Type 0} (tells : Bool) (meter : D → Meter) (text : D → List ℕ) (image : D → List ℕ → Type 0) (told : IsTrue tells) (imaged : (d : D) → image d (text d)) (v : Volume) (h : List Event) (s : ExportState)
    (own : (n : ℕ) → IsNodeOf v n → (c : List ℕ) → MayStand v h n c → (fence : ℕ) (records : Records) → StandsFor (geometry_in v n) fence c records → fence ≡ fence_of s n → StandsByLog v h n c) where
  abbrev IsFound : NodeSpec → Arrived D → Type 0
  IsFound spec a = IsFoundAt meter text image v h s spec a

  abbrev known-at : NodeSpec → KnownNode
  known-at spec = record { node = spec; losses = loss_of s spec.sid; fence = fence_of s spec.sid }

  abbrev May : NodeSpec → Option D → Type 0
  May spec d = IfSome d (λ there. (c : List ℕ) → image there c → MayStand v h spec.sid c)

  here-found : (spec : NodeSpec) → IsDescribed v spec → (d : Option D) → May spec d → (server : Server (UnderFuse D)) → IsHere tells meter text image v.layout (known-at spec) d server → IsFound spec (arrived.Here server)
  here-found spec is None may server here = absurd here
  here-found spec is (Some d) may server here =
      let it = here.0 in
      let stood = it.stands told in
      let same : geometry_of v.layout spec ≡ geometry_in v spec.sid = ap (λ (c : ℕ). record { layout = v.layout; bsize = bsize_of v.layout; node = spec.sid; cells = c }) (sym is.cells) in
      let stands = subst (λ (c : List ℕ). StandsFor (geometry_in v spec.sid) server.node.state.fence c stood.0) it.same (subst (λ (g : Geometry). StandsFor g server.node.state.fence (text server.node.disk.disk) stood.0) same stood.1) in
      let logged = own spec.sid is.of_volume (text d) (may (text d) (imaged d)) server.node.state.fence stood.0 stands here.1 in (
        it.number,
        ap (λ (z : NodeState). z.losses) it.state,
        opened tells meter text image v h (λ n. 0) spec (loss_of s spec.sid) d server told it is.of_volume is.cells logged (omega arith),
      )

  all-found : (specs : List NodeSpec) → AllByRecursion (IsDescribed v) specs → (disks : List (Option D)) → AllZip May specs disks
      → (arrivals : List (Arrival D)) → AllZip (IsArrival tells meter text image v.layout) (zip (known_of s specs) disks) arrivals → AllZip IsFound specs (arrived_by (known_of s specs) arrivals)
  all-found [] all [] may [] came = tt
  all-found [] all [] may (a ∷ arrivals) came = absurd came
  all-found [] all (d ∷ disks) may arrivals came = absurd may
  all-found (spec ∷ specs) all [] may arrivals came = absurd may
  all-found (spec ∷ specs) all (d ∷ disks) may [] came = absurd came
  all-found (spec ∷ specs) all (d ∷ disks) may (arrival.Here server ∷ arrivals) came = (here-found spec all.0 d may.0 server came.0, all-found specs all.1 disks may.1 arrivals came.1)
  all-found (spec ∷ specs) all (d ∷ disks) may (arrival.Away why ∷ arrivals) came = (refl, all-found specs all.1 disks may.1 arrivals came.1)

-- ---- the nodes by their numbers

module _ {D : Type 0} (meter : D → Meter) (text : D → List ℕ) (image : D → List ℕ → Type 0) (v : Volume) (h : List Event) (s : ExportState) where
  abbrev Found : NodeSpec → Arrived D → Type 0
  Found spec a = IsFoundAt meter text image v h s spec a

  abbrev sids : List NodeSpec → List ℕ
  sids specs = map (λ (spec : NodeSpec). spec.sid) specs

  -- a number that no node has is at none that is here
  none-at : (specs : List NodeSpec) (nodes : List (Arrived D)) → AllZip Found specs nodes → (n : ℕ) → ¬ Stands n (sids specs) → state_at nodes n ≡ None
  none-at [] [] all n none = refl
  none-at [] (a ∷ nodes) all n none = absurd all
  none-at (spec ∷ specs) [] all n none = absurd all
  none-at (spec ∷ specs) (arrived.Here server ∷ nodes) all n none = go (none-at specs nodes all.1 n (λ there. none (inr there))) (server.sid == n) refl
    where
      go : state_at nodes n ≡ None → (b : Bool) → (server.sid == n) ≡ b → cond b (Some server.node.state) (state_at nodes n) ≡ None
      go rest true on = absurd (none (inl (sym all.0.0 ∙ eqb-true server.sid n on)))
      go rest false off = rest
  none-at (spec ∷ specs) (arrived.Away a ∷ nodes) all n none = none-at specs nodes all.1 n (λ there. none (inr there))

  -- one that is here was found
  abbrev IsAt : ℕ → NodeState → Type 0
  IsAt n state = (server : Server (UnderFuse D)) × (server.sid ≡ n) × (server.node.state ≡ state) × (state.losses ≡ loss_of s n) × IsOpenedAfter meter text image v h (λ m. 0) server

  the_some : (a b : NodeState) → Some a ≡ Some b → a ≡ b
  the_some a b q = cc

  found-at : (specs : List NodeSpec) (nodes : List (Arrived D)) → AllZip Found specs nodes → (n : ℕ) (state : NodeState) → state_at nodes n ≡ Some state → IsAt n state
  found-at [] [] all n state is = absurd (cc)
  found-at [] (a ∷ nodes) all n state is = absurd all
  found-at (spec ∷ specs) [] all n state is = absurd all
  found-at (spec ∷ specs) (arrived.Here server ∷ nodes) all n state is = go (found-at specs nodes all.1 n state) (server.sid == n) refl is
    where
      go : (state_at nodes n ≡ Some state → IsAt n state) → (b : Bool) → (server.sid == n) ≡ b → cond b (Some server.node.state) (state_at nodes n) ≡ Some state → IsAt n state
      go rest true on here =
          let at = eqb-true server.sid n on in
          let same = the_some server.node.state state here in
          (server, at, same, ap (λ (z : NodeState). z.losses) (sym same) ∙ all.0.1 ∙ ap (loss_of s) (sym all.0.0 ∙ at), all.0.2)
      go rest false off later = rest later
  found-at (spec ∷ specs) (arrived.Away a ∷ nodes) all n state is = found-at specs nodes all.1 n state is

  -- each stands at its own number
  abbrev IsOwnAt : List (Arrived D) → NodeSpec → Arrived D → Type 0
  IsOwnAt whole spec (arrived.Here server) = state_at whole server.sid ≡ Some server.node.state
  IsOwnAt whole spec (arrived.Away a) = state_at whole spec.sid ≡ None

  skipped : (x n : ℕ) (st : NodeState) (rest : Option NodeState) → (x ≡ n → ⊥) → cond (x == n) (Some st) rest ≡ rest
  skipped x n st rest apart = go (x == n) refl
    where
      go : (t : Bool) → (x == n) ≡ t → cond t (Some st) rest ≡ rest
      go true on = absurd (apart (eqb-true x n on))
      go false off = refl

  -- also behind one more, of another number
  past : (first spec : NodeSpec) (whole : List (Arrived D)) → (first.sid ≡ spec.sid → ⊥) → (a : Arrived D) → Found first a → (b : Arrived D) → Found spec b → IsOwnAt whole spec b → IsOwnAt (a ∷ whole) spec b
  past first spec whole other (arrived.Here one) is (arrived.Here two) at own =
      skipped one.sid two.sid one.node.state (state_at whole two.sid) (λ same. other (sym is.0 ∙ same ∙ at.0)) ∙ own
  past first spec whole other (arrived.Here one) is (arrived.Away b) at own =
      skipped one.sid spec.sid one.node.state (state_at whole spec.sid) (λ same. other (sym is.0 ∙ same)) ∙ own
  past first spec whole other (arrived.Away a) is (arrived.Here two) at own = own
  past first spec whole other (arrived.Away a) is (arrived.Away b) at own = own

  own-behind : (a : Arrived D) (first : NodeSpec) → Found first a → (whole : List (Arrived D)) (specs : List NodeSpec) (nodes : List (Arrived D)) → AllZip Found specs nodes → ¬ Stands first.sid (sids specs)
      → AllZip (IsOwnAt whole) specs nodes → AllZip (IsOwnAt (a ∷ whole)) specs nodes
  own-behind a first found whole [] [] all other own = tt
  own-behind a first found whole [] (b ∷ nodes) all other own = absurd all
  own-behind a first found whole (spec ∷ specs) [] all other own = absurd all
  own-behind a first found whole (spec ∷ specs) (b ∷ nodes) all other own = (
    past first spec whole (λ same. other (inl (sym same))) a found b all.0 own.0,
    own-behind a first found whole specs nodes all.1 (λ there. other (inr there)) own.1,
  )

  all-own : (specs : List NodeSpec) → Apart (sids specs) → (nodes : List (Arrived D)) → AllZip Found specs nodes → AllZip (IsOwnAt nodes) specs nodes
  all-own [] apart [] all = tt
  all-own [] apart (a ∷ nodes) all = absurd all
  all-own (spec ∷ specs) apart [] all = absurd all
  all-own (spec ∷ specs) apart (arrived.Here server ∷ nodes) all = (
    ap (λ (b : Bool). cond b (Some server.node.state) (state_at nodes server.sid)) (eq-eqb server.sid server.sid refl),
    own-behind (arrived.Here server) spec all.0 nodes specs nodes all.1 apart.0 (all-own specs apart.1 nodes all.1),
  )
  all-own (spec ∷ specs) apart (arrived.Away a ∷ nodes) all =
      (none-at specs nodes all.1 spec.sid apart.0, own-behind (arrived.Away a) spec all.0 nodes specs nodes all.1 apart.0 (all-own specs apart.1 nodes all.1))

  all-numbers : (specs : List NodeSpec) (nodes : List (Arrived D)) → AllZip Found specs nodes → map sid_of nodes ≡ sids specs
  all-numbers [] [] all = refl
  all-numbers [] (a ∷ nodes) all = absurd all
  all-numbers (spec ∷ specs) [] all = absurd all
  all-numbers (spec ∷ specs) (arrived.Here server ∷ nodes) all = ap₂ (λ n ns. n ∷ ns) all.0.0 (all-numbers specs nodes all.1)
  all-numbers (spec ∷ specs) (arrived.Away a ∷ nodes) all = ap₂ (λ n ns. n ∷ ns) (ap (λ (z : AwayNode). z.sid) all.0) (all-numbers specs nodes all.1)

-- ---- the whole store

module _ {D : Type 0} (tells : Bool) (meter : D → Meter) (text : D → List ℕ) (image : D → List ℕ → Type 0) (v : Volume) (rules : IsVolume v)
    (replaces : MayReplace v) (returns : MayReturn v) (on : MayGoOnWithout v) (given : AreFencesGiven v) (known : AreFencesKnown v) (stale : AreStaleTold v) (again : IsExportAgain v)
    (enrolled : AreLossesEnrolled v) (losses-known : AreLossesKnown v)
    (old : List Event) (new : ℕ → NewDisk) (disks : List (Option D)) (journal : D) (s : ExportState) (arrivals : List (Arrival D)) (told : IsTrue tells) (imaged : (d : D) → image d (text d)) (left : AreLeft image v old new disks journal)
    (of_volume : s.volume ≡ v) (after : IsExportAfter s (changing_calls old))
    (came : AllZip (IsArrival tells meter text image v.layout) (zip (known_of s (nodes_of v.clusters)) disks) arrivals) where
  abbrev h : List Event
  h = replaced new (numbers v) old

  abbrev row : List (Arrived D)
  row = arrived_by (known_of s (nodes_of v.clusters)) arrivals

  is-replaced : IsReplaced v old h
  is-replaced = replaces old new left.earlier

  earlier : IsEarlier v h
  earlier = is-replaced.earlier

  same-calls : changing_calls old ≡ changing_calls h
  same-calls = ap₂ (λ f w. calls_told f w) (sym is-replaced.facts_are) (sym is-replaced.export_word)

  made : s ≡ after_all (new_export v 0) (changing_calls h)
  made = after.made ∙ ap₂ (λ u cs. after_all (new_export u 0) cs) of_volume same-calls

  tied : IsExport v (facts h) (export h) s
  tied = made ∙ again h earlier.legal

  found : AllZip (IsFoundAt meter text image v h s) (nodes_of v.clusters) row
  found = all-found tells meter text image told imaged v h s (its-own v given known stale h earlier s tied) (nodes_of v.clusters) (described v rules) disks left.nodes arrivals came

  abbrev here : ℕ → Bool
  here = here_in row

  abbrev nodes : ℕ → NodeState
  nodes = nodes_in row

  abbrev next : List Event
  next = reopened v new row old

  at-state : (n : ℕ) → here n ≡ true → IsAt meter text image v h s n (nodes n)
  at-state n on-it = go (state_at row n) refl on-it
    where
      go : (o : Option NodeState) → state_at row n ≡ o → is_some o ≡ true → IsAt meter text image v h s n (unwrap_or o fresh)
      go None is off = absurd (cc)
      go (Some state) is on = found-at meter text image v h s (nodes_of v.clusters) row found n state is

  are-found : AreFoundHere v here h s nodes
  are-found = record {
    export_is = made;
    found = λ n at on-it. (let it = at-state n on-it in (
      text it.0.node.disk.disk,
      subst (λ (z : NodeState). IsNodeFound v h n (text it.0.node.disk.disk) z) it.2 (subst (λ (m : ℕ). IsNodeFound v h m (text it.0.node.disk.disk) it.0.node.state) it.1 it.4.found),
    ));
    losses = λ n at on-it. (at-state n on-it).3;
  }

  is-back : AreBack v here h s nodes next
  is-back = back-as-told v rules h here s nodes earlier are-found returns on

  few : length (export next) < 2 ^ 64 - 1
  few =
      let low = word-short (λ x. same_word Export (word_of x)) next in
      let more = is-back.back.restart.few in
      let short = earlier.few in
      omega (arith, low, more, short)

  -- a node that is away is down, and is the one that the export knows
  down-at : (spec : NodeSpec) → IsNodeOf v spec.sid → here spec.sid ≡ false → IsAwayByLog next spec.sid (fence_of s spec.sid) (loss_of s spec.sid)
  down-at spec at off =
      let legal = is-back.back.restart.legal in
      let down = is-back.back.down spec.sid at off in
      let alive : phase (node spec.sid next) ≢ Lost = λ lost. (let no = sym down ∙ lost in cc) in record {
        down = down;
        fence_is = given next spec.sid legal alive ∙ sym (known next spec.sid s legal few is-back.export_is);
        losses_is = enrolled next spec.sid legal alive ∙ sym (losses-known next spec.sid s legal few is-back.export_is);
      }

  each-back : (specs : List NodeSpec) → AllByRecursion (IsDescribed v) specs → (some : List (Arrived D)) → AllZip (IsFoundAt meter text image v h s) specs some → AllZip (IsOwnAt meter text image v h s row) specs some
      → AllByRecursion (IsBackAt meter text image v h next row) some
  each-back [] all [] is own = tt
  each-back [] all (a ∷ some) is own = absurd is
  each-back (spec ∷ specs) all [] is own = absurd is
  each-back (spec ∷ specs) all (arrived.Here server ∷ some) is own = ((own.0, is.0.2), each-back specs all.1 some is.1 own.1)
  each-back (spec ∷ specs) all (arrived.Away a ∷ some) is own = (
    subst (λ (z : AwayNode). IsNodeOf v z.sid × IsAwayByLog next z.sid z.fence z.losses) (sym is.0) (all.0.of_volume, down-at spec all.0.of_volume (ap is_some own.0)),
    each-back specs all.1 some is.1 own.1,
  )

  pub are-reopened : IsReopened meter text image v old h next s row
  are-reopened = record {
    back = is-back;
    numbers_are = all-numbers meter text image v h s (nodes_of v.clusters) row found;
    each = each-back (nodes_of v.clusters) (described v rules) row found (all-own meter text image v h s (nodes_of v.clusters) (numbers-apart v rules) row found);
    facts_are = is-back.back.restart.facts_are ∙ is-replaced.facts_are;
    export_word = is-back.back.restart.export_word ∙ is-replaced.export_word;
    few = (let some = is-back.back.restart.few in let more = is-replaced.few in omega (arith, some, more));
  }

pub reopens : {D : Type 0} (tells : Bool) (meter : D → Meter) (text : D → List ℕ) (image : D → List ℕ → Type 0) → ((d : D) → IsTrue tells → image d (text d))
    → ((v : Volume) → IsVolume v → MayReplace v) → ((v : Volume) → IsVolume v → MayReturn v) → ((v : Volume) → IsVolume v → MayGoOnWithout v)
    → ((v : Volume) → AreFencesGiven v) → ((v : Volume) → AreFencesKnown v) → ((v : Volume) → AreStaleTold v) → ((v : Volume) → IsExportAgain v)
    → ((v : Volume) → AreLossesEnrolled v) → ((v : Volume) → AreLossesKnown v) → IsReopeningLaw tells meter text image
reopens tells meter text image imaged replaces returns on given known stale again enrolled losses-known v h new disks journal s arrivals rules told left of_volume after came =
    are-reopened tells meter text image v rules (replaces v rules) (returns v rules) (on v rules) (given v) (known v) (stale v) (again v) (enrolled v) (losses-known v) h new disks journal s arrivals told (λ d. imaged d told) left of_volume after came

-- ---- what was opened

module _ {D : Type 0} (tells : Bool) (meter : D → Meter) (text : D → List ℕ) (image : D → List ℕ → Type 0) (law : IsReopeningLaw tells meter text image)
    (v : Volume) (h : List Event) (new : ℕ → NewDisk) (disks : List (Option D)) (journal : D) (o : OpenedDisks D) where
  pub goes-on-after : IsOpenedStore tells meter text image v disks journal o → IsTrue tells × AreLeft image v h new disks journal → (IsTrue tells → image journal (text journal))
      → (IsTrue tells → (calls : List Call) → IsTextOf v (text journal) calls → IsExportAfter (export_in o.parts.metadata) calls)
      → (IsTrue tells → (calls : List Call) → AllTextsOf v (image journal) calls → JournalStands tells meter image (faults (meter journal)) o.parts.metadata calls) → GoesOnAfter tells meter text image v h new (faults (meter journal)) o
  goes-on-after opened known imaged calls stands =
      let told = known.0 in
      let left = known.1 in
      let it = subst (λ (ns : List (Arrived D)). IsReopened meter text image v h (replaced new (numbers v) h) (reopened v new ns h) (export_in o.parts.metadata) ns) (sym opened.nodes.nodes)
      (law v h new disks journal (export_in o.parts.metadata) opened.nodes.arrivals opened.rules told left opened.of_volume (calls told (changing_calls h) (left.last (text journal) (imaged told))) opened.nodes.arrived) in record {
        told = told;
        nodes = it;
        short = (let few = it.few in let low = left.earlier.few in omega (arith, few, low));
        bytes = λ s b is. left.bytes s b (ap (λ (f : Facts). f.wrote s) (sym it.facts_are) ∙ is);
        stands = subst (λ cs. JournalStands tells meter image (faults (meter journal)) o.parts.metadata cs) (ap₂ (λ f w. calls_told f w) (sym it.facts_are) (sym it.export_word)) (stands told (changing_calls h) left.last);
      }

-- ---- the disks go back

module _ {D : Type 0} (tells : Bool) (meter : D → Meter) (text : D → List ℕ) (image : D → List ℕ → Type 0) (layout : Layout) where
  abbrev Arrives : KnownNode × Option D → Arrival D → Type 0
  Arrives p a = IsArrival tells meter text image layout p a

  abbrev Back : Option D → Option D → Type 0
  Back old new = IsPlaceBack meter text image old new

  here-back : (known : KnownNode) (d : Option D) (s : Server (UnderFuse D)) → IsHere tells meter text image layout known d s → Back d (Some s.node.disk.disk)
  here-back known None s is = absurd is
  here-back known (Some d) s is = record { count = is.0.count; same = is.0.same; images = is.0.images }

  away-back : (known : KnownNode) (d : Option D) (a : AwayNode) (why : Missing D) → IsMissing tells meter text image layout known d why → Back d (disk_in (arrived.Away a) (Some why))
  away-back known None a missing.Absent is = tt
  away-back known (Some d) a missing.Absent is = absurd is
  away-back known None a (missing.Unopened back why) is = absurd is
  away-back known (Some d) a (missing.Unopened back why) is = is.0
  away-back known None a (missing.Stale back) is = absurd is
  away-back known (Some d) a (missing.Stale back) is = is.0

  pub all-back : (known : List KnownNode) (disks : List (Option D)) (arrivals : List (Arrival D)) → length disks ≡ length known → AllZip Arrives (zip known disks) arrivals
      → AllZip Back disks (disks_in (arrived_by known arrivals) (map missing_in arrivals))
  all-back [] [] [] count all = tt
  all-back [] [] (a ∷ arrivals) count all = absurd all
  all-back [] (d ∷ disks) arrivals count all = absurd (omega (arith, count))
  all-back (k ∷ known) [] arrivals count all = absurd (omega (arith, count))
  all-back (k ∷ known) (d ∷ disks) [] count all = absurd all
  all-back (k ∷ known) (d ∷ disks) (arrival.Here s ∷ arrivals) count all = (here-back k d s all.0, all-back known disks arrivals (omega (arith, count)) all.1)
  all-back (k ∷ known) (d ∷ disks) (arrival.Away why ∷ arrivals) count all =
      (away-back k d (record { sid = k.node.sid; fence = k.fence; losses = k.losses }) why all.0, all-back known disks arrivals (omega (arith, count)) all.1)

  pub handed-back : (v : Volume) (disks : List (Option D)) (o : OpenedDisks D) → v.layout ≡ layout → AreOpenedDisks tells meter text image v disks o → AllZip Back disks (disks_in o.parts.nodes.items o.missing.items)
  handed-back v disks o same opened =
      let known = known_of (export_in o.parts.metadata) (nodes_of v.clusters) in
      subst (λ (ns : List (Arrived D)). AllZip Back disks (disks_in ns o.missing.items)) (sym opened.nodes)
      (subst (λ (ms : List (Option (Missing D))). AllZip Back disks (disks_in (arrived_by known opened.arrivals) ms)) (sym opened.missing)
      (all-back known disks opened.arrivals (opened.count ∙ sym (length-map (nodes_of v.clusters) _))
      (subst (λ (l : Layout). AllZip (IsArrival tells meter text image l) (zip known disks) opened.arrivals) same opened.arrived)))

  same-one : (d : Option D) → Back d d
  same-one None = tt
  same-one (Some d) = record { count = omega arith; same = refl; images = λ c is. is }

  pub all-same : (disks : List (Option D)) → AllZip Back disks disks
  all-same [] = tt
  all-same (d ∷ disks) = (same-one d, all-same disks)

pub are-handed-back : {D : Type 0} (tells : Bool) (meter : D → Meter) (text : D → List ℕ) (image : D → List ℕ → Type 0) → AreHandedBack tells meter text image
are-handed-back tells meter text image v disks o opened = handed-back tells meter text image v.layout v disks o refl opened

-- where memory was wanting, the journal's disk is as it came
pub wanted : {D : Type 0} (tells : Bool) (meter : D → Meter) (text : D → List ℕ) (image : D → List ℕ → Type 0) (v : Volume) (journal : D) (disk : Option D) (back : D) (why : JournalFault)
    → IfSome disk (IsAsItCame meter text image journal) → disk ≡ Some back → why ≡ fault.NoMemory → IsUnopened tells meter text image v journal back why
wanted {D = D} tells meter text image v journal disk back why came at want = record {
  same = subst (λ (o : Option D). IfSome o (IsAsItCame meter text image journal)) at came;
  refused = subst (λ (w : JournalFault). IsJournalRefused tells v (text journal) w) (sym want) tt;
  exact = λ told calls is. inl want;
  risen = λ failed. absurd (let no : fault.NoMemory ≡ fault.DiskFault = sym want ∙ failed in cc);
}
