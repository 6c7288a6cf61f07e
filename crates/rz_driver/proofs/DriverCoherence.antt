-- A driver stays coherent, from one turn or order to the next.
use Rattle.std.proofs.Common.{◌≡◌, inl, inr, ℕ, ◌+◌, ◌-◌, ◌^◌, ◌<◌, ◌≤◌, Bool, true, false, cond, IsTrue, nat_eq, List, ◌++◌, length, set, Option, Some, None, refl, sym, ◌∙◌, ap, subst, arith}
use Rattle.std.proofs.lemmas.List.{length-append}
use Rattle.std.specs.Prelude.{slice_get}
use Rattle.std.specs.List.{AllByRecursion, IsDistinct}
use Rattle.std.specs.Vec.{with_items}
use Rattle.rz_disk.specs.declared.disk.Disk.{Ghosts}
use Rattle.rz_disk.specs.Meter.{Meter}
use Rattle.rz_disk.specs.UnderFuse.{UnderFuse, fused_meter}
use Rattle.rz_events.specs.Volume.{Volume, IsVolume}
use Rattle.rz_events.specs.declared.keys.Actor.{Actor}
use Rattle.rz_events.specs.declared.keys.Actor.TheVariants.{Client, Rebuilder, Admin}
use Rattle.rz_events.specs.declared.export.Call.{Call}
use Rattle.rz_events.specs.declared.events.Event.{Event}
use Rattle.rz_events.specs.Events.{same_actor}
use Rattle.rz_core.specs.History.{Facts, facts, of_actor}
use Rattle.rz_core.specs.Legal.{IsLegalInRuns}
use Rattle.rz_core.proofs.Extends.{Extends, extends-more}
use Rattle.rz_script.specs.Lines.{IsLine}
use Rattle.rz_script.specs.declared.line.Line.{Line}
use Rattle.rz_operation.specs.Machine.{Machine, text_asked, work_in, HasLayout}
use Rattle.rz_operation_model.specs.Ask.{ask_of}
use Rattle.rz_play.specs.World.{World, Agenda as APlayer, with_agenda, at_work}
use Rattle.rz_play.specs.Turns.{IsTurn}
use Rattle.rz_play.specs.Lines.{PlaysLine}
use Rattle.rz_play_laws.specs.Own.{IsOwnOf, IsOwnProper, HasOwnEvents}
use Rattle.rz_play_laws.specs.Fine.{IsFine, IsFineIfShort, IsSeated, IsTelling}
use Rattle.rz_play_laws.proofs.Frames.{same_actor-true}
use Rattle.rz_play_laws.proofs.Turning.{in-runs}
use Rattle.rz_restart_laws.specs.Calls.{HasLength}
use Rattle.rz_driver_asks.specs.Asked.{call_asked}
use Rattle.rz_log.specs.Logged.{Logged}
use Rattle.rz_player.specs.Behind.{Before, behind}
use Rattle.rz_block_laws.specs.Laws.{IsFittingLaw}
use Rattle.rz_block_laws.specs.Turns.{IsLastingLaw, HasInHand}
use Rattle.rz_driver.specs.declared.driver.Driver.{Driver}
use Rattle.rz_driver_actors.specs.declared.actor_agenda.Agenda.{Agenda}
use Rattle.rz_nodes.specs.declared.formatting.Server.{Server}
use Rattle.rz_driver_nodes.specs.Meters.{AreMetered, AreCounted, CarriesCounts}
use Rattle.rz_driver_nodes.specs.Images.{AreImaged, IsServerRight, NodesStayCoherent, NodesUnchanged, fused_image}
use Rattle.rz_driver_actors.specs.Hands.{HasTrueHand, IsTrueAgenda, StaysCoherent, LeavesUnchanged}
use Rattle.rz_driver.specs.Coherence.{IsCoherent, KnowsLengths}
use Rattle.rz_block_laws.specs.Acting.{AreBytes}
use Rattle.rz_driver_actors.specs.Agendas.{agenda_of}
use Rattle.rz_driver_nodes.specs.Servers.{state_in, numbers_of}
use Rattle.rz_driver.specs.Worlds.{place_of, world_of, numbers_in, IsCoherentAfter, HasRightDisks, HoldsBetweenTurns, LeavesAtEnd}
use Rattle.rz_driver_nodes.proofs.MessageCoherence.{never-bad}
use Rattle.rz_driver_nodes.proofs.MeterLemmas.{metered-counts, named-vector}
use Rattle.rz_driver_nodes.proofs.CoherenceLemmas.{all-then, GrowsBy, grows-behind, grown-short, are-right}
use Rattle.rz_driver_nodes.proofs.Rows.{all-set, all-at}
use Rattle.rz_driver.proofs.KeptCalls.{asked-length}
use Rattle.rz_driver.proofs.WorldLemmas.{agenda-here}
use Rattle.rz_driver.proofs.TurnLemmas.{AreTexts, IsGood}
use Rattle.rz_driver.proofs.LengthLemmas.{at-work-knows, lengths-grow, lengths-turn}
use Rattle.rz_driver.proofs.TextLemmas.{right, short-text}

-- the laws of a play that are cited here
abbrev pub WorkingLaw : Type 0
WorkingLaw = (v : Volume) (old : List Event) (w : World) → (fine : IsFine v old w) → (by : Actor) → IsSeated by
    → IsOwnOf v (facts w.log) (of_actor by w.log) (of_actor by fine.run) by (at_work (w.agendas by)).work
    × HasOwnEvents v by (at_work (w.agendas by)).number (of_actor by fine.run) (at_work (w.agendas by)).work

abbrev pub TurnedLaw : Type 0
TurnedLaw = (v : Volume) → IsVolume v → (old : List Event) (by : Actor) → IsSeated by → (w next : World) → IsTurn v by w next → IsFine v old w → IsFineIfShort v old next

abbrev pub TellingLaw : Type 0
TellingLaw = (v : Volume) → IsVolume v → IsTelling v

abbrev pub LinedLaw : Type 0
LinedLaw = (v : Volume) → IsVolume v → (old : List Event) (l : Line) → IsLine v l → (w next : World) → PlaysLine v l w next → IsFine v old w → IsFineIfShort v old next

-- an actor with a place is no administrator
seated-at : (by : Actor) (place : ℕ) → place_of by ≡ Some place → IsSeated by
seated-at (Client n) place at = refl
seated-at (Rebuilder n) place at = refl
seated-at Admin place at = absurd (cc)

true-agenda : (v : Volume) (f : Facts) (own run : List Event) (by : Actor) (number : ℕ) (o : Option Machine) → HasLayout v.layout o → IsOwnOf v f own run by (work_in o) → HasOwnEvents v by number run (work_in o) → HasTrueHand v f o → IsTrueAgenda v f by o
true-agenda v f own run by number None layout is way hand = tt
true-agenda v f own run by number (Some m) layout is way hand = record {
  own = own;
  run = run;
  number = number;
  true_to = record { layout_is = layout; own = is; hand = hand };
  way = way;
}

-- ---- actors

module _ (v : Volume) (lasting : IsLastingLaw v) (h h' : List Event) (grown : GrowsBy h h') where
  pub hand-lasts : (o : Option Machine) → HasTrueHand v (facts h) o → HasTrueHand v (facts h') o
  hand-lasts None hand = tt
  hand-lasts (Some m) hand = subst (λ (k : List Event). HasInHand v (facts k) m) (sym grown.1) (lasting h grown.0 m hand)

  pub hands-last : (agendas : List Agenda) → AllByRecursion (λ (s : Agenda). HasTrueHand v (facts h) s.machine) agendas → AllByRecursion (λ (s : Agenda). HasTrueHand v (facts h') s.machine) agendas
  hands-last agendas all = all-then (λ (s : Agenda). HasTrueHand v (facts h) s.machine) (λ (s : Agenda). HasTrueHand v (facts h') s.machine) agendas (λ (s : Agenda) hand. hand-lasts s.machine hand) all

-- ---- a turn

good-hand : (v : Volume) → IsFittingLaw v → (f : Facts) (o : Option Machine) → HasTrueHand v f o → IsGood o
good-hand v fitting f None hand = tt
good-hand v fitting f (Some m) hand = never-bad v fitting f m hand

module _ {D : Type 0} {G : Ghosts D} (by : Actor) (place : ℕ) (d f : Driver D G) (is : d ≡ f) (log : Logged) (a0 a : Agenda) (at : place_of by ≡ Some place) (here : slice_get d.agendas.items place ≡ Some a0) (layout : HasLayout d.volume.layout a.machine)
    (taken : agenda_of a ≡ at_work (agenda_of a0)) (events : log.events ≡ d.shared.log.events) (hand : (v : Volume) (f : Facts) → HasTrueHand v f a0.machine → HasTrueHand v f a.machine) (working : WorkingLaw) (old : List Event) where
  abbrev image : UnderFuse D → List ℕ → Type 0
  image = fused_image G.image

  abbrev h : List Event
  h = d.shared.log.events

  abbrev Coherence : Type 0
  Coherence = IsCoherent image d.volume old (world_of d) d.agendas.items d.shared.servers.items

  at-agenda : at_work ((world_of d).agendas by) ≡ agenda_of a
  at-agenda = ap at_work (agenda-here d.agendas.items by place a0 at here) ∙ sym taken

  -- what is true of the actor at work and of the disks
  known : Coherence → IsTrueAgenda d.volume (facts (log.events ++ old)) by a.machine × AreImaged image d.volume (facts (log.events ++ old)) d.shared.servers.items
  known was =
      let v = d.volume in
      let whole = facts (h ++ old) in
      let own = of_actor by (h ++ old) in
      let run = of_actor by was.fine.run in
      let at_hand = subst (λ (s : APlayer). IsOwnOf v whole own run by s.work × HasOwnEvents v by s.number run s.work) at-agenda (working v old (behind old (world_of d)) was.fine by (seated-at by place at)) in
      let in_hand = hand v whole (all-at (λ (s : Agenda). HasTrueHand v whole s.machine) d.agendas.items place a0 was.hands here) in
      let agenda = true-agenda v whole own run by a.number a.machine layout at_hand.0 at_hand.1 in_hand in (
        subst (λ (k : List Event). IsTrueAgenda v (facts (k ++ old)) by a.machine) (sym events) agenda,
        subst (λ (k : List Event). AreImaged image v (facts (k ++ old)) d.shared.servers.items) (sym events) was.disks,
      )

  -- what it says of a text is so by the whole log, where disks tell
  told-text : Coherence → AreBytes (facts (h ++ old)) → AreTexts a.machine (log.events ++ old)
  told-text was bytes m said has asks =
      let v = d.volume in
      let agenda : IsTrueAgenda v (facts (log.events ++ old)) by (Some m) = subst (λ (o : Option Machine). IsTrueAgenda v (facts (log.events ++ old)) by o) has (known was).0 in
      let knows_there = subst (λ (s : APlayer). KnowsLengths (facts (h ++ old)) s.work) at-agenda (at-work-knows (facts (h ++ old)) ((world_of d).agendas by) (was.lengths by)) in
      let knows_here : KnowsLengths (facts (log.events ++ old)) (work_in a.machine) = subst (λ (k : List Event). KnowsLengths (facts (k ++ old)) (work_in a.machine)) (sym events) knows_there in
      let knows : KnowsLengths (facts (log.events ++ old)) m.work = subst (λ (o : Option Machine). KnowsLengths (facts (log.events ++ old)) (work_in o)) has knows_here in
      let legal = subst (λ (k : List Event). IsLegalInRuns v (k ++ old)) (sym events) (in-runs v old (behind old (world_of d)) was.fine) in
      let texts = subst (λ (k : List Event). AreBytes (facts (k ++ old))) (sym events) bytes in
      ap (text_asked m.block) asks ∙ right v.layout (log.events ++ old) m.block m.pairs texts (short-text v (log.events ++ old) legal) said m.layout m.work agenda.true_to.hand knows asks

  module _ (short : length old < 2 ^ 63 + 512) (few : length log.events ≤ 2 ^ 62) (coherence : IsCoherentAfter d old) where
    there : IsTrue G.tells → Coherence
    there told = coherence told (let whole = length-append h old in let same : length log.events ≡ length h = ap length events in omega (arith, whole, same, short, few))

    pub turn-texts : (IsTrue G.tells → AreBytes (facts (h ++ old))) → IsTrue G.tells → AreTexts a.machine (log.events ++ old)
    turn-texts bytes told = told-text (there told) (bytes told)

    -- after its turn it does not say that records fit no block
    pub turn-good : (b : Agenda) (ys : List (Server (UnderFuse D))) (h' : List Event) → ((v : Volume) → IsFittingLaw v) → (IsTrue G.tells → StaysCoherent image by a.machine b.machine d.shared.servers.items log.events ys h')
        → IsTrue G.tells → IsGood b.machine
    turn-good b ys h' fitting keeps told =
        let v = d.volume in
        let k = known (there told) in
        good-hand v (fitting v) (facts (h' ++ old)) b.machine (keeps told v old k.0 k.1).0

  -- the call that it asks for tells the length of its text, however the log grows
  pub turn-lengths : ((v : Volume) → IsOwnProper v) → IsCoherentAfter d old → IsTrue G.tells → length (log.events ++ old) < 2 ^ 64 - 1
      → (asker : Machine) (c : Call) → a.machine ≡ Some asker → call_asked (ask_of asker.layout asker.work) ≡ Some c → (g : Facts) → Extends (facts (log.events ++ old)) g → HasLength g c
  turn-lengths proper coherence told few asker c has asks g grows =
      let v = d.volume in
      let was = coherence told (subst (λ (k : List Event). length (k ++ old) < 2 ^ 64 - 1) events few) in
      let agenda : IsTrueAgenda v (facts (log.events ++ old)) by (Some asker) = subst (λ (o : Option Machine). IsTrueAgenda v (facts (log.events ++ old)) by o) has (known was).0 in
      asked-length v (facts (log.events ++ old)) g grows agenda.own agenda.run by agenda.number (proper v) asker.layout asker.work agenda.true_to.layout_is agenda.true_to.own agenda.way c asks

  pub turn-coherence : (b : Agenda) (next : World) (ys : List (Server (UnderFuse D))) → TurnedLaw → TellingLaw → ((v : Volume) → IsLastingLaw v) → (IsTrue G.tells → IsTurn d.volume by (behind old (world_of d)) (behind old next))
      → (IsTrue G.tells → StaysCoherent image by a.machine b.machine d.shared.servers.items log.events ys next.log) → GrowsBy h next.log → IsCoherentAfter f old
      → IsTrue G.tells → length (next.log ++ old) < 2 ^ 64 - 1 → IsCoherent image d.volume old next (set d.agendas.items place b) ys
  turn-coherence b next ys turned telling lasting turn keeps grown coherence told few =
      let v = d.volume in
      let grows = grows-behind old h next.log grown in
      let was = subst (λ (x : Driver D G). IsCoherentAfter x old) (sym is) coherence told (grown-short (h ++ old) (next.log ++ old) grows few) in
      let k = known was in
      let kept = keeps told v old k.0 k.1 in
      let fine = turned v was.rules old by (seated-at by place at) (behind old (world_of d)) (behind old next) (turn told) was.fine few in
      record {
        rules = was.rules;
        bytes = was.bytes;
        fine = fine;
        lengths = lengths-turn v (telling v was.rules) old by (behind old (world_of d)) (behind old next) (turn told) fine was.lengths;
        hands = all-set (λ (s : Agenda). HasTrueHand v (facts (next.log ++ old)) s.machine) d.agendas.items place b (hands-last v (lasting v) (h ++ old) (next.log ++ old) grows d.agendas.items was.hands) kept.0;
        disks = kept.1;
      }

  -- where the turn ended for want of memory
  pub turn-unchanged : (ys : List (Server (UnderFuse D))) → (IsTrue G.tells → LeavesUnchanged image by a.machine d.shared.servers.items log.events ys) → IsTrue G.tells → Coherence
      → AreImaged image d.volume (facts (h ++ old)) ys × (state_in ys ≡ state_in d.shared.servers.items)
  turn-unchanged ys unchanged told was =
      let k = known was in
      let s = unchanged told d.volume old k.0 k.1 in
      (subst (λ (x : List Event). AreImaged image d.volume (facts (x ++ old)) ys) events s.0, s.1)

-- ---- where a play ended

module _ {D : Type 0} {G : Ghosts D} (d f : Driver D G) (is : d ≡ f) (h' : List Event) (log : h' ≡ d.shared.log.events) (b : Before) (held : HoldsBetweenTurns f b) where
  held-there : HoldsBetweenTurns d b
  held-there = subst (λ (x : Driver D G). HoldsBetweenTurns x b) (sym is) held

  -- the states of all nodes are as before, and so is the log
  pub right-disks : (ys : List (Server (UnderFuse D))) → numbers_of ys ≡ numbers_of d.shared.servers.items
      → (IsTrue G.tells → IsCoherent (fused_image G.image) d.volume b.log (world_of d) d.agendas.items d.shared.servers.items
      → AreImaged (fused_image G.image) d.volume (facts (d.shared.log.events ++ b.log)) ys × (state_in ys ≡ state_in d.shared.servers.items))
      → IsTrue G.tells → length (h' ++ b.log) < 2 ^ 64 - 1 → AllByRecursion (IsServerRight (fused_image G.image) d.volume (h' ++ b.log)) ys
  right-disks ys numbers unchanged told few =
      let h = d.shared.log.events in
      let was = held-there.1 told (subst (λ (k : List Event). length (k ++ b.log) < 2 ^ 64 - 1) log few) in
      let s = unchanged told was in
      let apart = subst (IsDistinct nat_eq) (sym (numbers ∙ held-there.0.named)) held-there.0.apart in
      subst (λ (k : List Event). AllByRecursion (IsServerRight (fused_image G.image) d.volume (k ++ b.log)) ys) (sym log)
      (are-right (fused_image G.image) d.volume (h ++ b.log) (state_in d.shared.servers.items) was.fine.nodes_are ys s.1 apart s.0)

  -- no node was called
  pub still-right : IsTrue G.tells → length (h' ++ b.log) < 2 ^ 64 - 1 → AllByRecursion (IsServerRight (fused_image G.image) d.volume (h' ++ b.log)) d.shared.servers.items
  still-right = right-disks d.shared.servers.items refl (λ told was. (was.disks, refl))

  pub still-counted : AreCounted (fused_meter G.meter) (numbers_in d) d.shared.servers.items h' b.counts
  still-counted = subst (λ (k : List Event). AreCounted (fused_meter G.meter) (numbers_in d) d.shared.servers.items k b.counts) (sym log)
      (metered-counts (fused_meter G.meter) b.counts (numbers_in d) d.shared.servers.items d.shared.log.events held-there.0)

-- however it ended
pub leaves-right : {D : Type 0} {G : Ghosts D} (d : Driver D G) (refused : Option Call) (b : Before) → LeavesAtEnd d refused b → HasRightDisks d b.log
leaves-right d refused b (inl held) = still-right d d refl d.shared.log.events refl b held.0
leaves-right d refused b (inr left) = left.1

pub leaves-named : {D : Type 0} {G : Ghosts D} (d : Driver D G) (refused : Option Call) (b : Before) → LeavesAtEnd d refused b → numbers_of d.shared.servers.items ≡ numbers_in d
leaves-named d refused b (inl held) = held.0.0.named
leaves-named d refused b (inr left) = left.0.named

pub leaves-short : {D : Type 0} {G : Ghosts D} (d : Driver D G) (refused : Option Call) (b : Before) → LeavesAtEnd d refused b → length b.log < 2 ^ 63 + 512
leaves-short d refused b (inl held) = held.0.3.short
leaves-short d refused b (inr left) = left.3.short

-- ---- an order

-- an actor is ordered something, and its work stays
pub works-with : (w : World) (by : Actor) (t : APlayer) → t.work ≡ (w.agendas by).work → (a : Actor) → ((with_agenda w by t).agendas a).work ≡ (w.agendas a).work
works-with w by t same a = go (same_actor a by) refl
  where
    go : (z : Bool) → same_actor a by ≡ z → (cond z t (w.agendas a)).work ≡ (w.agendas a).work
    go true is = same ∙ ap (λ (o : Actor). (w.agendas o).work) (sym (same_actor-true a by is))
    go false is = refl

module _ {D : Type 0} {G : Ghosts D} (d : Driver D G) (old : List Event) where
  pub coherence-then : (next : World) (agendas : List Agenda) (ys : List (Server (UnderFuse D))) → GrowsBy d.shared.log.events next.log → ((a : Actor) → (next.agendas a).work ≡ ((world_of d).agendas a).work)
      → (IsTrue G.tells → IsVolume d.volume → IsFine d.volume old (behind old (world_of d)) → IsFineIfShort d.volume old (behind old next))
      → (AllByRecursion (λ (s : Agenda). HasTrueHand d.volume (facts (d.shared.log.events ++ old)) s.machine) d.agendas.items → AllByRecursion (λ (s : Agenda). HasTrueHand d.volume (facts (next.log ++ old)) s.machine) agendas)
      → (IsTrue G.tells → AreImaged (fused_image G.image) d.volume (facts (d.shared.log.events ++ old)) d.shared.servers.items → AreImaged (fused_image G.image) d.volume (facts (next.log ++ old)) ys)
      → IsCoherentAfter d old → IsTrue G.tells → length (next.log ++ old) < 2 ^ 64 - 1 → IsCoherent (fused_image G.image) d.volume old next agendas ys
  coherence-then next agendas ys grown works fine hands disks coherence told few =
      let whole = d.shared.log.events ++ old in
      let grows = grows-behind old d.shared.log.events next.log grown in
      let longer : Extends (facts whole) (facts (next.log ++ old)) = subst (λ (k : List Event). Extends (facts whole) (facts k)) (sym grows.1) (extends-more grows.0 whole) in
      let was = coherence told (grown-short whole (next.log ++ old) grows few) in
      record {
        rules = was.rules;
        bytes = was.bytes;
        fine = fine told was.rules was.fine few;
        lengths = λ a. subst (KnowsLengths (facts (next.log ++ old))) (sym (works a)) (lengths-grow (facts whole) (facts (next.log ++ old)) longer ((world_of d).agendas a).work (was.lengths a));
        hands = hands was.hands;
        disks = disks told was.disks;
      }

-- ---- of a node, of which the slice of the vector was written

module _ {D : Type 0} {G : Ghosts D} (d : Driver D G) (xs ys : List (Server (UnderFuse D))) (same : xs ≡ d.shared.servers.items) (b : Before) (held : HoldsBetweenTurns d b) where
  abbrev items : List (Server (UnderFuse D))
  items = (with_items d.shared.servers ys).items

  abbrev meter : UnderFuse D → Meter
  meter = fused_meter G.meter

  abbrev here : List Event
  here = d.shared.log.events ++ b.log

  written : numbers_of ys ≡ numbers_of xs → items ≡ ys
  written named = named-vector meter (numbers_in d) (λ i. i) d.shared.servers xs ys same named

  then-metered : AreMetered meter (numbers_in d) xs d.shared.log.events b.counts
  then-metered = subst (λ (zs : List (Server (UnderFuse D))). AreMetered meter (numbers_in d) zs d.shared.log.events b.counts) (sym same) held.0

  pub order-holds : {h' : List Event} → ((numbers : List ℕ) → CarriesCounts (AreMetered meter numbers xs d.shared.log.events) (AreMetered meter numbers ys h')) → AreMetered meter (numbers_in d) items h' b.counts × (items ≡ ys)
  order-holds {h' = h'} holds =
      let now = holds (numbers_in d) b.counts then-metered in
      let is : items ≡ ys = written (now.named ∙ sym then-metered.named) in
      (subst (λ (zs : List (Server (UnderFuse D))). AreMetered meter (numbers_in d) zs h' b.counts) (sym is) now, is)

  pub order-images : (h' : List Event) → items ≡ ys → (IsTrue G.tells → NodesStayCoherent (fused_image G.image) xs d.shared.log.events ys h')
      → IsTrue G.tells → AreImaged (fused_image G.image) d.volume (facts here) d.shared.servers.items → AreImaged (fused_image G.image) d.volume (facts (h' ++ b.log)) items
  order-images h' is keeps told disks =
      subst (AreImaged (fused_image G.image) d.volume (facts (h' ++ b.log))) (sym is) (keeps told d.volume b.log (subst (AreImaged (fused_image G.image) d.volume (facts here)) (sym same) disks))

  pub order-leaves : (h' : List Event) → h' ≡ d.shared.log.events → (IsTrue G.tells → NodesUnchanged (fused_image G.image) xs d.shared.log.events ys)
      → ((numbers : List ℕ) → CarriesCounts (AreMetered meter numbers xs d.shared.log.events) (AreCounted meter numbers ys h'))
      → AreCounted meter (numbers_in d) items h' b.counts × (IsTrue G.tells → length (h' ++ b.log) < 2 ^ 64 - 1 → AllByRecursion (IsServerRight (fused_image G.image) d.volume (h' ++ b.log)) items)
  order-leaves h' still unchanged leaves =
      let v = d.volume in
      let was = then-metered in
      let now = leaves (numbers_in d) b.counts was in
      let named = now.named ∙ sym was.named in
      let is : items ≡ ys = written named in (
        subst (λ (zs : List (Server (UnderFuse D))). AreCounted meter (numbers_in d) zs h' b.counts) (sym is) now,
        right-disks d d refl h' still b held items (ap numbers_of is ∙ named ∙ ap numbers_of same) (λ told coherence.
            let s = unchanged told v b.log (subst (AreImaged (fused_image G.image) v (facts here)) (sym same) coherence.disks) in
            (subst (AreImaged (fused_image G.image) v (facts here)) (sym is) s.0, ap state_in is ∙ s.1 ∙ ap state_in same)),
      )
