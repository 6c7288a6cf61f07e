-- An actor took a turn.
use Rattle.std.proofs.Common.{◌≡◌, ℕ, Bool, true, false, IsTrue, ◌+◌, ◌<◌, ◌≤◌, List, [], ◌∷◌, ◌++◌, map, length, set, get_or, Some, refl, sym, ◌∙◌, ap, subst, arith}
use Rattle.std.specs.Prelude.{slice_get}
use Rattle.std.specs.List.{AllByRecursion}
use Rattle.std.specs.FinMap.{get}
use Rattle.std.proofs.lemmas.List.{length-set}
use Rattle.std.proofs.lemmas.Option.{slice_get_read}
use Rattle.mj_angles.specs.Layout.{max_bins_of}
use Rattle.rz_disk.specs.declared.disk.Disk.{Ghosts}
use Rattle.rz_disk.specs.UnderFuse.{UnderFuse}
use Rattle.rz_events.specs.Volume.{Volume, nodes_of}
use Rattle.rz_events.specs.declared.files.NodeSpec.{NodeSpec}
use Rattle.rz_events.specs.declared.keys.Actor.{Actor}
use Rattle.rz_events.specs.declared.keys.Actor.TheVariants.{Client, Rebuilder, Admin}
use Rattle.rz_events.specs.declared.events.Event.{Event}
use Rattle.rz_metadata.specs.Stands.{IsJournalOpen}
use Rattle.rz_link.specs.declared.Sent.{Sent}
use Rattle.rz_operation.specs.Machine.{work_in}
use Rattle.rz_operation_model.specs.Ask.{ask_of}
use Rattle.rz_play.specs.World.{World, Agenda as APlayer, at_work}
use Rattle.rz_play.specs.Turns.{IsTurn}
use Rattle.rz_play.specs.Free.{IsTurnOver}
use Rattle.rz_driver.specs.declared.driver.Driver.{Driver}
use Rattle.rz_driver_actors.specs.declared.actor_agenda.Agenda.{Agenda}
use Rattle.rz_driver_actors.specs.declared.shared.Shared.{Shared}
use Rattle.rz_nodes.specs.declared.formatting.Server.{Server}
use Rattle.rz_driver_actors.specs.Acts.{IsAct, HasLayouts}
use Rattle.rz_driver_asks.specs.Locking.{lock_of}
use Rattle.rz_log.specs.Logged.{Logged}
use Rattle.rz_driver_actors.specs.Agendas.{agenda_of, IsAgenda}
use Rattle.rz_driver_nodes.specs.Servers.{IsServer}
use Rattle.rz_driver.specs.Worlds.{place_of, agenda_in, world, world_of, AreLocks, HaveNoLocks, IsDriver}
use Rattle.rz_driver_nodes.proofs.Rows.{all-set, all-at}
use Rattle.rz_driver.proofs.ReadyLemmas.{servers-after, numbers-after, agenda-after, locks-after}
use Rattle.rz_player.specs.Behind.{behind}
use Rattle.rz_player.specs.Messages.{IsAskSent}
use Rattle.rz_driver.proofs.TurnLemmas.{AreTexts, IsGood, turn-is, free-turn-is}
use Rattle.rz_driver.proofs.WorldLemmas.{client-place, rebuilder-place, agenda-here}

place-low : (by : Actor) (q : ℕ) → place_of by ≡ Some q → q < 80
place-low (Client m) q at = let r = client-place m q at in omega (arith, r.0, r.1, r.2)
place-low (Rebuilder m) q at = let r = rebuilder-place m q at in omega (arith, r.0, r.1, r.2)
place-low Admin q at = absurd (cc)

-- the actor at a place
pub agenda-there : {D : Type 0} {G : Ghosts D} (by : Actor) (place : ℕ) (a : Agenda) (d : Driver D G) → IsDriver d → place_of by ≡ Some place → a ≡ get_or d.agendas.items place a
    → (slice_get d.agendas.items place ≡ Some a) × (place < length d.agendas.items) × IsAgenda d.volume.layout a
agenda-there by place a d ready at is =
    let low : place < length d.agendas.items = subst (λ (n : ℕ). place < n) (sym ready.count) (place-low by place at) in
    let here : slice_get d.agendas.items place ≡ Some a = slice_get_read d.agendas.items (length d.agendas.items) place a refl low is in
    (here, low, all-at (IsAgenda d.volume.layout) d.agendas.items place a ready.agendas here)

pub have-layouts : {D : Type 0} (v : Volume) (xs : List (Server D)) → AllByRecursion (IsServer v) xs → HasLayouts v.layout xs
have-layouts v [] all = tt
have-layouts v (x ∷ xs) all = (all.0.layout, have-layouts v xs all.1)

-- the locks have what a client notes as its own
pub tied-at : {D : Type 0} {G : Ghosts D} (by : Actor) (place : ℕ) (a0 a : Agenda) (d : Driver D G) → IsDriver d → place_of by ≡ Some place → slice_get d.agendas.items place ≡ Some a0 → a.lock ≡ a0.lock
    → (n : ℕ) → by ≡ Client n → get d.shared.locks n ≡ lock_of a.lock
tied-at by place a0 a d ready at here kept n is =
    ready.locks n ∙ ap (λ (x : Actor). (agenda_in d.agendas.items x).lock) (sym is) ∙ ap (λ (s : APlayer). s.lock) (agenda-here d.agendas.items by place a0 at here) ∙ ap lock_of (sym kept)

module _ {D : Type 0} {G : Ghosts D} (by : Actor) (place : ℕ) (d e : Driver D G) (log : Logged) (a0 a b : Agenda) (ready : IsDriver d) (at : place_of by ≡ Some place) (here : slice_get d.agendas.items place ≡ Some a0) (low : place < length d.agendas.items)
    (taken : agenda_of a ≡ at_work (agenda_of a0)) (fits : IsAgenda d.volume.layout a) (kept : a.lock ≡ a0.lock) (events : log.events ≡ d.shared.log.events)
    (acts : IsAct d.volume.layout by a b (record d.shared { log = log }) e.shared) (volume : e.volume ≡ d.volume) (agendas : e.agendas.items ≡ set d.agendas.items place b) where
  abbrev p : Shared (UnderFuse D) D
  p = record d.shared { log = log }

  abbrev ss : List Agenda
  ss = d.agendas.items

  locks : AreLocks e.shared.locks (set ss place b) × HaveNoLocks (set ss place b)
  locks = locks-after by ss place at low a0 a b here kept d.volume.layout p e.shared acts ready.locks ready.no_locks

  pub drives : length e.shared.bins.items ≡ length d.shared.bins.items → IsJournalOpen e.shared.export → IsDriver e
  drives bins journal = record {
    servers = subst (λ (v : Volume). AllByRecursion (IsServer v) e.shared.servers.items) (sym volume) (servers-after d.volume d.volume.layout by a b p e.shared acts ready.servers);
    numbers = numbers-after d.volume.layout by a b p e.shared acts ∙ ready.numbers ∙ ap (λ (v : Volume). map (λ (n : NodeSpec). n.sid) (nodes_of v.clusters)) (sym volume);
    bins = subst (λ (v : Volume). max_bins_of v.layout ≤ length e.shared.bins.items) (sym volume) (subst (λ (n : ℕ). max_bins_of d.volume.layout ≤ n) (sym bins) ready.bins);
    agendas = subst (λ (v : Volume). AllByRecursion (IsAgenda v.layout) e.agendas.items) (sym volume)
        (subst (AllByRecursion (IsAgenda d.volume.layout)) (sym agendas) (all-set (IsAgenda d.volume.layout) ss place b ready.agendas (agenda-after d.volume.layout by a b p e.shared acts fits)));
    count = ap length agendas ∙ length-set ss place b ∙ ready.count;
    locks = subst (AreLocks e.shared.locks) (sym agendas) locks.0;
    no_locks = subst HaveNoLocks (sym agendas) locks.1;
    journal = journal;
  }

-- and the world is that after the turn
pub turned : {D : Type 0} {G : Ghosts D} (by : Actor) (place : ℕ) (d : Driver D G) (q : Shared (UnderFuse D) D) (log : Logged) (a0 a b : Agenda) → IsDriver d → place_of by ≡ Some place → slice_get d.agendas.items place ≡ Some a0 → place < length d.agendas.items
    → agenda_of a ≡ at_work (agenda_of a0) → IsAgenda d.volume.layout a → a.lock ≡ a0.lock → log.events ≡ d.shared.log.events → IsAct d.volume.layout by a b (record d.shared { log = log }) q
    → (earlier : List Event) → (IsTrue G.tells → AreTexts a.machine (log.events ++ earlier)) → (IsTrue G.tells → IsGood b.machine)
    → (f : Driver D G) → d ≡ f → IsTurnOver f.volume by G.tells (behind earlier (world_of f)) (behind earlier (world q (set d.agendas.items place b) (d.turns + 1)))
turned {D = D} {G = G} by place d q log a0 a b ready at here low taken fits kept events acts earlier texts good f is =
    let p : Shared (UnderFuse D) D = record d.shared { log = log } in
    let next : World = world q (set d.agendas.items place b) (d.turns + 1) in
    let first : world p d.agendas.items d.turns ≡ world_of d = ap (λ (h : List Event). record (world_of d) { log = h }) events in
    subst (λ (x : Driver D G). IsTurnOver x.volume by G.tells (behind earlier (world_of x)) (behind earlier next)) is
    (subst (λ (w : World). IsTurnOver d.volume by G.tells (behind earlier w) (behind earlier next)) first (over G.tells texts good))
  where
    over : (tells : Bool) → (IsTrue tells → AreTexts a.machine (log.events ++ earlier)) → (IsTrue tells → IsGood b.machine)
        → IsTurnOver d.volume by tells (behind earlier (world (record d.shared { log = log }) d.agendas.items d.turns)) (behind earlier (world q (set d.agendas.items place b) (d.turns + 1)))
    over true texts good = turn-is d.volume by d.agendas.items place d.turns at low a0 a here taken fits.machine (record d.shared { log = log }) q earlier ready.locks ready.no_locks ready.servers kept b (texts refl) (good refl) acts
    over false texts good = free-turn-is d.volume by d.agendas.items place d.turns at low a0 a here taken fits.machine (record d.shared { log = log }) q earlier ready.locks ready.no_locks ready.servers kept b acts

-- over disks that tell their texts
pub turned-told : {D : Type 0} {G : Ghosts D} (by : Actor) (place : ℕ) (d : Driver D G) (q : Shared (UnderFuse D) D) (log : Logged) (a0 a b : Agenda) → IsDriver d → place_of by ≡ Some place → slice_get d.agendas.items place ≡ Some a0 → place < length d.agendas.items
    → agenda_of a ≡ at_work (agenda_of a0) → IsAgenda d.volume.layout a → a.lock ≡ a0.lock → log.events ≡ d.shared.log.events → IsAct d.volume.layout by a b (record d.shared { log = log }) q
    → (earlier : List Event) → (IsTrue G.tells → AreTexts a.machine (log.events ++ earlier)) → (IsTrue G.tells → IsGood b.machine)
    → IsTrue G.tells → IsTurn d.volume by (behind earlier (world_of d)) (behind earlier (world q (set d.agendas.items place b) (d.turns + 1)))
turned-told {G = G} by place d q log a0 a b ready at here low taken fits kept events acts earlier texts good told =
    subst (λ (t : Bool). IsTurnOver d.volume by t (behind earlier (world_of d)) (behind earlier (world q (set d.agendas.items place b) (d.turns + 1)))) told
    (turned by place d q log a0 a b ready at here low taken fits kept events acts earlier texts good d refl)

-- and the link was asked what the actor's message asks
pub turn-sent : {D : Type 0} {G : Ghosts D} {L : Type 0} (says : L → ℕ → Sent → L → Type 0) (by : Actor) (place : ℕ) (d : Driver D G) (log : Logged) (a0 a : Agenda) → place_of by ≡ Some place → slice_get d.agendas.items place ≡ Some a0
    → agenda_of a ≡ at_work (agenda_of a0) → log.events ≡ d.shared.log.events → (link link' : L) (h : List Event) → IsAskSent says (ask_of d.volume.layout (work_in a.machine)) a.miss by link link' log.events h
    → (f : Driver D G) → d ≡ f → IsAskSent says (ask_of f.volume.layout (at_work ((world_of f).agendas by)).work) (at_work ((world_of f).agendas by)).miss by link link' (world_of f).log h
turn-sent {D = D} {G = G} says by place d log a0 a at here taken events link link' h sent f is =
    let same : agenda_of a ≡ at_work (agenda_in d.agendas.items by) = taken ∙ ap at_work (sym (agenda-here d.agendas.items by place a0 at here)) in
    subst (λ (x : Driver D G). IsAskSent says (ask_of x.volume.layout (at_work ((world_of x).agendas by)).work) (at_work ((world_of x).agendas by)).miss by link link' (world_of x).log h) is
    (subst (λ (s : APlayer). IsAskSent says (ask_of d.volume.layout s.work) s.miss by link link' d.shared.log.events h) same
    (subst (λ (k : List Event). IsAskSent says (ask_of d.volume.layout (work_in a.machine)) a.miss by link link' k h) events sent))
