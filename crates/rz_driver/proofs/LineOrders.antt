-- A line that takes no turn, and what is so after it.
use Rattle.std.proofs.Common.{◌≡◌, inr, ℕ, ◌-◌, ◌^◌, ◌<◌, Bool, true, false, IsTrue, List, [], ◌∷◌, ◌++◌, length, map, Option, refl, sym, ◌∙◌, ap, subst}
use Rattle.std.specs.List.{AllByRecursion}
use Rattle.std.specs.Global.{Vec}
use Rattle.std.specs.Vec.{with_items}
use Rattle.rz_disk.specs.declared.disk.Disk.{Ghosts}
use Rattle.rz_disk.specs.UnderFuse.{UnderFuse, fused_meter}
use Rattle.rz_events.specs.Volume.{Volume, IsVolume, nodes_of}
use Rattle.rz_events.specs.declared.files.NodeSpec.{NodeSpec}
use Rattle.rz_events.specs.declared.keys.Actor.{Actor}
use Rattle.rz_events.specs.declared.keys.Actor.TheVariants.{Admin}
use Rattle.rz_events.specs.declared.export.Call.{Call}
use Rattle.rz_events.specs.declared.nodes.NodeAsk.{NodeAsk}
use Rattle.rz_events.specs.declared.nodes.NodeAsk.TheVariants as ask
use Rattle.rz_events.specs.declared.events.Event.{Event}
use Rattle.rz_events.specs.declared.events.Event.TheVariants as e
use Rattle.rz_events.specs.declared.events.Word.TheVariants.{Export}
use Rattle.rz_core.specs.History.{facts, of_word}
use Rattle.rz_node_model.specs.NodeEvents.{node_event}
use Rattle.rz_script.specs.Lines.{IsLine}
use Rattle.rz_script.specs.declared.line.Line.{Line}
use Rattle.rz_script.specs.declared.line.Line.TheVariants as line
use Rattle.rz_operation.specs.Machine.{Machine}
use Rattle.rz_play.specs.World.{World, Agenda as APlayer}
use Rattle.rz_play.specs.Lines.{IsAdminCall, PlaysLine, PlaysLineOver, TakesNoTurn, with_miss, with_operation}
use Rattle.rz_play_laws.specs.Fine.{IsFine, IsFineIfShort}
use Rattle.rz_player.specs.Behind.{Before, behind}
use Rattle.rz_player.specs.Ends.{IsCut, StaysTrue}
use Rattle.rz_restart_laws.specs.Laws.{IsNoCall}
use Rattle.rz_block_laws.specs.Turns.{IsLastingLaw}
use Rattle.rz_metadata.specs.Stands.{IsJournalOpen, refusal_of}
use Rattle.rz_nodes.specs.declared.formatting.Server.{Server}
use Rattle.rz_driver_actors.specs.declared.actor_agenda.Agenda.{Agenda}
use Rattle.rz_driver_actors.specs.declared.shared.Shared.{Shared}
use Rattle.rz_driver_actors.specs.Hands.{HasTrueHand}
use Rattle.rz_driver_nodes.specs.Images.{AreImaged, IsServerRight, NodesStayCoherent, NodesUnchanged, fused_image}
use Rattle.rz_driver_nodes.specs.Meters.{AreMetered, AreCounted, CarriesCounts}
use Rattle.rz_driver_nodes.proofs.CoherenceLemmas.{GrowsBy, grows-behind, noted-grows}
use Rattle.rz_driver.specs.declared.driver.Driver.{Driver}
use Rattle.rz_driver.specs.Coherence.{IsCoherent}
use Rattle.rz_driver.specs.Endings.{end_by}
use Rattle.rz_driver.specs.Orders.{IsActorOrdered}
use Rattle.rz_driver.specs.Worlds.{numbers_in, world_of, HoldsBetweenTurns, IsDriver, LeavesAtEnd}
use Rattle.rz_driver.proofs.Cuts.{refused-none, uncut}
use Rattle.rz_driver.proofs.DriverCoherence.{LinedLaw, coherence-then, hands-last, order-holds, order-images, order-leaves, still-counted, still-right, works-with}
use Rattle.rz_driver.proofs.JournalLemmas.{arming-stays, journal-ordered, journal-still, order-stays}
use Rattle.rz_driver.proofs.NodeOrders.{admin-behind}
use Rattle.rz_driver.proofs.OrderLemmas.{hands-stay}

-- ---- the world of a play

-- what the line does, it does behind an earlier log too
line-behind : (old : List Event) (v : Volume) (l : Line) → TakesNoTurn l → (w next : World) → PlaysLine v l w next → PlaysLine v l (behind old w) (behind old next)
line-behind old v (line.Op by op) takes w next is = ap (behind old) is
line-behind old v (line.Turn by k) takes w next is = absurd takes
line-behind old v (line.Rounds k) takes w next is = absurd takes
line-behind old v line.Rest takes w next is = absurd takes
line-behind old v (line.Stop n) takes w next call = admin-behind old v n ask.Stop w next call
line-behind old v (line.Start n) takes w next call = admin-behind old v n ask.Start w next call
line-behind old v (line.Lose n) takes w next call = admin-behind old v n ask.Lose w next call
line-behind old v (line.Break n k pick) takes w next is = ap (behind old) is
line-behind old v (line.Miss by reply) takes w next is = ap (behind old) is

-- What it leaves alone: the log only grows, by no word of the export, and the work of each actor is what it was.
record LeavesWork (w next : World) : Type 0 where
  grows : GrowsBy w.log next.log
  words : of_word Export next.log ≡ of_word Export w.log
  works : (a : Actor) → (next.agendas a).work ≡ (w.agendas a).work

call-leaves : (v : Volume) (n : ℕ) (question : NodeAsk) (w next : World) → IsAdminCall v n question w next → LeavesWork w next
call-leaves v n question w next call =
    let log = ap (λ (x : World). x.log) call.next_is in
    record {
      grows = noted-grows (node_event Admin n question call.given) w.log next.log log;
      words = order-stays n question call.given w.log next.log log;
      works = λ a. ap (λ (x : World). (x.agendas a).work) call.next_is;
    }

line-leaves : (v : Volume) (l : Line) (tells : Bool) → TakesNoTurn l → (w next : World) → PlaysLineOver v l tells w next → LeavesWork w next
line-leaves v (line.Op by op) tells takes w next is = record {
  grows = ([], ap (λ (x : World). x.log) is);
  words = ap (λ (x : World). of_word Export x.log) is;
  works = λ a. ap (λ (x : World). (x.agendas a).work) is ∙ works-with w by (with_operation (w.agendas by) op) refl a;
}
line-leaves v (line.Turn by k) tells takes w next is = absurd takes
line-leaves v (line.Rounds k) tells takes w next is = absurd takes
line-leaves v line.Rest tells takes w next is = absurd takes
line-leaves v (line.Stop n) tells takes w next call = call-leaves v n ask.Stop w next call
line-leaves v (line.Start n) true takes w next call = call-leaves v n ask.Start w next call
line-leaves v (line.Start n) false takes w next free =
    let log = ap (λ (x : World). x.log) free.next_is in
    record {
      grows = noted-grows (node_event Admin n ask.Start free.given) w.log next.log log;
      words = order-stays n ask.Start free.given w.log next.log log;
      works = λ a. ap (λ (x : World). (x.agendas a).work) free.next_is;
    }
line-leaves v (line.Lose n) tells takes w next call = call-leaves v n ask.Lose w next call
line-leaves v (line.Break n k pick) tells takes w next is =
    let log = ap (λ (x : World). x.log) is in
    record {
      grows = (e.Armed n k pick ∷ [], log);
      words = arming-stays n k pick w.log next.log log;
      works = λ a. ap (λ (x : World). (x.agendas a).work) is;
    }
line-leaves v (line.Miss by reply) tells takes w next is = record {
  grows = ([], ap (λ (x : World). x.log) is);
  words = ap (λ (x : World). of_word Export x.log) is;
  works = λ a. ap (λ (x : World). (x.agendas a).work) is ∙ works-with w by (with_miss (w.agendas by) reply) refl a;
}

-- ---- a driver after the line

module _ {D : Type 0} {G : Ghosts D} (lined : LinedLaw) (untold : (v : Volume) → IsNoCall v) (lasting : (v : Volume) → IsLastingLaw v) (d : Driver D G) (l : Line) (takes : TakesNoTurn l) (line : IsLine d.volume l) where
  module _ (f : Driver D G) (volume : f.volume ≡ d.volume) (export : f.shared.export ≡ d.shared.export) (plays : PlaysLineOver d.volume l G.tells (world_of d) (world_of f)) (b : Before) (held : HoldsBetweenTurns d b) where
    abbrev Hands : List Event → List Agenda → Type 0
    Hands h agendas = AllByRecursion (λ (s : Agenda). HasTrueHand d.volume (facts (h ++ b.log)) s.machine) agendas

    abbrev Images : List Event → List (Server (UnderFuse D)) → Type 0
    Images h servers = AreImaged (fused_image G.image) d.volume (facts (h ++ b.log)) servers

    line-holds : AreMetered (fused_meter G.meter) (numbers_in d) f.shared.servers.items f.shared.log.events b.counts
        → (Hands d.shared.log.events d.agendas.items → Hands f.shared.log.events f.agendas.items)
        → (IsTrue G.tells → Images d.shared.log.events d.shared.servers.items → Images f.shared.log.events f.shared.servers.items)
        → HoldsBetweenTurns f b
    line-holds metered hands disks =
        let leaves = line-leaves d.volume l G.tells takes (world_of d) (world_of f) plays in
        let fine : IsTrue G.tells → IsVolume d.volume → IsFine d.volume b.log (behind b.log (world_of d)) → IsFineIfShort d.volume b.log (behind b.log (world_of f)) =
        λ told rules fine. lined d.volume rules b.log l line (behind b.log (world_of d)) (behind b.log (world_of f))
        (line-behind b.log d.volume l takes (world_of d) (world_of f) (subst (λ (t : Bool). PlaysLineOver d.volume l t (world_of d) (world_of f)) told plays)) fine
        in (
          subst (λ (v : Volume). AreMetered (fused_meter G.meter) (map (λ (n : NodeSpec). n.sid) (nodes_of v.clusters)) f.shared.servers.items f.shared.log.events b.counts) (sym volume) metered,
          (λ told few. subst (λ (v : Volume). IsCoherent (fused_image G.image) v b.log (world_of f) f.agendas.items f.shared.servers.items) (sym volume)
              (coherence-then d b.log (world_of f) f.agendas.items f.shared.servers.items leaves.grows leaves.works fine hands disks held.1 told few)),
          journal-ordered d f volume export b held.2 (untold d.volume) held.1 leaves.grows leaves.words,
          held.3,
        )

  -- of an actor
  module _ (ready : IsDriver d) (xs ys : List Agenda) (same : xs ≡ d.agendas.items) where
    pub actor-holds : (f : Driver D G) → f.volume ≡ d.volume → f.shared ≡ d.shared → f.agendas ≡ with_items d.agendas ys → {by : Actor} {more : APlayer → APlayer} → IsActorOrdered by more xs ys
        → PlaysLineOver d.volume l G.tells (world_of d) (world_of f) → StaysTrue (HoldsBetweenTurns d) (HoldsBetweenTurns f)
    actor-holds f volume shared agendas {by = by} {more = more} o plays b held = line-holds f volume (ap (λ (p : Shared (UnderFuse D) D). p.export) shared) plays b held
        (subst (λ (p : Shared (UnderFuse D) D). AreMetered (fused_meter G.meter) (numbers_in d) p.servers.items p.log.events b.counts) (sym shared) held.0)
        (λ hands. subst (λ (p : Shared (UnderFuse D) D). Hands f volume (ap (λ (q : Shared (UnderFuse D) D). q.export) shared) plays b held p.log.events f.agendas.items) (sym shared)
        (subst (λ (v : Vec Agenda). Hands f volume (ap (λ (q : Shared (UnderFuse D) D). q.export) shared) plays b held d.shared.log.events v.items) (sym agendas)
        (hands-stay d ready xs ys same by more o (λ (m : Option Machine). HasTrueHand d.volume (facts (d.shared.log.events ++ b.log)) m) hands)))
        (λ told disks. subst (λ (p : Shared (UnderFuse D) D). AreImaged (fused_image G.image) d.volume (facts (p.log.events ++ b.log)) p.servers.items) (sym shared) disks)

  -- of a node
  module _ (xs ys : List (Server (UnderFuse D))) (same : xs ≡ d.shared.servers.items) where
    pub node-holds : (f : Driver D G) → f.volume ≡ d.volume → f.shared.export ≡ d.shared.export → f.agendas ≡ d.agendas → f.shared.servers ≡ with_items d.shared.servers ys
        → ((numbers : List ℕ) → CarriesCounts (AreMetered (fused_meter G.meter) numbers xs d.shared.log.events) (AreMetered (fused_meter G.meter) numbers ys f.shared.log.events))
        → (IsTrue G.tells → NodesStayCoherent (fused_image G.image) xs d.shared.log.events ys f.shared.log.events)
        → PlaysLineOver d.volume l G.tells (world_of d) (world_of f) → StaysTrue (HoldsBetweenTurns d) (HoldsBetweenTurns f)
    node-holds f volume export agendas servers counts keeps plays b held =
        let h' = f.shared.log.events in
        let grows = grows-behind b.log d.shared.log.events h' (line-leaves d.volume l G.tells takes (world_of d) (world_of f) plays).grows in
        let now = order-holds d xs ys same b held counts in
        line-holds f volume export plays b held
        (subst (λ (v : Vec (Server (UnderFuse D))). AreMetered (fused_meter G.meter) (numbers_in d) v.items h' b.counts) (sym servers) now.0)
        (λ hands. subst (λ (v : Vec Agenda). AllByRecursion (λ (s : Agenda). HasTrueHand d.volume (facts (h' ++ b.log)) s.machine) v.items) (sym agendas)
        (hands-last d.volume (lasting d.volume) (d.shared.log.events ++ b.log) (h' ++ b.log) grows d.agendas.items hands))
        (λ told disks. subst (λ (v : Vec (Server (UnderFuse D))). AreImaged (fused_image G.image) d.volume (facts (h' ++ b.log)) v.items) (sym servers) (order-images d xs ys same b held h' now.1 keeps told disks))

-- ---- where memory was wanting for it

module _ {D : Type 0} {G : Ghosts D} (d : Driver D G) (ready : IsDriver d) (f : Driver D G) (volume : f.volume ≡ d.volume) (stops : Call → Before → Type 0) where
  abbrev Counted : List (Server (UnderFuse D)) → List Event → Before → Type 0
  Counted servers h b = AreCounted (fused_meter G.meter) (numbers_in d) servers h b.counts

  abbrev AreRight : List (Server (UnderFuse D)) → List Event → Before → Type 0
  AreRight servers h b = IsTrue G.tells → length (h ++ b.log) < 2 ^ 64 - 1 → AllByRecursion (IsServerRight (fused_image G.image) d.volume (h ++ b.log)) servers

  line-left : f.shared.export ≡ d.shared.export → f.shared.log.events ≡ d.shared.log.events
      → ((b : Before) → HoldsBetweenTurns d b → Counted f.shared.servers.items f.shared.log.events b × AreRight f.shared.servers.items f.shared.log.events b)
      → IsCut (end_by (refusal_of f.shared.export)) (HoldsBetweenTurns d) (LeavesAtEnd f) stops
  line-left export still left =
      let open_now = subst IsJournalOpen (sym export) ready.journal in
      uncut d f stops open_now (λ b held.
      let o = left b held in
      inr (
        subst (λ (v : Volume). AreCounted (fused_meter G.meter) (map (λ (n : NodeSpec). n.sid) (nodes_of v.clusters)) f.shared.servers.items f.shared.log.events b.counts) (sym volume) o.0,
        (λ told few. subst (λ (v : Volume). AllByRecursion (IsServerRight (fused_image G.image) v (f.shared.log.events ++ b.log)) f.shared.servers.items) (sym volume) (o.1 told few)),
        journal-still d f volume export b held.2 still,
        held.3,
        refused-none f.shared.export open_now,
      ))

  pub actor-left : f.shared ≡ d.shared → IsCut (end_by (refusal_of f.shared.export)) (HoldsBetweenTurns d) (LeavesAtEnd f) stops
  actor-left shared =
      let log = ap (λ (p : Shared (UnderFuse D) D). p.log.events) shared in
      line-left (ap (λ (p : Shared (UnderFuse D) D). p.export) shared) log (λ b held. (
        subst (λ (p : Shared (UnderFuse D) D). Counted p.servers.items f.shared.log.events b) (sym shared) (still-counted d d refl f.shared.log.events log b held),
        subst (λ (p : Shared (UnderFuse D) D). AreRight p.servers.items f.shared.log.events b) (sym shared) (still-right d d refl f.shared.log.events log b held),
      ))

  pub node-left : (xs ys : List (Server (UnderFuse D))) → xs ≡ d.shared.servers.items → f.shared.export ≡ d.shared.export → f.shared.servers ≡ with_items d.shared.servers ys
      → ((numbers : List ℕ) → CarriesCounts (AreMetered (fused_meter G.meter) numbers xs d.shared.log.events) (AreCounted (fused_meter G.meter) numbers ys f.shared.log.events))
      → (IsTrue G.tells → NodesUnchanged (fused_image G.image) xs d.shared.log.events ys) → f.shared.log.events ≡ d.shared.log.events
      → IsCut (end_by (refusal_of f.shared.export)) (HoldsBetweenTurns d) (LeavesAtEnd f) stops
  node-left xs ys same export servers counts unchanged still = line-left export still (λ b held.
      let o = order-leaves d xs ys same b held f.shared.log.events still unchanged counts in (
        subst (λ (v : Vec (Server (UnderFuse D))). Counted v.items f.shared.log.events b) (sym servers) o.0,
        subst (λ (v : Vec (Server (UnderFuse D))). AreRight v.items f.shared.log.events b) (sym servers) o.1,
      ))
