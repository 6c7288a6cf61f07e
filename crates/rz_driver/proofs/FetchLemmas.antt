-- A driver of which a record was asked.
use Rattle.std.proofs.Common.{◌≡◌, ℕ, List, [], ◌∷◌, length, refl, sym, ◌∙◌, ap, subst}
use Rattle.std.specs.Vec.{vec_len}
use Rattle.std.proofs.lemmas.List.{length-map}
use Rattle.std.specs.Global.{Vec}
use Rattle.rz_disk.specs.UnderFuse.{UnderFuse}
use Rattle.rz_disk.specs.declared.disk.Disk.{Ghosts}
use Rattle.rz_events.specs.Volume.{Volume, nodes_of}
use Rattle.rz_nodes.specs.declared.formatting.Server.{Server}
use Rattle.rz_driver_nodes.specs.Servers.{numbers_of}
use Rattle.rz_events.specs.declared.keys.Key.{Key}
use Rattle.rz_events.specs.declared.keys.Actor.TheVariants.{Admin}
use Rattle.rz_events.specs.declared.nodes.FetchAnswer.{FetchAnswer}
use Rattle.rz_events.specs.declared.events.Event.{Event}
use Rattle.rz_metadata.specs.Stands.{CountsFaults, IsJournalOpen, export_in}
use Rattle.rz_node_model.specs.NodeEvents.{fetch_event}
use Rattle.rz_scrub_report.specs.Stores.{IsOnlyAsked, IsAnsweredFetch}
use Rattle.rz_driver.specs.declared.driver.Driver.{Driver}
use Rattle.rz_driver_actors.specs.declared.actor_agenda.Agenda.{Agenda}
use Rattle.rz_driver_actors.specs.declared.shared.Shared.{Shared}
use Rattle.rz_driver_nodes.specs.Fetches.{IsFetch}
use Rattle.rz_driver.specs.Fetches.{GivesOf, Metered, state_of}
use Rattle.rz_driver_nodes.specs.Asked.{fused_text}
use Rattle.rz_driver.specs.OnlyAsked.{WasOnlyAsked}
use Rattle.rz_driver_nodes.specs.Images.{fused_image}
use Rattle.rz_driver.specs.Worlds.{HasCounted, IsDriver}
use Rattle.rz_driver.proofs.NodeOrders.{ready-with}
use Rattle.rz_driver_nodes.proofs.FetchLemmas.{gives-before, numbers-asked, servers-asked}

module _ {D : Type 0} {G : Ghosts D} (d e : Driver D G) (asked : WasOnlyAsked d e) where
  -- it can be asked again
  pub asked-ready : IsDriver d → IsDriver e
  asked-ready ready = ready-with d e ready asked.volume (ap (λ (v : Vec Agenda). v.items) asked.agendas)
      (servers-asked (fused_text G.text) (fused_image G.image) d.volume d.shared.servers.items e.shared.servers.items asked.nodes ready.servers)
      (numbers-asked (fused_text G.text) (fused_image G.image) d.shared.servers.items e.shared.servers.items asked.nodes)
      (ap (λ (s : Shared (UnderFuse D) D). s.locks) asked.shared) (ap (λ (s : Shared (UnderFuse D) D). s.bins.items) asked.shared)
      (subst (λ (s : Shared (UnderFuse D) D). IsJournalOpen s.export) (sym asked.shared) ready.journal)

  -- there is a server for each node still, and nothing was asked of the journal
  pub asked-counted : (first : ℕ) → HasCounted d first → HasCounted e first
  asked-counted first had =
      let named = numbers-asked (fused_text G.text) (fused_image G.image) d.shared.servers.items e.shared.servers.items asked.nodes in
      let old : length (numbers_of d.shared.servers.items) ≡ vec_len d.shared.servers = length-map d.shared.servers.items (λ (s : Server (UnderFuse D)). s.sid) ∙ sym d.shared.servers.ok.0 in
      let new : length (numbers_of e.shared.servers.items) ≡ vec_len e.shared.servers = length-map e.shared.servers.items (λ (s : Server (UnderFuse D)). s.sid) ∙ sym e.shared.servers.ok.0 in
      record {
        each = sym new ∙ ap length named ∙ old ∙ had.each ∙ ap (λ (v : Volume). length (nodes_of v.clusters)) (sym asked.volume);
        journal = subst (λ (s : Shared (UnderFuse D) D). CountsFaults G.meter first s.export) (sym asked.shared) had.journal;
      }

  -- as one sees it who scrubs it
  module _ (key : Key) (stamp : ℕ) (given : FetchAnswer) (n : ℕ) where
    pub fetched-of : IsFetch key stamp given n d.shared.servers.items e.shared.servers.items → (position : ℕ) (h : List Event)
        → IsAnsweredFetch n key position stamp given (state_of d h) (state_of e (fetch_event Admin n key position stamp given ∷ h))
    fetched-of o position h = record { given_is = o.given_is; export = ap (λ (s : Shared (UnderFuse D) D). export_in s.export) asked.shared; nodes = o.states; events = refl }

    pub goes-on : (position : ℕ) → IsDriver e
        → ((h : List Event) (first : ℕ → ℕ) → Metered d h first → Metered e (fetch_event Admin n key position stamp given ∷ h) first)
        → IsOnlyAsked (λ (f : Driver D G). IsDriver f) (λ (f : Driver D G). f.volume) (λ (f : Driver D G). GivesOf f) (λ (f : Driver D G) h. state_of f h) (λ (f : Driver D G) h. Metered f h) (λ (f g : Driver D G). WasOnlyAsked f g) d e
        (fetch_event Admin n key position stamp given ∷ [])
    goes-on position ready met = record {
      ready = ready;
      described_is = asked.volume;
      given = gives-before G.tells (fused_text G.text) (fused_image G.image) d.shared.servers.items e.shared.servers.items asked.nodes;
      export_is = λ h. ap (λ (s : Shared (UnderFuse D) D). export_in s.export) asked.shared;
      counted = met;
      asked = asked;
    }
