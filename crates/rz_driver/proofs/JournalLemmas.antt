-- The journal of a driver: what its disk stands for after a turn, after an order, and where a play ended.
use Rattle.std.proofs.Common.{◌≡◌, inl, inr, ℕ, ◌-◌, ◌^◌, ◌<◌, true, IsTrue, List, [], length, ◌∷◌, ◌++◌, Option, Some, None, refl, sym, ◌∙◌, ap, subst}
use Rattle.rz_disk.specs.declared.disk.Disk.{Ghosts}
use Rattle.rz_events.specs.Volume.{Volume, nodes_of}
use Rattle.rz_events.specs.declared.keys.Actor.{Actor}
use Rattle.rz_events.specs.declared.keys.Actor.TheVariants.{Admin}
use Rattle.rz_events.specs.declared.nodes.NodeAnswer.{NodeAnswer}
use Rattle.rz_events.specs.declared.nodes.NodeAsk.{NodeAsk}
use Rattle.rz_events.specs.declared.export.Call.{Call}
use Rattle.rz_events.specs.declared.events.Event.{Event}
use Rattle.rz_events.specs.declared.events.Event.TheVariants as e
use Rattle.rz_events.specs.declared.events.Word.TheVariants.{Export}
use Rattle.rz_core.specs.History.{Facts, facts, of_word}
use Rattle.rz_core.specs.Legal.{IsLegalInRuns}
use Rattle.rz_core.proofs.Extends.{Extends, extends-more}
use Rattle.rz_node_model.specs.NodeEvents.{node_event}
use Rattle.rz_export_model.specs.Export.{export_reply}
use Rattle.rz_export_model.specs.ExportEvents.{export_event}
use Rattle.rz_journal.specs.Seen.{calls_after}
use Rattle.rz_operation.specs.Machine.{Machine}
use Rattle.rz_operation_model.specs.Ask.{ask_of}
use Rattle.rz_player.specs.Behind.{Before, behind}
use Rattle.rz_play.specs.Lines.{noted}
use Rattle.rz_play_laws.proofs.Turning.{in-runs}
use Rattle.rz_restart_laws.specs.Calls.{HasLength}
use Rattle.rz_restart_laws.specs.Laws.{IsCallTold, IsNoCall}
use Rattle.rz_metadata.specs.Journals.{KeepsCall, EndsOn}
use Rattle.rz_driver_asks.specs.Asked.{call_asked}
use Rattle.rz_driver_asks.specs.Parts.{IsNoted}
use Rattle.rz_metadata.specs.declared.metadata.Metadata.{Metadata}
use Rattle.rz_metadata.specs.Stands.{export_in, Stands}
use Rattle.rz_driver_nodes.proofs.EventWords.{node-word}
use Rattle.rz_driver_nodes.proofs.CoherenceLemmas.{GrowsBy, grows-behind, grown-short}
use Rattle.rz_driver.specs.declared.driver.Driver.{Driver}
use Rattle.rz_driver.specs.Endings.{AreCallsOf}
use Rattle.rz_driver_actors.specs.Stores.{IsSameStore, TurnsExport, Asks, AsksNothing}
use Rattle.rz_driver.specs.Journals.{KeepsLog, EndsLog, journal_place, StandsForJournal, LeavesJournal}
use Rattle.rz_block_laws.specs.Acting.{AreBytes}
use Rattle.rz_driver.specs.Worlds.{is_known, world_of, IsCoherentAfter, LeavesAtEnd}
use Rattle.rz_driver_actors.proofs.ExportEvents.{node-stays, noted-stays}
use Rattle.rz_driver_actors.proofs.StoreLemmas.{same-store}
use Rattle.rz_driver.proofs.ExportWords.{same-behind, bytes-same, bytes-more, event-bytes}
use Rattle.rz_driver.proofs.KeptCalls.{calls-more, calls-same}

-- ---- events that are no word of the export

-- an order to a node
pub order-stays : (n : ℕ) (question : NodeAsk) (given : NodeAnswer) (h h' : List Event) → h' ≡ noted (node_event Admin n question given) h → of_word Export h' ≡ of_word Export h
order-stays n question given h h' log_is = ap (of_word Export) log_is ∙ noted-stays n (node_event Admin n question given) h (node-word Admin n question given)

pub arming-stays : (n passes pick : ℕ) (h h' : List Event) → h' ≡ e.Armed n passes pick ∷ h → of_word Export h' ≡ of_word Export h
arming-stays n passes pick h h' log_is = ap (of_word Export) log_is ∙ node-stays n (e.Armed n passes pick) h refl

-- ---- a driver

-- its log is one of several runs
coherence-legal : {D : Type 0} {G : Ghosts D} (d : Driver D G) (old : List Event) → IsCoherentAfter d old → IsTrue G.tells → length (d.shared.log.events ++ old) < 2 ^ 64 - 1 → IsLegalInRuns d.volume (d.shared.log.events ++ old)
coherence-legal d old coherence told few = in-runs d.volume old (behind old (world_of d)) (coherence told few).fine

module _ {D : Type 0} {G : Ghosts D} (d e : Driver D G) (volume : e.volume ≡ d.volume) (store : IsSameStore G.meter d.shared.export e.shared.export) (b : Before) (h : List Event) (log : h ≡ d.shared.log.events)
    (has : is_known G.tells b ≡ true → StandsForJournal d b) (known : is_known G.tells b ≡ true) where
  abbrev h' : List Event
  h' = e.shared.log.events

  abbrev Keeps : Metadata D → List Event → Type 0
  Keeps = KeepsLog G.tells G.meter G.image (b.counts (journal_place d))

  had : StandsForJournal d b
  had = has known

  volume-there : (export_in e.shared.export).volume ≡ e.volume
  volume-there = store.volume ∙ had.volume ∙ sym volume

  place-there : b.counts (journal_place d) ≡ b.counts (journal_place e)
  place-there = ap (λ (v : Volume). b.counts (length (nodes_of v.clusters))) (sym volume)

  had-calls : length (h ++ b.log) < 2 ^ 64 - 1 → Keeps d.shared.export (h ++ b.log)
  had-calls = subst (λ (k : List Event). length (k ++ b.log) < 2 ^ 64 - 1 → Keeps d.shared.export (k ++ b.log)) (sym log) had.keeps

  had-bytes : IsTrue G.tells → AreBytes (facts (h ++ b.log))
  had-bytes = subst (λ (k : List Event). IsTrue G.tells → AreBytes (facts (k ++ b.log))) (sym log) had.bytes

  journal-now : (IsTrue G.tells → AreBytes (facts (h' ++ b.log))) → (length (h' ++ b.log) < 2 ^ 64 - 1 → Keeps e.shared.export (h' ++ b.log)) → StandsForJournal e b
  journal-now bytes keeps = record {
    volume = volume-there;
    bytes = bytes;
    keeps = λ few. subst (λ (n : ℕ). KeepsLog G.tells G.meter G.image n e.shared.export (h' ++ b.log)) place-there (keeps few);
  }

  module _ (coherence : IsCoherentAfter d b.log) (grown : GrowsBy h h') where
    whole : GrowsBy (h ++ b.log) (h' ++ b.log)
    whole = grows-behind b.log h h' grown

    legal : IsTrue G.tells → length (h ++ b.log) < 2 ^ 64 - 1 → IsLegalInRuns d.volume (h ++ b.log)
    legal told = subst (λ (k : List Event). length (k ++ b.log) < 2 ^ 64 - 1 → IsLegalInRuns d.volume (k ++ b.log)) (sym log) (coherence-legal d b.log coherence told)

    -- nothing was asked of the export
    pub journal-no-more : IsNoCall d.volume → e.shared.export ≡ d.shared.export → of_word Export h' ≡ of_word Export h → StandsForJournal e b
    journal-no-more untold same words = journal-now
        (λ told. bytes-same (h ++ b.log) (h' ++ b.log) (same-behind h h' b.log words) (had-bytes told))
        (λ few.
        let short = grown-short (h ++ b.log) (h' ++ b.log) whole few in
        let was = had-calls short in
        let word : of_word Export (whole.0 ++ (h ++ b.log)) ≡ of_word Export (h ++ b.log) = ap (of_word Export) (sym whole.1) ∙ same-behind h h' b.log words in
        let now = calls-same d.volume untold (h ++ b.log) whole.0 G.tells (λ told. legal told short) word was.0 was.1 in (
          was.0,
          subst (λ (k : List Event). AreCallsOf G.tells k was.0) (sym whole.1) now,
          subst (λ (m : Metadata D). Stands G.tells G.meter G.image (b.counts (journal_place d)) m was.0) (sym same) was.2,
        ))

    -- a call was replied to
    journal-one-more : IsCallTold d.volume → (by : Actor) (c : Call) → (IsTrue G.tells → length (h ++ b.log) < 2 ^ 64 - 1 → (g : Facts) → Extends (facts (h ++ b.log)) g → HasLength g c)
        → KeepsCall G.tells G.meter G.image c d.shared.export e.shared.export → IsNoted (export_event by c (export_reply (export_in d.shared.export) c)) h h' → StandsForJournal e b
    journal-one-more told by c long keeps note =
        let x = note.0 in
        let r = export_reply (export_in d.shared.export) c in
        let old = h ++ b.log in journal-now
        (λ tells. subst (λ (k : List Event). AreBytes (facts (k ++ b.log))) (sym note.2) (bytes-more x old (had-bytes tells) (event-bytes by c r x keeps.bytes note.1)))
        (λ few.
        let short = grown-short old (h' ++ b.log) whole few in
        let was = had-calls short in
        let calls = calls_after r c was.0 in
        let now : AreCallsOf G.tells (x ∷ old) calls =
        calls-more d.volume told old x by c r G.tells (λ tells. legal tells short) (λ tells. long tells short (facts (x ∷ old)) (extends-more (x ∷ []) old)) note.1 was.0 was.1 in
        (calls, subst (λ (k : List Event). AreCallsOf G.tells (k ++ b.log) calls) (sym note.2) now, keeps.stands (b.counts (journal_place d)) was.0 was.2))

    -- after a turn
    pub journal-goes-on : IsCallTold d.volume → IsNoCall d.volume → (by : Actor) (machine : Option Machine)
        → (IsTrue G.tells → length (h ++ b.log) < 2 ^ 64 - 1 → (asker : Machine) (c : Call) → machine ≡ Some asker → call_asked (ask_of asker.layout asker.work) ≡ Some c → (g : Facts) → Extends (facts (h ++ b.log)) g → HasLength g c)
        → TurnsExport G.tells G.meter G.image by machine d.shared.export e.shared.export h h' → StandsForJournal e b
    journal-goes-on told untold by machine long (Asks asker c is asks keeps note) = journal-one-more told by c (λ tells short. long tells short asker c is asks) keeps note
    journal-goes-on told untold by machine long (AsksNothing same words) = journal-no-more untold same words

  -- where a turn was not taken
  pub journal-ends : h' ≡ h → (refused : Option Call) → EndsOn G.tells G.meter G.image d.shared.export e.shared.export refused → LeavesJournal e refused b
  journal-ends same refused ends = record {
    volume = volume-there;
    bytes = subst (λ (k : List Event). IsTrue G.tells → AreBytes (facts (k ++ b.log))) (sym same) had-bytes;
    ends = λ few.
        let was = had-calls (subst (λ (k : List Event). length (k ++ b.log) < 2 ^ 64 - 1) same few) in
        subst (λ (n : ℕ). EndsLog G.tells G.meter G.image n e.shared.export refused (h' ++ b.log)) place-there
        (was.0, subst (λ (k : List Event). AreCallsOf G.tells (k ++ b.log) was.0) (sym same) was.1, ends (b.counts (journal_place d)) was.0 was.2);
  }

-- where nothing was asked of the export
module _ {D : Type 0} {G : Ghosts D} (d e : Driver D G) (volume : e.volume ≡ d.volume) (export : e.shared.export ≡ d.shared.export) (b : Before) (has : is_known G.tells b ≡ true → StandsForJournal d b) where
  stored : IsSameStore G.meter d.shared.export e.shared.export
  stored = same-store G.meter d.shared.export e.shared.export export

  -- after a line that takes no turn
  pub journal-ordered : IsNoCall d.volume → IsCoherentAfter d b.log → GrowsBy d.shared.log.events e.shared.log.events → of_word Export e.shared.log.events ≡ of_word Export d.shared.log.events → is_known G.tells b ≡ true → StandsForJournal e b
  journal-ordered untold coherence grown same known = journal-no-more d e volume stored b d.shared.log.events refl has known coherence grown untold export same

  pub journal-still : e.shared.log.events ≡ d.shared.log.events → is_known G.tells b ≡ true → LeavesJournal e None b
  journal-still same known = journal-ends d e volume stored b d.shared.log.events refl has known same None
      (subst (λ (m : Metadata D). EndsOn G.tells G.meter G.image d.shared.export m None) (sym export) (λ first calls stood. stood))

pub journal-left : {D : Type 0} {G : Ghosts D} (d : Driver D G) (b : Before) → StandsForJournal d b → LeavesJournal d None b
journal-left d b had = record { volume = had.volume; bytes = had.bytes; ends = λ few. (let keeps = had.keeps few in (keeps.0, keeps.1, keeps.2)) }

-- however a play ended
pub leaves-journal : {D : Type 0} {G : Ghosts D} (d : Driver D G) (refused : Option Call) (b : Before) → LeavesAtEnd d refused b → is_known G.tells b ≡ true → LeavesJournal d refused b
leaves-journal d refused b (inl held) known = subst (λ (o : Option Call). LeavesJournal d o b) (sym held.1) (journal-left d b (held.0.2 known))
leaves-journal d refused b (inr left) known = left.2 known
