-- A driver that is closed.
use Rattle.std.proofs.Common.{◌≡◌, ◌≢◌, inl, inr, ℕ, ◌+◌, ◌-◌, ◌^◌, ◌<◌, ◌≤◌, true, IsTrue, List, ◌++◌, Option, Some, None, length, refl, sym, ◌∙◌, ap, subst, arith}
use Rattle.std.specs.Prelude.{is_some, option_to_list}
use Rattle.std.proofs.lemmas.List.{length-append}
use Rattle.rz_disk.specs.Meter.{faults}
use Rattle.rz_disk.specs.declared.disk.Disk.{Ghosts}
use Rattle.rz_events.specs.declared.export.Call.{Call}
use Rattle.rz_events.specs.declared.events.Event.{Event}
use Rattle.rz_node_laws.specs.Laws.{IsLogLaw}
use Rattle.rz_nodes.specs.Formatted.{disks_of}
use Rattle.rz_metadata.specs.declared.journaled.JournalRefusal.TheVariants.{Failed}
use Rattle.rz_metadata.specs.Journals.{IsRefused}
use Rattle.rz_metadata.specs.Stands.{disk_of, is_journaled, refusal_of}
use Rattle.rz_driver_nodes.specs.Images.{AreDisksImaged}
use Rattle.rz_driver_nodes.proofs.CoherenceLemmas.{disks-imaged}
use Rattle.rz_player.specs.Behind.{Before}
use Rattle.rz_driver.specs.declared.driver.Driver.{Driver}
use Rattle.rz_driver.specs.Continued.{AreLeft, EndsWhole}
use Rattle.rz_driver.specs.Endings.{EndsAsRefused, StandsForLog}
use Rattle.rz_driver.specs.Journals.{journal_place}
use Rattle.rz_driver.specs.Worlds.{numbers_in, is_known, tells-known, HoldsBetweenTurns, LeavesAtEnd}
use Rattle.rz_driver.proofs.DriverCoherence.{leaves-named, leaves-right, leaves-short}
use Rattle.rz_driver.proofs.JournalEndings.{ends-closed, stands-closed, stands-refused, whole-stands}
use Rattle.rz_driver.proofs.JournalLemmas.{leaves-journal}

-- a log that fits into memory has room for an event more, behind that of earlier runs too
pub has-few : {D : Type 0} {G : Ghosts D} (d : Driver D G) (refused : Option Call) (b : Before) → LeavesAtEnd d refused b → length d.shared.log.events ≤ 2 ^ 62 + 2 → length (d.shared.log.events ++ b.log) < 2 ^ 64 - 1
has-few d refused b left few =
    let whole = length-append d.shared.log.events b.log in
    let short = leaves-short d refused b left in
    omega (arith, whole, short, few)

-- the images of each disk of a node stand for its records, however a play ended
pub left-imaged : {D : Type 0} {G : Ghosts D} (d : Driver D G) (refused : Option Call) (b : Before) → IsLogLaw G.image → LeavesAtEnd d refused b → IsTrue G.tells → length (d.shared.log.events ++ b.log) < 2 ^ 64 - 1
    → AreDisksImaged G.image d.volume (numbers_in d) (disks_of d.shared.servers.items) (d.shared.log.events ++ b.log)
left-imaged {G = G} d refused b law left told few =
    let row = d.shared.servers.items in
    let h = d.shared.log.events ++ b.log in
    subst (λ (ns : List ℕ). AreDisksImaged G.image d.volume ns (disks_of row) h) (leaves-named d refused b left) (disks-imaged G.image law d.volume h row (leaves-right d refused b left told few))

-- The disk of the journal.

some-disk : {D : Type 0} (o : Option D) → is_some o ≡ true → (disk : D) × (o ≡ Some disk)
some-disk None is = absurd (cc)
some-disk (Some disk) is = (disk, refl)

module _ {D : Type 0} {G : Ghosts D} (d : Driver D G) (b : Before) (short : length d.shared.log.events ≤ 2 ^ 62 + 2) where
  abbrev h : List Event
  h = d.shared.log.events ++ b.log

  pub held-journal : HoldsBetweenTurns d b → (disk : D) → disk_of d.shared.export ≡ Some disk → IsTrue G.tells → StandsForLog (G.image disk) d.volume h
  held-journal held disk is told =
      let journal = held.2 (tells-known G.tells b told) in
      stands-closed G.tells G.meter G.image (b.counts (journal_place d)) d.volume h d.shared.export disk journal.volume is (journal.keeps (has-few d None b (inl (held, refl)) short)) told

  module _ (refused : Option Call) (left : LeavesAtEnd d refused b) where
    known-refused : is_known G.tells b ≡ true → IsRefused (refusal_of d.shared.export) refused
    known-refused known = go left
      where
        go : LeavesAtEnd d refused b → IsRefused (refusal_of d.shared.export) refused
        go (inl held) =
            let journal = held.0.2 known in
            let keeps = journal.keeps (has-few d refused b left short) in
            subst (IsRefused (refusal_of d.shared.export)) (sym held.1) (stands-refused G.tells G.meter G.image (b.counts (journal_place d)) d.shared.export keeps.0 keeps.2)
        go (inr ended) = ended.4

    pub left-journal : is_known G.tells b ≡ true → (disk : D) → disk_of d.shared.export ≡ Some disk
        → EndsAsRefused (refusal_of d.shared.export) refused G.tells (G.image disk) (b.counts (journal_place d)) (faults (G.meter disk)) d.volume h
    left-journal known disk is =
        let journal = leaves-journal d refused b left known in
        ends-closed G.tells G.meter G.image (b.counts (journal_place d)) d.volume h d.shared.export refused disk (known-refused known) journal.volume is (journal.ends (has-few d refused b left short))

    -- where no device call of it failed it stands for the calls of the log
    pub whole-journal : refusal_of d.shared.export ≢ Some Failed → (disk : D) → disk_of d.shared.export ≡ Some disk → IsTrue G.tells → StandsForLog (G.image disk) d.volume h
    whole-journal whole disk is told =
        whole-stands (refusal_of d.shared.export) refused G.tells (G.image disk) (b.counts (journal_place d)) (faults (G.meter disk)) d.volume h whole (left-journal (tells-known G.tells b told) disk is) told

    -- so the disks are what a next run wants
    left-disks : IsLogLaw G.image → ((disk : D) → disk_of d.shared.export ≡ Some disk → IsTrue G.tells → StandsForLog (G.image disk) d.volume h) → is_journaled d.shared.export ≡ true → IsTrue G.tells → (disks : List D)
        → disks ≡ disks_of d.shared.servers.items ++ option_to_list (disk_of d.shared.export) → AreLeft G.image d.volume h disks
    left-disks law last journaled told disks are =
        let disk = some-disk (disk_of d.shared.export) journaled in
        let row = disks_of d.shared.servers.items in
        let known = tells-known G.tells b told in
        record {
          nodes = row;
          journal = disk.0;
          disks_are = are ∙ ap (λ (o : Option D). row ++ option_to_list o) disk.1;
          each = left-imaged d refused b law left told (has-few d refused b left short);
          last = last disk.0 disk.1 told;
          bytes = (leaves-journal d refused b left known).bytes told;
        }

  -- what a play left that ended between two turns, or where no device call of the journal failed
  pub whole-disks : (refused : Option Call) → IsLogLaw G.image → EndsWhole d refused b → is_journaled d.shared.export ≡ true → IsTrue G.tells → (disks : List D) → disks ≡ disks_of d.shared.servers.items ++ option_to_list (disk_of d.shared.export)
      → AreLeft G.image d.volume h disks
  whole-disks refused law (inl held) = left-disks None (inl (held, refl)) law (held-journal held)
  whole-disks refused law (inr (left, whole)) = left-disks refused left law (whole-journal refused left whole)
