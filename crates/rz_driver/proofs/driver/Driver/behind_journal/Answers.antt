use Rattle.std.proofs.Common.{◌≡◌, ◌⊎◌, ◌∙◌, ℕ, IsTrue, List, [], length, refl, sym, ap, arith, subst}
use Rattle.std.proofs.lemmas.List.{length-map}
use Rattle.rz_disk.specs.Meter.{faults}
use Rattle.rz_disk.specs.UnderFuse.{UnderFuse}
use Rattle.rz_events.specs.Volume.{Volume}
use Rattle.rz_export_model.specs.Export.{new_export}
use Rattle.rz_nodes.specs.declared.formatting.Server.{Server}
use Rattle.rz_nodes.specs.Formatted.{disks_of}
use Rattle.rz_journal.specs.JournalText.{IsTextOf}
use Rattle.rz_cells_slots.specs.Stands.{IsShut}
use Rattle.rz_metadata.specs.declared.metadata.Metadata.{Metadata}
use Rattle.rz_metadata.specs.Stands.{CountsFaults, IsJournalOpen, Stands, export_in, is_journaled}
use Rattle.rz_driver.proofs.BehindJournal.{fault-is, journal-untouched}
use Rattle.rz_driver.proofs.driver.Driver.behind_journal.Goals as goal

pub returns-in_default-clause-back : goal.returns-in_default-clause-back
returns-in_default-clause-back g c = record {
  last = c.args.disk;
  back_are = c.back_with.ensures;
  kept = journal-untouched g.D.Disk.tells g.D.Disk.meter g.D.Disk.image c.args.self.volume c.args.disk;
  cause = tt;
}

pub returns-in-Ok-format-clause-behind : goal.returns-in-Ok-format-clause-behind
returns-in-Ok-format-clause-behind g c =
    let after = c.replace.ensures.after in
    let made = c.in-Ok-format.ensures in
    record {
      volume = refl;
      agendas = refl;
      turns = refl;
      shared = refl;
      export = ap export_in after ∙ made.export ∙ ap (λ (v : Volume). new_export v 0) c.in-Ok.ensures;
      journal = ap is_journaled after ∙ made.journal;
      is_open = subst IsJournalOpen (sym after) made.open;
      counted = subst (CountsFaults g.D.Disk.meter (faults (g.D.Disk.meter c.args.disk))) (sym after) made.counted;
      stands = subst (λ (m : Metadata g.row.D.Denot). Stands g.D.Disk.tells g.D.Disk.meter g.D.Disk.image (faults (g.D.Disk.meter c.args.disk)) m []) (sym after) made.stands;
    }

pub returns-in-Err-clause-back : goal.returns-in-Err-clause-back
returns-in-Err-clause-back g c =
    let row = c.args.self.shared.servers in
    let image = g.D.Disk.image in
    let old = c.args.disk in
    let new = c.in-Err.disk in
    let at = c.len-index.ensures in
    let long = row.ok.0 in
    let many = length-map row.items (λ (s : Server (UnderFuse g.row.D.Denot)). s.node.disk.disk) in
    let place : c.len-index.result ≡ length (disks_of row.items) = omega (arith, at, long, many) in
    record {
      last = new;
      back_are = c.back_with-in-Err.ensures;
      kept = record {
        count = c.in-Err.ensures.lasts;
        images = subst (λ (v : Volume). IsTrue g.D.Disk.tells → (x : List ℕ) → image new x → image old x ⊎ IsShut x ⊎ IsTextOf v x []) c.in-Ok.ensures c.in-Err.ensures.crash;
      };
      cause = fault-is g.D.Disk.meter old new c.in-Err.fault c.fault_at.result c.len-index.result (length (disks_of row.items)) c.fault_at.ensures place c.in-Err.ensures.risen;
    }
