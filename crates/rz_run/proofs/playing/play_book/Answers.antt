use Rattle.std.proofs.Common.{◌≡◌, ℕ, List, map, refl, sym, ap, subst, inl}
use Rattle.std.specs.Global.{Vec}
use Rattle.rz_report.specs.Output.{Sunk}
use Rattle.rz_run.specs.Runs.{PlaysRun}
use Rattle.rz_run.proofs.Told.{lacking, volume-is}
use Rattle.rz_run.proofs.playing.play_book.Goals as goal

pub set_up-requires-clause-volume : goal.set_up-requires-clause-volume
set_up-requires-clause-volume g c = sym (volume-is c.read_back.ensures g.J.Naming.kind c.args.script.now.volume c.requires.kind)

pub returns-in-Ok : goal.returns-in-Ok
returns-in-Ok g c =
    let sink : Sunk = record {
      before = g.O.Sink.taken c.args.output.now;
      after = g.O.Sink.taken c.play_setup.new.output;
      old = g.O.Sink.faults c.args.output.now;
      new = g.O.Sink.faults c.play_setup.new.output;
    } in
    subst (λ (ls : List g.row.L.Denot). PlaysRun g.D.Disk.tells g.D.Disk.meter g.D.Disk.image g.L.Link.lost c.args.script.now (record { old = c.args.disks.items; new = c.play_setup.result.disks.items })
    (record { old = ls; new = c.play_setup.result.links.items }) sink c.play_setup.result.status) c.in-Ok.ensures.links c.play_setup.ensures

pub returns-in-Err : goal.returns-in-Err
returns-in-Err g c =
    let sink : Sunk = record {
      before = g.O.Sink.taken c.args.output.now;
      after = g.O.Sink.taken c.args.output.now;
      old = g.O.Sink.faults c.args.output.now;
      new = g.O.Sink.faults c.args.output.now;
    } in
    inl (lacking g.D.Disk.tells g.D.Disk.meter g.D.Disk.image c.args.script.now.volume c.args.disks.items c.args.links.items c.in-Err.links.items sink 70 c.requires.count
    (ap (λ (ls : Vec g.row.L.Denot). ls.items) c.in-Err.ensures.back) (refl, refl))
