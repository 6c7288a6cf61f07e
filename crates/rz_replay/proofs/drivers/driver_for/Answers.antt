use Rattle.std.proofs.Common.{IsTrue, List, [], length, sym, ap, ◌∙◌, subst, arith}
use Rattle.rz_events.specs.Volume.{Volume, nodes_of}
use Rattle.rz_events.specs.declared.events.Event.{Event}
use Rattle.rz_driver.specs.Continued.{AllOpen, AreLeft}
use Rattle.rz_driver.specs.Worlds.{HasCounted, HoldsBetweenTurns, left_behind}
use Rattle.rz_driver_nodes.specs.Meters.{faults_at}
use Rattle.rz_play.specs.World.{new_world}
use Rattle.rz_restart_laws.specs.Earlier.{IsEarlier, IsRestarted}
use Rattle.rz_request.specs.declared.wishes.Wish.{Wish}
use Rattle.rz_replay.specs.Drivers.{BeginsAs, has_journal}
use Rattle.rz_replay.proofs.Beginnings.{IsPlain, begins-plain, plain-unjournaled, plain-wish}
use Rattle.rz_replay.proofs.drivers.driver_for.Goals as goal

pub returns-in-Ok-clause-made : goal.returns-in-Ok-clause-made
returns-in-Ok-clause-made g c =
    let e = c.in-Ok.ensures in
    let d = c.in-Ok.driver in
    let disks = c.args.disks.items in
    let volume = c.volume-volume.ensures in
    record {
      ready = e.ready;
      volume = e.volume ∙ volume;
      journal = e.journal ∙ sym (ap has_journal c.in-First.is);
      counted = subst (λ (v : Volume). HasCounted d (faults_at g.D.Disk.meter disks (length (nodes_of v.clusters)))) volume e.counted;
      begins = subst (λ (w : Wish). BeginsAs w c.args.request.now.script.volume disks d) (sym c.in-First.is) (e.world ∙ ap new_world volume, e.held);
    }

pub returns-in-Ok-again-clause-made : goal.returns-in-Ok-again-clause-made
returns-in-Ok-again-clause-made g c =
    let e = c.in-Ok-again.ensures in
    let d = c.in-Ok-again.driver in
    let disks = c.args.disks.items in
    let volume = c.volume-volume.ensures in
    let K : Volume → Type 0 = λ v. IsTrue g.D.Disk.tells → (h : List Event) → IsEarlier v h → AreLeft g.D.Disk.image v h disks
    → (old : List Event) × IsRestarted v h old × HoldsBetweenTurns d (left_behind (faults_at g.D.Disk.meter disks) old) in
    record {
      ready = e.ready;
      volume = e.volume ∙ volume;
      journal = e.journal ∙ sym (ap has_journal c.in-Again.is);
      counted = subst (λ (v : Volume). HasCounted d (faults_at g.D.Disk.meter disks (length (nodes_of v.clusters)))) volume e.counted;
      begins = subst (λ (w : Wish). BeginsAs w c.args.request.now.script.volume disks d) (sym c.in-Again.is) (record {
        opened = subst (λ (v : Volume). AllOpen g.D.Disk.tells g.D.Disk.text v disks) volume e.open;
        world = e.opened.world;
        held = subst K volume e.held;
        untold = λ silent. e.untold silent [] (omega arith);
      });
    }

pub returns-in-Ok-new : goal.returns-in-Ok-new
returns-in-Ok-new g c =
    let e = c.in-Ok-new.ensures in
    let d = c.in-Ok-new.driver in
    let disks = c.args.disks.items in
    let volume = c.volume-volume.ensures in
    let wish : Wish = c.args.request.now.wish in
    let plain : IsPlain wish = plain-wish wish c.in-Replay.is in
    record {
      made = record {
        ready = e.ready;
        volume = e.volume ∙ volume;
        journal = e.journal ∙ sym (plain-unjournaled wish plain);
        counted = e.counted (faults_at g.D.Disk.meter disks (length (nodes_of c.args.request.now.script.volume.clusters)));
        begins = begins-plain c.args.request.now.script.volume disks d wish plain (e.world ∙ ap new_world volume, e.held);
      };
      unmade = tt;
    }
