use Rattle.std.proofs.Common.{◌≡◌, ℕ, Bool, List, map, length, sym, ap, ◌∙◌, subst, inl, inr, true}
use Rattle.std.specs.Prelude.{IsTrue}
use Rattle.std.specs.List.{AllZip}
use Rattle.std.specs.Global.{Vec}
use Rattle.rz_disk.specs.Meter.{faults}
use Rattle.rz_events.specs.Volume.{Volume, nodes_of}
use Rattle.rz_events.specs.declared.events.Event.{Event}
use Rattle.rz_events.specs.declared.events.Word.TheVariants.{Node}
use Rattle.rz_nodes.specs.Formatted.{AreBack}
use Rattle.rz_script.specs.declared.line.Line.{Line}
use Rattle.rz_script.specs.Lines.{AreLines}
use Rattle.rz_core.specs.Legal.{IsLegal}
use Rattle.rz_play.specs.World.{actors}
use Rattle.rz_chronicle.specs.Dealing.{new_pass, new_word_token}
use Rattle.rz_chronicle.specs.Keys.{sids_of}
use Rattle.rz_chronicle.specs.Kinds.{is_honest, volume_in}
use Rattle.rz_chronicle.specs.Rules.{PassView}
use Rattle.rz_threads_workers.specs.Moves.{HoldsAll}
use Rattle.rz_threads_workers.specs.WorkerPool.{link_of}
use Rattle.rz_threads.specs.Orders.{AreLinesBegun, AreDone}
use Rattle.rz_report.specs.Output.{Sunk}
use Rattle.rz_run.specs.Done.{IsAllFinished}
use Rattle.rz_run.specs.Handed.{Handed}
use Rattle.rz_run.specs.Runs.{IsRunPlayed}
use Rattle.rz_run.proofs.Acting.{nobody-else}
use Rattle.rz_run.proofs.PoolWorkers.{actors-are, lost-all, ready-all, shown-all}
use Rattle.rz_run.proofs.Told.{all-begun, all-finished, disks-at, told-of, volume-is}
use Rattle.rz_run.proofs.playing.play_setup.Goals as goal

pub new-requires-clause-volume : goal.new-requires-clause-volume
new-requires-clause-volume g c = c.requires.volume ∙ sym (volume-is c.read_back.ensures g.J.Naming.kind c.args.script.now.volume c.requires.kind)

pub new-requires-clause-count : goal.new-requires-clause-count
new-requires-clause-count g c = c.requires.count ∙ sym (ap (λ (v : Volume). length (nodes_of v.clusters)) c.requires.volume)

pub new-requires-clause-nodes : goal.new-requires-clause-nodes
new-requires-clause-nodes g c =
    let at : volume_in g.J.Naming.kind ≡ c.args.setup.volume = volume-is c.read_back.ensures g.J.Naming.kind c.args.script.now.volume c.requires.kind ∙ sym c.requires.volume in
    subst (λ (v : Volume). c.args.setup.desk.nodes.items ≡ map (λ n. new_word_token (Node n)) (sids_of v)) at c.requires.nodes

pub new-requires-clause-counts : goal.new-requires-clause-counts
new-requires-clause-counts g c = subst (λ (v : Volume). map g.J.Metering.first (sids_of v) ≡ map (λ d. faults (g.D.Disk.meter d)) c.args.disks.items) (sym c.requires.volume) c.requires.counts

pub new-requires-clause-tells : goal.new-requires-clause-tells
new-requires-clause-tells g c = λ honest. subst IsTrue c.requires.honest honest

pub play-front-requires-clause-volume : goal.play-front-requires-clause-volume
play-front-requires-clause-volume g c κs within = c.requires.known ∙ sym (volume-is c.read_back.ensures g.J.Naming.kind c.args.script.now.volume c.requires.kind)

pub play-front-requires-clause-ready : goal.play-front-requires-clause-ready
play-front-requires-clause-ready g c κs within = ready-all g.J.Naming.kind c.args.script.now.lines (map new_pass actors) c.args.setup.pool.workers.items c.requires.staffed

pub play-front-requires-clause-admin : goal.play-front-requires-clause-admin
play-front-requires-clause-admin g c κs within = ap (λ (p : PassView). p.actor) c.requires.admin

pub play-front-requires-clause-lines : goal.play-front-requires-clause-lines
play-front-requires-clause-lines g c κs within =
    let at = volume-is c.read_back.ensures g.J.Naming.kind c.args.script.now.volume c.requires.kind in
    subst (λ (ls : List Line). AreLines (volume_in g.J.Naming.kind) ls) (sym c.lines.ensures.value) (subst (λ (v : Volume). AreLines v c.args.script.now.lines) (sym at) c.lines.ensures.limits)

pub tell-status-requires-clause-held : goal.tell-status-requires-clause-held
tell-status-requires-clause-held g c =
    let held = c.play-front.ensures.held (actors-are g.J.Naming.kind c.args.script.now.lines actors c.args.setup.pool.workers.items c.requires.staffed) in
    subst (λ (v : Volume). HoldsAll (sids_of v) c.play-front.result.front.keys) (c.in-Ok.ensures.volume ∙ sym c.requires.book ∙ sym c.play-front.ensures.book) held

pub tell-status-requires-clause-shown : goal.tell-status-requires-clause-shown
tell-status-requires-clause-shown g c =
    ap (map (λ (s : Vec Event). s.items)) c.as_slice.ensures.value
    ∙ (c.play-front.ensures.shown ∙ shown-all g.J.Naming.kind c.args.script.now.lines c.play-front.result.front.log actors c.args.setup.pool.workers.items c.requires.staffed)

pub returns-in-Ok : goal.returns-in-Ok
returns-in-Ok g c =
    let kind : List ℕ = g.J.Naming.kind in
    let v : Volume = c.args.script.now.volume in
    let lines : List Line = c.args.script.now.lines in
    let log : List Event = c.play-front.result.front.log in
    let sink : Sunk = record {
      before = g.O.Sink.taken c.args.output.now;
      after = g.O.Sink.taken c.tell-status.new.output;
      old = g.O.Sink.faults c.args.output.now;
      new = g.O.Sink.faults c.tell-status.new.output;
    } in
    let at = volume-is c.read_back.ensures kind v c.requires.kind in
    let begun = all-begun c.read_back.ensures kind v c.requires.kind lines c.args.setup.pool.workers.items c.requires.staffed c.args.setup.admin c.requires.admin log c.play-front.ensures.begun
    (subst (λ (ls : List Line). AreLinesBegun kind ls c.args.setup.admin.log log) c.lines.ensures.value c.play-front.ensures.ordered) in
    let finished : c.play-front.result.ended ≡ true → IsAllFinished (is_honest kind) v lines log = λ ended. all-finished c.read_back.ensures kind v c.requires.kind lines c.args.setup.pool.workers.items c.requires.staffed c.args.setup.admin c.requires.admin log (c.play-front.ensures.finished ended)
    (subst (λ (ls : List Line). AreDone kind ls c.args.setup.admin.log log) c.lines.ensures.value (c.play-front.ensures.orders ended)) in
    let disks : Handed g.row.D.Denot = record { old = c.args.disks.items; new = c.play-front.result.disks.items } in
    let links : Handed g.row.L.Denot = record { old = map link_of c.args.setup.pool.workers.items; new = c.play-front.result.links.items } in
    inr (
      log,
      subst (λ (b : Bool). IsRunPlayed b g.D.Disk.meter g.D.Disk.image g.L.Link.lost c.args.script.now disks links sink c.tell-status.result log) c.requires.honest (record {
        told = told-of (is_honest kind) c.play-front.result.ended v lines log sink c.tell-status.result finished begun c.tell-status.ensures;
        acting = nobody-else (is_honest kind) v kind lines log c.play-front.ensures.places begun.workers;
        true_log = λ honest. c.true_logs.ensures v log (subst (λ (u : Volume). IsLegal u log) at (c.play-front.ensures.fit honest));
        disks_told = disks-at c.read_back.ensures kind v c.requires.kind g.D.Disk.meter g.D.Disk.image g.J.Metering.first log c.in-Ok.cluster c.args.disks.items c.play-front.result.disks.items c.in-Ok.ensures.volume c.requires.counts c.play-front.ensures.disks;
        links_told = lost-all kind lines log g.L.Link.lost actors c.args.setup.pool.workers.items c.play-front.result.links.items c.requires.staffed c.play-front.ensures.links;
      }),
    )

pub returns-in-Err : goal.returns-in-Err
returns-in-Err g c = inl (record {
  fault = c.in-Err.fault;
  cause = c.in-Err.ensures.cause;
  told = c.refuse_disks-status.ensures;
  disks_back = subst (λ (v : Volume). AreBack g.D.Disk.tells g.D.Disk.meter g.D.Disk.image v.layout (nodes_of v.clusters) c.args.disks.items c.in-Err.disks.items) c.requires.volume c.in-Err.ensures.back;
  links_back = c.links_of-links.ensures;
})
