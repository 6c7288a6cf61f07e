use Rattle.std.proofs.Common.{◌≡◌, ℕ, Bool, List, [], map, length, refl, sym, ap, ◌∙◌, subst, inl, arith}
use Rattle.std.proofs.lemmas.List.{length-map}
use Rattle.std.specs.Prelude.{IsTrue, nat_eq}
use Rattle.std.specs.List.{IsDistinct}
use Rattle.rz_disk.specs.Meter.{faults}
use Rattle.rz_events.specs.Volume.{Volume, nodes_of}
use Rattle.rz_events.specs.declared.files.NodeSpec.{NodeSpec}
use Rattle.rz_chronicle.specs.Keys.{sids_of}
use Rattle.rz_chronicle.specs.Kinds.{HasEarlierLog, is_honest, kind_of}
use Rattle.rz_report.specs.Output.{Sunk}
use Rattle.rz_run.specs.Runs.{PlaysRun}
use Rattle.rz_run.proofs.Firsts.{beside-all}
use Rattle.rz_run.proofs.Told.{honest-is, kind-is, lacking}
use Rattle.rz_run.proofs.running.play_script.Goals as goal

pub play_named-requires-clause-kind : goal.play_named-requires-clause-kind
play_named-requires-clause-kind g c κs within =
    kind-is c.read_back.ensures g.D.Disk.tells c.args.script.now.volume c.in-Ok.opened.tokens.kind (c.in-Ok.ensures ∙ ap (kind_of g.D.Disk.tells) c.volume-volume.ensures)

pub play_named-requires-clause-earlier : goal.play_named-requires-clause-earlier
play_named-requires-clause-earlier g c κs within =
    subst (λ (k : List ℕ). HasEarlierLog k []) (sym (c.in-Ok.ensures ∙ ap (kind_of g.D.Disk.tells) c.volume-volume.ensures))
    ((c.read_back_after.ensures g.D.Disk.tells c.args.script.now.volume []).2 (omega arith))

pub play_named-requires-clause-honest : goal.play_named-requires-clause-honest
play_named-requires-clause-honest g c κs within =
    honest-is c.read_back.ensures g.D.Disk.tells c.args.script.now.volume c.in-Ok.opened.tokens.kind (c.in-Ok.ensures ∙ ap (kind_of g.D.Disk.tells) c.volume-volume.ensures)

pub play_named-requires-clause-counts : goal.play_named-requires-clause-counts
play_named-requires-clause-counts g c κs within =
    let v : Volume = c.args.script.now.volume in
    let distinct = subst (λ (u : Volume). IsDistinct nat_eq (sids_of u)) c.volume-volume.ensures c.node_count-rules.ensures.rules.distinct_sids in
    let same : length (sids_of v) ≡ length (map (λ d. faults (g.D.Disk.meter d)) c.args.disks.items) =
    length-map (nodes_of v.clusters) (λ (n : NodeSpec). n.sid) ∙ (sym c.requires.count ∙ sym (length-map c.args.disks.items (λ d. faults (g.D.Disk.meter d)))) in
    beside-all (sids_of v) (map (λ d. faults (g.D.Disk.meter d)) c.args.disks.items) distinct same

pub returns-in-Err : goal.returns-in-Err
returns-in-Err g c =
    let sink : Sunk = record {
      before = g.O.Sink.taken c.args.output.now;
      after = g.O.Sink.taken c.args.output.now;
      old = g.O.Sink.faults c.args.output.now;
      new = g.O.Sink.faults c.args.output.now;
    } in
    inl (lacking g.D.Disk.tells g.D.Disk.meter g.D.Disk.image c.args.script.now.volume c.args.disks.items c.args.links.items c.args.links.items sink 70 c.requires.count refl (refl, refl))
