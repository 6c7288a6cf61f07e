use Rattle.std.proofs.Common.{refl, ◌∙◌, ap}
use Rattle.rz_events.specs.declared.keys.Actor.TheVariants.{Admin}
use Rattle.rz_events.specs.declared.nodes.NodeAnswer.TheVariants as answer
use Rattle.rz_events.specs.declared.nodes.NodeAsk.TheVariants as ask
use Rattle.rz_node_model.specs.States.{NodeState}
use Rattle.rz_driver_nodes.proofs.FetchLemmas.{fence-after, read-of}
use Rattle.rz_driver_nodes.proofs.MeterLemmas.{call-goes}
use Rattle.rz_driver_nodes.proofs.asking.fetch.Goals as goal

pub returns-clause-given : goal.returns-clause-given
returns-clause-given g c = c.fetch_into.ensures.answer 0

pub returns-clause-after : goal.returns-clause-after
returns-clause-after g c = c.fetch_into.ensures.after 0

pub returns-clause-asked : goal.returns-clause-asked
returns-clause-asked g c =
    let e = c.fetch_into.ensures in
    record {
      called = record { sid = refl; pick = refl; geometry = e.geometry };
      fence = ap (λ (s : NodeState). s.fence) (e.after 0) ∙ fence-after c.fetch_into.result c.args.server.now.node.state;
      text_is = e.text;
      within = e.within;
    }

pub returns-clause-read : goal.returns-clause-read
returns-clause-read g c = read-of _ c.fetch_into.result c.args.room.now c.fetch_into.new.out c.fetch_into.ensures.bins

pub returns-clause-metered : goal.returns-clause-metered
returns-clause-metered g c = λ position h.
    let s = c.args.server.now in
    let e = c.fetch_into.ensures in
    call-goes g.D.Disk.meter c.faults.ensures Admin s.sid 0 s.node.geometry.cells (ask.Fetch c.args.key position c.args.stamp) (answer.Fetch c.fetch_into.result) s.node c.fetch_into.new.self tt
    (e.answer position) (e.after position) e.spends h
