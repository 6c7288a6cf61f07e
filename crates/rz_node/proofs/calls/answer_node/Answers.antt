-- A fetch answers the same at every position. A fetch and a start leave the disk as the node says.
use Rattle.std.proofs.Common.{◌≡◌, IsTrue, sym, ap, subst}
use Rattle.rz_disk.specs.Images.{Only}
use Rattle.rz_events.specs.declared.nodes.NodeAsk.{NodeAsk}
use Rattle.rz_events.specs.declared.nodes.NodeAnswer.TheVariants as given
use Rattle.rz_node_model.specs.Answers.{IsNodeAnswer}
use Rattle.rz_node_model.specs.Afterwards.{after_answer}
use Rattle.rz_events.specs.declared.records.Held.{Held}
use Rattle.rz_node.specs.Fetched.{IsFetchedFromDisk}
use Rattle.rz_node.specs.Leaves.{LeavesDisk}
use Rattle.rz_node.specs.View.{NodeView}
use Rattle.rz_node.proofs.Leaving.{held-if, starts, unlooked, settled-start, settled-replace}
use Rattle.rz_node.proofs.calls.answer_node.Goals as goal

pub returns-in-Fetch-clause-answer : goal.returns-in-Fetch-clause-answer
returns-in-Fetch-clause-answer g c =
    let f = given.Fetch c.fetch_into.result in
    subst (λ (q : NodeAsk). IsNodeAnswer c.args.node.now.geometry.cells c.args.node.now.state q f) (sym c.in-Fetch.is) (c.fetch_into.ensures.answer c.in-Fetch.position)

pub returns-in-Fetch-clause-after_call : goal.returns-in-Fetch-clause-after_call
returns-in-Fetch-clause-after_call g c no_start =
    let f = given.Fetch c.fetch_into.result in
    subst (λ (q : NodeAsk). c.fetch_into.new.self.state ≡ after_answer q f c.args.node.now.state) (sym c.in-Fetch.is) (c.fetch_into.ensures.after c.in-Fetch.position)

pub returns-in-Fetch-clause-after : goal.returns-in-Fetch-clause-after
returns-in-Fetch-clause-after g c told =
    let f = given.Fetch c.fetch_into.result in
    subst (λ (q : NodeAsk). c.fetch_into.new.self.state ≡ after_answer q f c.args.node.now.state) (sym c.in-Fetch.is) (c.fetch_into.ensures.after c.in-Fetch.position)

pub returns-in-Fetch-clause-leaves : goal.returns-in-Fetch-clause-leaves
returns-in-Fetch-clause-leaves g c tells =
    let n = c.args.node.now in
    let disk = c.fetch_into.new.self.disk in
    subst (λ (q : NodeAsk). LeavesDisk n.geometry n.state q (given.Fetch c.fetch_into.result) c.args.bins.now c.fetch_into.new.out (g.D.Disk.text n.disk) (g.D.Disk.text disk) (g.D.Disk.image n.disk) (g.D.Disk.image disk)) (sym c.in-Fetch.is) (
      c.fetch_into.ensures.within,
      held-if (IsTrue g.D.Disk.tells) (λ (told : Held). IsFetchedFromDisk n.geometry n.state.fence (g.D.Disk.text n.disk) c.in-Fetch.key told c.args.bins.now c.fetch_into.new.out) c.fetch_into.result c.fetch_into.ensures.bins tells,
    )

pub returns-in-Start-clause-leaves : goal.returns-in-Start-clause-leaves
returns-in-Start-clause-leaves g c tells =
    let n = c.args.node.now in
    let disk = c.start.new.self.disk in
    subst (λ (q : NodeAsk). LeavesDisk n.geometry n.state q (given.Start c.start.result) c.args.bins.now c.args.bins.now (g.D.Disk.text n.disk) (g.D.Disk.text disk) (g.D.Disk.image n.disk) (g.D.Disk.image disk)) (sym c.in-Start.is)
    (starts (IsTrue g.D.Disk.tells) (g.D.Disk.text n.disk) (g.D.Disk.text disk) (g.D.Disk.image n.disk) (g.D.Disk.image disk) n.geometry n.state c.start.result tells
    c.start.ensures.text c.start.ensures.within c.start.ensures.settled c.start.ensures.branch)

pub returns-in-Start-clause-unused : goal.returns-in-Start-clause-unused
returns-in-Start-clause-unused g c it =
    let e = c.start.ensures in
    ap (λ (n : NodeView g.row.D.Denot). n.disk) (unlooked (c.start.new.self ≡ c.args.node.now) c.start.result e.not_down e.no_memory e.wrong_size it)

pub returns-in-Start-clause-settled : goal.returns-in-Start-clause-settled
returns-in-Start-clause-settled g c =
    settled-start (Only (g.D.Disk.text c.start.new.self.disk) (g.D.Disk.image c.start.new.self.disk)) c.start.result c.start.ensures.settled

pub returns-in-Replace-clause-settled : goal.returns-in-Replace-clause-settled
returns-in-Replace-clause-settled g c =
    settled-replace (Only (g.D.Disk.text c.replace.new.self.disk) (g.D.Disk.image c.replace.new.self.disk)) c.replace.result c.replace.ensures.settled
