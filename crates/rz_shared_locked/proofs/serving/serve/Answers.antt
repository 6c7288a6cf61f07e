use Rattle.std.proofs.Common.{rules, ◌≡◌, ℕ, sym, ◌∙◌, subst, true≢false}
use Rattle.rz_events.specs.declared.nodes.NodeAsk.{NodeAsk}
use Rattle.rz_events.specs.declared.nodes.NodeAsk.TheVariants as ask
use Rattle.rz_events.specs.declared.nodes.NodeAnswer.TheVariants as answer
use Rattle.rz_cells_slots.specs.Opening.{opening_calls}
use Rattle.rz_node_model.specs.NodeEvents.{node_event}
use Rattle.rz_node.specs.Calls as calls
use Rattle.rz_play.specs.Lines.{noted}
use Rattle.rz_shared_locked.specs.Counts.{GoesWith}
use Rattle.rz_shared_locked.proofs.Disks.{read}
use Rattle.rz_shared_locked.proofs.Meters.{call-goes, no-start-of}
use Rattle.rz_shared_locked.proofs.serving.serve.Goals as goal
use Rattle.rz_shared_locked.proofs.serving.serve.Goals.{in-Start, in_default}

pub returns-then-matches-clause-imaged : goal.returns-then-matches-clause-imaged
returns-then-matches-clause-imaged g c = λ tells v f n hands imaged. c.start.ensures.imaged tells v f n imaged

pub returns-clause-read : goal.returns-clause-read
returns-clause-read g c = λ tells v f n imaged.
    let old = c.args.node.now in
    read g.D.Disk.text g.D.Disk.image (c.fetched.ensures tells) v f n old.geometry.cells old.geometry old.state c.args.ask.now c.answer_node.result c.args.bins.now c.answer_node.new.bins old.disk c.answer_node.new.node.disk
    c.answer_node.ensures.answer (c.answer_node.ensures.leaves tells) imaged

pub returns-then-matches-clause-counts : goal.returns-then-matches-clause-counts
returns-then-matches-clause-counts g c = λ first n w by by_word was.
    let is : c.args.ask.now ≡ ask.Start = search rules in
    subst (λ (q : NodeAsk). GoesWith g.D.Disk.meter first (noted (node_event by n q (answer.Start c.start.result)) w) c.start.new.node) (sym is) (c.start.ensures.counts first n w by_word was)

pub returns-then-matches-clause-crashed : goal.returns-then-matches-clause-crashed
returns-then-matches-clause-crashed g c = λ is down.
    subst (λ (p : ℕ). g.D.Disk.picks c.args.node.now.disk p (g.D.Disk.text c.start.new.node.disk)) c.requires.picked (c.start.ensures.crashed down)

pub returns-clause-crashed : goal.returns-clause-crashed
returns-clause-crashed g c = λ is down.
    let no_start : calls.IsNoStart c.args.ask.now = elim c.match-matches.branch [
      | in-Start w ↦ absurd (true≢false (sym w.matches-is ∙ c.if-matches.false))
      | in_default w ↦ no-start-of c.args.ask.now (λ is. search rules)
    ] in
    absurd (subst calls.IsNoStart is no_start)

pub returns-clause-counts : goal.returns-clause-counts
returns-clause-counts g c = λ first n w by by_word was.
    let old = c.args.node.now in
    let new = c.answer_node.new.node in
    let no_start : calls.IsNoStart c.args.ask.now = elim c.match-matches.branch [
      | in-Start w ↦ absurd (true≢false (sym w.matches-is ∙ c.if-matches.false))
      | in_default w ↦ no-start-of c.args.ask.now (λ is. search rules)
    ] in
    call-goes g.D.Disk.meter c.faults.ensures first n (opening_calls old.geometry) old.geometry.cells w by c.args.ask.now c.answer_node.result old new no_start c.answer_node.ensures.answer
    (c.answer_node.ensures.after_call no_start) c.answer_node.ensures.counts was
