-- What is stored by the rule of a keep is kept.
use Rattle.std.proofs.Common.{◌≡◌, Bool, Option, Some, sym, ◌∙◌, ap, subst, arith}
use Rattle.rz_events.specs.declared.nodes.KeepAnswer.{KeepAnswer}
use Rattle.rz_node_model.specs.Afterwards.{after_keep}
use Rattle.rz_node_model.specs.Answers.{keep_answer, IsKeepAnswer}
use Rattle.rz_node_model.specs.Records.{record_of, held_of, stamp_of}
use Rattle.rz_node_model.specs.Versions.{kept}
use Rattle.rz_record.specs.Slot.{Rec}
use Rattle.rz_node.specs.Spends.{Spends, keep_used}
use Rattle.rz_node.specs.Stores.{stored_used}
use Rattle.rz_node.specs.CrashOutcomes.{CrashOutcomes}
use Rattle.rz_node.proofs.Stores.{answer-keep, after-keep, used-keep}
use Rattle.rz_node.proofs.node.Node.keep.Goals as goal

pub returns-clause-answer : goal.returns-clause-answer
returns-clause-answer g c =
    let n = c.args.self.now in
    let h = c.args.head.now in
    subst (IsKeepAnswer (keep_answer n.geometry.cells n.state h.key h.stamp)) (sym c.keep_answer.ensures)
    (answer-keep n.geometry.cells n.state h c.store.result (sym c.phase.ensures ∙ c.in-Up.is) (omega (arith, c.if-head-fence.false, c.fence-fence.ensures)) c.store.ensures.stored)

pub returns-clause-after : goal.returns-clause-after
returns-clause-after g c =
    let n = c.args.self.now in
    let h = c.args.head.now in
    c.store.ensures.after ∙ after-keep c.store.result n.state h.key (record_of h) ∙ ap (λ (a : KeepAnswer). after_keep a n.state h.key (record_of h)) (sym c.keep_answer.ensures)

pub returns-clause-same : goal.returns-clause-same
returns-clause-same g c unused = c.store.ensures.same (used-keep c.store.result ∙ ap keep_used (sym c.keep_answer.ensures) ∙ unused)

pub returns-clause-stands : goal.returns-clause-stands
returns-clause-stands g c used told =
    let n = c.args.self.now in
    let h = c.args.head.now in
    let held = held_of n.state.held h.key in
    let r : Rec = record { head = h; bins = c.args.bins.now } in
    let same : stored_used c.store.result ≡ keep_used c.keep_answer.result = used-keep c.store.result ∙ ap keep_used (sym c.keep_answer.ensures) in
    subst (λ (u : Option Bool). CrashOutcomes n.geometry n.state.fence (g.D.Disk.text n.disk) (g.D.Disk.text c.store.new.self.disk) (g.D.Disk.image c.store.new.self.disk) u h.key held (kept stamp_of h.base (record_of h) held) (Some r)) same
    (c.store.ensures.stands (λ none. used (sym same ∙ none)) told)

pub returns-clause-spends : goal.returns-clause-spends
returns-clause-spends g c =
    let n = c.args.self.now in
    subst (λ (used : Option Bool). Spends 4 used (g.D.Disk.meter n.disk) (g.D.Disk.meter c.store.new.self.disk)) (used-keep c.store.result ∙ ap keep_used (sym c.keep_answer.ensures)) c.store.ensures.spends
