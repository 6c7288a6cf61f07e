use Rattle.std.proofs.Common.{◌≡◌, ◌∙◌, ap, List, ◌++◌}
use Rattle.std.specs.Prelude.{IsTrue}
use Rattle.std.proofs.lemmas.Result.{on_err_weaker}
use Rattle.rz_chronicle.specs.Kinds.{keeps_legal, volume_in}
use Rattle.rz_chronicle.specs.Rules.{PassView}
use Rattle.rz_store_turns.proofs.Words.{has-said, is-quiet}
use Rattle.rz_store_turns.proofs.sole.Sole.conclude.Goals as goal

pub returns-clause-quiet : goal.returns-clause-quiet
returns-clause-quiet g c =
    is-quiet g.J.Naming.kind g.J.Naming.earlier c.args.self.now c.turn-said.new.self c.end.new.self c.args.machine c.turn-said.new.machine c.end.ensures.pass c.stands-2.ensures.legal
    c.turn-said.result c.turn-said.ensures.turned c.turn-said.ensures.still c.requires.word

pub returns-clause-said : goal.returns-clause-said
returns-clause-said g c =
    has-said g.J.Naming.kind g.J.Naming.earlier c.args.self.now c.turn-said.new.self c.end.new.self c.args.machine c.turn-said.new.machine c.end.ensures.pass c.stands-2.ensures.legal
    c.turn-said.result c.turn-said.ensures.turned
    (λ saying asked legal.
    c.says.ensures (volume_in g.J.Naming.kind) g.J.Naming.earlier c.args.self.now.pass.log c.args.self.now.pass.actor c.args.self.now.number c.args.machine saying
    (c.stands.ensures.after legal) (c.requires.hand.right legal) asked)

pub returns-clause-still : goal.returns-clause-still
returns-clause-still g c =
    on_err_weaker c.turn-said.result
    (λ (still : IsTrue (keeps_legal g.J.Naming.kind) → c.turn-said.new.self.pass.log ≡ c.args.self.now.pass.log) (legal : IsTrue (keeps_legal g.J.Naming.kind)).
    ap (λ (p : PassView). p.log) c.end.ensures.pass ∙ still legal)
    c.turn-said.ensures.still
