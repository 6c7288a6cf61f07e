use Rattle.std.proofs.Common.{◌≡◌, ◌∙◌, false, refl, sym, subst}
use Rattle.rz_operation.specs.Machine.{Machine}
use Rattle.rz_operation_model.specs.Ask.{ask_of}
use Rattle.rz_contents.specs.Files.{is_word}
use Rattle.rz_chronicle.specs.Holds.{HasAllActors}
use Rattle.rz_threads_steps.proofs.Acts.{on-err}
use Rattle.rz_store_turns.proofs.Runs.{stays-alone, alone-then, no-turn, runs-then, one-turn}
use Rattle.rz_store_turns.proofs.turns.take_turns.Goals as goal

pub loop-init : goal.loop-init
loop-init g c = record {
  alone = stays-alone c.args.pass.now;
  ran = no-turn g.J.Naming.kind c.args.number c.args.pass.now c.args.machine.now;
  layout = refl;
  right = c.requires.right;
}

pub take_turn-requires-clause-actor : goal.take_turn-requires-clause-actor
take_turn-requires-clause-actor g c = λ is. c.requires.actor (sym c.loop.invariant.alone.actor ∙ is)

pub take_turn-requires-clause-all : goal.take_turn-requires-clause-all
take_turn-requires-clause-all g c = subst HasAllActors (sym c.loop.invariant.alone.keys) c.requires.all

pub take_turn-requires-clause-layout : goal.take_turn-requires-clause-layout
take_turn-requires-clause-layout g c = c.loop.invariant.layout ∙ c.requires.layout

pub take_turn-requires-clause-right : goal.take_turn-requires-clause-right
take_turn-requires-clause-right g c = c.loop.invariant.right

pub returns-then-is_at_word-clause-alone : goal.returns-then-is_at_word-clause-alone
returns-then-is_at_word-clause-alone g c = c.loop.invariant.alone

pub returns-then-is_at_word-clause-ran : goal.returns-then-is_at_word-clause-ran
returns-then-is_at_word-clause-ran g c = c.loop.invariant.ran

pub returns-then-is_at_word-clause-right : goal.returns-then-is_at_word-clause-right
returns-then-is_at_word-clause-right g c = c.loop.invariant.right

pub returns-then-is_at_word-clause-word : goal.returns-then-is_at_word-clause-word
returns-then-is_at_word-clause-word g c = sym c.is_at_word.ensures ∙ c.if-is_at_word.true

pub returns-in_err-take_turn-clause-alone : goal.returns-in_err-take_turn-clause-alone
returns-in_err-take_turn-clause-alone g c = alone-then c.args.pass.now c.loop.pass c.take_turn.new.pass c.loop.invariant.alone c.in_err-take_turn.ensures.alone

pub returns-in_err-take_turn-clause-ran : goal.returns-in_err-take_turn-clause-ran
returns-in_err-take_turn-clause-ran g c =
    runs-then g.J.Naming.kind c.args.number c.args.pass.now c.loop.pass c.take_turn.new.pass c.args.machine.now c.loop.machine c.take_turn.new.machine
    c.loop.invariant.alone c.loop.invariant.layout c.loop.invariant.ran c.in_err-take_turn.ensures.stopped

pub returns-in_err-take_turn-clause-layout : goal.returns-in_err-take_turn-clause-layout
returns-in_err-take_turn-clause-layout g c = c.in_err-take_turn.ensures.layout ∙ c.loop.invariant.layout

pub returns-in_err-take_turn-clause-right : goal.returns-in_err-take_turn-clause-right
returns-in_err-take_turn-clause-right g c = c.in_err-take_turn.ensures.right

pub returns-in_err-take_turn-clause-silent : goal.returns-in_err-take_turn-clause-silent
returns-in_err-take_turn-clause-silent g c =
    on-err c.from_residual.result
    (subst (λ (m : Machine). is_word (ask_of m.layout m.work) ≡ false) (sym c.in_err-take_turn.ensures.kept) (sym c.is_at_word.ensures ∙ c.if-is_at_word.false))

pub loop-preserved : goal.loop-preserved
loop-preserved g c = record {
  alone = alone-then c.args.pass.now c.loop.pass c.take_turn.new.pass c.loop.invariant.alone c.in_ok-take_turn.ensures.alone;
  ran = runs-then g.J.Naming.kind c.args.number c.args.pass.now c.loop.pass c.take_turn.new.pass c.args.machine.now c.loop.machine c.take_turn.new.machine
      c.loop.invariant.alone c.loop.invariant.layout c.loop.invariant.ran
      (one-turn g.J.Naming.kind c.args.number c.loop.pass c.take_turn.new.pass c.loop.machine c.take_turn.new.machine
      (sym c.is_at_word.ensures ∙ c.if-is_at_word.false) c.in_ok-take_turn.ensures.turned);
  layout = c.in_ok-take_turn.ensures.layout ∙ c.loop.invariant.layout;
  right = c.in_ok-take_turn.ensures.right;
}
