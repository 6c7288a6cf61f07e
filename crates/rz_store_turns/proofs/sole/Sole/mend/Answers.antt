use Rattle.std.proofs.Common.{◌≡◌, refl, subst, Option}
use Rattle.std.specs.Prelude.{IfSome}
use Rattle.rz_events.specs.declared.ends.RebuildEnd.{RebuildEnd}
use Rattle.rz_store_turns.specs.Rebuilt.{HasEnded}
use Rattle.rz_store_turns.proofs.Gone.{no-turn, more-gone, more-ended, same-then}
use Rattle.rz_store_turns.proofs.sole.Sole.mend.Goals as goal

pub loop-init : goal.loop-init
loop-init g c = record {
  same = record { actor = refl; number = refl; client = refl; rebuilder = refl };
  hand = c.requires.hand;
  gone = no-turn g.J.Naming.kind c.args.self.now.number c.args.self.now.pass c.args.machine.now;
}

pub say_next-requires : goal.say_next-requires
say_next-requires g c = record { hand = c.loop.invariant.hand }

pub returns-in_err-end-clause-same : goal.returns-in_err-end-clause-same
returns-in_err-end-clause-same g c = same-then c.args.self.now c.loop.self c.say_next.new.self c.loop.invariant.same c.say_next.ensures.same

pub returns-in_err-end-clause-gone : goal.returns-in_err-end-clause-gone
returns-in_err-end-clause-gone g c =
    more-gone g.J.Naming.kind g.J.Naming.earlier c.args.self.now c.loop.self c.say_next.new.self c.args.machine.now c.loop.machine
    c.loop.invariant.same c.requires.hand c.loop.invariant.hand c.loop.invariant.gone c.say_next.new.machine c.say_next.ensures.gone

pub returns-in-Some-2-clause-same : goal.returns-in-Some-2-clause-same
returns-in-Some-2-clause-same g c = same-then c.args.self.now c.loop.self c.say_next.new.self c.loop.invariant.same c.say_next.ensures.same

pub returns-in-Some-2-clause-gone : goal.returns-in-Some-2-clause-gone
returns-in-Some-2-clause-gone g c =
    more-gone g.J.Naming.kind g.J.Naming.earlier c.args.self.now c.loop.self c.say_next.new.self c.args.machine.now c.loop.machine
    c.loop.invariant.same c.requires.hand c.loop.invariant.hand c.loop.invariant.gone c.say_next.new.machine c.say_next.ensures.gone

pub returns-in-Some-2-clause-ended : goal.returns-in-Some-2-clause-ended
returns-in-Some-2-clause-ended g c =
    more-ended g.J.Naming.kind g.J.Naming.earlier c.args.self.now c.loop.self c.say_next.new.self c.args.machine.now c.loop.machine
    c.loop.invariant.same c.requires.hand c.loop.invariant.hand c.loop.invariant.gone c.in-Some-2.end
    (subst (λ (said : Option RebuildEnd). IfSome said (λ end. HasEnded g.J.Naming.kind c.loop.self.number c.loop.self.pass c.say_next.new.self.pass c.loop.machine end)) c.in-Some-2.is c.in_ok-end.ensures.ended)

pub loop-preserved : goal.loop-preserved
loop-preserved g c = record {
  same = same-then c.args.self.now c.loop.self c.say_next.new.self c.loop.invariant.same c.say_next.ensures.same;
  hand = c.say_next.ensures.hand;
  gone = more-gone g.J.Naming.kind g.J.Naming.earlier c.args.self.now c.loop.self c.say_next.new.self c.args.machine.now c.loop.machine
      c.loop.invariant.same c.requires.hand c.loop.invariant.hand c.loop.invariant.gone c.say_next.new.machine c.say_next.ensures.gone;
}
