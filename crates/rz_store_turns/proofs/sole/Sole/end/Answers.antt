use Rattle.std.proofs.Common.{◌≡◌, ◌+◌, ◌∙◌, refl, sym, ap, subst, arith, List, ◌++◌, ℕ, true}
use Rattle.std.specs.Prelude.{IsTrue}
use Rattle.rz_events.specs.declared.keys.Actor.{Actor}
use Rattle.rz_events.specs.declared.keys.Actor.TheVariants as a
use Rattle.rz_events.specs.declared.events.Event.{Event}
use Rattle.rz_operation.specs.Machine.{Machine, is_over}
use Rattle.rz_core.specs.History.{facts, of_actor}
use Rattle.rz_core.specs.Own.{IsBetween}
use Rattle.rz_chronicle.specs.Keys.{IsMember}
use Rattle.rz_chronicle.specs.Kinds.{keeps_legal, volume_in}
use Rattle.rz_store_turns.specs.Sole.{IsInHand, IsTaken, SoleView}
use Rattle.rz_store_turns.proofs.Soles.{over-between, client-back, rebuilder-back}
use Rattle.rz_store_turns.proofs.sole.Sole.end.Goals as goal

-- the operation in hand is over
between : (kind : List ℕ) (earlier : List Event) (s : SoleView) (m : Machine) → IsInHand kind earlier s m → is_over m.work ≡ true → IsTrue (keeps_legal kind) → IsBetween (of_actor s.pass.actor s.pass.log)
between kind earlier s m hand over legal =
    over-between (volume_in kind) (facts (s.pass.log ++ earlier)) (of_actor s.pass.actor (s.pass.log ++ earlier)) (of_actor s.pass.actor s.pass.log) s.pass.actor m.work over (hand.right legal).true_to.own

pub invariant_of-self : goal.invariant_of-self
invariant_of-self g c =
    let s : SoleView = record { pass = c.self.inside.pass; number = c.self.inside.number; client = c.self.inside.client; rebuilder = c.self.inside.rebuilder } in
    let hand : IsInHand g.J.Naming.kind g.J.Naming.earlier s c.args.machine = subst (λ (z : SoleView). IsInHand g.J.Naming.kind g.J.Naming.earlier z c.args.machine) (sym c.self.view_is) c.requires.hand in
    let actor : s.pass.actor ≡ a.Client c.in-Client.client = sym c.in-Client.ensures.value in
    let last : c.in-Client.client + 1 ≡ s.client = subst (IsTaken s) actor hand.taken in
    record {
      volume_is = c.self.invariant.volume_is;
      cluster_is = c.self.invariant.cluster_is;
      tokens = c.self.invariant.tokens;
      room = c.self.invariant.room;
      texts = c.self.invariant.texts;
      free = λ legal.
          client-back s c.in-Client.client
          (subst (λ (by : Actor). IsBetween (of_actor by s.pass.log)) actor (between g.J.Naming.kind g.J.Naming.earlier s c.args.machine hand (sym c.is_over.ensures ∙ c.if-is_over.true) legal))
          last (c.self.invariant.free legal);
      clients = (let member = subst IsMember actor c.actor.ensures.member in member.0, omega (arith, last, c.self.invariant.clients.1));
      rebuilders = c.self.invariant.rebuilders;
    }

pub invariant_of-self-in-Rebuilder : goal.invariant_of-self-in-Rebuilder
invariant_of-self-in-Rebuilder g c =
    let s : SoleView = record { pass = c.self.inside.pass; number = c.self.inside.number; client = c.self.inside.client; rebuilder = c.self.inside.rebuilder } in
    let hand : IsInHand g.J.Naming.kind g.J.Naming.earlier s c.args.machine = subst (λ (z : SoleView). IsInHand g.J.Naming.kind g.J.Naming.earlier z c.args.machine) (sym c.self.view_is) c.requires.hand in
    let actor : s.pass.actor ≡ a.Rebuilder c.in-Rebuilder.rebuilder = sym c.in-Rebuilder.ensures.value in
    let last : c.in-Rebuilder.rebuilder + 1 ≡ s.rebuilder = subst (IsTaken s) actor hand.taken in
    record {
      volume_is = c.self.invariant.volume_is;
      cluster_is = c.self.invariant.cluster_is;
      tokens = c.self.invariant.tokens;
      room = c.self.invariant.room;
      texts = c.self.invariant.texts;
      free = λ legal.
          rebuilder-back s c.in-Rebuilder.rebuilder
          (subst (λ (by : Actor). IsBetween (of_actor by s.pass.log)) actor (between g.J.Naming.kind g.J.Naming.earlier s c.args.machine hand (sym c.is_over.ensures ∙ c.if-is_over.true) legal))
          last (c.self.invariant.free legal);
      clients = c.self.invariant.clients;
      rebuilders = (let member = subst IsMember actor c.actor.ensures.member in member.0, omega (arith, last, c.self.invariant.rebuilders.1));
    }
