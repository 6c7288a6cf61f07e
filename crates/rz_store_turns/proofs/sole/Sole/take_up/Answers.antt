use Rattle.std.proofs.Common.{◌≡◌, ◌+◌, ◌%◌, ◌∙◌, sym, ap, subst, List}
use Rattle.rz_events.specs.declared.events.Event.{Event}
use Rattle.rz_events.specs.Volume.{Volume}
use Rattle.rz_core.specs.History.{of_actor}
use Rattle.rz_core.specs.Own.{IsBetween}
use Rattle.rz_chronicle.specs.Kinds.{volume_in}
use Rattle.rz_store_turns.specs.Sole.{HoldsAll, AreFree, SoleView}
use Rattle.rz_store_turns.proofs.Soles.{unmoved}
use Rattle.rz_store_turns.proofs.sole.Sole.take_up.Goals as goal

pub turn_to-requires-clause-held : goal.turn_to-requires-clause-held
turn_to-requires-clause-held g c = let t = c.self.invariant.tokens c.args.by c.requires.member in (t.1, t.0)

pub invariant_of-self : goal.invariant_of-self
invariant_of-self g c =
    let same = unmoved g.J.Naming.kind c.self.inside.pass.keys c.self.inside.pass.log c.turn_to.new.pass.log c.added_alone.ensures c.self.invariant.tokens c.actor-by.ensures.places
    c.turn_to.ensures.later c.turn_to.ensures.stays in
    record {
      volume_is = c.self.invariant.volume_is;
      cluster_is = c.self.invariant.cluster_is;
      tokens = subst HoldsAll (sym c.turn_to.ensures.same.1) c.self.invariant.tokens;
      room = c.self.invariant.room;
      texts = c.self.invariant.texts;
      free = λ legal. subst (λ (h : List Event). AreFree h c.self.inside.client c.self.inside.rebuilder) (sym same) (c.self.invariant.free legal);
      clients = c.self.invariant.clients;
      rebuilders = c.self.invariant.rebuilders;
    }

pub returns-clause-log : goal.returns-clause-log
returns-clause-log g c =
    unmoved g.J.Naming.kind c.self.inside.pass.keys c.self.inside.pass.log c.turn_to.new.pass.log c.added_alone.ensures c.self.invariant.tokens c.actor-by.ensures.places
    c.turn_to.ensures.later c.turn_to.ensures.stays
    ∙ ap (λ (s : SoleView). s.pass.log) c.self.view_is

pub returns-clause-free : goal.returns-clause-free
returns-clause-free g c = (ap (λ (s : SoleView). s.client) c.self.view_is, ap (λ (s : SoleView). s.rebuilder) c.self.view_is)

pub returns-clause-actor : goal.returns-clause-actor
returns-clause-actor g c = c.turn_to.ensures.same.0

pub returns-clause-layout : goal.returns-clause-layout
returns-clause-layout g c = c.in-Ok.ensures.layout ∙ c.layout-layout.ensures ∙ ap (λ (u : Volume). u.layout) c.self.invariant.volume_is

pub returns-clause-right : goal.returns-clause-right
returns-clause-right g c = λ legal.
    (let same = unmoved g.J.Naming.kind c.self.inside.pass.keys c.self.inside.pass.log c.turn_to.new.pass.log c.added_alone.ensures c.self.invariant.tokens c.actor-by.ensures.places
    c.turn_to.ensures.later c.turn_to.ensures.stays
    ∙ ap (λ (s : SoleView). s.pass.log) c.self.view_is in
    let layout = c.in-Ok.ensures.layout ∙ c.layout-layout.ensures ∙ ap (λ (u : Volume). u.layout) c.self.invariant.volume_is in
    c.begins.ensures (volume_in g.J.Naming.kind) g.J.Naming.earlier c.turn_to.new.pass.log c.args.by ((c.self.inside.number + 1) % 4294967296) c.args.op c.in-Ok.machine
    c.requires.may (subst (λ (h : List Event). IsBetween (of_actor c.args.by h)) (sym same) (c.requires.idle legal)) layout c.in-Ok.ensures.work)
