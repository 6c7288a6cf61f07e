use Rattle.std.proofs.Common.{◌≡◌, ◌∙◌, ap, subst}
use Rattle.rz_store_turns.specs.Sole.{IsInHand, SoleView}
use Rattle.rz_store_turns.specs.Runs.{HasRun, HasTurned}
use Rattle.rz_store_turns.proofs.Soles.{all-actors, no-admin, sole-then, bins-room, hand-then, hand-inside, same-turn}
use Rattle.rz_store_turns.proofs.sole.Sole.turn.Goals as goal

pub take_turn-requires-clause-actor : goal.take_turn-requires-clause-actor
take_turn-requires-clause-actor g c =
    let s : SoleView = record { pass = c.self.inside.pass; number = c.self.inside.number; client = c.self.inside.client; rebuilder = c.self.inside.rebuilder } in
    no-admin s (hand-inside g.J.Naming.kind g.J.Naming.earlier s c.args.self.now c.args.machine.now c.self.view_is c.requires.hand).taken

pub take_turn-requires-clause-all : goal.take_turn-requires-clause-all
take_turn-requires-clause-all g c = all-actors c.self.inside.pass.keys c.self.invariant.tokens

pub take_turn-requires-clause-layout : goal.take_turn-requires-clause-layout
take_turn-requires-clause-layout g c = c.requires.hand.layout

pub take_turn-requires-clause-right : goal.take_turn-requires-clause-right
take_turn-requires-clause-right g c =
    let s : SoleView = record { pass = c.self.inside.pass; number = c.self.inside.number; client = c.self.inside.client; rebuilder = c.self.inside.rebuilder } in
    (hand-inside g.J.Naming.kind g.J.Naming.earlier s c.args.self.now c.args.machine.now c.self.view_is c.requires.hand).right

pub invariant_of-self : goal.invariant_of-self
invariant_of-self g c =
    let s : SoleView = record { pass = c.self.inside.pass; number = c.self.inside.number; client = c.self.inside.client; rebuilder = c.self.inside.rebuilder } in
    let hand = hand-inside g.J.Naming.kind g.J.Naming.earlier s c.args.self.now c.args.machine.now c.self.view_is c.requires.hand in
    sole-then g.J.Naming.kind g.J.Naming.earlier c.self.inside.shared.volume c.self.inside.shared.cluster s c.take_turn.new.pass c.self.inside.bins.items _ c.take_turn.ensures.alone hand.taken
    (bins-room _ c.self.inside.bins.len c.take_turn.new.bins c.self.inside.bins.items c.self.inside.bins.ok.0 c.self.invariant.room) c.self.invariant

pub invariant_of-self-in-Err : goal.invariant_of-self-in-Err
invariant_of-self-in-Err g c =
    let s : SoleView = record { pass = c.self.inside.pass; number = c.self.inside.number; client = c.self.inside.client; rebuilder = c.self.inside.rebuilder } in
    let hand = hand-inside g.J.Naming.kind g.J.Naming.earlier s c.args.self.now c.args.machine.now c.self.view_is c.requires.hand in
    sole-then g.J.Naming.kind g.J.Naming.earlier c.self.inside.shared.volume c.self.inside.shared.cluster s c.take_turn.new.pass c.self.inside.bins.items _ c.take_turn.ensures.alone hand.taken
    (bins-room _ c.self.inside.bins.len c.take_turn.new.bins c.self.inside.bins.items c.self.inside.bins.ok.0 c.self.invariant.room) c.self.invariant

pub returns-in-Ok-clause-same : goal.returns-in-Ok-clause-same
returns-in-Ok-clause-same g c =
    let s : SoleView = record { pass = c.self.inside.pass; number = c.self.inside.number; client = c.self.inside.client; rebuilder = c.self.inside.rebuilder } in
    same-turn s c.take_turn.new.pass c.args.self.now c.self.view_is c.take_turn.ensures.alone

pub returns-in-Ok-clause-turned : goal.returns-in-Ok-clause-turned
returns-in-Ok-clause-turned g c =
    subst (λ (z : SoleView). HasTurned g.J.Naming.kind z.number z.pass c.take_turn.new.pass c.args.machine.now c.take_turn.new.machine) c.self.view_is c.in-Ok.ensures.turned

pub returns-in-Ok-clause-hand : goal.returns-in-Ok-clause-hand
returns-in-Ok-clause-hand g c =
    let s : SoleView = record { pass = c.self.inside.pass; number = c.self.inside.number; client = c.self.inside.client; rebuilder = c.self.inside.rebuilder } in
    let hand = hand-inside g.J.Naming.kind g.J.Naming.earlier s c.args.self.now c.args.machine.now c.self.view_is c.requires.hand in
    hand-then g.J.Naming.kind g.J.Naming.earlier s c.take_turn.new.pass c.args.machine.now c.take_turn.new.machine hand c.take_turn.ensures.alone c.take_turn.ensures.layout c.take_turn.ensures.right

pub returns-in-Err-clause-same : goal.returns-in-Err-clause-same
returns-in-Err-clause-same g c =
    let s : SoleView = record { pass = c.self.inside.pass; number = c.self.inside.number; client = c.self.inside.client; rebuilder = c.self.inside.rebuilder } in
    same-turn s c.take_turn.new.pass c.args.self.now c.self.view_is c.take_turn.ensures.alone

pub returns-in-Err-clause-hand : goal.returns-in-Err-clause-hand
returns-in-Err-clause-hand g c =
    let s : SoleView = record { pass = c.self.inside.pass; number = c.self.inside.number; client = c.self.inside.client; rebuilder = c.self.inside.rebuilder } in
    let hand = hand-inside g.J.Naming.kind g.J.Naming.earlier s c.args.self.now c.args.machine.now c.self.view_is c.requires.hand in
    hand-then g.J.Naming.kind g.J.Naming.earlier s c.take_turn.new.pass c.args.machine.now c.take_turn.new.machine hand c.take_turn.ensures.alone c.take_turn.ensures.layout c.take_turn.ensures.right

pub returns-in-Err-clause-still : goal.returns-in-Err-clause-still
returns-in-Err-clause-still g c = λ legal. c.in-Err.ensures.still legal ∙ ap (λ (z : SoleView). z.pass.log) c.self.view_is

pub returns-in-Err-clause-stopped : goal.returns-in-Err-clause-stopped
returns-in-Err-clause-stopped g c =
    subst (λ (z : SoleView). HasRun g.J.Naming.kind z.number z.pass c.take_turn.new.pass c.args.machine.now c.take_turn.new.machine) c.self.view_is c.in-Err.ensures.stopped
