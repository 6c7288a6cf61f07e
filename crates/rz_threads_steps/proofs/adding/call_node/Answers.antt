use Rattle.std.proofs.Common.{◌∙◌, ap, subst}
use Rattle.rz_events.specs.Volume.{IsVolume}
use Rattle.rz_node_model.specs.NodeEvents.{node_event}
use Rattle.rz_core.specs.History.{of_actor}
use Rattle.rz_play.specs.Faults.{missed}
use Rattle.rz_play_laws.proofs.Events.{node-event}
use Rattle.rz_chronicle.specs.Kinds.{volume_in}
use Rattle.rz_show.specs.Shown.{shown_of}
use Rattle.rz_threads_steps.proofs.Added.{Knows, adds-own, noted-quiet, node-moves, node-quiet, for-actor}
use Rattle.rz_threads_steps.proofs.ShownEvents.{node-shown}
use Rattle.rz_threads_steps.proofs.adding.call_node.Goals as goal

pub node_call-answer-requires-clause-actor : goal.node_call-answer-requires-clause-actor
node_call-answer-requires-clause-actor g c = for-actor c.args.pass.now.actor c.args.ask.now c.requires.actor c.requires.of_actor

pub returns-clause-served : goal.returns-clause-served
returns-clause-served g c =
    let kind = g.J.Naming.kind in
    let old = c.args.pass.now in
    let new = c.node_call-answer.new.pass in
    let knows : Knows kind g.J.Naming.earlier old new = record {
      kept = c.actors_kept.ensures;
      telling = c.facts_told.ensures (volume_in kind) (subst IsVolume c.requires.volume c.node_count-rules.ensures.rules);
      rule = c.one_rule.ensures;
      next = c.next_run.ensures (volume_in kind);
      alone = c.added_alone.ensures;
      mine = c.actor-own.ensures.own;
      same = c.node_call-answer.ensures.same;
      has = c.actor-own.ensures.earlier;
      fits = (c.actor-seen.ensures.fit, c.actor-seen.ensures.after);
      places = c.actor-seen.ensures.places;
    } in
    let event = node_event old.actor c.args.node c.args.ask.now c.node_call-answer.result in
    let its = node-event old.actor c.args.node c.args.ask.now c.node_call-answer.result in
    let adds = adds-own kind g.J.Naming.earlier old new knows event (λ x is. (its x c.requires.of_actor is).by_is) c.node_call-answer.ensures.answered.adds in
    record {
      for_actor = c.requires.of_actor;
      adds = adds;
      quiet = ap missed adds.own ∙ noted-quiet event (of_actor old.actor old.log) (λ x is. node-quiet x c.args.node (its x c.requires.of_actor is).word_is);
      unshown = ap shown_of adds.own ∙ node-shown event c.args.node (of_actor old.actor old.log) (λ x is. (its x c.requires.of_actor is).word_is);
      moves = node-moves old.actor c.args.node old.keys old.log event new.log c.actor-own.ensures.word (λ x is. (its x c.requires.of_actor is).word_is) c.node_call-answer.ensures.answered.adds;
      read = c.node_call-answer.ensures.read;
      by_node = (c.node_call-answer.ensures.answered.right.state, c.node_call-answer.ensures.answered.right.is);
    }
