use Rattle.std.proofs.Common.{None, subst}
use Rattle.rz_events.specs.Volume.{IsVolume}
use Rattle.rz_events.specs.Borrowed.{call_of}
use Rattle.rz_export_model.specs.ExportEvents.{export_event}
use Rattle.rz_play_laws.proofs.Events.{export-event}
use Rattle.rz_chronicle.specs.Kinds.{volume_in}
use Rattle.rz_threads_steps.proofs.Added.{Knows, adds-own, replied-as}
use Rattle.rz_threads_steps.proofs.adding.call_export.Goals as goal

pub returns-in-Ok-clause-adds : goal.returns-in-Ok-clause-adds
returns-in-Ok-clause-adds g c =
    let kind = g.J.Naming.kind in
    let old = c.args.pass.now in
    let new = c.export_call-reply.new.pass in
    let rules = subst IsVolume c.requires.volume c.node_count-rules.ensures.rules in
    let knows : Knows kind g.J.Naming.earlier old new = record {
      kept = c.actors_kept.ensures;
      telling = c.facts_told.ensures (volume_in kind) rules;
      rule = c.one_rule.ensures;
      next = c.next_run.ensures (volume_in kind);
      alone = c.added_alone.ensures;
      mine = c.actor-own.ensures.own;
      same = c.export_call-reply.ensures.same;
      has = c.actor-own.ensures.earlier;
      fits = (c.actor-seen.ensures.fit, c.actor-seen.ensures.after);
      places = c.actor-seen.ensures.places;
    } in
    let question = call_of c.args.call in
    adds-own kind g.J.Naming.earlier old new knows (export_event old.actor question c.in-Ok.reply) (λ x is. (export-event old.actor question c.in-Ok.reply x is).by_is) c.in-Ok.ensures.replied.adds

pub returns-in-Ok-clause-answers : goal.returns-in-Ok-clause-answers
returns-in-Ok-clause-answers g c =
    let kind = g.J.Naming.kind in
    let old = c.args.pass.now in
    let new = c.export_call-reply.new.pass in
    let rules = subst IsVolume c.requires.volume c.node_count-rules.ensures.rules in
    let knows : Knows kind g.J.Naming.earlier old new = record {
      kept = c.actors_kept.ensures;
      telling = c.facts_told.ensures (volume_in kind) rules;
      rule = c.one_rule.ensures;
      next = c.next_run.ensures (volume_in kind);
      alone = c.added_alone.ensures;
      mine = c.actor-own.ensures.own;
      same = c.export_call-reply.ensures.same;
      has = c.actor-own.ensures.earlier;
      fits = (c.actor-seen.ensures.fit, c.actor-seen.ensures.after);
      places = c.actor-seen.ensures.places;
    } in
    replied-as kind g.J.Naming.earlier old new knows (c.replied.ensures (volume_in kind) rules) (call_of c.args.call) c.in-Ok.reply c.in-Ok.ensures.replied.adds

pub returns-in-Err-clause-none : goal.returns-in-Err-clause-none
returns-in-Err-clause-none g c =
    let kind = g.J.Naming.kind in
    let old = c.args.pass.now in
    let new = c.export_call-reply.new.pass in
    let rules = subst IsVolume c.requires.volume c.node_count-rules.ensures.rules in
    let knows : Knows kind g.J.Naming.earlier old new = record {
      kept = c.actors_kept.ensures;
      telling = c.facts_told.ensures (volume_in kind) rules;
      rule = c.one_rule.ensures;
      next = c.next_run.ensures (volume_in kind);
      alone = c.added_alone.ensures;
      mine = c.actor-own.ensures.own;
      same = c.export_call-reply.ensures.same;
      has = c.actor-own.ensures.earlier;
      fits = (c.actor-seen.ensures.fit, c.actor-seen.ensures.after);
      places = c.actor-seen.ensures.places;
    } in
    adds-own kind g.J.Naming.earlier old new knows None (λ x is. absurd (cc)) c.in-Err.ensures.unanswered.adds
