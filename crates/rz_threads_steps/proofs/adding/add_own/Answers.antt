use Rattle.std.proofs.Common.{subst}
use Rattle.rz_events.specs.Volume.{IsVolume}
use Rattle.rz_chronicle.specs.Kinds.{volume_in}
use Rattle.rz_threads_steps.proofs.Added.{Knows, commits-own}
use Rattle.rz_threads_steps.proofs.adding.add_own.Goals as goal

pub returns : goal.returns
returns g c =
    let kind = g.J.Naming.kind in
    let knows : Knows kind g.J.Naming.earlier c.args.pass.now c.finish.new.pass = record {
      kept = c.actors_kept.ensures;
      telling = c.facts_told.ensures (volume_in kind) (subst IsVolume c.requires.volume c.node_count-rules.ensures.rules);
      rule = c.one_rule.ensures;
      next = c.next_run.ensures (volume_in kind);
      alone = c.added_alone.ensures;
      mine = c.actor-own.ensures.own;
      same = c.finish.ensures.same;
      has = c.actor-own.ensures.earlier;
      fits = (c.actor-seen.ensures.fit, c.actor-seen.ensures.after);
      places = c.actor-seen.ensures.places;
    } in
    commits-own kind g.J.Naming.earlier c.args.pass.now c.finish.new.pass knows c.args.event.now c.requires.by c.finish.ensures.commits
