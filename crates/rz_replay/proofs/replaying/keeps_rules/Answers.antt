use Rattle.std.proofs.Common.{subst}
use Rattle.rz_events.specs.Volume.{IsVolume}
use Rattle.rz_replay.proofs.replaying.keeps_rules.Goals as goal

pub returns : goal.returns
returns c = record {
  volume = subst IsVolume c.volume.ensures c.node_count-nodes.ensures.rules;
  limits = c.lines-lines.ensures.limits;
  few = c.lines-lines.ensures.few;
}
