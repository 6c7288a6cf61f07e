use Rattle.std.proofs.Common.{rules}
use Rattle.serde_json.specs.View.{view}
use Rattle.rz_config.specs.Described.{described_volume}
use Rattle.rz_config.proofs.Good.{volume_ok}
use Rattle.rz_config.proofs.reading.read_volume.Goals as goal

pub invariant_of-result : goal.invariant_of-result
unfolding described_volume
invariant_of-result c =
    (c.bsize.ensures.value, volume_ok (view c.args.value.now) (record { layout = c.in_ok-layout.layout; clusters = c.in_ok-clusters.clusters.items }) (search rules))
