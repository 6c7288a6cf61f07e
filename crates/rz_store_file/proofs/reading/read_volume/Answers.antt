use Rattle.std.proofs.Common.{codes, sym}
use Rattle.serde_json.specs.Read.{max_depth}
use Rattle.serde_json.specs.View.{view}
use Rattle.rz_store_file.proofs.Nested.{inner}
use Rattle.rz_store_file.proofs.reading.read_volume.Goals as goal

pub read_volume_value-requires : goal.read_volume_value-requires
read_volume_value-requires c = inner (codes "volume") (view c.args.value.now) (view c.in-Some.volume.now) max_depth (sym c.in-Some.ensures) c.requires
