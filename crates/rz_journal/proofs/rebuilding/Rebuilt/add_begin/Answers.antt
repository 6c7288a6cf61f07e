-- More bytes than a block has are not accepted.
use Rattle.std.proofs.Common.{rules, ◌<◌}
use Rattle.mj_angles.specs.Layout.{block_bytes_of}
use Rattle.rz_journal.proofs.Openings.{long_stops}
use Rattle.rz_journal.proofs.rebuilding.Rebuilt.add_begin.Goals as goal

pub returns-then-block_bytes-bytes : goal.returns-then-block_bytes-bytes
returns-then-block_bytes-bytes c =
    let old = c.args.self.now in
    let long : block_bytes_of old.export.volume.layout < c.args.bytes = search rules in
    long_stops old.stage old.export c.args.key c.args.bytes old.stage old.export long
