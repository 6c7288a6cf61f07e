use Rattle.std.proofs.Common.{◌≡◌, ◌+◌, length, map}
use Rattle.std.specs.List.{range_with_len}
use Rattle.rz_generate.specs.Draws.{after}
use Rattle.rz_generate.specs.Workload.{volume, whole_put, with_lines}
use Rattle.rz_generate.proofs.lines.push_puts.Given as goal

abbrev pub invariant-writes : goal.invariant-writes
invariant-writes l = record {
  volume_is : l.script.volume ≡ volume;
  count : length l.script.lines ≡ length l.fn.script.lines + l.block;
  added : l.script ≡ with_lines l.fn.script (map (whole_put l.client l.path l.fn.generator) (range_with_len 0 l.block));
  drawn : l.generator ≡ after l.fn.generator (l.block + 1);
}
