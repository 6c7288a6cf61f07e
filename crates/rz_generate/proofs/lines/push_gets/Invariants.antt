use Rattle.std.proofs.Common.{◌≡◌, ◌+◌, length, map}
use Rattle.std.specs.List.{range_with_len}
use Rattle.rz_generate.specs.Workload.{volume, get_line, with_lines}
use Rattle.rz_generate.proofs.lines.push_gets.Given as goal

abbrev pub invariant-reads : goal.invariant-reads
invariant-reads l = record {
  volume_is : l.script.volume ≡ volume;
  count : length l.script.lines ≡ length l.fn.script.lines + l.block;
  added : l.script ≡ with_lines l.fn.script (map (get_line l.client l.path) (range_with_len 0 l.block));
}
