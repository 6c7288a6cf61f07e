use Rattle.std.proofs.Common.{◌≡◌, ◌≤◌, ◌*◌, length}
use Rattle.rz_script.specs.Scripts.{no_lines}
use Rattle.rz_generate.specs.Draws.{seeded}
use Rattle.rz_generate.specs.Workload.{volume, before_file, files, with_lines}
use Rattle.rz_generate.proofs.workload.generate.Given as goal

abbrev pub invariant-files : goal.invariant-files
invariant-files l = record {
  volume_is : l.script.volume ≡ volume;
  few : length l.script.lines ≤ 81 * l.number;
  added : l.script ≡ with_lines (no_lines volume) (files (seeded l.fn.seed) l.number);
  drawn : l.generator ≡ before_file (seeded l.fn.seed) l.number;
}
