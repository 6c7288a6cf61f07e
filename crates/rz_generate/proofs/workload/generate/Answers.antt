use Rattle.std.proofs.Common.{◌≡◌, ◌≤◌, ◌+◌, ◌*◌, ◌/◌, ◌%◌, List, ◌++◌, length, sym, ap, ◌∙◌, arith}
use Rattle.rand_pcg.specs.Lcg.{Lcg}
use Rattle.rz_script.specs.declared.line.Line.{Line}
use Rattle.rz_script.specs.Scripts.{Script, no_lines}
use Rattle.rz_generate.specs.Draws.{seeded}
use Rattle.rz_generate.specs.Workload.{volume, path_of, file_lines, after_file, files, with_lines}
use Rattle.rz_generate.proofs.Files.{files-none, files-more, file-numbered, before-more, lines-more}
use Rattle.rz_generate.proofs.workload.generate.Goals as goal

pub files-init : goal.files-init
files-init c =
    let g : Lcg = seeded c.args.seed in
    let made : c.new-script.result ≡ no_lines volume = c.new-script.ensures ∙ ap no_lines c.in_ok-workload_volume.ensures in
    let none : length c.new-script.result.lines ≡ 0 = ap (λ (s : Script). length s.lines) made in
    record {
      volume_is = ap (λ (s : Script). s.volume) made;
      few = omega arith;
      added = made ∙ ap (λ (ls : List Line). with_lines (no_lines volume) ls) (sym (files-none g));
      drawn = c.generator_of-generator.ensures;
    }

pub files-preserved : goal.files-preserved
files-preserved c =
    let g : Lcg = seeded c.args.seed in
    let n = c.files.number in
    let more : length c.push_file.new.script.lines ≤ length c.files.script.lines + 81 = c.in_ok-push_file.ensures.few in
    let few : length c.files.script.lines ≤ 81 * n = c.files.invariant.few in
    let lines = file_lines (1 + n / 25) (path_of (1 + n / 25) (1 + n % 25)) c.files.generator in
    record {
      volume_is = ap (λ (s : Script). s.volume) c.in_ok-push_file.ensures.lines ∙ c.files.invariant.volume_is;
      few = omega arith;
      added = lines-more (no_lines volume) c.files.script c.push_file.new.script (files g n) lines (files g (n + 1)) c.files.invariant.added c.in_ok-push_file.ensures.lines
          (files-more g n ∙ ap (λ (ls : List Line). files g n ++ ls) (file-numbered g c.files.generator n c.files.invariant.drawn));
      drawn = c.in_ok-push_file.ensures.after ∙ ap after_file c.files.invariant.drawn ∙ sym (before-more g n);
    }
