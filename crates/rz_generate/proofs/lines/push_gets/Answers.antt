use Rattle.std.proofs.Common.{ℕ, ◌≡◌, ◌+◌, length, map, ap, ◌∙◌, arith}
use Rattle.std.specs.List.{range_with_len}
use Rattle.std.proofs.lemmas.List.FromFn.{map-range_with_len_more}
use Rattle.rz_script.specs.Scripts.{Script}
use Rattle.rz_generate.specs.Workload.{get_line, gets, with_lines}
use Rattle.rz_generate.proofs.Files.{none-more, line-more, line-count}
use Rattle.rz_generate.proofs.lines.push_gets.Goals as goal

pub reads-init : goal.reads-init
reads-init c = record { volume_is = c.requires.volume; count = omega arith; added = none-more c.args.script.now }

pub reads-preserved : goal.reads-preserved
reads-preserved c =
    let n = c.reads.block in
    let line = get_line c.args.client c.args.path.now in
    let one : length c.push_get.new.script.lines ≡ length c.reads.script.lines + 1 = line-count c.reads.script c.push_get.new.script (line n) c.in_ok-push_get.ensures in
    let so_far : length c.reads.script.lines ≡ length c.args.script.now.lines + n = c.reads.invariant.count in
    record {
      volume_is = ap (λ (s : Script). s.volume) c.in_ok-push_get.ensures ∙ c.reads.invariant.volume_is;
      count = omega arith;
      added = line-more c.args.script.now c.reads.script c.push_get.new.script (map line (range_with_len 0 n)) (map line (range_with_len 0 (n + 1))) (line n)
          c.reads.invariant.added c.in_ok-push_get.ensures (map-range_with_len_more line 0 n n (omega arith));
    }

pub returns-clause-lines : goal.returns-clause-lines
unfolding gets
returns-clause-lines c =
    let all : c.reads.block ≡ c.args.blocks = omega arith in
    c.reads.invariant.added ∙ ap (λ (k : ℕ). with_lines c.args.script.now (map (get_line c.args.client c.args.path.now) (range_with_len 0 k))) all
