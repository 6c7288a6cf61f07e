use Rattle.std.proofs.Common.{ℕ, ◌≡◌, ◌+◌, ◌%◌, List, [], ◌∷◌, ◌++◌, length, map, sym, ap, ◌∙◌, arith}
use Rattle.std.specs.List.{range_with_len}
use Rattle.std.proofs.lemmas.List.FromFn.{map-range_with_len_more}
use Rattle.rz_events.specs.declared.operations.Datum.TheVariants.{Made}
use Rattle.rz_script.specs.declared.line.Line.{Line}
use Rattle.rz_script.specs.Scripts.{Script}
use Rattle.rz_generate.specs.Draws.{draw, drawn_from}
use Rattle.rz_generate.specs.Workload.{put_line, last_block, whole_put}
use Rattle.rz_generate.proofs.Files.{none-more, line-more, line-count, after-more, whole-is, after-whole, puts-whole}
use Rattle.rz_generate.proofs.lines.push_puts.Goals as goal

pub writes-init : goal.writes-init
writes-init c = record {
  volume_is = c.requires.volume;
  count = omega arith;
  added = none-more c.args.script.now;
  drawn = c.next_draw-last.ensures.after;
}

pub writes-preserved : goal.writes-preserved
writes-preserved c =
    let g = c.args.generator.now in
    let client = c.args.client in
    let path : List ℕ = c.args.path.now in
    let n = c.writes.block in
    let seed = c.next_seed-seed.result in
    let whole = whole_put client path g in
    let line = put_line client path n (Made 4096 seed) in
    let one : length c.push_put.new.script.lines ≡ length c.writes.script.lines + 1 = line-count c.writes.script c.push_put.new.script line c.in_ok-push_put.ensures in
    let so_far : length c.writes.script.lines ≡ length c.args.script.now.lines + n = c.writes.invariant.count in
    let line_is : whole n ≡ line = whole-is client path g c.writes.generator n seed c.writes.invariant.drawn c.next_seed-seed.ensures.value in
    record {
      volume_is = ap (λ (s : Script). s.volume) c.in_ok-push_put.ensures ∙ c.writes.invariant.volume_is;
      count = omega arith;
      added = line-more c.args.script.now c.writes.script c.push_put.new.script (map whole (range_with_len 0 n)) (map whole (range_with_len 0 (n + 1))) line
          c.writes.invariant.added c.in_ok-push_put.ensures
          (map-range_with_len_more whole 0 n n (omega arith) ∙ ap (λ (l : Line). map whole (range_with_len 0 n) ++ l ∷ []) line_is);
      drawn = c.next_seed-seed.ensures.after ∙ ap drawn_from c.writes.invariant.drawn ∙ sym (after-more g (n + 1));
    }

pub returns-clause-lines : goal.returns-clause-lines
unfolding last_block
returns-clause-lines c =
    let g = c.args.generator.now in
    let h = c.writes.generator in
    let last_is : c.next_draw-last.result % 40 ≡ last_block g = ap (λ (x : ℕ). x % 40) c.next_draw-last.ensures.value in
    let all : c.writes.block ≡ c.next_draw-last.result % 40 = omega arith in
    puts-whole c.args.script.now c.writes.script c.push_put-2.new.script c.args.client c.args.path.now g h c.writes.block (c.next_draw-last.result % 40)
    c.next_seed-seed-2.result (1 + c.next_draw.result % 4096) (all ∙ last_is) last_is c.writes.invariant.drawn c.next_seed-seed-2.ensures.value
    (ap (λ (x : ℕ). 1 + x % 4096) (c.next_draw.ensures.value ∙ ap draw c.next_seed-seed-2.ensures.after)) c.writes.invariant.added c.in_ok-push_put-2.ensures

pub returns-clause-after : goal.returns-clause-after
unfolding last_block
returns-clause-after c =
    let g = c.args.generator.now in
    let h = c.writes.generator in
    let last_is : c.next_draw-last.result % 40 ≡ last_block g = ap (λ (x : ℕ). x % 40) c.next_draw-last.ensures.value in
    let all : c.writes.block ≡ c.next_draw-last.result % 40 = omega arith in
    c.next_draw.ensures.after ∙ ap drawn_from c.next_seed-seed-2.ensures.after ∙ after-whole g h c.writes.block (all ∙ last_is) c.writes.invariant.drawn
