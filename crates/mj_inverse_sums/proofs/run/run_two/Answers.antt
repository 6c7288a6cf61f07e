use Rattle.std.proofs.Common.{rules, arith, ◌≡◌, ◌≤◌, ◌<◌, ◌+◌, ℕ, List, length}
use Rattle.std.specs.Prelude.{bit_xor}
use Rattle.std.specs.Simd.Lanes.{zip2, chunk}
use Rattle.mj_inverse_sums.proofs.Delayed.{delay}
use Rattle.mj_inverse_sums.proofs.Columns.{delayed_none}
use Rattle.mj_inverse_sums.proofs.Fours.{IsNextTwice, twice_none, none_of_four, next_twice, twice_delayed, twice_back, word_of}
use Rattle.mj_inverse_sums.proofs.run.run_two.Goals as goal

pub fours-init : goal.fours-init
fours-init c = record {
  within = search rules;
  delayed = delayed_none 2 c.args.c.now c.args.d.now;
  four = twice_none;
  start = λ j h small. none_of_four j small;
  back = λ k j e small. absurd (omega arith);
}

pub fours-preserved : goal.fours-preserved
fours-preserved c =
    let l = c.fours in
    let i = c.fours.invariant in
    let word : List ℕ = zip2 bit_xor (chunk l.place 4 l.c) (chunk l.place 4 c.args.d.now) in
    let last : List ℕ = c.four_more-last.result in
    let room : l.place + 4 ≤ length l.c = (let within = i.within in let test = c.fours-test.true in omega arith) in
    let by : l.place + 4 ≤ length c.args.d.now = (let same = c.requires in let kept = l.auto.c in omega arith) in
    let long : length last ≡ 4 = search rules in
    let next : IsNextTwice l.words l.last word last = record {
      last_0 = c.four_more-last.ensures.first;
      last_1 = c.four_more-last.ensures.second;
      last_2 = c.four_more-last.ensures.third;
      last_3 = c.four_more-last.ensures.fourth;
    } in
    record {
      within = search (rules, room);
      delayed = twice_delayed l.words l.last word last i.four next l.place c.args.c.now l.c c.args.d.now room long i.delayed (word_of l.place l.c c.args.d.now room by) i.start i.back;
      four = next_twice l.words l.last word last i.four next;
      start = λ j h small. absurd (omega arith);
      back = twice_back l.words l.last word last i.four next l.place c.args.c.now l.c c.args.d.now room long i.delayed (word_of l.place l.c c.args.d.now room by) i.start i.back;
    }

pub rest-preserved : goal.rest-preserved
rest-preserved c =
    let l = c.rest in
    let in_c : l.t < length l.c = search rules in
    delay 2 l.t c.args.c.now l.c c.args.d.now c.word_before-before.result (omega arith) in_c l.invariant c.word_before-before.ensures.start c.word_before-before.ensures.back
