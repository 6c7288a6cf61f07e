use Rattle.std.proofs.Common.{rules, arith, ◌≡◌, ◌≤◌, ◌<◌, ◌+◌, ◌-◌, ℕ, length}
use Rattle.mj_inverse_sums.proofs.Delayed.{delay}
use Rattle.mj_inverse_sums.proofs.Columns.{delayed_none, carried_none, row_delayed, front_carried, back_carried_at}
use Rattle.mj_inverse_sums.proofs.run.run_columns.Goals as goal

pub rows-init : goal.rows-init
rows-init g c = record {
  within = search rules;
  delayed = delayed_none c.args.step c.args.c.now c.args.d.now;
  front = carried_none c.args.step g.row.A 0 c.args.c.now (let low = c.requires.first in omega arith);
  back = carried_none c.args.step g.row.B (0 + (c.args.step - g.row.B)) c.args.c.now (let low = c.requires.last in omega arith);
}

pub rows-preserved : goal.rows-preserved
rows-preserved g c =
    let l = c.rows in
    let i = c.rows.invariant in
    let s : ℕ = c.args.step in
    let n : ℕ = g.row.A in
    let o : ℕ = g.row.B in
    let low = c.requires.first in
    let few = c.requires.last in
    let all = c.requires.all in
    let ff : length l.front ≡ n = l.auto.front.0 in
    let fb : length l.back ≡ o = l.auto.back.0 in
    let room : l.at + s ≤ length l.c = (let within = i.within in let test = c.rows-test.true in omega arith) in
    let by : l.at + s ≤ length c.args.d.now = (let same = c.requires.same in let kept = l.auto.c in omega arith) in
    let place : l.at + (s - o) + o ≡ l.at + s = omega arith in
    let moved : l.at + (s - o) + s ≡ l.at + s + (s - o) = omega arith in
    record {
      within = search (rules, room);
      delayed = row_delayed s n o l.at (l.at + (s - o)) c.args.c.now l.c c.args.d.now l.front l.back place low few all room by ff fb i.delayed i.front i.back;
      front = front_carried s n o l.at (l.at + (s - o)) c.args.c.now l.c c.args.d.now l.front l.back place low few all room by ff fb i.delayed i.front i.back;
      back = back_carried_at s n o l.at (l.at + (s - o)) c.args.c.now l.c c.args.d.now l.front l.back place low few all room by ff fb i.delayed i.front i.back (l.at + s + (s - o)) moved;
    }

pub rest-preserved : goal.rest-preserved
rest-preserved g c =
    let l = c.rest in
    let in_c : l.t < length l.c = search rules in
    let some = c.requires.some in
    let low = c.requires.first in
    delay c.args.step l.t c.args.c.now l.c c.args.d.now c.word_before-before.result (omega arith) in_c l.invariant c.word_before-before.ensures.start c.word_before-before.ensures.back
