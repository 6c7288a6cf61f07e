use Rattle.std.proofs.Common.{rules, arith, refl, ap, ◌∙◌, ◌≡◌, ◌<◌, ◌+◌, ◌-◌, ℕ, subst, get_or, length}
use Rattle.std.specs.Prelude.{bit_xor}
use Rattle.std.proofs.lemmas.List.{places}
use Rattle.mj_inverse_two.proofs.Running.{IsKept, IsRun, kept_more, kept_next, run_more}
use Rattle.mj_inverse_two.proofs.run.run_by.Goals as goal

pub groups-init : goal.groups-init
groups-init g c = record {
  within = omega arith;
  run = record { sums = λ k h. absurd (omega arith); below = λ k h. refl; above = λ k h. refl };
  kept = record {
    done = λ i h. absurd (omega arith);
    left = λ i h m.
        (let low = c.requires.before in
        ap (λ x. get_or c.copy_words.new.out x 0) (let e : i ≡ 0 + i = omega arith in e)
        ∙ c.copy_words.ensures.inside i m
        ∙ ap (λ x. get_or c.args.row.now x 0) (let e : c.args.from - g.row.N + i ≡ c.args.from + 0 + i - g.row.N = omega arith in e));
  };
  long = (let same = c.copy_words.auto.out in search (rules, places));
}

pub loop-j-init : goal.loop-j-init
loop-j-init g c =
    let P : ℕ → Type 0 = λ x. IsRun c.args.from g.row.N x c.args.a.now c.args.b.now c.args.row.now c.groups.row in
    record {
      run = subst P (let e : c.groups.at ≡ c.groups.at + 0 = omega arith in e) c.groups.invariant.run;
      kept = c.groups.invariant.kept;
      long = c.groups.invariant.long;
    }

pub loop-j-preserved : goal.loop-j-preserved
loop-j-preserved g c =
    let within = c.groups.invariant.within in
    let left = c.groups-test.true in
    let small = c.loop-j-test.true in
    let long = c.loop-j.invariant.long in
    let inside : c.groups.at + c.loop-j.j < length c.args.a.now = omega arith in
    let room : c.args.from + c.groups.at + c.loop-j.j < length c.loop-j.row = (let a = c.requires.room in let b = c.groups.auto.row in let d = c.loop-j.auto.row in omega arith) in
    let before : get_or c.loop-j.last c.loop-j.j 0 ≡ get_or c.loop-j.row (c.args.from + (c.groups.at + c.loop-j.j) - g.row.N) 0 =
    c.loop-j.invariant.kept.left c.loop-j.j (omega arith) small
    ∙ ap (λ x. get_or c.loop-j.row x 0) (let e : c.args.from + c.groups.at + c.loop-j.j - g.row.N ≡ c.args.from + (c.groups.at + c.loop-j.j) - g.row.N = omega arith in e) in
    record {
      run = run_more c.args.from g.row.N (c.groups.at + c.loop-j.j) (c.args.from + c.groups.at + c.loop-j.j) (c.groups.at + (c.loop-j.j + 1)) c.args.a.now c.args.b.now c.args.row.now c.loop-j.row _
          (omega arith) (omega arith) c.requires.some c.requires.before inside room
          (ap (bit_xor (bit_xor (get_or c.args.a.now (c.groups.at + c.loop-j.j) 0) (get_or c.args.b.now (c.groups.at + c.loop-j.j) 0))) before) c.loop-j.invariant.run;
      kept = kept_more c.args.from g.row.N c.groups.at c.loop-j.j c.loop-j.last c.loop-j.row _ small long c.requires.before room c.loop-j.invariant.kept;
      long = search (rules, places);
    }

pub groups-preserved : goal.groups-preserved
groups-preserved g c =
    let within = c.groups.invariant.within in
    let left = c.groups-test.true in
    let end : c.loop-j.j ≡ g.row.N = (let most = c.loop-j.auto.j-end in let test = c.loop-j-test.false in omega arith) in
    let P : ℕ → Type 0 = λ x. IsRun c.args.from g.row.N (c.groups.at + x) c.args.a.now c.args.b.now c.args.row.now c.loop-j.row in
    let Q : ℕ → Type 0 = λ x. IsKept c.args.from g.row.N c.groups.at x c.loop-j.last c.loop-j.row in
    record {
      within = omega arith;
      run = subst P end c.loop-j.invariant.run;
      kept = kept_next c.args.from g.row.N c.groups.at (c.groups.at + g.row.N) c.loop-j.last c.loop-j.row refl (subst Q end c.loop-j.invariant.kept);
      long = c.loop-j.invariant.long;
    }

pub returns-clause-below : goal.returns-clause-below
returns-clause-below g c = λ k h. c.run_on.ensures.below k h ∙ c.groups.invariant.run.below k h

pub returns-clause-above : goal.returns-clause-above
returns-clause-above g c = λ k h. c.run_on.ensures.above k h ∙ c.groups.invariant.run.above k h
