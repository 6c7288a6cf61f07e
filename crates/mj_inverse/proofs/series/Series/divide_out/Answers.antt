use Rattle.std.proofs.Common.{arith, ◌≡◌, ◌≤◌, ◌+◌, ◌-◌, ◌*◌, ℕ, min, max, get_or, refl, ◌∙◌}
use Rattle.std.proofs.Math.Nat.{mul-le-mul_left}
use Rattle.mj_inverse_sums.proofs.Taken.{place_le}
use Rattle.mj_inverse_sums.proofs.Lanes.{place_span, IsSpan, IsFlatRun, IsCut, cut_zero, lane_exact, lane_start, lane_spent}
use Rattle.mj_inverse.proofs.series.Series.divide_out.Goals as goal

pub run_within-requires-clause-by : goal.run_within-requires-clause-by
run_within-requires-clause-by c =
    let u : ℕ = c.args.unit in
    let f : ℕ = c.min-from.result in
    let t : ℕ = c.max-to.result in
    let at : ℕ = c.args.by.now.origin + (f - c.args.self.now.origin) in
    let m = c.requires.meet in
    let order : f ≤ t = omega arith in
    let fits : u * (at + (t - f)) ≤ u * c.args.by.now.room = place_le u (at + (t - f)) c.args.by.now.room (omega arith) in
    rw (place_span u at f t order) (let r = m.second.room in omega arith)

pub run_within-requires-clause-step : goal.run_within-requires-clause-step
run_within-requires-clause-step c =
    let one : 1 ≤ c.max.result - c.min-down.result = omega arith in
    let some = c.requires.meet.first.some in
    let k : c.args.unit * 1 ≤ c.args.unit * (c.max.result - c.min-down.result) = mul-le-mul_left c.args.unit one in
    omega arith

pub padded_end-last-requires-clause-room : goal.padded_end-last-requires-clause-room
padded_end-last-requires-clause-room c =
    let meet = c.requires.meet in
    omega arith

pub take_rest-requires-2-clause-within : goal.take_rest-requires-2-clause-within
take_rest-requires-2-clause-within c =
    let first = c.requires.meet.first in
    let fits = place_le c.args.unit c.padded_end-last.result c.args.self.now.room c.padded_end-last.ensures.high in
    let len = c.take_rest.ensures.len ∙ c.run_within.ensures.len ∙ first.room in
    omega arith

-- the words before, those that are added, and those after each step
abbrev xs : goal.After-self-3-1 → ℕ → ℕ
xs c i = get_or c.args.self.now.words.items i 0

abbrev ys : goal.After-self-3-1 → ℕ → ℕ
ys c i = get_or c.args.by.now.words.items i 0

abbrev zs : goal.After-self-3-1 → ℕ → ℕ
zs c i = get_or c.run_within.new.words.items i 0

abbrev vs : goal.After-self-3-1 → ℕ → ℕ
vs c i = get_or c.take_rest.new.words.items i 0

abbrev ws : goal.After-self-3-1 → ℕ → ℕ
ws c i = get_or c.take_rest-2.new.words.items i 0

-- what the angles differ in
abbrev step : goal.After-self-3-1 → ℕ
step c = c.max.result - c.min-down.result

span : (c : goal.After-self-3-1) →
    IsSpan c.args.unit (xs c) (ys c) c.args.self.now.origin c.args.by.now.origin c.min-from.result c.max-to.result c.min-down.result (step c)
span c =
    let p : ℕ = c.args.by.now.origin in
    let meet = c.requires.meet in
    record {
      low = omega arith;
      order = omega arith;
      stride = omega arith;
      x_below = λ k j h l. meet.first.below k j (omega arith) l;
      x_above = λ k j h l. meet.first.above k j (omega arith) l;
      y_below = λ e j h l. meet.second.below (p + e) j (omega arith) l;
      y_above = λ e j h l. meet.second.above (p + e) j (omega arith) l;
    }

run : (c : goal.After-self-3-1) →
    IsFlatRun c.args.unit (xs c) (ys c) (zs c) c.min-from.result c.max-to.result (c.args.by.now.origin + (c.min-from.result - c.args.self.now.origin)) (step c)
run c = record {
  first = c.run_within.ensures.first;
  next = c.run_within.ensures.next;
  below = c.run_within.ensures.below;
  above = c.run_within.ensures.above;
}

first : (c : goal.After-self-3-1) → IsCut c.args.unit (zs c) (vs c) c.min-from.result c.max-first.result
first c = record {
  zero = c.take_rest.ensures.zero;
  below = c.take_rest.ensures.below;
  above = c.take_rest.ensures.above;
}

last : (c : goal.After-self-3-1) → IsCut c.args.unit (vs c) (ws c) c.max-end.result c.padded_end-last.result
last c = record {
  zero = c.take_rest-2.ensures.zero;
  below = c.take_rest-2.ensures.below;
  above = c.take_rest-2.ensures.above;
}

over : (c : goal.After-self-3-1) → max c.max-to.result c.max-end.result ≤ c.padded_end-last.result
over c = let past = c.padded_end-last.ensures.low in omega arith

-- where the quotient begins and ends
record Ends (c : goal.After-self-3-1) : Type 0 where
  pub down : c.min-down.result + step c ≡ max c.args.self.now.angle c.args.by.now.angle
  pub less : c.min-down.result ≡ min c.args.self.now.angle c.args.by.now.angle
  pub begin : c.max-first.result ≡ max c.min-from.result (c.args.self.now.origin + c.min-down.result)
  pub end : c.max-end.result ≡ max (c.max-to.result - step c) (c.args.self.now.origin + c.min-down.result)

ends : (c : goal.After-self-3-1) → Ends c
ends c = record { down = omega arith; less = omega arith; begin = omega arith; end = omega arith }

pub returns-clause-next : goal.returns-clause-next
returns-clause-next c =
    let meet = c.requires.meet in
    let flat =
    cut_zero c.args.unit (xs c) (ys c) (zs c) (vs c) (ws c) c.args.self.now.origin c.args.by.now.origin c.min-from.result c.max-to.result c.min-down.result (step c) c.max-first.result c.max-end.result c.padded_end-last.result
    (span c) (run c) (first c) (last c) (over c) in
    record {
      is = record {
        some = meet.first.some;
        angle = meet.first.angle;
        order = omega arith;
        within = omega arith;
        room = c.take_rest-2.ensures.len ∙ c.take_rest.ensures.len ∙ c.run_within.ensures.len ∙ meet.first.room;
        below = λ k j l h. flat.0 k j h (omega arith);
        above = λ k j l h. flat.1 k j h l;
      };
      angle = refl;
      room = refl;
      capacity = (let i = c.run_within.ensures.capacity in let j = c.take_rest.ensures.capacity in let k = c.take_rest-2.ensures.capacity in omega arith);
      origin = omega arith;
      low = omega arith;
      reach = λ high x y. omega arith;
    }

pub returns-clause-exact : goal.returns-clause-exact
returns-clause-exact c = λ j h unmarked.
    let e = ends c in
    let behind = c.take_rest-2.ensures.marked j h unmarked in
    let before = c.take_rest.ensures.marked j h behind.0 in (
      before.0,
      lane_exact c.args.unit j (xs c) (ys c) (zs c) (vs c) (ws c) c.args.self.now.origin c.args.by.now.origin c.min-from.result c.max-to.result c.min-down.result (step c) c.max-first.result c.max-end.result c.padded_end-last.result c.args.self.now.angle c.args.by.now.angle
          h (span c) (run c) (first c) (last c) e.down e.less e.begin e.end (over c) before.1 behind.1,
    )

pub returns-clause-divides : goal.returns-clause-divides
returns-clause-divides c = λ j d h unmarked finite is.
    let e = ends c in
    let before = c.take_rest.ensures.unmarked j h unmarked
    (lane_start c.args.unit j (xs c) (ys c) (zs c) (vs c) (ws c) c.args.self.now.origin c.args.by.now.origin c.min-from.result c.max-to.result c.min-down.result (step c) c.max-first.result c.max-end.result c.padded_end-last.result c.args.self.now.angle c.args.by.now.angle
    h (span c) (run c) (first c) (last c) e.down e.less e.begin e.end (over c) d is) in
    c.take_rest-2.ensures.unmarked j h before
    (lane_spent c.args.unit j (xs c) (ys c) (zs c) (vs c) (ws c) c.args.self.now.origin c.args.by.now.origin c.min-from.result c.max-to.result c.min-down.result (step c) c.max-first.result c.max-end.result c.padded_end-last.result c.args.self.now.angle c.args.by.now.angle
    h (span c) (run c) (first c) (last c) e.down e.less e.begin e.end (over c) d finite is)
