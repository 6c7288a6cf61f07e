use Rattle.std.proofs.Common.{arith, ◌≤◌, ◌+◌, ◌-◌, ◌*◌, ℕ, get_or, ◌∙◌}
use Rattle.mj_inverse_sums.proofs.Places.{added_raised, added_zero}
use Rattle.mj_inverse_sums.proofs.Taken.{place_below, place_le}
use Rattle.mj_inverse_sums.proofs.Lanes.{lane, place_span, lane_added, IsFlatAdded}
use Rattle.mj_inverse.proofs.series.Series.add_raised.Goals as goal

pub add_within-requires-clause-order : goal.add_within-requires-clause-order
add_within-requires-clause-order c =
    let order = c.requires.other.order in
    let low = c.padded_end-end.ensures.low in
    place_le c.args.unit c.args.other.now.from c.padded_end-end.result (omega arith)

pub add_within-requires-clause-by : goal.add_within-requires-clause-by
add_within-requires-clause-by c =
    let high = c.padded_end-end.ensures.high in
    let fits = place_le c.args.unit c.padded_end-end.result c.args.other.now.room (omega arith) in
    let room = c.requires.other.room in
    omega arith

pub add_within-requires-clause-within : goal.add_within-requires-clause-within
add_within-requires-clause-within c =
    let u : ℕ = c.args.unit in
    let at : ℕ = c.args.self.now.origin + c.args.up + (c.args.other.now.from - c.args.other.now.origin) in
    let f : ℕ = c.args.other.now.from in
    let t : ℕ = c.padded_end-end.result in
    let low = c.padded_end-end.ensures.low in
    let high = c.padded_end-end.ensures.high in
    let own : f ≤ c.args.other.now.to = c.requires.other.order in
    let order : f ≤ t = omega arith in
    let fits : u * (at + (t - f)) ≤ u * c.args.self.now.room = place_le u (at + (t - f)) c.args.self.now.room (omega arith) in
    rw (place_span u at f t order) (let r = c.requires.is.room in omega arith)

pub returns-clause-is : goal.returns-clause-is
returns-clause-is c =
    let u : ℕ = c.args.unit in
    let xs : ℕ → ℕ = λ i. get_or c.args.self.now.words.items i 0 in
    let ys : ℕ → ℕ = λ i. get_or c.args.other.now.words.items i 0 in
    let zs : ℕ → ℕ = λ i. get_or c.add_within.new.words.items i 0 in
    let o : ℕ = c.args.self.now.origin in
    let p : ℕ = c.args.other.now.origin in
    let f : ℕ = c.args.other.now.from in
    let t : ℕ = c.padded_end-end.result in
    let at : ℕ = o + c.args.up + (f - p) in
    let low = c.padded_end-end.ensures.low in
    let own : f ≤ c.args.other.now.to = c.requires.other.order in
    let order : f ≤ t = omega arith in
    let flat : IsFlatAdded u xs ys zs (o + c.args.up + (f - p)) f t = record {
      inside = c.add_within.ensures.inside;
      below = c.add_within.ensures.below;
      above = c.add_within.ensures.above;
    } in
    record {
      some = c.requires.is.some;
      angle = c.requires.is.angle;
      order = omega arith;
      within = omega arith;
      room = c.add_within.ensures.len ∙ c.requires.is.room;
      below = λ k j early small.
          c.add_within.ensures.below (u * k + j) (place_below u k j at small (omega arith)) ∙ c.requires.is.below k j (omega arith) small;
      above = λ k j late small.
          added_zero (lane u j xs) (lane u j ys) (lane u j zs) o p c.args.up f t
          (lane_added u j xs ys zs o p c.args.up f t small c.requires.low order c.requires.other.below (λ k j l h. c.requires.other.above k j (omega arith) h) flat)
          k (c.requires.is.above k j (omega arith) small) (λ l. c.requires.other.above (f + (k - at)) j (omega arith) small);
    }

pub returns-clause-sum : goal.returns-clause-sum
returns-clause-sum c = λ j small.
    let u : ℕ = c.args.unit in
    let xs : ℕ → ℕ = λ i. get_or c.args.self.now.words.items i 0 in
    let ys : ℕ → ℕ = λ i. get_or c.args.other.now.words.items i 0 in
    let zs : ℕ → ℕ = λ i. get_or c.add_within.new.words.items i 0 in
    let o : ℕ = c.args.self.now.origin in
    let p : ℕ = c.args.other.now.origin in
    let f : ℕ = c.args.other.now.from in
    let t : ℕ = c.padded_end-end.result in
    let low = c.padded_end-end.ensures.low in
    let own : f ≤ c.args.other.now.to = c.requires.other.order in
    let order : f ≤ t = omega arith in
    let flat : IsFlatAdded u xs ys zs (o + c.args.up + (f - p)) f t = record {
      inside = c.add_within.ensures.inside;
      below = c.add_within.ensures.below;
      above = c.add_within.ensures.above;
    } in
    added_raised (lane u j xs) (lane u j ys) (lane u j zs) o p c.args.up f t
    (lane_added u j xs ys zs o p c.args.up f t small c.requires.low order c.requires.other.below (λ k j l h. c.requires.other.above k j (omega arith) h) flat)
