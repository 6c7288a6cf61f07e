use Rattle.std.proofs.Common.{arith, refl}
use Rattle.mj_inverse_sums.proofs.Taken.{place_le}
use Rattle.mj_inverse.proofs.Trimmed.{trimmed_series}
use Rattle.mj_inverse.proofs.series.Series.trim.Goals as goal

pub first_used-from-requires-clause-within : goal.first_used-from-requires-clause-within
first_used-from-requires-clause-within c =
    let is = c.requires in
    let room = is.room in
    let le = place_le c.args.unit c.args.self.now.to c.args.self.now.room is.within in
    omega arith

pub end_of_used-to-requires-clause-within : goal.end_of_used-to-requires-clause-within
end_of_used-to-requires-clause-within c =
    let is = c.requires in
    let room = is.room in
    let le = place_le c.args.unit c.args.self.now.to c.args.self.now.room is.within in
    omega arith

pub returns : goal.returns
returns c =
    let is = c.requires in
    record {
      is = trimmed_series c.args.unit c.args.self.now c.first_used-from.result c.end_of_used-to.result is c.first_used-from.ensures.low c.end_of_used-to.ensures.low c.end_of_used-to.ensures.high
          c.first_used-from.ensures.zero c.end_of_used-to.ensures.zero;
      angle = refl;
      room = refl;
      origin = refl;
      words = refl;
      from = c.first_used-from.ensures.low;
      to = c.end_of_used-to.ensures.high;
    }
