use Rattle.std.proofs.Common.{arith, refl, ◌∙◌, ◌+◌, ◌*◌, ℕ}
use mathlib.Core.Path.{fun_ext}
use Rattle.mj_inverse_sums.proofs.Taken.{place_le}
use Rattle.mj_inverse.proofs.series.Series.spread.Goals as goal

pub add_zeros-requires-clause-more : goal.add_zeros-requires-clause-more
add_zeros-requires-clause-more c =
    let room = c.requires.is.room in
    let more = place_le c.args.unit c.args.self.now.room c.args.room c.requires.more in
    omega arith

pub returns-clause-spread : goal.returns-clause-spread
returns-clause-spread c =
    let u : ℕ = c.args.unit in
    let is = c.requires.is in
    record {
      is = record {
        some = is.some;
        angle = is.angle;
        order = is.order;
        within = (let a = is.within in let b = c.requires.more in omega arith);
        room = c.add_zeros.ensures.len;
        below = λ t j h l. c.add_zeros.ensures.same (u * t + j) ∙ is.below t j h l;
        above = λ t j h l. c.add_zeros.ensures.same (u * t + j) ∙ is.above t j h l;
      };
      capacity = c.add_zeros.ensures.capacity;
      angle = refl;
      origin = refl;
      from = refl;
      to = refl;
      words = λ j. fun_ext (λ e. c.add_zeros.ensures.same (u * (c.args.self.now.origin + e) + j));
    }
