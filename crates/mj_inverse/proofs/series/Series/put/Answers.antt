use Rattle.std.proofs.Common.{rules, arith, ◌≡◌, ◌≤◌, ◌+◌, ◌-◌, ◌*◌, ℕ, ℤ, length, refl, sym, ap, ◌∙◌, subst, w32, to_z, of_z, vec_len}
use Rattle.std.specs.Prelude.{unsigned_abs}
use Rattle.std.proofs.lemmas.Int.{to_z-of_z}
use Rattle.mj_angles.specs.Projection.{bins, offset}
use Rattle.mj_inverse.specs.Store.{room_of}
use Rattle.mj_inverse_sums.proofs.Taken.{place_below, place_le}
use Rattle.mj_inverse.proofs.Put.{offset_le, past, slice_is}
use Rattle.mj_inverse.proofs.series.Series.put.Goals as goal

pub put_words-requires-clause-room : goal.put_words-requires-clause-room
put_words-requires-clause-room c =
    let u : ℕ = c.args.unit in
    let is : to_z w32 (of_z w32 c.args.p) ≡ c.args.p = to_z-of_z w32 c.args.p (search rules) in
    let from : ℕ = 16 * c.args.rows - c.offset.result in
    let n : ℕ = c.bins.result in
    let size : length c.args.bins.now ≡ u * n = c.requires.size ∙ ap (λ p. u * bins p c.args.rows c.args.cols) (sym is) ∙ ap (λ n. u * n) (sym c.bins.ensures.value) in
    let few = c.bins.ensures.few in
    let capacity = c.requires.spare.capacity in
    let shape = c.requires.shape in
    let k : u * (from + n) ≤ u * room_of c.args.rows c.args.cols = place_le u (from + n) (room_of c.args.rows c.args.cols) (omega arith) in
    omega arith

pub returns-clause-given : goal.returns-clause-given
returns-clause-given c =
    let u : ℕ = c.args.unit in
    let is : to_z w32 (of_z w32 c.args.p) ≡ c.args.p = to_z-of_z w32 c.args.p (search rules) in
    let from : ℕ = 16 * c.args.rows - c.offset.result in
    let n : ℕ = c.bins.result in
    let size : length c.args.bins.now ≡ u * n = c.requires.size ∙ ap (λ p. u * bins p c.args.rows c.args.cols) (sym is) ∙ ap (λ n. u * n) (sym c.bins.ensures.value) in
    let small : unsigned_abs (to_z w32 (of_z w32 c.args.p)) ≤ 16 = (let P : ℤ → Type 0 = λ p. unsigned_abs p ≤ 16 in subst P (sym is) c.requires.small) in
    let off : c.offset.result ≡ offset (to_z w32 (of_z w32 c.args.p)) c.args.rows = c.offset.ensures in
    let least = offset_le (to_z w32 (of_z w32 c.args.p)) c.args.rows small in
    let shape = c.requires.shape in
    let len : vec_len c.put_words.new.words ≡ u * (from + n) = (let l = c.put_words.ensures.len in omega arith) in
    let long : length c.put_words.new.words.items ≡ vec_len c.put_words.new.words = search rules in
    record {
      is = record {
        some = c.requires.some;
        angle = c.lifted_angle-self.ensures.small;
        order = omega arith;
        within = omega arith;
        room = len;
        below = λ t j h l. c.put_words.ensures.below (u * t + j) (place_below u t j from l h);
        above = λ t j h l. past c.put_words.new.words.items (u * (from + n)) (u * t + j) (long ∙ len) (let k = place_le u (from + n) t h in omega arith);
      };
      capacity = (let a = c.put_words.ensures.capacity in let b = c.requires.spare.capacity in omega arith);
      small = small;
      lifts = c.lifted_angle-self.ensures.value;
      start = refl;
      first = omega arith;
      last = ap (λ n. from + n) c.bins.ensures.value;
      full = refl;
    }

pub returns-clause-bins : goal.returns-clause-bins
returns-clause-bins c =
    let u : ℕ = c.args.unit in
    let is : to_z w32 (of_z w32 c.args.p) ≡ c.args.p = to_z-of_z w32 c.args.p (search rules) in
    let from : ℕ = 16 * c.args.rows - c.offset.result in
    let n : ℕ = c.bins.result in
    let size : length c.args.bins.now ≡ u * n = c.requires.size ∙ ap (λ p. u * bins p c.args.rows c.args.cols) (sym is) ∙ ap (λ n. u * n) (sym c.bins.ensures.value) in
    let len = c.put_words.ensures.len in
    let long : length c.put_words.new.words.items ≡ vec_len c.put_words.new.words = search rules in
    slice_is c.put_words.new.words.items c.args.bins.now (u * from) (u * (from + n)) (omega arith) (omega arith) c.put_words.ensures.inside
