use Rattle.std.proofs.Common.{rules, arith, ◌≡◌, ◌<◌, ◌+◌, ◌-◌, ℕ, suc, List, ◌∷◌, length, map, sym, ap, ◌∙◌, subst}
use Rattle.mj_inverse.specs.declared.series.Series.{Series}
use Rattle.mj_inverse_sums.specs.Polynomials.{IsFinite}
use Rattle.mj_inverse.specs.Rows.{joined, Every, Both, HaveValues, Differ, IsDividedOut}
use Rattle.mj_inverse.specs.Series.{seq, angle, angles, AreAt, IsUnmarked, KeepsRoom}
use Rattle.mj_inverse.proofs.Divided.{quotient}
use Rattle.mj_inverse.proofs.Steps.{Left, joined_values, left_of, left_divides, left_values}
use Rattle.mj_inverse.proofs.Levels.{next_room, next_length, next_differ, next_angles, next_at, all_meet, same_room}
use Rattle.mj_inverse.proofs.invert.+invert.Goals as goal

-- what rows leave, where they have the projections all, which are p and rest
left : (s : Series → ℕ → ℕ) (all : List Series) (p : Series) (rest : List Series) → all ≡ p ∷ rest → (fs : List (ℕ → ℕ)) → length fs ≡ length all →
    Every IsFinite fs → HaveValues angle s fs all → Left angle s p rest fs (quotient p.angle fs)
left s all p rest e fs long finite values =
    left_of angle s p rest fs (long ∙ ap length e) finite (let P : List Series → Type 0 = λ xs. HaveValues angle s fs xs in subst P e values)

pub divide_all-requires-clause-meet : goal.divide_all-requires-clause-meet
divide_all-requires-clause-meet t c =
    let p : Series = c.in-Some.pivot.now in
    let xs : List Series = c.in-Some.rest.now in
    let e : c.args.all.now ≡ p ∷ xs = search rules in
    let at : AreAt c.args.unit 0 c.args.high c.args.most (p ∷ xs) =
    (let P : List Series → Type 0 = λ zs. AreAt c.args.unit 0 c.args.high c.args.most zs in subst P e c.requires.at) in
    all_meet c.args.unit (0 + p.angle) 0 c.args.high c.args.most p xs c.requires.room c.requires.least at.0 at.1

pub invert-requires : goal.invert-requires
invert-requires t c =
    let u : ℕ = c.args.unit in
    let p : Series = c.in-Some.pivot.now in
    let xs : List Series = c.in-Some.rest.now in
    let ys : List Series = c.divide_all.new.rest in
    let e : c.args.all.now ≡ p ∷ xs = search rules in
    let n : length c.args.all.now ≡ suc (length ys) = ap length e ∙ ap suc (sym (next_length u p xs ys c.divide_all.ensures.next)) in
    let sum : angles ys ≡ angles xs = next_angles u p xs ys c.divide_all.ensures.next in
    let total : angles c.args.all.now ≡ p.angle + angles xs = ap angles e in
    let at : AreAt u 0 c.args.high c.args.most (p ∷ xs) =
    (let P : List Series → Type 0 = λ zs. AreAt u 0 c.args.high c.args.most zs in subst P e c.requires.at) in
    let differ : Differ angle (p ∷ xs) = (let P : List Series → Type 0 = λ zs. Differ angle zs in subst P e c.requires.differ) in
    let next : AreAt u 0 (c.args.high - p.angle) c.args.most ys =
    next_at u 0 (0 + p.angle) c.args.high c.args.most p xs ys (omega arith) at.0.reach at.1 c.divide_all.ensures.next in
    let high = c.requires.high in
    let room = c.requires.room in
    let fall : length ys < length c.args.all.now = omega arith in (
      search rules,
      (
        next,
        (next_differ u p xs ys differ.1 c.divide_all.ensures.next, (omega arith, (omega arith, (c.requires.least, (c.requires.limit, search rules))))),
      ),
    )

pub returns-in-Some-clause-same : goal.returns-in-Some-clause-same
returns-in-Some-clause-same t c =
    let p : Series = c.in-Some.pivot.now in
    let xs : List Series = c.in-Some.rest.now in
    let ys : List Series = c.divide_all.new.rest in
    let zs : List Series = c.invert.new.all in
    let e : c.args.all.now ≡ p ∷ xs = search rules in
    let P : List Series → Type 0 = λ ws. Both KeepsRoom ws (c.join.new.first ∷ c.join.new.rest) in
    let before : Both KeepsRoom (p ∷ xs) (p ∷ zs) = (omega arith, same_room xs ys zs (next_room c.args.unit p xs ys c.divide_all.ensures.next) c.invert.ensures.same) in
    subst P (sym e) (same_room (p ∷ xs) (p ∷ zs) (c.join.new.first ∷ c.join.new.rest) before c.join.ensures.same)

pub returns-in-Some-clause-values : goal.returns-in-Some-clause-values
returns-in-Some-clause-values t c = λ j h unmarked.
    let s : Series → ℕ → ℕ = seq c.args.unit j in
    let p : Series = c.in-Some.pivot.now in
    let xs : List Series = c.in-Some.rest.now in
    let ys : List Series = c.divide_all.new.rest in
    let zs : List Series = c.invert.new.all in
    let e : c.args.all.now ≡ p ∷ xs = search rules in
    let values = c.invert.ensures.values j h unmarked in
    let exact = c.divide_all.ensures.exact j h values.0 in
    let rows : s c.join.new.first ∷ map s c.join.new.rest ≡ joined p.angle (s p) (map s zs) = c.join.ensures.rows j h in
    let P : List Series → Type 0 = λ ws. HaveValues angle s (s c.join.new.first ∷ map s c.join.new.rest) ws in
    let Q : List (ℕ → ℕ) → Type 0 = λ fs. HaveValues angle s fs (p ∷ xs) in
    (exact.0, subst P (sym e) (subst Q (sym rows) (joined_values angle s p (map s zs) xs ys exact.1 values.1)))

pub returns-in-Some-clause-complete : goal.returns-in-Some-clause-complete
returns-in-Some-clause-complete t c = λ j fs h unmarked long finite values.
    let s : Series → ℕ → ℕ = seq c.args.unit j in
    let p : Series = c.in-Some.pivot.now in
    let xs : List Series = c.in-Some.rest.now in
    let ys : List Series = c.divide_all.new.rest in
    let zs : List Series = c.invert.new.all in
    let e : c.args.all.now ≡ p ∷ xs = search rules in
    let hs : List (ℕ → ℕ) = quotient p.angle fs in
    let l = left s c.args.all.now p xs e fs long finite values in
    let differ : Differ angle (p ∷ xs) = (let P : List Series → Type 0 = λ zs. Differ angle zs in subst P e c.requires.differ) in
    let still : IsUnmarked c.divide_all.new.bad j = c.divide_all.ensures.divides j h unmarked (left_divides angle s p hs l.finite xs l.exact) in
    let exact : Both (IsDividedOut angle s p) xs ys = (c.divide_all.ensures.exact j h still).1 in
    let found : IsUnmarked c.invert.new.bad j × (hs ≡ map s zs) =
    c.invert.ensures.complete j hs h still (l.count ∙ sym (next_length c.args.unit p xs ys c.divide_all.ensures.next)) l.finite (left_values angle s p hs xs ys differ.0 exact l.exact) in
    let rows : s c.join.new.first ∷ map s c.join.new.rest ≡ joined p.angle (s p) (map s zs) = c.join.ensures.rows j h in
    (found.0, sym l.back ∙ ap (joined p.angle (s p)) found.1 ∙ sym rows)
