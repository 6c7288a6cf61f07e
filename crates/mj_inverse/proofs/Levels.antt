-- What each step keeps of the places.
use Rattle.std.proofs.Common.{◌≡◌, ◌≢◌, ℕ, suc, refl, sym, ap, ◌∙◌, ◌+◌, ◌-◌, ◌≤◌, arith, List, [], ◌∷◌, length}
use Rattle.mj_inverse.specs.declared.series.Series.{Series}
use Rattle.mj_inverse.specs.Rows.{Every, Both, Differ}
use Rattle.mj_inverse.specs.Series.{angle, angles, AreAt, IsAt, IsNext, KeepsRoom, Meet}

pub next_room : (unit : ℕ) (p : Series) (xs ys : List Series) → Both (IsNext unit p) xs ys → Both KeepsRoom xs ys
next_room unit p [] [] both = tt
next_room unit p [] (y ∷ ys) both = absurd both
next_room unit p (x ∷ xs) [] both = absurd both
next_room unit p (x ∷ xs) (y ∷ ys) (n, both) = (n.capacity, next_room unit p xs ys both)

pub next_length : (unit : ℕ) (p : Series) (xs ys : List Series) → Both (IsNext unit p) xs ys → length ys ≡ length xs
next_length unit p [] [] both = refl
next_length unit p [] (y ∷ ys) both = absurd both
next_length unit p (x ∷ xs) [] both = absurd both
next_length unit p (x ∷ xs) (y ∷ ys) (n, both) = ap suc (next_length unit p xs ys both)

other_next : (unit a : ℕ) (p : Series) (xs ys : List Series) → Every (λ x. x.angle ≢ a) xs → Both (IsNext unit p) xs ys → Every (λ y. y.angle ≢ a) ys
other_next unit a p [] [] differ both = tt
other_next unit a p [] (y ∷ ys) differ both = absurd both
other_next unit a p (x ∷ xs) [] differ both = absurd both
other_next unit a p (x ∷ xs) (y ∷ ys) (ne, differ) (n, both) = (λ e. ne (sym n.angle ∙ e), other_next unit a p xs ys differ both)

pub next_differ : (unit : ℕ) (p : Series) (xs ys : List Series) → Differ angle xs → Both (IsNext unit p) xs ys → Differ angle ys
next_differ unit p [] [] differ both = tt
next_differ unit p [] (y ∷ ys) differ both = absurd both
next_differ unit p (x ∷ xs) [] differ both = absurd both
next_differ unit p (x ∷ xs) (y ∷ ys) (ne, differ) (n, both) = (
  other_next unit y.angle p xs ys (moved xs ne) both,
  next_differ unit p xs ys differ both,
)
  where
    moved : (xs : List Series) → Every (λ z. angle z ≢ angle x) xs → Every (λ z. z.angle ≢ y.angle) xs
    moved [] d = tt
    moved (z ∷ zs) (e, d) = (λ h. e (h ∙ n.angle), moved zs d)

pub next_angles : (unit : ℕ) (p : Series) (xs ys : List Series) → Both (IsNext unit p) xs ys → angles ys ≡ angles xs
next_angles unit p [] [] both = refl
next_angles unit p [] (y ∷ ys) both = absurd both
next_angles unit p (x ∷ xs) [] both = absurd both
next_angles unit p (x ∷ xs) (y ∷ ys) (n, both) =
    ap (λ a. a + angles ys) n.angle ∙ ap (λ a. x.angle + a) (next_angles unit p xs ys both)

-- the angle of p has been divided out
pub next_at : (unit n n' high most : ℕ) (p : Series) (xs ys : List Series) → n' ≡ n + p.angle → p.to ≤ p.origin + high → AreAt unit n' high most xs →
    Both (IsNext unit p) xs ys → AreAt unit n (high - p.angle) most ys
next_at unit n n' high most p [] [] sum reach at both = tt
next_at unit n n' high most p [] (y ∷ ys) sum reach at both = absurd both
next_at unit n n' high most p (x ∷ xs) [] sum reach at both = absurd both
next_at unit n n' high most p (x ∷ xs) (y ∷ ys) sum reach (at_x, at) (m, both) = (
  one,
  next_at unit (n + y.angle) (n' + x.angle) high most p xs ys (let a = m.angle in omega arith) reach at both,
)
  where
    one : IsAt unit n (high - p.angle) most y
    one =
        let d = at_x.room in
        let j = m.origin in
        let k = m.room in
        let r = m.reach high at_x.reach reach in
        record {
          is = m.is;
          low = m.low;
          reach = omega arith;
          room = omega arith;
        }

-- each meets p
pub all_meet : (unit n m high most : ℕ) (p : Series) (xs : List Series) → high ≤ most → 32 ≤ most → IsAt unit m high most p → AreAt unit n high most xs →
    Every (λ s. Meet unit s p) xs
all_meet unit n m high most p [] le least at_p at = tt
all_meet unit n m high most p (x ∷ xs) le least at_p (at_x, at) = (
  record {
    first = at_x.is;
    second = at_p.is;
    first_low = at_x.low;
    second_low = at_p.low;
    own_room = (let a = at_x.room in omega arith);
    first_room = (let a = at_x.room in let b = at_p.reach in omega arith);
    second_room = (let a = at_p.room in let b = at_x.reach in omega arith);
  },
  all_meet unit (n + x.angle) m high most p xs le least at_p at,
)

pub same_room : (xs ys zs : List Series) → Both KeepsRoom xs ys → Both KeepsRoom ys zs → Both KeepsRoom xs zs
same_room [] [] zs a b = b
same_room [] (y ∷ ys) zs a b = absurd a
same_room (x ∷ xs) [] zs a b = absurd a
same_room (x ∷ xs) (y ∷ ys) [] a b = absurd b
same_room (x ∷ xs) (y ∷ ys) (z ∷ zs) (a, as') (b, bs) = (omega arith, same_room xs ys zs as' bs)

pub same_length : (xs ys : List Series) → Both KeepsRoom xs ys → length ys ≡ length xs
same_length [] [] a = refl
same_length [] (y ∷ ys) a = absurd a
same_length (x ∷ xs) [] a = absurd a
same_length (x ∷ xs) (y ∷ ys) (a, as') = ap suc (same_length xs ys as')
