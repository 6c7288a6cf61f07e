-- As many projections as rows determine a block.
use Rattle.std.proofs.Common.{◌≡◌, ℕ, ◌+◌, ◌*◌, ◌/◌, ◌%◌, ◌<◌, ◌≤◌, refl, sym, ap, ◌∙◌, subst, arith, ℤ, pos, List, [], ◌∷◌, length, get_or, max}
use Rattle.std.specs.Prelude.{unsigned_abs}
use Rattle.std.specs.List.{AllByRecursion}
use Rattle.std.proofs.lemmas.List.{same_lists, get_or_default}
use Rattle.std.proofs.lemmas.List.Elements.{All-from_recursion, recursion_from_All}
use Rattle.std.proofs.lemmas.Nat.{div-add-mod', div_below, mod_below}
use Rattle.rz_words.specs.Grid.{Grid, IsGrid, word, with_words}
use Rattle.mj_angles.specs.Projection.{bins}
use Rattle.mj_angles.proofs.Projections.{get_or-projection}
use Rattle.mj_angles.proofs.Peel.{AnglesFall, words_from_bins}
use Rattle.mj_forward.specs.Forward.{projection_of}
use Rattle.mj_katz.specs.Unique.{HaveSameProjections, AreDistinct}
use Rattle.mj_katz.proofs.Sorted.{sort_down, length-sort_down, all_sort_down, Down-sort_down, falls_from_Down, Apart-from_pairs, all_weaker}

-- the size of the largest angle
abbrev pub largest : List ℤ → ℕ
largest [] = 0
largest (x ∷ xs) = max (unsigned_abs x) (largest xs)

all_within : (xs : List ℤ) → AllByRecursion (λ x. unsigned_abs x ≤ largest xs) xs
all_within [] = tt
all_within (x ∷ xs) = (
  (let h : unsigned_abs x ≤ max (unsigned_abs x) (largest xs) = omega arith in h),
  all_weaker (λ y. unsigned_abs y ≤ largest xs) (λ y. unsigned_abs y ≤ max (unsigned_abs x) (largest xs)) xs (λ y h. omega arith) (all_within xs),
)

-- the angle of row l
abbrev pub angle_at : List ℤ → ℕ → ℤ
angle_at angles l = get_or (sort_down angles) l (pos 0)

angles_fall : (angles : List ℤ) (rows : ℕ) → length angles ≡ rows → AreDistinct angles → AnglesFall (angle_at angles) (largest angles) rows
angles_fall angles rows count apart = record {
  small = λ l h. All-from_recursion (λ x. unsigned_abs x ≤ largest angles) (sort_down angles) (all_sort_down (λ x. unsigned_abs x ≤ largest angles) angles (all_within angles)) l (pos 0) (in_sorted l h);
  falls = λ i j h h'. falls_from_Down (sort_down angles) (Down-sort_down angles (Apart-from_pairs angles apart)) i j (pos 0) h (in_sorted j h');
}
  where
    in_sorted : (l : ℕ) → l < rows → l < length (sort_down angles)
    in_sorted l h = rw (length-sort_down angles, count) h

same_bins : (angles : List ℤ) (g k : Grid) → HaveSameProjections angles g k → g.rows ≡ k.rows → g.cols ≡ k.cols → length angles ≡ g.rows →
    (l b : ℕ) → l < g.rows → b < bins (angle_at angles l) g.rows g.cols →
    get_or (projection_of g (angle_at angles l)) b 0 ≡ get_or (projection_of k (angle_at angles l)) b 0
same_bins angles g k same r c count l b h small =
    ap (λ xs. get_or xs b 0)
    (All-from_recursion (λ p. projection_of g p ≡ projection_of k p) (sort_down angles)
    (all_sort_down (λ p. projection_of g p ≡ projection_of k p) angles (recursion_from_All (λ p. projection_of g p ≡ projection_of k p) angles same)) l (pos 0)
    (rw (length-sort_down angles, count) h))

-- two blocks of one shape
pub same_shape : (angles : List ℤ) (g : Grid) (ws : List ℕ) → IsGrid g → length ws ≡ g.rows * g.cols → length angles ≡ g.rows → AreDistinct angles →
    HaveSameProjections angles g (with_words g ws) → g.words ≡ ws
same_shape angles g ws is long count apart same =
    same_lists g.words ws (is.full ∙ sym long) (λ i d h. let small : i < g.rows * g.cols = rw (sym is.full) h in
    get_or_default g.words i d 0 h ∙ at i small ∙ get_or_default ws i 0 d (rw long small))
  where
    place : (l k : ℕ) → l < g.rows → k < g.cols → get_or g.words (l * g.cols + k) 0 ≡ get_or ws (l * g.cols + k) 0
    place = words_from_bins (word g) (word (with_words g ws)) (angle_at angles) (largest angles) g.rows g.cols (angles_fall angles g.rows count apart)
        (λ l b h small. sym (get_or-projection (word g) g.rows g.cols (angle_at angles l) b small)
        ∙ same_bins angles g (with_words g ws) same refl refl count l b h small
        ∙ get_or-projection (word (with_words g ws)) g.rows g.cols (angle_at angles l) b small)

    at : (i : ℕ) → i < g.rows * g.cols → get_or g.words i 0 ≡ get_or ws i 0
    at i h =
        let split : i / g.cols * g.cols + i % g.cols ≡ i = div-add-mod' i g.cols in
        let P : ℕ → Type 0 = λ x. get_or g.words x 0 ≡ get_or ws x 0 in
        subst P split (place (i / g.cols) (i % g.cols) (div_below i g.cols g.rows is.shape.some_column h) (mod_below i g.cols is.shape.some_column))

pub projections_determine : (angles : List ℤ) (g h : Grid) → IsGrid g → IsGrid h → g.rows ≡ h.rows → g.cols ≡ h.cols →
    length angles ≡ g.rows → AreDistinct angles → HaveSameProjections angles g h → g ≡ h
projections_determine angles g h is is' rows cols count apart same =
    let reshaped : Grid = with_words g h.words in
    let equal : reshaped ≡ h =
    ap (λ (r : ℕ). let x : Grid = record { rows = r; cols = g.cols; words = h.words } in x) rows
    ∙ ap (λ (c : ℕ). let x : Grid = record { rows = h.rows; cols = c; words = h.words } in x) cols in
    let P : Grid → Type 0 = λ x. HaveSameProjections angles g x in
    ap (with_words g) (same_shape angles g h.words is (is'.full ∙ sym (ap (λ x. x.rows * x.cols) equal)) count apart (subst P (sym equal) same)) ∙ equal
