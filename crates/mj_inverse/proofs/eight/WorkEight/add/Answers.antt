use Rattle.std.proofs.Common.{rules, arith, ◌≡◌, ◌≢◌, ◌+◌, ◌*◌, ◌<◌, ◌++◌, ◌∷◌, [], ℕ, List, length, sym, ap, ◌∙◌, subst, ℤ, w32, to_z, of_z, vec_len}
use Rattle.std.specs.Prelude.{All}
use Rattle.std.proofs.lemmas.Int.{to_z-of_z}
use Rattle.mj_angles.specs.Projection.{bins}
use Rattle.mj_inverse.specs.Fits.{Pair, Search}
use Rattle.mj_inverse.specs.declared.placed.Placed.{Placed}
use Rattle.mj_inverse.specs.Padded.{IsKept, pairs_over, placed_at, search_over}
use Rattle.mj_inverse.proofs.Found.{kept_more, pairs_added, fits_more, length-pairs_over}
use Rattle.mj_inverse.proofs.eight.WorkEight.add.Goals as goal

fewer : (rows cols : ℕ) (ws : List ℕ) (all : List Placed) (now : Search) → search_over rows cols ws all ≡ now → length now.pairs < now.rows → length all < rows
fewer rows cols ws all now seen room =
    let r : rows ≡ now.rows = ap (λ (v : Search). v.rows) seen in
    let n : length (pairs_over rows cols ws all) ≡ length now.pairs = ap (λ (v : Search). length v.pairs) seen in
    let m = length-pairs_over rows cols ws all in
    omega arith

sized : (rows cols : ℕ) (ws : List ℕ) (all : List Placed) (now : Search) (p : ℤ) (n : ℕ) → search_over rows cols ws all ≡ now → n ≡ 8 * bins p now.rows now.cols → n ≡ 8 * bins p rows cols
sized rows cols ws all now p n seen size = size ∙ sym (ap (λ (v : Search). 8 * bins p v.rows v.cols) seen)

pub add_placed-requires-clause-room : goal.add_placed-requires-clause-room
add_placed-requires-clause-room c =
    let s = c.self.inside in
    let i = c.self.invariant in
    let room = fewer s.rows s.cols s.words.items s.all.items c.args.self.now c.self.view_is c.requires.room in
    let long : length s.all.items ≡ vec_len s.all = search rules in
    let capacity = i.3 in
    omega arith

pub add_words-requires : goal.add_words-requires
add_words-requires c =
    let s = c.self.inside in
    let i = c.self.invariant in
    let room = fewer s.rows s.cols s.words.items s.all.items c.args.self.now c.self.view_is c.requires.room in
    let size = sized s.rows s.cols s.words.items s.all.items c.args.self.now c.args.p (length c.args.bins.now) c.self.view_is c.requires.size in
    let fits = fits_more s.rows s.cols s.used s.words.items c.args.bins.now s.all.items c.args.p i.0 c.requires.small size room in
    let long : length s.words.items ≡ vec_len s.words = search rules in
    let capacity = i.4 in
    record { room = omega arith }

pub invariant_of-self : goal.invariant_of-self
invariant_of-self c =
    let s = c.self.inside in
    let i = c.self.invariant in
    let is : to_z w32 (of_z w32 c.args.p) ≡ c.args.p = to_z-of_z w32 c.args.p (search rules) in
    let room = fewer s.rows s.cols s.words.items s.all.items c.args.self.now c.self.view_is c.requires.room in
    let size = sized s.rows s.cols s.words.items s.all.items c.args.self.now c.args.p (length c.args.bins.now) c.self.view_is c.requires.size in
    let seen : pairs_over s.rows s.cols s.words.items s.all.items ≡ c.args.self.now.pairs = ap (λ (v : Search). v.pairs) c.self.view_is in
    let other : All (λ (pair : Pair). pair.0 ≢ c.args.p) (pairs_over s.rows s.cols s.words.items s.all.items) =
    (let P : List Pair → Type 0 = λ ps. All (λ (pair : Pair). pair.0 ≢ c.args.p) ps in subst P (sym seen) c.requires.other_angle) in
    let kept = kept_more s.rows s.cols s.used s.words.items c.args.bins.now s.all.items c.args.p i.0 c.requires.small size room other in
    let all : c.add_placed.new.all.items ≡ s.all.items ++ placed_at c.args.p s.used ∷ [] =
    c.add_placed.ensures.items ∙ ap (λ (q : ℤ). s.all.items ++ placed_at q s.used ∷ []) is in
    let many : c.bins.result ≡ bins c.args.p s.rows s.cols = c.bins.ensures.value ∙ ap (λ (q : ℤ). bins q s.rows s.cols) is in
    let P : ℕ → Type 0 = λ n. IsKept s.rows s.cols (s.used + n) (s.words.items ++ c.args.bins.now) (s.all.items ++ placed_at c.args.p s.used ∷ []) in
    let Q : List ℕ → Type 0 = λ ws. IsKept s.rows s.cols (s.used + c.bins.result) ws (s.all.items ++ placed_at c.args.p s.used ∷ []) in
    let R : List Placed → Type 0 = λ xs. IsKept s.rows s.cols (s.used + c.bins.result) c.add_words.new.words.items xs in
    let more = c.add_placed.ensures.capacity in
    let wider = c.add_words.ensures.capacity in
    let enough = i.3 in
    let enough' = i.4 in
    (subst R (sym all) (subst Q (sym c.add_words.ensures.items) (subst P (sym many) kept)), i.1, i.2, omega arith, omega arith)

pub returns : goal.returns
returns c =
    let s = c.self.inside in
    let i = c.self.invariant in
    let is : to_z w32 (of_z w32 c.args.p) ≡ c.args.p = to_z-of_z w32 c.args.p (search rules) in
    let size = sized s.rows s.cols s.words.items s.all.items c.args.self.now c.args.p (length c.args.bins.now) c.self.view_is c.requires.size in
    let all : c.add_placed.new.all.items ≡ s.all.items ++ placed_at c.args.p s.used ∷ [] =
    c.add_placed.ensures.items ∙ ap (λ (q : ℤ). s.all.items ++ placed_at q s.used ∷ []) is in
    let pairs : pairs_over s.rows s.cols c.add_words.new.words.items c.add_placed.new.all.items ≡ pairs_over s.rows s.cols s.words.items s.all.items ++ (c.args.p, c.args.bins.now) ∷ [] =
    ap (λ ws. pairs_over s.rows s.cols ws c.add_placed.new.all.items) c.add_words.ensures.items ∙ ap (λ xs. pairs_over s.rows s.cols (s.words.items ++ c.args.bins.now) xs) all
    ∙ pairs_added s.rows s.cols s.used s.words.items c.args.bins.now s.all.items c.args.p i.0 c.requires.small size in
    ap (λ (ps : List Pair). let v : Search = record { rows = s.rows; cols = s.cols; pairs = ps } in v) pairs
    ∙ ap (λ (v : Search). let w : Search = record { rows = v.rows; cols = v.cols; pairs = v.pairs ++ (c.args.p, c.args.bins.now) ∷ [] } in w) c.self.view_is
