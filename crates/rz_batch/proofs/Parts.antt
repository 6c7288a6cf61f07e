-- Lists over the positions of a layout, and over blocks.
use Rattle.std.proofs.Common.{◌≡◌, ℕ, zero, suc, ◌+◌, ◌/◌, ◌<◌, refl, sym, ap, ◌∙◌, subst, arith, List, [], ◌∷◌, ◌++◌, map, length, get_or, take, drop, Result, Ok, Err}
use Rattle.std.specs.Prelude.{slice_range, slice_index_or, All, IfOk, MatchResult}
use Rattle.std.specs.List.{AllZip}
use Rattle.std.proofs.Math.Seq.{take-append_seam}
use Rattle.std.proofs.lemmas.List.Elements.{All-append}
use Rattle.std.specs.List.{range_with_len}
use Rattle.std.proofs.lemmas.List.{ext_get_or, get_or-map}
use Rattle.std.proofs.lemmas.List.{map-append}
use Rattle.std.proofs.lemmas.List.FromFn.{get_or-map-range_with_len, length-map-range_with_len, map-range_with_len_more}
use Rattle.rz_words.specs.Grid.{Grid}
use Rattle.mj_angles.specs.declared.layout.Layout.{Layout}
use Rattle.mj_angles.specs.Layout.{safe_of, angle_of, bins_at_of, block_bytes_of}
use Rattle.mj_forward.specs.Forward.{projection_of, start_of}
use Rattle.rz_batch.specs.Batch.{batch_of, block_at, parts_of, projections_of}

pub map_range-same : {X : Type 0} (f g : ℕ → X) (n : ℕ) (d : X) → ((i : ℕ) → i < n → f i ≡ g i) → map f (range_with_len 0 n) ≡ map g (range_with_len 0 n)
map_range-same f g n d same =
    ext_get_or d (map f (range_with_len 0 n)) (map g (range_with_len 0 n)) (length-map-range_with_len f 0 n ∙ sym (length-map-range_with_len g 0 n)) (λ i h.
    let small : i < n = (let l = length-map-range_with_len f 0 n in omega arith) in
    get_or-map-range_with_len f 0 n i i d small (omega arith) ∙ same i small ∙ sym (get_or-map-range_with_len g 0 n i i d small (omega arith)))

-- the bins at all positions, each where it begins
pub parts-of_block : (y : Layout) (bins : List ℕ) (g : Grid) → ((j : ℕ) → j < safe_of y → slice_range bins (start_of y j) (start_of y j + bins_at_of y j) ≡ projection_of g (angle_of y j)) →
    parts_of y bins ≡ projections_of y g
parts-of_block y bins g same =
    map_range-same (λ j. slice_range bins (start_of y j) (start_of y j + bins_at_of y j)) (λ j. projection_of g (angle_of y j)) (safe_of y) [] same

-- what a vector holds after its elements were lent and came back as xs
pub taken_back : (xs ys : List ℕ) (n : ℕ) → length xs ≡ n → take n (xs ++ drop (length xs) ys) ≡ xs
taken_back xs ys n e = ap (λ m. take m (xs ++ drop (length xs) ys)) (sym e) ∙ take-append_seam xs (drop (length xs) ys)

-- one more block
pub push_more : {T X : Type 0} (f : T → X) (g : ℕ → X) (vs : List T) (v : T) (new : List T) (i : ℕ) → new ≡ vs ++ v ∷ [] → map f vs ≡ map g (range_with_len 0 i) → f v ≡ g i →
    map f new ≡ map g (range_with_len 0 (i + 1))
push_more f g vs v new i e h k =
    ap (map f) e ∙ map-append f vs (v ∷ []) ∙ ap (λ xs. xs ++ f v ∷ []) h ∙ ap (λ x. map g (range_with_len 0 i) ++ x ∷ []) k ∙ sym (map-range_with_len_more g 0 i i (omega arith))

all-one : {T : Type 0} (P : T → Type 0) (v : T) → P v → All P (v ∷ [])
all-one P v p zero d h = p
all-one P v p (suc k) d h = absurd (omega arith)

pub push_all : {T : Type 0} (P : T → Type 0) (vs : List T) (v : T) (new : List T) → new ≡ vs ++ v ∷ [] → All P vs → P v → All P new
push_all P vs v new e all p = subst (λ ws. All P ws) (sym e) (All-append P vs (v ∷ []) all (all-one P v p))

-- the blocks that the threads gave, where none wanted memory
pub zip_oks : {I X : Type 0} (E : Type 0) (P : I → X → Type 0) (is : List I) (ys : List X) → AllZip (λ i (x : Result X E). IfOk x (P i)) is (map Ok ys) → AllZip P is ys
zip_oks E P [] [] h = tt
zip_oks E P [] (y ∷ ys) h = absurd h
zip_oks E P (i ∷ is) [] h = absurd h
zip_oks E P (i ∷ is) (y ∷ ys) (p, h) = (p, zip_oks E P is ys h)

pub zip_parts : {T X : Type 0} (P : ℕ → T → Type 0) (f : T → X) (g : ℕ → X) → ((i : ℕ) (v : T) → P i v → f v ≡ g i) → (is : List ℕ) (vs : List T) → AllZip P is vs → map f vs ≡ map g is
zip_parts P f g by [] [] h = refl
zip_parts P f g by [] (v ∷ vs) h = absurd h
zip_parts P f g by (i ∷ is) [] h = absurd h
zip_parts P f g by (i ∷ is) (v ∷ vs) (p, h) = (let e = by i v p in let r = zip_parts P f g by is vs h in ap (λ x. x ∷ map f vs) e ∙ ap (λ xs. g i ∷ xs) r)

pub zip_all : {T : Type 0} (P : ℕ → T → Type 0) (Q : T → Type 0) → ((i : ℕ) (v : T) → P i v → Q v) → (is : List ℕ) (vs : List T) → AllZip P is vs → All Q vs
zip_all P Q by is [] h k d l = absurd (omega arith)
zip_all P Q by [] (v ∷ vs) h k d l = absurd h
zip_all P Q by (i ∷ is) (v ∷ vs) (p, h) zero d l = by i v p
zip_all P Q by (i ∷ is) (v ∷ vs) (p, h) (suc k) d l = zip_all P Q by is vs h k d (let m : suc k < suc (length vs) = l in omega arith)

pub match_then : {T E : Type 0} (r : Result T E) (A : T → Type 0) (B : E → Type 0) (Q : T → Type 0) → MatchResult r A B → ((v : T) → A v → Q v) → IfOk r Q
match_then (Ok v) A B Q h f = f v h
match_then (Err e) A B Q h f = tt

-- the bins that the view shows are a part of those that are kept
pub part_of_view : {T : Type 0} (items : T → List ℕ) (y : Layout) (vs : List T) (d : T) (block position : ℕ) → block < length vs → position < safe_of y →
    slice_index_or (slice_index_or (map (λ v. parts_of y (items v)) vs) block []) position []
    ≡ slice_range (items (get_or vs block d)) (start_of y position) (start_of y position + bins_at_of y position)
part_of_view items y vs d block position h m =
    ap (λ xs. get_or xs position []) (get_or-map (λ v. parts_of y (items v)) vs block d [] h)
    ∙ get_or-map-range_with_len (λ j. slice_range (items (get_or vs block d)) (start_of y j) (start_of y j + bins_at_of y j)) 0 (safe_of y) position position [] m (omega arith)

-- the bins of a batch that was made of these bytes
pub part_of_batch : (y : Layout) (bytes : List ℕ) (block position : ℕ) → block < length (batch_of y bytes).blocks → position < safe_of y →
    slice_index_or (slice_index_or (batch_of y bytes).blocks block []) position [] ≡ projection_of (block_at y bytes block) (angle_of y position)
part_of_batch y bytes block position h m =
    let n : ℕ = length bytes / block_bytes_of y in
    let long = length-map-range_with_len (λ i. projections_of y (block_at y bytes i)) 0 (length bytes / block_bytes_of y) in
    ap (λ xs. get_or xs position []) (get_or-map-range_with_len (λ i. projections_of y (block_at y bytes i)) 0 (length bytes / block_bytes_of y) block block [] (omega arith) (omega arith))
    ∙ get_or-map-range_with_len (λ j. projection_of (block_at y bytes block) (angle_of y j)) 0 (safe_of y) position position [] m (omega arith)
