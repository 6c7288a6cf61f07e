-- WordTokens that are dealt out one after another.
use Rattle.std.proofs.Common.{◌≡◌, ◌≢◌, ℕ, suc, ◌+◌, ◌<◌, nat_eq, List, [], ◌∷◌, ◌++◌, map, take, length, slice_get, slice_index_or, Some, sym, refl, ap, ◌∙◌, arith}
use Rattle.std.specs.List.{IsDistinct}
use Rattle.std.proofs.lemmas.Option.{slice_get-get_or, get_or_from_slice_get, slice_get_within}
use Rattle.std.proofs.Math.Seq.{take-suc}
use Rattle.rz_events.specs.declared.events.Word.TheVariants.{Node}
use Rattle.rz_chronicle.specs.Keys.{word_key, rows}
use Rattle.rz_chronicle.specs.Tokens.{IsHolding}
use Rattle.rz_chronicle.specs.Rules.{WordTokenView}
use Rattle.rz_chronicle.specs.Dealing.{new_word_token}
use Rattle.rz_chronicle.proofs.Apart.{one-place}

-- the tokens of the nodes that are not among the first i
abbrev pub AreLeft : List ℕ → ℕ → List (ℕ × ℕ) → Type 0
AreLeft nodes i held = (n : ℕ) → word_key (Node n) < rows → ((j : ℕ) (d : ℕ) → j < i → n ≢ slice_index_or nodes j d) → IsHolding (word_key (Node n)) held

-- the i-th node is not among those before it
pub not-before : (nodes : List ℕ) (i n : ℕ) → IsDistinct nat_eq nodes → slice_get nodes i ≡ Some n → (j : ℕ) (d : ℕ) → j < i → n ≢ slice_index_or nodes j d
not-before nodes i n distinct at j d lt e =
    let within : i < length nodes = slice_get_within nodes i n at in
    let there = slice_get-get_or nodes j d (omega (arith, lt, within)) in
    let same : i ≡ j = one-place nodes i j n distinct at (there ∙ ap Some (sym e)) in absurd (omega (arith, same, lt))

pub left-next : (nodes : List ℕ) (i n : ℕ) (old new : List (ℕ × ℕ)) → slice_get nodes i ≡ Some n → AreLeft nodes i old
    → ((k : ℕ) → IsHolding k old → k ≢ word_key (Node n) → IsHolding k new) → AreLeft nodes (i + 1) new
left-next nodes i n old new at held rest m low apart =
    let other : m ≢ n = (λ e. apart i 0 (omega arith) (e ∙ sym (get_or_from_slice_get nodes i n 0 at))) in
    rest (word_key (Node m)) (held m low (λ j d lt. apart j d (omega (arith, lt)))) (λ e. other (omega (arith, e)))

map-one : (xs : List ℕ) (n : ℕ) → map (λ (m : ℕ). new_word_token (Node m)) (xs ++ n ∷ []) ≡ map (λ (m : ℕ). new_word_token (Node m)) xs ++ new_word_token (Node n) ∷ []
map-one [] n = refl
map-one (x ∷ xs) n = ap (λ (r : List WordTokenView). new_word_token (Node x) ∷ r) (map-one xs n)

pub word_tokens-next : (nodes : List ℕ) (i n : ℕ) (ps : List WordTokenView) (p : WordTokenView) → slice_get nodes i ≡ Some n → ps ≡ map (λ (m : ℕ). new_word_token (Node m)) (take i nodes) → p ≡ new_word_token (Node n)
    → ps ++ p ∷ [] ≡ map (λ (m : ℕ). new_word_token (Node m)) (take (i + 1) nodes)
word_tokens-next nodes i n ps p at are is =
    let within : i < length nodes = slice_get_within nodes i n at in
    let value : slice_index_or nodes i 0 ≡ n = get_or_from_slice_get nodes i n 0 at in
    let more : take (i + 1) nodes ≡ take i nodes ++ n ∷ [] = ap (λ (j : ℕ). take j nodes) (let e : i + 1 ≡ suc i = omega arith in e) ∙ (take-suc nodes i 0 within ∙ ap (λ (m : ℕ). take i nodes ++ m ∷ []) value) in
    ap (λ (xs : List WordTokenView). xs ++ p ∷ []) are ∙ (ap (λ (q : WordTokenView). map (λ (m : ℕ). new_word_token (Node m)) (take i nodes) ++ q ∷ []) is
    ∙ (sym (map-one (take i nodes) n) ∙ ap (map (λ (m : ℕ). new_word_token (Node m))) (sym more)))
