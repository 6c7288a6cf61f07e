-- `split_once` cuts the first piece.
use Rattle.std.proofs.Common.{◌≡◌, ℕ, ◌+◌, ◌<◌, ◌==◌, Bool, false, cond, not, List, [], ◌∷◌, ◌++◌, length, get_or, filter, Option, Some, None, Bor, MatchOption, refl, ap, ◌∙◌, arith, ne_eqb, inl, inr}
use Rattle.std.specs.List.{slice_split, position_or_len, before_first, after_first}
use Rattle.rz_script_words.specs.Grammar.{words, after_word}
use Rattle.std.proofs.lemmas.Bool.{cases_eq}
use Rattle.std.proofs.lemmas.List.{drop_all}
use Rattle.std.proofs.lemmas.List.Sums.{fails_before_first}
use Rattle.std.proofs.lemmas.List.Splits.{slice_split_none, slice_split_first}
use Rattle.std.proofs.lemmas.Str.Pattern.{IsSplitOnceResult, split_once_first, split_parts}

abbrev pub Cuts : ℕ → List ℕ → Option (Bor (List ℕ) × Bor (List ℕ)) → Type 0
Cuts c text r = MatchOption r (slice_split (λ b. b == c) text ≡ text ∷ []) (λ x. slice_split (λ b. b == c) text ≡ x.0.now ∷ slice_split (λ b. b == c) x.1.now)

cuts-from : (c : ℕ) (text : List ℕ) (r : Option (Bor (List ℕ) × Bor (List ℕ)))
    → MatchOption r (position_or_len (λ b. b == c) text ≡ length text) (λ x. (position_or_len (λ b. b == c) text < length text) × (x.0.now ≡ before_first (λ b. b == c) text) × (x.1.now ≡ after_first (λ b. b == c) text))
    → Cuts c text r
cuts-from c text None none = slice_split_none (λ b. b == c) text (λ k d lt. fails_before_first (λ b. b == c) text k d (omega arith))
cuts-from c text (Some x) (inside, front, back) = rw (front, back) (slice_split_first (λ b. b == c) text 0 inside)

pub cuts : (c : ℕ) (text : List ℕ) (r : Option (Bor (List ℕ) × Bor (List ℕ))) → c < 128 → IsSplitOnceResult c text r → Cuts c text r
cuts c text r ascii split = cuts-from c text r (split_once_first c text r split ascii)

pub takes_word : (text word after : List ℕ) → slice_split (λ b. b == 32) text ≡ word ∷ slice_split (λ b. b == 32) after → (length word == 0) ≡ false → words text ≡ word ∷ words after
takes_word text word after cut full = ap (filter (λ w. not (length w == 0))) cut ∙ rw full refl

pub takes_last : (text : List ℕ) → slice_split (λ b. b == 32) text ≡ text ∷ [] → (length text == 0) ≡ false → words text ≡ text ∷ []
takes_last text cut full = ap (filter (λ w. not (length w == 0))) cut ∙ rw full refl

abbrev pub Parts : ℕ → List ℕ → Option (Bor (List ℕ) × Bor (List ℕ)) → Type 0
Parts c text r = MatchOption r (after_first (λ b. b == c) text ≡ []) (λ p. (text ≡ p.0.now ++ (c ∷ p.1.now)) × (p.1.now ≡ after_first (λ b. b == c) text))

parts-from : (c : ℕ) (text : List ℕ) (r : Option (Bor (List ℕ) × Bor (List ℕ)))
    → MatchOption r (position_or_len (λ b. b == c) text ≡ length text) (λ x. (position_or_len (λ b. b == c) text < length text) × (x.0.now ≡ before_first (λ b. b == c) text) × (x.1.now ≡ after_first (λ b. b == c) text))
    → MatchOption r ((i : ℕ) → i < length text → get_or text i 0 ≡ c → ⊥) (λ x. (text ≡ x.0.now ++ (c ∷ x.1.now)) × ((i : ℕ) → i < length x.0.now → get_or x.0.now i 0 ≡ c → ⊥))
    → Parts c text r
parts-from c text None p q = drop_all (position_or_len (λ b. b == c) text + 1) text (omega arith)
parts-from c text (Some x) p q = (q.0, p.2)

pub parts : (c : ℕ) (text : List ℕ) (r : Option (Bor (List ℕ) × Bor (List ℕ))) → c < 128 → IsSplitOnceResult c text r → Parts c text r
parts c text r ascii split = parts-from c text r (split_once_first c text r split ascii) (split_parts c text r split ascii)

pub no_more : (rest : List ℕ) → slice_split (λ b. b == 32) rest ≡ rest ∷ [] → after_first (λ b. b == 32) rest ≡ [] → after_word rest ≡ []
no_more [] cut none = refl
no_more (b ∷ bs) cut none =
    elim (cases_eq b 32) [
      | inl is ↦ absurd (let starts = rw is at cut in cc)
      | inr not_is ↦ ap (λ (t : Bool). cond t (after_word bs) (after_first (λ c. c == 32) (b ∷ bs))) (ne_eqb b 32 not_is) ∙ none
    ]
