-- The words of a line have no space and no line feed, and are text.
use Rattle.std.proofs.Common.{◌≡◌, ℕ, zero, suc, ◌+◌, ◌<◌, ◌≤◌, ◌==◌, Bool, true, false, cond, not, List, [], ◌∷◌, length, get_or, filter, inl, inr, refl, arith}
use Rattle.std.specs.List.{slice_split, onto_first, list_all, position_or_len, after_first, AllByRecursion}
use Rattle.std.specs.Str.{IsUtf8}
use Rattle.std.proofs.lemmas.Bool.{cases_lt, eqb-true}
use Rattle.std.proofs.lemmas.List.{length-drop}
use Rattle.std.proofs.lemmas.List.Sums.{passes_at_first, fails_before_first}
use Rattle.std.proofs.lemmas.List.Splits.{slice_split_none, slice_split_first}
use Rattle.std.proofs.lemmas.Str.{IsUtf8-take, IsUtf8-drop, IsCharBoundary-before_ascii, IsCharBoundary-after_ascii}
use Rattle.rz_script_words.specs.Words.{Word}
use Rattle.rz_script_words.specs.Grammar.{words}
use Rattle.rz_script.specs.Lines.{is_plain, IsWord}

onto : (P : ℕ → Type 0) (x : ℕ) (ws : List (List ℕ)) → P x → AllByRecursion (AllByRecursion P) ws → AllByRecursion (AllByRecursion P) (onto_first x ws)
onto P x [] p h = ((p, tt), tt)
onto P x (w ∷ ws) p h = ((p, h.0), h.1)

keeps_one : (P : ℕ → Type 0) (c x : ℕ) (ws : List (List ℕ)) (t : Bool) → ((x == c) ≡ false → P x) → (x == c) ≡ t → AllByRecursion (AllByRecursion P) ws → AllByRecursion (AllByRecursion P) (cond t ([] ∷ ws) (onto_first x ws))
keeps_one P c x ws true p e h = (tt, h)
keeps_one P c x ws false p e h = onto P x ws (p e) h

split_keeps : (P : ℕ → Type 0) (c : ℕ) (xs : List ℕ) → AllByRecursion (λ b. (b == c) ≡ false → P b) xs → AllByRecursion (AllByRecursion P) (slice_split (λ b. b == c) xs)
split_keeps P c [] h = (tt, tt)
split_keeps P c (x ∷ xs) h = keeps_one P c x (slice_split (λ b. b == c) xs) (x == c) (h.0) refl (split_keeps P c xs h.1)

split_text : (c : ℕ) → c < 128 → (fuel : ℕ) (text : List ℕ) → length text ≤ fuel → IsUtf8 text → AllByRecursion IsUtf8 (slice_split (λ b. b == c) text)
split_text c ascii zero [] le u = (u, tt)
split_text c ascii zero (b ∷ bs) le u = absurd (omega arith)
split_text c ascii (suc fuel) text le u =
    let at = position_or_len (λ b. b == c) text in
    elim (cases_lt at (length text)) [
      | inl lt ↦
          let is : get_or text at 0 ≡ c = eqb-true _ _ (passes_at_first (λ b. b == c) text 0 lt) in
          rw (slice_split_first (λ b. b == c) text 0 lt) (
            IsUtf8-take text at u (IsCharBoundary-before_ascii text at lt (omega arith)),
            split_text c ascii fuel (after_first (λ b. b == c) text) (omega (arith, length-drop (at + 1) text)) (IsUtf8-drop text (at + 1) u (IsCharBoundary-after_ascii text at u lt (omega arith))),
          )
      | inr ge ↦ rw (slice_split_none (λ b. b == c) text (λ k d k_lt. fails_before_first (λ b. b == c) text k d (omega arith))) (u, tt)
    ]

filtered_one : (P : List ℕ → Type 0) (w : List ℕ) (ws : List (List ℕ)) (t : Bool) → (length w == 0) ≡ t → P w → AllByRecursion (λ w. P w × ((length w == 0) ≡ false)) ws
    → AllByRecursion (λ w. P w × ((length w == 0) ≡ false)) (cond (not t) (w ∷ ws) ws)
filtered_one P w ws true e p h = h
filtered_one P w ws false e p h = ((p, e), h)

full_length : (w : List ℕ) → (length w == 0) ≡ false → 0 < length w
full_length [] h = absurd cc
full_length (b ∷ bs) h = omega arith

all_same : (xs : List ℕ) → AllByRecursion (λ b. (b == 10) ≡ false → (b == 10) ≡ false) xs
all_same [] = tt
all_same (x ∷ xs) = (λ e. e, all_same xs)

filtered : (P : List ℕ → Type 0) (ws : List (List ℕ)) → AllByRecursion P ws → AllByRecursion (λ w. P w × ((length w == 0) ≡ false)) (filter (λ w. not (length w == 0)) ws)
filtered P [] h = tt
filtered P (w ∷ ws) h = filtered_one P w (filter (λ w. not (length w == 0)) ws) (length w == 0) refl h.0 (filtered P ws h.1)

plain_bytes : (w : List ℕ) → AllByRecursion (λ b. is_plain b ≡ true) w → list_all is_plain w ≡ true
plain_bytes [] h = refl
plain_bytes (b ∷ bs) h = rw (h.0, plain_bytes bs h.1) refl

plain_byte : (b : ℕ) → (b == 10) ≡ false → (b == 32) ≡ false → is_plain b ≡ true
plain_byte b p q = rw (p, q) refl

each : (P Q : ℕ → Type 0) → ((b : ℕ) → P b → Q b) → (xs : List ℕ) → AllByRecursion P xs → AllByRecursion Q xs
each P Q f [] h = tt
each P Q f (x ∷ xs) h = (f x h.0, each P Q f xs h.1)

pair : (P Q : List ℕ → Type 0) (ws : List (List ℕ)) → AllByRecursion P ws → AllByRecursion Q ws → AllByRecursion (λ w. P w × Q w) ws
pair P Q [] h k = tt
pair P Q (w ∷ ws) h k = ((h.0, k.0), pair P Q ws h.1 k.1)

are_words : (ws : List Word) → AllByRecursion (λ w. (AllByRecursion (λ b. is_plain b ≡ true) w × IsUtf8 w) × ((length w == 0) ≡ false)) ws → AllByRecursion IsWord ws
are_words [] h = tt
are_words (w ∷ ws) h = (record { full = full_length w h.0.1; plain = plain_bytes w h.0.0.0; text = h.0.0.1 }, are_words ws h.1)

-- the words of a line without a line feed
pub words_are : (line : List ℕ) → IsUtf8 line → AllByRecursion (λ b. (b == 10) ≡ false) line → AllByRecursion IsWord (words line)
words_are line u h =
    let bytes = split_keeps (λ b. is_plain b ≡ true) 32 line (each (λ b. (b == 10) ≡ false) (λ b. (b == 32) ≡ false → is_plain b ≡ true) plain_byte line h) in
    let texts = split_text 32 (omega arith) (length line) line (omega arith) u in
    are_words (words line) (filtered (λ w. AllByRecursion (λ b. is_plain b ≡ true) w × IsUtf8 w) (slice_split (λ b. b == 32) line) (pair (AllByRecursion (λ b. is_plain b ≡ true)) IsUtf8 (slice_split (λ b. b == 32) line) bytes texts))

-- the lines of a text
pub lines_are : (text : List ℕ) → IsUtf8 text → AllByRecursion (λ l. AllByRecursion (λ b. (b == 10) ≡ false) l × IsUtf8 l) (slice_split (λ b. b == 10) text)
lines_are text u = pair (AllByRecursion (λ b. (b == 10) ≡ false)) IsUtf8 (slice_split (λ b. b == 10) text) (split_keeps (λ b. (b == 10) ≡ false) 10 text (all_same text)) (split_text 10 (omega arith) (length text) text (omega arith) u)
