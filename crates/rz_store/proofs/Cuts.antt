-- Texts that are written or read in part.
use Rattle.std.proofs.Common.{ℕ, zero, suc, ◌≡◌, ◌+◌, ◌-◌, ◌≤◌, ◌<◌, List, [], ◌∷◌, ◌++◌, length, take, drop, replicate, min, append_assoc, refl, sym, ◌∙◌, ap, arith}
use Rattle.std.proofs.lemmas.List.{take-replicate, drop-replicate, take_min, drop-append-le, length-drop, append-nil}
use Rattle.std.proofs.Math.Seq.{drop-append-add}
use Rattle.std.proofs.Math.ListN.{drop_of_length-le}
use Rattle.rz_contents.specs.Ranges.{patched, bytes_from}

-- a text that is cut, or filled up with zeros
pub padded : (from n : ℕ) (text : List ℕ) → from ≤ n → take from text ++ replicate (from - length text) 0 ≡ take from (text ++ replicate n 0)
padded zero n text le = ap (λ (k : ℕ). replicate k 0) (let none : 0 - length text ≡ 0 = omega arith in none)
padded (suc f) n [] le = ap (λ (k : ℕ). replicate k 0) (let all : suc f - 0 ≡ suc f = omega arith in all) ∙ sym (take-replicate (suc f) n 0 le)
padded (suc f) n (x ∷ text) le =
    ap (λ (k : ℕ). x ∷ take f text ++ replicate k 0) (let same : suc f - suc (length text) ≡ f - length text = omega arith in same)
    ∙ ap (λ (l : List ℕ). x ∷ l) (padded f n text (omega (arith, le)))

pub patched-in : (text bytes : List ℕ) (from : ℕ) → from + length bytes < length text
    → ((take from text ++ replicate (from - length text) 0) ++ bytes) ++ drop (from + length bytes) text ≡ patched text from bytes
patched-in text bytes from low =
    ap (λ (l : List ℕ). (l ++ bytes) ++ drop (from + length bytes) text) (padded from from text (omega arith))
    ∙ append_assoc (take from (text ++ replicate from 0)) bytes (drop (from + length bytes) text)

pub patched-out : (text bytes : List ℕ) (from : ℕ) → length text ≤ from + length bytes → (take from text ++ replicate (from - length text) 0) ++ bytes ≡ patched text from bytes
patched-out text bytes from high =
    ap (λ (l : List ℕ). l ++ bytes) (padded from from text (omega arith))
    ∙ ap (λ (l : List ℕ). take from (text ++ replicate from 0) ++ l) (sym (append-nil bytes))
    ∙ ap (λ (l : List ℕ). take from (text ++ replicate from 0) ++ (bytes ++ l)) (sym (drop_of_length-le text high))

-- what is read where the text reaches so far
pub filled-in : (text : List ℕ) (from n : ℕ) → from < length text
    → take (min n (length text - from)) (drop from text) ++ drop (min n (length text - from)) (replicate n 0) ≡ bytes_from text from n
filled-in text from n low =
    let d = drop from text in
    let size : length d ≡ length text - from = length-drop from text in
    let taken : take (min n (length text - from)) d ≡ take n d = ap (λ (k : ℕ). take (min n k) d) (sym size) ∙ take_min n d in
    let zeros : drop (min n (length text - from)) (replicate n 0) ≡ replicate (n - length d) 0 =
    drop-replicate (min n (length text - from)) n 0 ∙ ap (λ (k : ℕ). replicate k 0) (let same : n - min n (length text - from) ≡ n - length d = omega (arith, size) in same) in
    ap (λ (l : List ℕ). l ++ drop (min n (length text - from)) (replicate n 0)) taken
    ∙ ap (λ (l : List ℕ). take n d ++ l) zeros
    ∙ padded n (from + n) d (omega arith)
    ∙ ap (take n) (sym (drop-append-le from text (replicate (from + n) 0) (omega (arith, low))))

-- and where it ends before
pub filled-out : (text : List ℕ) (from n : ℕ) → length text ≤ from → replicate n 0 ≡ bytes_from text from n
filled-out text from n high =
    let k : ℕ = from - length text in
    let at : from ≡ length text + k = omega (arith, high) in
    let rest : drop from (text ++ replicate (from + n) 0) ≡ replicate (from + n - k) 0 =
    ap (λ (i : ℕ). drop i (text ++ replicate (from + n) 0)) at ∙ drop-append-add text (replicate (from + n) 0) k ∙ drop-replicate k (from + n) 0 in
    sym (take-replicate n (from + n - k) 0 (omega arith)) ∙ ap (take n) (sym rest)
