-- What writes leave, one after another.
use Rattle.std.proofs.Common.{ℕ, ◌≡◌, ◌≤◌, ◌+◌, ◌-◌, List, ◌++◌, length, take, drop, sym, ap, ◌∙◌, take-append-drop}
use Rattle.std.proofs.Math.Seq.{take-append-add}
use Rattle.std.proofs.lemmas.List.{length-take-le, take_rest}

-- a further piece of a text
pub take_further : (xs : List ℕ) (i n : ℕ) → i ≤ length xs → take (i + n) xs ≡ take i xs ++ take n (take (length xs - i) (drop i xs))
take_further xs i n h =
    ap (λ k. take (k + n) xs) (sym (length-take-le i xs h))
    ∙ ap (λ z. take (length (take i xs) + n) z) (sym (take-append-drop i xs))
    ∙ take-append-add (take i xs) (drop i xs) n
    ∙ ap (λ d. take i xs ++ take n d) (sym (take_rest xs i))
