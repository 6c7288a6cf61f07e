-- The names of a path that a text spells, and the text of a path.
use Rattle.std.proofs.Common.{◌≡◌, ℕ, Bool, true, false, cond, not, ◌&&◌, ◌||◌, List, [], ◌∷◌, length, Option, Some, None, sym, ap, ◌∙◌, refl, arith, length-append, ◌≤◌, ◌*◌}
use Rattle.std.specs.Prelude.{◌==◌, nat_lt, nat_le, unwrap_or}
use Rattle.std.specs.Option.{option_and_then}
use Rattle.std.proofs.lemmas.Bool.Decides.{nat_tests}
use Rattle.std.proofs.lemmas.List.Elements.{All-from_recursion}
use Rattle.std.proofs.lemmas.List.Splits.{slice_split_none, slice_split_at}
use Rattle.std.specs.List.{All, AllByRecursion, list_all, list_any, onto_first, join_with_byte}
use Rattle.rz_export_model.specs.Paths.{Name, Path, is_name, is_dots, parts_of, all_names, after_slash, long_path_of}
use Rattle.rz_export_model.specs.Refusals.{path_in}
use Rattle.rz_names.proofs.PathOrder.{and_parts}
use Rattle.rz_export_laws.specs.WholeTree.{is_plain}
use Rattle.rz_tree.proofs.Keys.{same_some, not_none}

abbrev bare : Name → Bool
bare name = not (list_any (λ b. b == 47) name)

-- the parts between slashes have none
parts-bare : (bytes : List ℕ) → list_all bare (parts_of bytes) ≡ true
parts-bare [] = refl
parts-bare (b ∷ bytes) = go (b == 47) refl (parts_of bytes) (parts-bare bytes)
  where
    go : (c : Bool) → (b == 47) ≡ c → (ps : List Name) → list_all bare ps ≡ true → list_all bare (cond c ([] ∷ ps) (onto_first b ps)) ≡ true
    go true is ps h = h
    go false is [] h = ap (λ c. not (c || false) && true) is
    go false is (p ∷ ps) h = ap (λ c. not (c || list_any (λ x. x == 47) p) && list_all bare ps) is ∙ h

plain-both : (ps : List Name) → list_all is_name ps ≡ true → list_all bare ps ≡ true → list_all is_plain ps ≡ true
plain-both [] named clear = refl
plain-both (p ∷ ps) named clear =
    let a = and_parts (is_name p) (list_all is_name ps) named in
    let b = and_parts (bare p) (list_all bare ps) clear in
    ap (λ x. (x && bare p) && list_all is_plain ps) a.0 ∙ ap (λ x. x && list_all is_plain ps) b.0 ∙ plain-both ps a.1 b.1

all-plain : (ps : List Name) (p : Path) → list_all bare ps ≡ true → all_names ps ≡ Some p → list_all is_plain p ≡ true
all-plain ps p clear h = go (list_all is_name ps) refl h
  where
    go : (b : Bool) → list_all is_name ps ≡ b → cond b (Some ps) None ≡ Some p → list_all is_plain p ≡ true
    go true is h = ap (list_all is_plain) (sym (same_some ps p h)) ∙ plain-both ps is clear
    go false is h = absurd (not_none p (sym h))

after-plain : (rest : List ℕ) (p : Path) → after_slash rest ≡ Some p → list_all is_plain p ≡ true
after-plain [] p h = ap (list_all is_plain) (sym (same_some [] p h))
after-plain (b ∷ rest) p h = all-plain (parts_of (b ∷ rest)) p (parts-bare (b ∷ rest)) h

pub long-plain : (text : List ℕ) (p : Path) → long_path_of text ≡ Some p → list_all is_plain p ≡ true
long-plain [] p h = absurd (not_none p (sym h))
long-plain (b ∷ rest) p h = go (b == 47) h
  where
    go : (c : Bool) → cond c (after_slash rest) None ≡ Some p → list_all is_plain p ≡ true
    go true h = after-plain rest p h
    go false h = absurd (not_none p (sym h))

-- a path that a call names is plain
pub plain-in : (text : List ℕ) → list_all is_plain (path_in text) ≡ true
plain-in text = go (long_path_of text) refl
  where
    short : (b : Bool) (p : Path) → list_all is_plain p ≡ true → list_all is_plain (unwrap_or (cond b (Some p) None) []) ≡ true
    short true p h = h
    short false p h = refl

    go : (o : Option Path) → long_path_of text ≡ o → list_all is_plain (unwrap_or (option_and_then (λ names. cond (nat_le (length names) 64) (Some names) None) o) []) ≡ true
    go None is = refl
    go (Some p) is = short (nat_le (length p) 64) p (long-plain text p is)

-- ---- the text of a path

no-slash : (n : Name) → bare n ≡ true → AllByRecursion (λ b. (b == 47) ≡ false) n
no-slash [] h = tt
no-slash (b ∷ n) h = (first (b == 47) (list_any (λ x. x == 47) n) h, no-slash n (rest (b == 47) (list_any (λ x. x == 47) n) h))
  where
    first : (c d : Bool) → not (c || d) ≡ true → c ≡ false
    first true d h = cc
    first false d h = refl

    rest : (c d : Bool) → not (c || d) ≡ true → not d ≡ true
    rest true d h = cc
    rest false d h = h

whole-name : (n : Name) → bare n ≡ true → All (λ b. (b == 47) ≡ false) n
whole-name n h = All-from_recursion (λ b. (b == 47) ≡ false) n (no-slash n h)

parts-joined : (n : Name) (ps : Path) → list_all bare (n ∷ ps) ≡ true → parts_of (join_with_byte 47 (n ∷ ps)) ≡ n ∷ ps
parts-joined n [] h = slice_split_none (λ b. b == 47) n (whole-name n (and_parts (bare n) true h).0)
parts-joined n (m ∷ ps) h =
    let parts = and_parts (bare n) (list_all bare (m ∷ ps)) h in
    slice_split_at (λ b. b == 47) n 47 (join_with_byte 47 (m ∷ ps)) (whole-name n parts.0) refl ∙ ap (λ (rest : Path). n ∷ rest) (parts-joined m ps parts.1)

named-part : (ps : Path) → list_all is_plain ps ≡ true → list_all is_name ps ≡ true
named-part [] h = refl
named-part (p ∷ ps) h =
    let parts = and_parts (is_plain p) (list_all is_plain ps) h in
    ap (λ b. b && list_all is_name ps) (and_parts (is_name p) (bare p) parts.0).0 ∙ named-part ps parts.1

bare-part : (ps : Path) → list_all is_plain ps ≡ true → list_all bare ps ≡ true
bare-part [] h = refl
bare-part (p ∷ ps) h =
    let parts = and_parts (is_plain p) (list_all is_plain ps) h in
    ap (λ b. b && list_all bare ps) (and_parts (is_name p) (bare p) parts.0).1 ∙ bare-part ps parts.1

behind-slash : (n : Name) (ps : Path) → list_all is_plain (n ∷ ps) ≡ true → after_slash (join_with_byte 47 (n ∷ ps)) ≡ all_names (parts_of (join_with_byte 47 (n ∷ ps)))
behind-slash [] ps h = cc
behind-slash (b ∷ n) [] h = refl
behind-slash (b ∷ n) (m ∷ ps) h = refl

pub reads-again : (p : Path) → list_all is_plain p ≡ true → long_path_of (47 ∷ join_with_byte 47 p) ≡ Some p
reads-again [] h = refl
reads-again (n ∷ ps) h =
    behind-slash n ps h ∙ ap all_names (parts-joined n ps (bare-part (n ∷ ps) h)) ∙ ap (λ b. cond b (Some (n ∷ ps)) None) (named-part (n ∷ ps) h)

-- a plain name has at most 255 bytes
short-name : (n : Name) → is_plain n ≡ true → length n ≤ 255
short-name n h =
    let named = (and_parts (is_name n) (bare n) h).0 in
    let undotted = (and_parts ((nat_lt 0 (length n) && nat_le (length n) 255) && not (list_any (λ b. b == 0) n)) (not (is_dots n)) named).0 in
    let sized = (and_parts (nat_lt 0 (length n) && nat_le (length n) 255) (not (list_any (λ b. b == 0) n)) undotted).0 in
    within (length n) (and_parts (nat_lt 0 (length n)) (nat_le (length n) 255) sized).1
  where
    within : (k : ℕ) → nat_le k 255 ≡ true → k ≤ 255
    within k h = grind (arith, nat_tests, h)

pub text-short : (p : Path) → list_all is_plain p ≡ true → length (join_with_byte 47 p) ≤ 256 * length p
text-short [] h = omega arith
text-short (n ∷ []) h = let short = short-name n (and_parts (is_plain n) true h).0 in omega (arith, short)
text-short (n ∷ m ∷ ps) h =
    let parts = and_parts (is_plain n) (list_all is_plain (m ∷ ps)) h in
    let short = short-name n parts.0 in
    let rest = text-short (m ∷ ps) parts.1 in
    omega (arith, short, rest, length-append n (47 ∷ join_with_byte 47 (m ∷ ps)))
