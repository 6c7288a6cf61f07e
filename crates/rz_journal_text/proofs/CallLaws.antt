-- Each call on names is spelled in one way.
use Rattle.std.proofs.Common.{◌≡◌, ℕ, ◌==◌, nat_lt, true, cond, List, ◌++◌, Option, Some, refl, sym, ◌∙◌, ap, subst}
use Rattle.std.proofs.lemmas.Bool.{eqb-true}
use Rattle.byteorder.specs.Endian.{little_bytes}
use Rattle.rz_events.specs.declared.tree.TreeCall.{TreeCall}
use Rattle.rz_events.specs.declared.tree.TreeCall.TheVariants.{Lookup, Getattr, Rmdir, Mkdir, Create, Unlink, Readlink, Readdir, OpenFile, Setattr, Rename, Link, Symlink}
use Rattle.rz_journal_text.specs.Spelling.{text_bytes, number_of, field_bytes, HasShortTexts, IsShort, IsWide, IsCall}
use Rattle.rz_journal_text.specs.Fronts.{Front, ◌>>=◌, done, given, number, text, path_call, pair_call, on_path, on_pair, setattr, call_numbered}
use Rattle.rz_journal_text.proofs.Steps.{Bytes, none_some, step_again, last_again, step_found, joined, carried, given_is, either_way, either_value}
use Rattle.rz_journal_text.proofs.FieldLaws.{number_law, text_law}

abbrev pub CallFits : TreeCall → Type 0
CallFits call = IsCall call × HasShortTexts call

-- a call is what its number and its fields say
abbrev pub CallFound : ℕ → List ℕ → TreeCall → List ℕ → Type 0
CallFound n bytes call rest = (number_of call ≡ n) × CallFits call × (field_bytes call ++ rest ≡ bytes)

-- ---- calls on one path

one_again : (n : ℕ) (call : TreeCall) (xs rest : List ℕ) → path_call n xs ≡ Some call → IsShort xs → on_path n (text_bytes xs ++ rest) ≡ Some (call, rest)
unfolding on_path
one_again n call xs rest is short =
    last_again text_bytes IsShort text text_law (λ path. given (path_call n path)) xs rest short ∙ ap (λ (o : Option TreeCall). given o rest) is

-- a call on this path, with this number
record OnPath (n : ℕ) (xs : List ℕ) (call : TreeCall) : Type 0 where
  number : number_of call ≡ n
  fields : field_bytes call ≡ text_bytes xs
  fits : IsShort xs → CallFits call

one_value : (n : ℕ) (xs : List ℕ) (call : TreeCall) → path_call n xs ≡ Some call → OnPath n xs call
one_value n xs call is =
    let G : Type 0 = OnPath n xs call in
    let shown : (m : ℕ) (it : TreeCall) → OnPath m xs it → (n == m) ≡ true → Some it ≡ Some call → G =
    λ m it holds at same.
    let one : it ≡ call = cc in
    let number : n ≡ m = eqb-true n m at in
    subst (λ (c : TreeCall). OnPath n xs c) one (subst (λ (k : ℕ). OnPath k xs it) (sym number) holds) in
    either_value (n == 0) _ _ call G (shown 0 (Lookup xs) record { number = refl; fields = refl; fits = λ s. (tt, s) })
    (either_value (n == 1) _ _ call G (shown 1 (Getattr xs) record { number = refl; fields = refl; fits = λ s. (tt, s) })
    (either_value (n == 2) _ _ call G (shown 2 (Rmdir xs) record { number = refl; fields = refl; fits = λ s. (tt, s) })
    (either_value (n == 3) _ _ call G (shown 3 (Mkdir xs) record { number = refl; fields = refl; fits = λ s. (tt, s) })
    (either_value (n == 4) _ _ call G (shown 4 (Create xs) record { number = refl; fields = refl; fits = λ s. (tt, s) })
    (either_value (n == 5) _ _ call G (shown 5 (Unlink xs) record { number = refl; fields = refl; fits = λ s. (tt, s) })
    (either_value (n == 6) _ _ call G (shown 6 (Readlink xs) record { number = refl; fields = refl; fits = λ s. (tt, s) })
    (either_value (n == 7) _ _ call G (shown 7 (Readdir xs) record { number = refl; fields = refl; fits = λ s. (tt, s) })
    (either_value (n == 8) _ _ call G (shown 8 (OpenFile xs) record { number = refl; fields = refl; fits = λ s. (tt, s) })
    (λ none. absurd (none_some call none))))))))))
    is

one_found : (n : ℕ) (bytes rest : List ℕ) (call : TreeCall) → Bytes bytes → on_path n bytes ≡ Some (call, rest) → CallFound n bytes call rest
unfolding on_path
one_found n bytes rest call small is =
    let a = step_found text_bytes IsShort text text_law (λ path. given (path_call n path)) bytes rest call small is in
    let there = given_is (path_call n a.x) call a.middle rest a.then in
    let value = one_value n a.x call there.0 in
    (value.number, value.fits a.fits, ap (λ (l : List ℕ). l ++ rest) value.fields ∙ ap (λ (l : List ℕ). text_bytes a.x ++ l) (sym there.1) ∙ a.spelled)

-- ---- calls on two texts

abbrev pair_from : ℕ → List ℕ → Front TreeCall
pair_from n one = text >>= (λ two. given (pair_call n one two))

two_again : (n : ℕ) (call : TreeCall) (xs ys rest : List ℕ) → pair_call n xs ys ≡ Some call → IsShort xs → IsShort ys → on_pair n ((text_bytes xs ++ text_bytes ys) ++ rest) ≡ Some (call, rest)
unfolding on_pair
two_again n call xs ys rest is short-x short-y =
    step_again text_bytes IsShort text text_law (pair_from n) xs (text_bytes ys) rest short-x
    ∙ last_again text_bytes IsShort text text_law (λ two. given (pair_call n xs two)) ys rest short-y
    ∙ ap (λ (o : Option TreeCall). given o rest) is

record OnPair (n : ℕ) (xs ys : List ℕ) (call : TreeCall) : Type 0 where
  number : number_of call ≡ n
  fields : field_bytes call ≡ text_bytes xs ++ text_bytes ys
  fits : IsShort xs → IsShort ys → CallFits call

two_value : (n : ℕ) (xs ys : List ℕ) (call : TreeCall) → pair_call n xs ys ≡ Some call → OnPair n xs ys call
two_value n xs ys call is =
    let G : Type 0 = OnPair n xs ys call in
    let shown : (m : ℕ) (it : TreeCall) → OnPair m xs ys it → (n == m) ≡ true → Some it ≡ Some call → G =
    λ m it holds at same.
    let one : it ≡ call = cc in
    let number : n ≡ m = eqb-true n m at in
    subst (λ (c : TreeCall). OnPair n xs ys c) one (subst (λ (k : ℕ). OnPair k xs ys it) (sym number) holds) in
    either_value (n == 10) _ _ call G (shown 10 (Rename xs ys) record { number = refl; fields = refl; fits = λ s t. (tt, (s, t)) })
    (either_value (n == 11) _ _ call G (shown 11 (Link xs ys) record { number = refl; fields = refl; fits = λ s t. (tt, (s, t)) })
    (either_value (n == 12) _ _ call G (shown 12 (Symlink xs ys) record { number = refl; fields = refl; fits = λ s t. (tt, (s, t)) })
    (λ none. absurd (none_some call none))))
    is

two_found : (n : ℕ) (bytes rest : List ℕ) (call : TreeCall) → Bytes bytes → on_pair n bytes ≡ Some (call, rest) → CallFound n bytes call rest
unfolding on_pair
two_found n bytes rest call small is =
    let a = step_found text_bytes IsShort text text_law (pair_from n) bytes rest call small is in
    let b = step_found text_bytes IsShort text text_law (λ two. given (pair_call n a.x two)) a.middle rest call a.small a.then in
    let there = given_is (pair_call n a.x b.x) call b.middle rest b.then in
    let value = two_value n a.x b.x call there.0 in
    let second : text_bytes b.x ++ rest ≡ a.middle = ap (λ (l : List ℕ). text_bytes b.x ++ l) (sym there.1) ∙ b.spelled in
    (value.number, value.fits a.fits b.fits, ap (λ (l : List ℕ). l ++ rest) value.fields ∙ joined (text_bytes a.x) (text_bytes b.x) a.middle rest bytes second a.spelled)

-- ---- new attributes

abbrev mtime_from : List ℕ → ℕ → Front TreeCall
mtime_from xs mode = number 8 >>= (λ mtime. done (Setattr xs mode mtime))

abbrev mode_from : List ℕ → Front TreeCall
mode_from xs = number 2 >>= mtime_from xs

setattr_again : (xs : List ℕ) (mode mtime : ℕ) (rest : List ℕ) → IsShort xs → IsWide 2 mode → IsWide 8 mtime → setattr ((text_bytes xs ++ (little_bytes 2 mode ++ little_bytes 8 mtime)) ++ rest) ≡ Some (Setattr xs mode mtime, rest)
unfolding setattr
setattr_again xs mode mtime rest short wide-mode wide-mtime =
    step_again text_bytes IsShort text text_law mode_from xs (little_bytes 2 mode ++ little_bytes 8 mtime) rest short
    ∙ step_again (little_bytes 2) (IsWide 2) (number 2) (number_law 2) (mtime_from xs) mode (little_bytes 8 mtime) rest wide-mode
    ∙ last_again (little_bytes 8) (IsWide 8) (number 8) (number_law 8) (λ mtime. done (Setattr xs mode mtime)) mtime rest wide-mtime

setattr_found : (bytes rest : List ℕ) (call : TreeCall) → Bytes bytes → setattr bytes ≡ Some (call, rest) → CallFound 9 bytes call rest
unfolding setattr
setattr_found bytes rest call small is =
    let a = step_found text_bytes IsShort text text_law mode_from bytes rest call small is in
    let b = step_found (little_bytes 2) (IsWide 2) (number 2) (number_law 2) (mtime_from a.x) a.middle rest call a.small a.then in
    let c = step_found (little_bytes 8) (IsWide 8) (number 8) (number_law 8) (λ mtime. done (Setattr a.x b.x mtime)) b.middle rest call b.small b.then in
    carried (CallFound 9 bytes) (Setattr a.x b.x c.x) call c.middle rest c.then
    (refl, ((b.fits, c.fits), a.fits), joined (text_bytes a.x) (little_bytes 2 b.x ++ little_bytes 8 c.x) a.middle c.middle bytes (joined (little_bytes 2 b.x) (little_bytes 8 c.x) b.middle c.middle a.middle c.spelled b.spelled) a.spelled)

-- ---- all calls

pub call_again : (call : TreeCall) (rest : List ℕ) → CallFits call → call_numbered (number_of call) (field_bytes call ++ rest) ≡ Some (call, rest)
unfolding call_numbered
call_again (Lookup xs) rest fits = one_again 0 (Lookup xs) xs rest refl fits.1
call_again (Getattr xs) rest fits = one_again 1 (Getattr xs) xs rest refl fits.1
call_again (Rmdir xs) rest fits = one_again 2 (Rmdir xs) xs rest refl fits.1
call_again (Mkdir xs) rest fits = one_again 3 (Mkdir xs) xs rest refl fits.1
call_again (Create xs) rest fits = one_again 4 (Create xs) xs rest refl fits.1
call_again (Unlink xs) rest fits = one_again 5 (Unlink xs) xs rest refl fits.1
call_again (Readlink xs) rest fits = one_again 6 (Readlink xs) xs rest refl fits.1
call_again (Readdir xs) rest fits = one_again 7 (Readdir xs) xs rest refl fits.1
call_again (OpenFile xs) rest fits = one_again 8 (OpenFile xs) xs rest refl fits.1
call_again (Setattr xs mode mtime) rest fits = setattr_again xs mode mtime rest fits.1 fits.0.0 fits.0.1
call_again (Rename xs ys) rest fits = two_again 10 (Rename xs ys) xs ys rest refl fits.1.0 fits.1.1
call_again (Link xs ys) rest fits = two_again 11 (Link xs ys) xs ys rest refl fits.1.0 fits.1.1
call_again (Symlink xs ys) rest fits = two_again 12 (Symlink xs ys) xs ys rest refl fits.1.0 fits.1.1

pub call_found : (n : ℕ) (bytes rest : List ℕ) (call : TreeCall) → Bytes bytes → call_numbered n bytes ≡ Some (call, rest) → CallFound n bytes call rest
unfolding call_numbered
call_found n bytes rest call small is =
    let G : Type 0 = CallFound n bytes call rest in
    either_way (nat_lt n 9) (on_path n) (cond (n == 9) setattr (on_pair n)) bytes rest call G
    (λ below read. one_found n bytes rest call small read)
    (either_way (n == 9) setattr (on_pair n) bytes rest call G
    (λ at read. subst (λ (k : ℕ). CallFound k bytes call rest) (sym (eqb-true n 9 at)) (setattr_found bytes rest call small read))
    (λ read. two_found n bytes rest call small read))
    is
