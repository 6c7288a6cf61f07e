-- One field at the front of bytes, and then the next ones.
use Rattle.std.proofs.Common.{◌≡◌, ℕ, zero, suc, ◌+◌, ◌<◌, Bool, true, false, cond, List, [], ◌∷◌, ◌++◌, length, drop, get_or, Option, Some, None, Result, Ok, Err, refl, sym, ◌∙◌, ap, subst, append_assoc, arith}
use Rattle.std.proofs.lemmas.List.{get_or-append-add, get_or-drop}
use Rattle.rz_journal_text.specs.declared.fault.EntryFault.{EntryFault}
use Rattle.rz_journal_text.specs.declared.fault.EntryFault.TheVariants.{NoMemory, BadEntry}
use Rattle.rz_journal_text.specs.Fronts.{Front, and_then, ◌>>=◌, given, Gives}

-- nothing but bytes
abbrev pub Bytes : List ℕ → Type 0
Bytes xs = (k : ℕ) → get_or xs k 0 < 256

-- A field is spelled in one way: its spelling is read again, and what was read stands there so.
pub record IsLawful {A : Type 0} (spell : A → List ℕ) (Fits : A → Type 0) (front : Front A) : Type 0 where
  pub again : (x : A) (rest : List ℕ) → Fits x → front (spell x ++ rest) ≡ Some (x, rest)
  pub found : (bytes rest : List ℕ) (x : A) → Bytes bytes → front bytes ≡ Some (x, rest) → Fits x × (spell x ++ rest ≡ bytes)

-- nothing is no value
pub none_some : {A : Type 0} (x : A) → ◌≡◌ {A = Option A} None (Some x) → ⊥
none_some x is = cc

-- a field was read, and the next ones after it
pub record Step {A B : Type 0} (spell : A → List ℕ) (Fits : A → Type 0) (next : A → Front B) (bytes : List ℕ) (y : B) (rest : List ℕ) : Type 0 where
  pub x : A
  pub middle : List ℕ
  pub fits : Fits x
  pub spelled : spell x ++ middle ≡ bytes
  pub small : Bytes middle
  pub then : next x middle ≡ Some (y, rest)

-- what stands behind bytes are bytes
pub behind : (xs rest bytes : List ℕ) → xs ++ rest ≡ bytes → Bytes bytes → Bytes rest
behind xs rest bytes is small k = subst (λ (n : ℕ). n < 256) (ap (λ (l : List ℕ). get_or l (length xs + k) 0) (sym is) ∙ get_or-append-add xs rest k 0) (small (length xs + k))

-- what stands in front in bytes are bytes
pub front_small : (xs rest bytes : List ℕ) → xs ++ rest ≡ bytes → Bytes bytes → Bytes xs
front_small [] rest bytes is small k = omega arith
front_small (x ∷ xs) rest bytes is small zero = subst (λ (n : ℕ). n < 256) (sym (ap (λ (l : List ℕ). get_or l 0 0) is)) (small 0)
front_small (x ∷ xs) rest bytes is small (suc k) = front_small xs rest (drop 1 bytes) (ap (drop 1) is) (λ j. rw (get_or-drop 1 bytes j 0) (small (1 + j))) k

-- the same value, with the same bytes behind it
pub carried : {B : Type 0} (P : B → List ℕ → Type 0) (x y : B) (xs ys : List ℕ) → ◌≡◌ {A = Option (B × List ℕ)} (Some (x, xs)) (Some (y, ys)) → P x xs → P y ys
carried {B = B} P x y xs ys same holds =
    let pair_of : Option (B × List ℕ) → B × List ℕ = λ o. elim o [ None ↦ (x, xs) | Some p ↦ p ] in
    subst (λ (p : B × List ℕ). P p.0 p.1) (ap pair_of same) holds

module _ {A B : Type 0} (spell : A → List ℕ) (Fits : A → Type 0) (front : Front A) (law : IsLawful spell Fits front) where
  -- a field that stands before others is read
  pub step_again : (next : A → Front B) (x : A) (more rest : List ℕ) → Fits x → (front >>= next) ((spell x ++ more) ++ rest) ≡ next x (more ++ rest)
  step_again next x more rest fits =
      ap (λ (o : Option (A × List ℕ)). and_then o next) (ap front (append_assoc (spell x) more rest) ∙ law.again x (more ++ rest) fits)

  -- and the last one
  pub last_again : (next : A → Front B) (x : A) (rest : List ℕ) → Fits x → (front >>= next) (spell x ++ rest) ≡ next x rest
  last_again next x rest fits = ap (λ (o : Option (A × List ℕ)). and_then o next) (law.again x rest fits)

  step_of : (next : A → Front B) (bytes rest : List ℕ) (y : B) → Bytes bytes → (o : Option (A × List ℕ)) → front bytes ≡ o → and_then o next ≡ Some (y, rest) → Step spell Fits next bytes y rest
  step_of next bytes rest y small None read is = absurd (none_some (y, rest) is)
  step_of next bytes rest y small (Some found) read is =
      let at = law.found bytes found.1 found.0 small read in
      record { x = found.0; middle = found.1; fits = at.0; spelled = at.1; small = behind (spell found.0) found.1 bytes at.1 small; then = is }

  -- the first field of what was read
  pub step_found : (next : A → Front B) (bytes rest : List ℕ) (y : B) → Bytes bytes → (front >>= next) bytes ≡ Some (y, rest) → Step spell Fits next bytes y rest
  step_found next bytes rest y small is = step_of next bytes rest y small (front bytes) refl is

-- spellings one behind the other
pub joined : (xs ys middle rest bytes : List ℕ) → ys ++ rest ≡ middle → xs ++ middle ≡ bytes → (xs ++ ys) ++ rest ≡ bytes
joined xs ys middle rest bytes second first = append_assoc xs ys rest ∙ ap (λ (l : List ℕ). xs ++ l) second ∙ first

-- a value that is there
pub given_is : {A : Type 0} (o : Option A) (x : A) (xs rest : List ℕ) → given o xs ≡ Some (x, rest) → (o ≡ Some x) × (xs ≡ rest)
given_is None x xs rest is = absurd (none_some (x, rest) is)
given_is (Some y) x xs rest is = carried (λ z l. (Some y ≡ Some z) × (xs ≡ l)) y x xs rest is (refl, refl)

-- an error of a field
abbrev pub Fails : {A B : Type 0} → Result A EntryFault → Option B → Type 0
Fails (Ok x) found = ⊥
Fails (Err BadEntry) found = found ≡ None
Fails (Err NoMemory) found = Unit {0}

-- where a field fails, so does what it belongs to
pub gives_on : {A B : Type 0} (r : Result A EntryFault) (rest : List ℕ) (found : Option B) (wanted : Option (A × List ℕ)) → Fails r found → (found ≡ None → wanted ≡ None) → Gives r rest wanted
gives_on (Ok x) rest found wanted fails stop = absurd fails
gives_on (Err BadEntry) rest found wanted fails stop = stop fails
gives_on (Err NoMemory) rest found wanted fails stop = tt

-- one of two ways to read
pub either_way : {A : Type 0} (b : Bool) (one two : Front A) (bytes rest : List ℕ) (x : A) (G : Type 0) → (b ≡ true → one bytes ≡ Some (x, rest) → G) → (two bytes ≡ Some (x, rest) → G) → cond b one two bytes ≡ Some (x, rest) → G
either_way true one two bytes rest x G f g is = f refl is
either_way false one two bytes rest x G f g is = g is

-- one of two values
pub either_value : {A : Type 0} (b : Bool) (one two : Option A) (x : A) (G : Type 0) → (b ≡ true → one ≡ Some x → G) → (two ≡ Some x → G) → cond b one two ≡ Some x → G
either_value true one two x G f g is = f refl is
either_value false one two x G f g is = g is
