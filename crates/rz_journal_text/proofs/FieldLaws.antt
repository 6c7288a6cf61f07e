-- Each field is spelled in one way.
use Rattle.std.proofs.Common.{◌≡◌, ℕ, zero, suc, ◌+◌, ◌-◌, ◌*◌, ◌/◌, ◌%◌, ◌^◌, ◌<◌, ◌≤◌, ◌==◌, nat_le, Bool, true, cond, All, List, [], ◌∷◌, ◌++◌, length, take, drop, Option, Some, None, refl, sym, ◌∙◌, ap, subst, arith, append_assoc, length-append}
use Rattle.std.proofs.Math.Nat.{pow-succ', div-div-eq-div-mul, div-one}
use Rattle.std.proofs.Math.Seq.{take-append_seam, drop-append_seam}
use Rattle.std.proofs.lemmas.Bool.{eqb-true, le-leb, leb-true, cond-true}
use Rattle.std.proofs.lemmas.Option.{cond_some}
use Rattle.std.proofs.lemmas.List.{append-nil, take-append-drop, length-take-le}
use Rattle.std.proofs.lemmas.List.Splits.{join_with_byte-slice_split}
use Rattle.std.specs.Int.{byte_at, bytes_low_first}
use Rattle.std.specs.List.{flat_map, join_with_byte, list_all}
use Rattle.byteorder.specs.Endian.{little_number, little_bytes}
use Rattle.byteorder.specs.Numbers.{length-bytes_low_first, little_from-cons, little_from-lt, little_number-reads_back}
use Rattle.rz_events.specs.declared.keys.Key.{Key}
use Rattle.rz_events.specs.declared.files.Kind.{Kind}
use Rattle.rz_events.specs.declared.files.Kind.TheVariants.{File, Dir, Link}
use Rattle.rz_events.specs.declared.files.Published.{Published}
use Rattle.rz_export_model.specs.Paths.{Path, after_slash, is_name, long_path_of, parts_of}
use Rattle.rz_journal_text.specs.Spelling.{text_bytes, key_bytes, path_text, path_bytes, places_bytes, published_bytes, maybe_published_bytes, kind_number, IsShort, IsSpelled, IsWide, IsKey, ArePlaces, IsPublished}
use Rattle.rz_journal_text.specs.Fronts.{Front, and_then, ◌>>=◌, done, given, nothing, first, byte, number, text, path, key, numbered_kind, kind, nodes, places, published, some_published, maybe_published}
use Rattle.rz_journal_text.proofs.Steps.{Bytes, none_some, IsLawful, step_again, last_again, step_found, joined, carried, given_is, either_way, either_value, front_small}

-- ---- bytes and numbers

abbrev pub one_byte : ℕ → List ℕ
one_byte b = b ∷ []

byte_found : (bytes rest : List ℕ) (x : ℕ) → Bytes bytes → byte bytes ≡ Some (x, rest) → Unit {0} × (one_byte x ++ rest ≡ bytes)
unfolding byte
byte_found [] rest x small is = absurd (none_some (x, rest) is)
byte_found (b ∷ bs) rest x small is = carried (λ y l. Unit {0} × (one_byte y ++ l ≡ b ∷ bs)) b x bs rest is (tt, refl)

pub byte_law : IsLawful one_byte (λ b. Unit {0}) byte
unfolding byte
byte_law = record { again = λ x rest fits. refl; found = byte_found }

-- so many bytes
abbrev pub itself : List ℕ → List ℕ
itself xs = xs

first_again : (n : ℕ) (xs rest : List ℕ) → length xs ≡ n → first n (xs ++ rest) ≡ Some (xs, rest)
unfolding first
first_again n xs rest long =
    let at : first (length xs) (xs ++ rest) ≡ Some (xs, rest) =
    cond-true _ _ _ (le-leb (length xs) (length (xs ++ rest)) (omega (arith, length-append xs rest))) ∙ (let front = take-append_seam xs rest in let back = drop-append_seam xs rest in rw (front, back) refl) in
    subst (λ (k : ℕ). first k (xs ++ rest) ≡ Some (xs, rest)) long at

first_found : (n : ℕ) (bytes rest xs : List ℕ) → Bytes bytes → first n bytes ≡ Some (xs, rest) → (length xs ≡ n) × (itself xs ++ rest ≡ bytes)
unfolding first
first_found n bytes rest xs small is =
    let both = cond_some _ _ _ is in
    let le = leb-true n (length bytes) both.0 in
    let same : ◌≡◌ {A = Option (List ℕ × List ℕ)} (Some (take n bytes, drop n bytes)) (Some (xs, rest)) = ap (λ (p : List ℕ × List ℕ). Some p) both.1 in
    carried (λ l r. (length l ≡ n) × (l ++ r ≡ bytes)) (take n bytes) xs (drop n bytes) rest same (length-take-le n bytes le, take-append-drop n bytes)

pub first_law : (n : ℕ) → IsLawful itself (λ xs. length xs ≡ n) (first n)
first_law n = record { again = λ xs rest long. first_again n xs rest long; found = first_found n }

-- a byte of a number, by its place
byte_at-pow : (k x : ℕ) → byte_at k x ≡ x / 256 ^ k % 256
byte_at-pow zero x = ap (λ (y : ℕ). y % 256) (sym (div-one x))
byte_at-pow (suc k) x = refl

-- a byte below a number moves its bytes on
byte_moved : (i a v : ℕ) → a < 256 → byte_at (suc i) (a + 256 * v) ≡ byte_at i v
byte_moved i a v small =
    let whole : (a + 256 * v) / 256 ≡ v = omega arith in
    ap (λ (p : ℕ). (a + 256 * v) / p % 256) (pow-succ' 256 i)
    ∙ ap (λ (q : ℕ). q % 256) (sym (div-div-eq-div-mul (a + 256 * v) 256 (256 ^ i)))
    ∙ ap (λ (q : ℕ). q / 256 ^ i % 256) whole
    ∙ sym (byte_at-pow i v)

bytes_moved : (n i a v : ℕ) → a < 256 → bytes_low_first (suc i) n (a + 256 * v) ≡ bytes_low_first i n v
bytes_moved zero i a v small = refl
bytes_moved (suc n) i a v small =
    ap (λ (b : ℕ). b ∷ bytes_low_first (suc (suc i)) n (a + 256 * v)) (byte_moved i a v small)
    ∙ ap (λ (l : List ℕ). byte_at i v ∷ l) (bytes_moved n (suc i) a v small)

-- the bytes of the number that bytes are
number_spelled : (xs : List ℕ) → Bytes xs → little_bytes (length xs) (little_number (length xs) xs) ≡ xs
number_spelled [] small = refl
number_spelled (a ∷ xs) small =
    let low : a < 256 = small 0 in
    let v = little_number (length xs) xs in
    let is : little_number (suc (length xs)) (a ∷ xs) ≡ a + 256 * v = ap (λ (w : ℕ). a + 256 * w) (little_from-cons 0 (length xs) a xs) in
    let head : byte_at 0 (a + 256 * v) ≡ a = omega arith in
    ap (little_bytes (suc (length xs))) is
    ∙ ap (λ (b : ℕ). b ∷ bytes_low_first 1 (length xs) (a + 256 * v)) head
    ∙ ap (λ (l : List ℕ). a ∷ l) (bytes_moved (length xs) 0 a v low ∙ number_spelled xs (λ k. small (suc k)))

number_again : (n x : ℕ) (rest : List ℕ) → IsWide n x → number n (little_bytes n x ++ rest) ≡ Some (x, rest)
unfolding number
number_again n x rest wide =
    let back : little_number n (little_bytes n x) ≡ x = ap (little_number n) (sym (append-nil (little_bytes n x))) ∙ little_number-reads_back n x [] wide in
    last_again itself (λ xs. length xs ≡ n) (first n) (first_law n) (λ xs. done (little_number n xs)) (little_bytes n x) rest (length-bytes_low_first 0 n x)
    ∙ ap (λ (y : ℕ). Some (y, rest)) back

number_found : (n : ℕ) (bytes rest : List ℕ) (x : ℕ) → Bytes bytes → number n bytes ≡ Some (x, rest) → IsWide n x × (little_bytes n x ++ rest ≡ bytes)
unfolding number
number_found n bytes rest x small is =
    let a = step_found itself (λ xs. length xs ≡ n) (first n) (first_law n) (λ xs. done (little_number n xs)) bytes rest x small is in
    let bytes_of : Bytes a.x = λ k. front_small a.x a.middle bytes a.spelled small k in
    let spelled : little_bytes n (little_number n a.x) ≡ a.x = subst (λ (k : ℕ). little_bytes k (little_number k a.x) ≡ a.x) a.fits (number_spelled a.x bytes_of) in
    carried (λ y l. IsWide n y × (little_bytes n y ++ l ≡ bytes)) (little_number n a.x) x a.middle rest a.then
    (little_from-lt 0 n a.x bytes_of, ap (λ (l : List ℕ). l ++ a.middle) spelled ∙ a.spelled)

pub number_law : (n : ℕ) → IsLawful (little_bytes n) (IsWide n) (number n)
number_law n = record { again = number_again n; found = number_found n }

-- ---- texts and paths

text_again : (xs rest : List ℕ) → IsShort xs → text (text_bytes xs ++ rest) ≡ Some (xs, rest)
unfolding text
text_again xs rest short =
    step_again (little_bytes 2) (IsWide 2) (number 2) (number_law 2) first (length xs) xs rest short ∙ first_again (length xs) xs rest refl

text_found : (bytes rest xs : List ℕ) → Bytes bytes → text bytes ≡ Some (xs, rest) → IsShort xs × (text_bytes xs ++ rest ≡ bytes)
unfolding text
text_found bytes rest xs small is =
    let a = step_found (little_bytes 2) (IsWide 2) (number 2) (number_law 2) first bytes rest xs small is in
    let b = first_found a.x a.middle rest xs a.small a.then in
    let spelled : (little_bytes 2 a.x ++ xs) ++ rest ≡ bytes = joined (little_bytes 2 a.x) xs a.middle rest bytes b.1 a.spelled in
    (subst (λ (n : ℕ). n < 2 ^ 16) (sym b.0) a.fits, subst (λ (n : ℕ). (little_bytes 2 n ++ xs) ++ rest ≡ bytes) (sym b.0) spelled)

pub text_law : IsLawful text_bytes IsShort text
text_law = record { again = text_again; found = text_found }

-- what the text after the slash is read as is spelled so
names_spelled : (rest : List ℕ) (p : Path) → after_slash rest ≡ Some p → join_with_byte 47 p ≡ rest
names_spelled [] [] is = refl
names_spelled [] (name ∷ p) is = absurd (let none : ◌≡◌ {A = Option Path} (Some []) (Some (name ∷ p)) = is in cc)
names_spelled (b ∷ rest) p is =
    let both = cond_some (list_all is_name (parts_of (b ∷ rest))) (parts_of (b ∷ rest)) p is in
    ap (join_with_byte 47) (sym both.1) ∙ join_with_byte-slice_split 47 (b ∷ rest)

-- a text that is read as a path is this path's text
path_spelled : (xs : List ℕ) (p : Path) → long_path_of xs ≡ Some p → path_text p ≡ xs
path_spelled [] p is = absurd (none_some p is)
path_spelled (b ∷ rest) p is =
    either_value (b == 47) (after_slash rest) None p (path_text p ≡ b ∷ rest)
    (λ slash names. ap (λ (l : List ℕ). 47 ∷ l) (names_spelled rest p names) ∙ ap (λ (c : ℕ). c ∷ rest) (sym (eqb-true b 47 slash)))
    (λ none. absurd (none_some p none))
    is

abbrev read_path : ℕ → Front Path
read_path n = first n >>= (λ xs. given (long_path_of xs))

path_again : (p : Path) (rest : List ℕ) → IsSpelled p → path (path_bytes p ++ rest) ≡ Some (p, rest)
unfolding path
path_again p rest spelled =
    step_again (little_bytes 4) (IsWide 4) (number 4) (number_law 4) read_path (length (path_text p)) (path_text p) rest spelled.1
    ∙ last_again itself (λ xs. length xs ≡ length (path_text p)) (first (length (path_text p))) (first_law (length (path_text p))) (λ xs. given (long_path_of xs)) (path_text p) rest refl
    ∙ ap (λ (o : Option Path). given o rest) spelled.0

path_found : (bytes rest : List ℕ) (p : Path) → Bytes bytes → path bytes ≡ Some (p, rest) → IsSpelled p × (path_bytes p ++ rest ≡ bytes)
unfolding path
path_found bytes rest p small is =
    let a = step_found (little_bytes 4) (IsWide 4) (number 4) (number_law 4) read_path bytes rest p small is in
    let b = step_found itself (λ xs. length xs ≡ a.x) (first a.x) (first_law a.x) (λ xs. given (long_path_of xs)) a.middle rest p a.small a.then in
    let there = given_is (long_path_of b.x) p b.middle rest b.then in
    let same : path_text p ≡ b.x = path_spelled b.x p there.0 in
    let long : a.x ≡ length (path_text p) = sym b.fits ∙ ap length (sym same) in
    let again : long_path_of (path_text p) ≡ Some p = ap long_path_of same ∙ there.0 in
    let text_is : path_text p ++ rest ≡ a.middle = ap (λ (l : List ℕ). l ++ rest) same ∙ ap (λ (l : List ℕ). b.x ++ l) (sym there.1) ∙ b.spelled in
    let all : (little_bytes 4 a.x ++ path_text p) ++ rest ≡ bytes = joined (little_bytes 4 a.x) (path_text p) a.middle rest bytes text_is a.spelled in
    ((again, subst (λ (n : ℕ). n < 2 ^ 32) long a.fits), subst (λ (n : ℕ). (little_bytes 4 n ++ path_text p) ++ rest ≡ bytes) long all)

pub path_law : IsLawful path_bytes IsSpelled path
path_law = record { again = path_again; found = path_found }

-- ---- keys, kinds, nodes, what is published

abbrev key_from : ℕ → Front Key
key_from fid = number 8 >>= (λ block. done (record { fid = fid; block = block }))

key_again : (k : Key) (rest : List ℕ) → IsKey k → key (key_bytes k ++ rest) ≡ Some (k, rest)
unfolding key
key_again k rest wide =
    step_again (little_bytes 16) (IsWide 16) (number 16) (number_law 16) key_from k.fid (little_bytes 8 k.block) rest wide.0
    ∙ last_again (little_bytes 8) (IsWide 8) (number 8) (number_law 8) (λ block. done (record { fid = k.fid; block = block })) k.block rest wide.1

key_found : (bytes rest : List ℕ) (k : Key) → Bytes bytes → key bytes ≡ Some (k, rest) → IsKey k × (key_bytes k ++ rest ≡ bytes)
unfolding key
key_found bytes rest k small is =
    let a = step_found (little_bytes 16) (IsWide 16) (number 16) (number_law 16) key_from bytes rest k small is in
    let b = step_found (little_bytes 8) (IsWide 8) (number 8) (number_law 8) (λ block. done (record { fid = a.x; block = block })) a.middle rest k a.small a.then in
    carried (λ k l. IsKey k × (key_bytes k ++ l ≡ bytes)) (record { fid = a.x; block = b.x }) k b.middle rest b.then
    ((a.fits, b.fits), joined (little_bytes 16 a.x) (little_bytes 8 b.x) a.middle b.middle bytes b.spelled a.spelled)

pub key_law : IsLawful key_bytes IsKey key
key_law = record { again = key_again; found = key_found }

abbrev pub kind_byte : Kind → List ℕ
kind_byte kind = kind_number kind ∷ []

kind_again : (k : Kind) (rest : List ℕ) → Unit {0} → kind (kind_byte k ++ rest) ≡ Some (k, rest)
unfolding kind byte
kind_again File rest fits = refl
kind_again Dir rest fits = refl
kind_again Link rest fits = refl

kind_numbered : (n : ℕ) (k : Kind) → numbered_kind n ≡ Some k → kind_number k ≡ n
kind_numbered n k is =
    let G : Type 0 = kind_number k ≡ n in
    let shown : (j : Kind) → (n == kind_number j) ≡ true → Some j ≡ Some k → G =
    λ j at same. let one : j ≡ k = cc in ap kind_number (sym one) ∙ sym (eqb-true n (kind_number j) at) in
    either_value (n == 0) _ _ k G (shown File)
    (either_value (n == 1) _ _ k G (shown Dir)
    (either_value (n == 2) _ _ k G (shown Link) (λ none. absurd (none_some k none))))
    is

kind_found : (bytes rest : List ℕ) (k : Kind) → Bytes bytes → kind bytes ≡ Some (k, rest) → Unit {0} × (kind_byte k ++ rest ≡ bytes)
unfolding kind
kind_found bytes rest k small is =
    let a = step_found one_byte (λ b. Unit {0}) byte byte_law (λ n. given (numbered_kind n)) bytes rest k small is in
    let there = given_is (numbered_kind a.x) k a.middle rest a.then in
    (tt, ap (λ (n : ℕ). n ∷ rest) (kind_numbered a.x k there.0) ∙ ap (λ (l : List ℕ). a.x ∷ l) (sym there.1) ∙ a.spelled)

pub kind_law : IsLawful kind_byte (λ k. Unit {0}) kind
kind_law = record { again = kind_again; found = kind_found }

nodes_again : (ns before rest : List ℕ) → All (IsWide 2) ns → nodes before (length ns) (flat_map (little_bytes 2) ns ++ rest) ≡ Some (before ++ ns, rest)
unfolding nodes
nodes_again [] before rest wide = ap (λ (l : List ℕ). Some (l, rest)) (sym (append-nil before))
nodes_again (n ∷ ns) before rest wide =
    step_again (little_bytes 2) (IsWide 2) (number 2) (number_law 2) (λ node. nodes (before ++ node ∷ []) (length ns)) n (flat_map (little_bytes 2) ns) rest (wide 0 0 (grind arith))
    ∙ nodes_again ns (before ++ n ∷ []) rest (λ k d lt. wide (suc k) d (grind arith))
    ∙ ap (λ (l : List ℕ). Some (l, rest)) (append_assoc before (n ∷ []) ns)

wide_cons : (n : ℕ) (ns : List ℕ) → IsWide 2 n → All (IsWide 2) ns → All (IsWide 2) (n ∷ ns)
wide_cons n ns first rest zero d lt = first
wide_cons n ns first rest (suc k) d lt = rest k d (omega arith)

record Nodes (before : List ℕ) (n : ℕ) (bytes all rest : List ℕ) : Type 0 where
  more : List ℕ
  is : all ≡ before ++ more
  count : length more ≡ n
  wide : All (IsWide 2) more
  spelled : flat_map (little_bytes 2) more ++ rest ≡ bytes

nodes_found : (n : ℕ) (before bytes rest all : List ℕ) → Bytes bytes → nodes before n bytes ≡ Some (all, rest) → Nodes before n bytes all rest
unfolding nodes
nodes_found zero before bytes rest all small is =
    carried (λ l r. Nodes before 0 bytes l r) before all bytes rest is
    record { more = []; is = sym (append-nil before); count = refl; wide = λ k d lt. absurd (omega arith); spelled = refl }
nodes_found (suc n) before bytes rest all small is =
    let a = step_found (little_bytes 2) (IsWide 2) (number 2) (number_law 2) (λ node. nodes (before ++ node ∷ []) n) bytes rest all small is in
    let b = nodes_found n (before ++ a.x ∷ []) a.middle rest all a.small a.then in
    record {
      more = a.x ∷ b.more;
      is = b.is ∙ append_assoc before (a.x ∷ []) b.more;
      count = ap suc b.count;
      wide = wide_cons a.x b.more a.fits b.wide;
      spelled = joined (little_bytes 2 a.x) (flat_map (little_bytes 2) b.more) a.middle rest bytes b.spelled a.spelled;
    }

abbrev counted : ℕ → Front (List ℕ)
counted n = cond (nat_le n 16) (nodes [] n) nothing

-- the nodes that are read, one by one
pub nodes_none : (before : List ℕ) (n : ℕ) (bytes : List ℕ) → n ≡ 0 → nodes before n bytes ≡ Some (before, bytes)
unfolding nodes
nodes_none before n bytes none = ap (λ (k : ℕ). nodes before k bytes) none

pub nodes_read : (before : List ℕ) (n : ℕ) (bytes middle : List ℕ) (x : ℕ) → 1 ≤ n → number 2 bytes ≡ Some (x, middle) → nodes before n bytes ≡ nodes (before ++ x ∷ []) (n - 1) middle
unfolding nodes
nodes_read before zero bytes middle x some read = absurd (omega arith)
nodes_read before (suc n) bytes middle x some read =
    ap (λ (o : Option (ℕ × List ℕ)). and_then o (λ node. nodes (before ++ node ∷ []) n)) read ∙ ap (λ (k : ℕ). nodes (before ++ x ∷ []) k middle) (omega arith)

pub nodes_stop : (before : List ℕ) (n : ℕ) (bytes : List ℕ) → 1 ≤ n → number 2 bytes ≡ None → nodes before n bytes ≡ None
unfolding nodes
nodes_stop before zero bytes some none = absurd (omega arith)
nodes_stop before (suc n) bytes some none = ap (λ (o : Option (ℕ × List ℕ)). and_then o (λ node. nodes (before ++ node ∷ []) n)) none

pub places_are : (old rest : List ℕ) (n : ℕ) → byte old ≡ Some (n, rest) → n ≤ 16 → places old ≡ nodes [] n rest
unfolding places
places_are old rest n read few =
    ap (λ (o : Option (ℕ × List ℕ)). and_then o counted) read ∙ ap (λ (b : Bool). cond b (nodes [] n) nothing rest) (le-leb n 16 few)

places_again : (ns rest : List ℕ) → ArePlaces ns → places (places_bytes ns ++ rest) ≡ Some (ns, rest)
unfolding places byte
places_again ns rest fits =
    ap (λ (b : Bool). cond b (nodes [] (length ns)) nothing (flat_map (little_bytes 2) ns ++ rest)) (le-leb (length ns) 16 fits.0)
    ∙ nodes_again ns [] rest fits.1

places_found : (bytes rest ns : List ℕ) → Bytes bytes → places bytes ≡ Some (ns, rest) → ArePlaces ns × (places_bytes ns ++ rest ≡ bytes)
unfolding places
places_found bytes rest ns small is =
    let a = step_found one_byte (λ b. Unit {0}) byte byte_law counted bytes rest ns small is in
    let G : Type 0 = ArePlaces ns × (places_bytes ns ++ rest ≡ bytes) in
    either_way (nat_le a.x 16) (nodes [] a.x) nothing a.middle rest ns G
    (λ few read.
    let b = nodes_found a.x [] a.middle rest ns a.small read in
    let le = leb-true a.x 16 few in
    let all : ArePlaces b.more × (places_bytes b.more ++ rest ≡ bytes) =
    ((omega (arith, b.count), b.wide), ap (λ (n : ℕ). n ∷ (flat_map (little_bytes 2) b.more ++ rest)) b.count ∙ ap (λ (l : List ℕ). a.x ∷ l) b.spelled ∙ a.spelled) in
    subst (λ (l : List ℕ). ArePlaces l × (places_bytes l ++ rest ≡ bytes)) (sym b.is) all)
    (λ none. absurd (none_some (ns, rest) none))
    a.then

pub places_law : IsLawful places_bytes ArePlaces places
places_law = record { again = places_again; found = places_found }

abbrev pub FitsPublished : Published → Type 0
FitsPublished p = IsWide 8 p.stamp × IsWide 2 p.mask × IsWide 4 p.length

abbrev published_from : ℕ → ℕ → Front Published
published_from stamp mask = number 4 >>= (λ bytes. done (record { stamp = stamp; mask = mask; length = bytes }))

published_again : (p : Published) (rest : List ℕ) → FitsPublished p → published (published_bytes p ++ rest) ≡ Some (p, rest)
unfolding published
published_again p rest fits =
    step_again (little_bytes 8) (IsWide 8) (number 8) (number_law 8) (λ stamp. number 2 >>= published_from stamp) p.stamp (little_bytes 2 p.mask ++ little_bytes 4 p.length) rest fits.0
    ∙ step_again (little_bytes 2) (IsWide 2) (number 2) (number_law 2) (published_from p.stamp) p.mask (little_bytes 4 p.length) rest fits.1
    ∙ last_again (little_bytes 4) (IsWide 4) (number 4) (number_law 4) (λ bytes. done (record { stamp = p.stamp; mask = p.mask; length = bytes })) p.length rest fits.2

published_found : (bytes rest : List ℕ) (p : Published) → Bytes bytes → published bytes ≡ Some (p, rest) → FitsPublished p × (published_bytes p ++ rest ≡ bytes)
unfolding published
published_found bytes rest p small is =
    let a = step_found (little_bytes 8) (IsWide 8) (number 8) (number_law 8) (λ stamp. number 2 >>= published_from stamp) bytes rest p small is in
    let b = step_found (little_bytes 2) (IsWide 2) (number 2) (number_law 2) (published_from a.x) a.middle rest p a.small a.then in
    let c = step_found (little_bytes 4) (IsWide 4) (number 4) (number_law 4) (λ bytes. done (record { stamp = a.x; mask = b.x; length = bytes })) b.middle rest p b.small b.then in
    carried (λ p l. FitsPublished p × (published_bytes p ++ l ≡ bytes)) (record { stamp = a.x; mask = b.x; length = c.x }) p c.middle rest c.then
    ((a.fits, b.fits, c.fits), joined (little_bytes 8 a.x) (little_bytes 2 b.x ++ little_bytes 4 c.x) a.middle c.middle bytes (joined (little_bytes 2 b.x) (little_bytes 4 c.x) b.middle c.middle a.middle c.spelled b.spelled) a.spelled)

pub published_law : IsLawful published_bytes FitsPublished published
published_law = record { again = published_again; found = published_found }

abbrev by_flag : ℕ → Front (Option Published)
by_flag n = cond (n == 0) (done None) (cond (n == 1) some_published nothing)

maybe_again : (o : Option Published) (rest : List ℕ) → IsPublished o → maybe_published (maybe_published_bytes o ++ rest) ≡ Some (o, rest)
unfolding maybe_published byte
maybe_again None rest fits = refl
maybe_again (Some p) rest fits = last_again published_bytes FitsPublished published published_law (λ p. done (Some p)) p rest fits

maybe_found : (bytes rest : List ℕ) (o : Option Published) → Bytes bytes → maybe_published bytes ≡ Some (o, rest) → IsPublished o × (maybe_published_bytes o ++ rest ≡ bytes)
unfolding maybe_published
maybe_found bytes rest o small is =
    let a = step_found one_byte (λ b. Unit {0}) byte byte_law by_flag bytes rest o small is in
    let G : Type 0 = IsPublished o × (maybe_published_bytes o ++ rest ≡ bytes) in
    either_way (a.x == 0) (done None) (cond (a.x == 1) some_published nothing) a.middle rest o G
    (λ at read.
    carried (λ o l. IsPublished o × (maybe_published_bytes o ++ l ≡ bytes)) None o a.middle rest read
    (tt, ap (λ (n : ℕ). n ∷ a.middle) (sym (eqb-true a.x 0 at)) ∙ a.spelled))
    (either_way (a.x == 1) some_published nothing a.middle rest o G
    (λ at read.
    let b = step_found published_bytes FitsPublished published published_law (λ p. done (Some p)) a.middle rest o a.small read in
    carried (λ o l. IsPublished o × (maybe_published_bytes o ++ l ≡ bytes)) (Some b.x) o b.middle rest b.then
    (b.fits, ap (λ (n : ℕ). n ∷ (published_bytes b.x ++ b.middle)) (sym (eqb-true a.x 1 at)) ∙ ap (λ (l : List ℕ). a.x ∷ l) b.spelled ∙ a.spelled))
    (λ none. absurd (none_some (o, rest) none)))
    a.then

pub maybe_law : IsLawful maybe_published_bytes IsPublished maybe_published
maybe_law = record { again = maybe_again; found = maybe_found }
