-- What a reader leaves where a word is refused.
use Rattle.std.proofs.Common.{◌≡◌, ℕ, ◌+◌, ◌==◌, ◌&&◌, Bool, true, false, not, nat_le, if◌then◌else◌, List, [], ◌∷◌, length, Option, Some, None, Result, Ok, Err, ok_or, refl}
use Rattle.std.specs.List.{slice_split}
use Rattle.hex.specs.Hex.{decode_of}
use Rattle.hex.specs.declared.error.FromHexError.{FromHexError}
use Rattle.rz_events.specs.Volume.{Volume}
use Rattle.rz_events.specs.declared.operations.Datum.{Datum}
use Rattle.rz_events.specs.declared.operations.Datum.TheVariants.{Bytes}
use Rattle.rz_script_words.specs.Numerals.{numeral}
use Rattle.rz_events.specs.declared.operations.Operation.{Operation}
use Rattle.rz_events.specs.declared.operations.Operation.TheVariants.{Put}
use Rattle.mj_angles.specs.Layout.{block_bytes_of}
use Rattle.rz_script_words.specs.Words.{Word}
use Rattle.rz_script_words.specs.Limits.{has_node, datum_length, most_bytes, last_byte}
use Rattle.rz_script_words.specs.declared.fault.ScriptCause.{ScriptCause}
use Rattle.rz_script_words.specs.declared.fault.ScriptCause.TheVariants.{BadNumber, BadNode, OutOfRange}
use Rattle.rz_script_words.specs.Grammar.{Reader, and_then, done, number, number_in, of_volume, node, at_most, made, hex, datum, datum_from, length_from, setattr, put, get, bytes_at, range_at, rebuild}
use Rattle.rz_script_words.specs.Left.{is_short, left}

-- a reader that takes no more words leaves them
pub leaves : {A : Type 0} (read : Reader A) (ws : List Word) → is_short (read []) ≡ false → left read ws ≡ ws
leaves read [] told = refl
leaves read (w ∷ ws) told = rw told refl

-- a word that is refused is the last
pub leaves_after : {A B : Type 0} (r : Result A ScriptCause) (next : A → Reader B) (ws : List Word) (e : ScriptCause) → r ≡ Err e → is_short r ≡ false
    → left (λ more. and_then r (λ x. next x more)) ws ≡ ws
leaves_after (Ok x) next ws e is told = absurd (cc)
leaves_after (Err f) next ws e is told = leaves (λ more. Err f) ws told

-- the last word, refused or not
pub leaves_last : {A B : Type 0} (r : Result A ScriptCause) (make : A → B) (ws : List Word) → is_short r ≡ false
    → left (λ more. and_then r (λ x. done (make x) more)) ws ≡ ws
leaves_last (Ok x) make ws told = leaves (done (make x)) ws refl
leaves_last (Err e) make ws told = leaves (λ more. Err e) ws told

-- ---- no judge of a word says that a word is missing

told_or : {A B : Type 0} (r : Result A ScriptCause) (f : A → Result B ScriptCause) → is_short r ≡ false → ((x : A) → is_short (f x) ≡ false) → is_short (and_then r f) ≡ false
told_or (Ok x) f told after = after x
told_or (Err e) f told after = told

told_test : {A : Type 0} (b : Bool) (r s : Result A ScriptCause) → is_short r ≡ false → is_short s ≡ false → is_short (if b then r else s) ≡ false
told_test true r s p q = p
told_test false r s p q = q

told_some : (o : Option ℕ) → is_short (ok_or o BadNumber) ≡ false
told_some (Some n) = refl
told_some None = refl

pub told_number : (w : Word) → is_short (number w) ≡ false
unfolding number
told_number w = told_some (numeral w)

pub told_number_in : (low high : ℕ) (w : Word) → is_short (number_in low high w) ≡ false
unfolding number_in
told_number_in low high w = told_or (number w) _ (told_number w) (λ n. told_test (nat_le low n && nat_le n high) (Ok n) (Err OutOfRange) refl refl)

told_of_volume : (v : Volume) (r : Result ℕ ScriptCause) → is_short (of_volume v r) ≡ false
told_of_volume v (Ok sid) = told_test (has_node v sid) (Ok sid) (Err BadNode) refl refl
told_of_volume v (Err e) = refl

pub told_node : (v : Volume) (w : Word) → is_short (node v w) ≡ false
unfolding node
told_node v [] = refl
told_node v (b ∷ digits) = told_test (b == 110) (of_volume v (number_in 1 65535 digits)) (Err BadNode) (told_of_volume v (number_in 1 65535 digits)) refl

told_at_most : (limit : ℕ) (bytes : List ℕ) → is_short (at_most limit bytes) ≡ false
told_at_most limit bytes = told_test (nat_le (length bytes) limit) (Ok (Bytes bytes)) (Err OutOfRange) refl refl

told_hex : (limit : ℕ) (r : Result (List ℕ) FromHexError) → is_short (hex limit r) ≡ false
told_hex limit (Ok bytes) = told_at_most limit bytes
told_hex limit (Err e) = refl

told_made : (limit : ℕ) (parts : List Word) → is_short (made limit parts) ≡ false
told_made limit [] = refl
told_made limit (len ∷ []) = refl
told_made limit (len ∷ seed ∷ []) =
    told_or (number_in 0 limit len) _ (told_number_in 0 limit len) (λ n. told_or (number_in 0 255 seed) _ (told_number_in 0 255 seed) (λ s. refl))
told_made limit (len ∷ seed ∷ more ∷ parts) = refl

pub told_datum : (limit : ℕ) (w : Word) → is_short (datum limit w) ≡ false
unfolding datum
told_datum limit [] = refl
told_datum limit (kind ∷ []) = refl
told_datum limit (kind ∷ colon ∷ rest) =
    told_test (not (colon == 58)) _ _ refl
    (told_test (kind == 116) _ _ (told_at_most limit rest)
    (told_test (kind == 120) _ _ (told_hex limit (decode_of rest))
    (told_test (kind == 103) _ _ (told_made limit (slice_split (λ b. b == 58) rest)) refl)))

pub told_datum_from : (offset : ℕ) (w : Word) → is_short (datum_from offset w) ≡ false
unfolding datum_from
told_datum_from offset w = told_or (datum most_bytes w) _ (told_datum most_bytes w) (λ d. told_test (nat_le (offset + datum_length d) last_byte) (Ok d) (Err OutOfRange) refl refl)

pub told_length_from : (offset : ℕ) (w : Word) → is_short (length_from offset w) ≡ false
unfolding length_from
told_length_from offset w = told_or (number_in 0 most_bytes w) _ (told_number_in 0 most_bytes w) (λ n. told_test (nat_le (offset + n) last_byte) (Ok n) (Err OutOfRange) refl refl)

-- ---- the readers of operations, where a word is refused

pub setattr_mode : (path mode : Word) (ws : List Word) (e : ScriptCause) → number_in 0 4095 mode ≡ Err e → left setattr (path ∷ mode ∷ ws) ≡ ws
unfolding setattr
setattr_mode path mode ws e is = leaves_after (number_in 0 4095 mode) _ ws e is (told_number_in 0 4095 mode)

pub setattr_mtime : (path mode mtime : Word) (ws : List Word) (n : ℕ) (e : ScriptCause) → number_in 0 4095 mode ≡ Ok n → number mtime ≡ Err e
    → left setattr (path ∷ mode ∷ mtime ∷ ws) ≡ ws
unfolding setattr
setattr_mtime path mode mtime ws n e first is = rw first (leaves_after (number mtime) _ ws e is (told_number mtime))

pub put_block : (v : Volume) (path block : Word) (ws : List Word) (e : ScriptCause) → number block ≡ Err e → left (put v) (path ∷ block ∷ ws) ≡ ws
unfolding put
put_block v path block ws e is = leaves_after (number block) _ ws e is (told_number block)

-- memory may lack for a datum that is well
pub put_datum : (v : Volume) (path block bytes : Word) (ws : List Word) (n : ℕ) → number block ≡ Ok n → left (put v) (path ∷ block ∷ bytes ∷ ws) ≡ ws
unfolding put
put_datum v path block bytes ws n first =
    rw first (leaves_last (datum (block_bytes_of v.layout) bytes) (Put path n) ws (told_datum (block_bytes_of v.layout) bytes))

pub get_block : (path block : Word) (ws : List Word) (e : ScriptCause) → number block ≡ Err e → left get (path ∷ block ∷ ws) ≡ ws
unfolding get
get_block path block ws e is = leaves_after (number block) _ ws e is (told_number block)

pub bytes_offset : (make : List ℕ → ℕ → Datum → Operation) (path offset : Word) (ws : List Word) (e : ScriptCause) → number offset ≡ Err e
    → left (bytes_at make) (path ∷ offset ∷ ws) ≡ ws
unfolding bytes_at
bytes_offset make path offset ws e is = leaves_after (number offset) _ ws e is (told_number offset)

pub bytes_datum : (make : List ℕ → ℕ → Datum → Operation) (path offset bytes : Word) (ws : List Word) (n : ℕ) → number offset ≡ Ok n
    → left (bytes_at make) (path ∷ offset ∷ bytes ∷ ws) ≡ ws
unfolding bytes_at
bytes_datum make path offset bytes ws n first = rw first (leaves_last (datum_from n bytes) (make path n) ws (told_datum_from n bytes))

pub range_offset : (make : List ℕ → ℕ → ℕ → Operation) (path offset : Word) (ws : List Word) (e : ScriptCause) → number offset ≡ Err e
    → left (range_at make) (path ∷ offset ∷ ws) ≡ ws
unfolding range_at
range_offset make path offset ws e is = leaves_after (number offset) _ ws e is (told_number offset)

pub range_length : (make : List ℕ → ℕ → ℕ → Operation) (path offset len : Word) (ws : List Word) (n : ℕ) (e : ScriptCause) → number offset ≡ Ok n
    → length_from n len ≡ Err e → left (range_at make) (path ∷ offset ∷ len ∷ ws) ≡ ws
unfolding range_at
range_length make path offset len ws n e first is = rw first (leaves_after (length_from n len) _ ws e is (told_length_from n len))

pub rebuild_node : (v : Volume) (sid : Word) (ws : List Word) (e : ScriptCause) → node v sid ≡ Err e → left (rebuild v) (sid ∷ ws) ≡ ws
unfolding rebuild
rebuild_node v sid ws e is = leaves_after (node v sid) _ ws e is (told_node v sid)
