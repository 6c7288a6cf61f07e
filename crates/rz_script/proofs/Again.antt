-- What is printed of lines is read again.
use Rattle.std.proofs.Common.{◌≡◌, ℕ, suc, ◌+◌, ◌^◌, ◌<◌, ◌≤◌, ◌==◌, ◌&&◌, Bool, true, false, cond, not, nat_le, List, [], ◌∷◌, ◌++◌, All, length, get_or, filter, codes, Some, Result, Ok, Err, inl, inr, refl, ap, ◌∙◌, append_assoc, arith, ne_eqb, lt-ltb, le-leb}
use lib.Utf8.{scalars, encodes, encode}
use Rattle.std.proofs.lemmas.List.{get_or_past, length-append}
use Rattle.std.proofs.lemmas.Bool.{cases_lt, leb-true, not-true}
use Rattle.std.proofs.lemmas.Bool.Decides.{nat_tests}
use Rattle.std.proofs.lemmas.List.Elements.{All-from_recursion}
use Rattle.std.proofs.lemmas.List.Folds.{list_all-append}
use Rattle.std.proofs.lemmas.List.Sums.{list_all-from_AllPass}
use Rattle.std.proofs.lemmas.List.Concat.{flat_map-cons}
use Rattle.std.proofs.lemmas.List.Splits.{slice_split_none, slice_split_at}
use Rattle.std.proofs.lemmas.Str.{IsUtf8-append, IsUtf8-nil, IsUtf8-from_ascii}
use Rattle.std.proofs.lemmas.Fmt.{digits_decimal, digits_value-decimal, decimal_nonempty, IsAscii-decimal}
use Rattle.std.specs.Str.{IsUtf8, all_ascii_digits}
use Rattle.std.specs.Str.Parse.{digits_value}
use Rattle.std.specs.Char.{is_ascii_digit}
use Rattle.std.specs.List.{slice_split, join_with_byte, flat_map, list_all, AllPass, AllByRecursion}
use Rattle.std.specs.Fmt.{decimal}
use Rattle.hex.specs.Hex.{encode_lower, is_hex_digit}
use Rattle.hex.proofs.HexLemmas.{decode_of-encode_lower, decode_of-ok}
use Rattle.mj_angles.specs.Layout.{block_bytes_of}
use Rattle.rz_events.specs.declared.keys.Actor.{Actor}
use Rattle.rz_events.specs.declared.keys.Actor.TheVariants.{Client, Rebuilder, Admin}
use Rattle.rz_events.specs.declared.tree.TreeCall.{TreeCall}
use Rattle.rz_events.specs.declared.tree.TreeCall.TheVariants as tree
use Rattle.rz_events.specs.Volume.{Volume}
use Rattle.rz_script_words.specs.Words.{Word, actor_word, node_word, hex_word}
use Rattle.rz_script_words.specs.declared.fault.ScriptCause.{ScriptCause}
use Rattle.rz_script_words.specs.declared.fault.ScriptCause.TheVariants.{BadNode, OutOfRange}
use Rattle.rz_events.specs.declared.operations.Datum.{Datum}
use Rattle.rz_events.specs.declared.operations.Datum.TheVariants.{Bytes, Made}
use Rattle.rz_events.specs.declared.operations.Operation.{Operation}
use Rattle.rz_events.specs.declared.operations.Operation.TheVariants.{Tree, Put, Get, Write, Read, Rebuild, Update, View}
use Rattle.rz_script_words.proofs.Numerals.{own}
use Rattle.rz_script.specs.declared.line.Line.{Line}
use Rattle.rz_script.specs.declared.line.Line.TheVariants.{Op, Turn, Rounds, Rest, Stop, Start, Lose, Break, Miss}
use Rattle.rz_script_words.specs.declared.form.Form.{Form}
use Rattle.rz_script_words.specs.declared.form.Form.TheVariants as forms
use Rattle.rz_script_words.specs.declared.verbs.PathVerb.TheVariants as path_verbs
use Rattle.rz_script_words.specs.declared.verbs.PairVerb.TheVariants as pair_verbs
use Rattle.rz_script_words.specs.declared.verbs.Verb.{Verb}
use Rattle.rz_script_words.specs.declared.verbs.Verb.TheVariants as verbs
use Rattle.rz_script_words.specs.Limits.{has_node, datum_length, most_bytes, last_byte}
use Rattle.rz_script.specs.Lines.{is_plain, IsWord, IsActor, IsDatum, IsCall, IsNodeOf, IsOfClient, IsOfRebuilder, IsOperation, IsLine, AreLines, allows}
use Rattle.rz_script_words.specs.Grammar.{Judge, Reader, and_then, ◌>>=◌, words, number, number_in, actor, node, datum, datum_from, length_from, verb, verb_named, path_verb_named, pair_verb_named, other_verb_named, operands, on_path, on_pair, setattr, put, get, bytes_at, range_at, rebuild}
use Rattle.rz_script.specs.Grammar.{lines, way, by_actor, op, turn, rounds, rest, on_node, break_node, miss, keyword, keyword_named, after_keyword, counted, line, lines_from}
use Rattle.rz_script.specs.Spelling.{datum_word, call_word, call_operands, verb_word, operands_of, way_word, line_words, line_text, lines_text}

-- ---- words

both : (a b : Bool) → (a && b) ≡ true → (a ≡ true) × (b ≡ true)
both true b h = (refl, h)
both false b h = absurd cc

no_space : (w : List ℕ) → list_all is_plain w ≡ true → AllByRecursion (λ b. (b == 32) ≡ false) w
no_space [] h = tt
no_space (b ∷ bs) h =
    let p = both (is_plain b) (list_all is_plain bs) h in
    (not-true _ (both _ _ p.0).0, no_space bs p.1)

lacks_space : (w : List ℕ) → list_all is_plain w ≡ true → All (λ b. (b == 32) ≡ false) w
lacks_space w h = All-from_recursion (λ b. (b == 32) ≡ false) w (no_space w h)

pub no_feed : (w : List ℕ) → list_all is_plain w ≡ true → AllByRecursion (λ b. (b == 10) ≡ false) w
no_feed [] h = tt
no_feed (b ∷ bs) h =
    let p = both (is_plain b) (list_all is_plain bs) h in
    (not-true _ (both _ _ p.0).1, no_feed bs p.1)

joins : (P : ℕ → Type 0) (xs ys : List ℕ) → AllByRecursion P xs → AllByRecursion P ys → AllByRecursion P (xs ++ ys)
joins P [] ys h k = k
joins P (x ∷ xs) ys h k = (h.0, joins P xs ys h.1 k)

keeps : (w : List ℕ) (ws : List (List ℕ)) → 0 < length w → filter (λ w. not (length w == 0)) (w ∷ ws) ≡ w ∷ filter (λ w. not (length w == 0)) ws
keeps [] ws h = absurd (omega arith)
keeps (b ∷ bs) ws h = rw (ne_eqb (suc (length bs)) 0 (λ e. omega arith)) refl

pub words_joined : (ws : List Word) → AllByRecursion IsWord ws → words (join_with_byte 32 ws) ≡ ws
words_joined [] h = refl
words_joined (w ∷ []) h = ap (filter (λ w. not (length w == 0))) (slice_split_none (λ b. b == 32) w (lacks_space w h.0.plain)) ∙ keeps w [] h.0.full
words_joined (w ∷ v ∷ ws) h =
    ap (filter (λ w. not (length w == 0))) (slice_split_at (λ b. b == 32) w 32 (join_with_byte 32 (v ∷ ws)) (lacks_space w h.0.plain) refl)
    ∙ keeps w (slice_split (λ b. b == 32) (join_with_byte 32 (v ∷ ws))) h.0.full ∙ ap (λ (x : List Word). w ∷ x) (words_joined (v ∷ ws) h.1)

-- ---- judges

abbrev fine : {A : Type 0} → A → Result A ScriptCause
fine x = Ok x

passes_test : {A : Type 0} (b : Bool) (x : A) (c : ScriptCause) → b ≡ true → cond b (fine x) (Err c) ≡ Ok x
passes_test b x c h = ap (λ (t : Bool). cond t (fine x) (Err c)) h

number_again : (n : ℕ) → n < 2 ^ 64 → number (decimal n) ≡ Ok n
unfolding number
number_again n fits =
    let a : all_ascii_digits (decimal n) ≡ true = digits_decimal own n fits in
    let v : digits_value 10 (decimal n) ≡ n = digits_value-decimal own n fits in
    let f = ne_eqb (length (decimal n)) 0 (λ e. omega (arith, decimal_nonempty n fits)) in
    rw (a, f, v, lt-ltb n (2 ^ 64) fits) refl

number_in_again : (low high n : ℕ) → n < 2 ^ 64 → low ≤ n → n ≤ high → number_in low high (decimal n) ≡ Ok n
unfolding number_in
number_in_again low high n fits l h = rw (number_again n fits, le-leb low n l, le-leb n high h) refl

actor_again : (by : Actor) → IsActor by → actor (actor_word by) ≡ Ok by
unfolding actor actor_word
actor_again (Client n) h = rw (number_in_again 1 64 n (omega (arith, h.1)) h.0 h.1) refl
actor_again (Rebuilder n) h = rw (number_in_again 1 16 n (omega (arith, h.1)) h.0 h.1) refl
actor_again Admin h = absurd h

node_again : (v : Volume) (sid : ℕ) → IsNodeOf v sid → node v (node_word sid) ≡ Ok sid
unfolding node node_word
node_again v sid h = rw (number_in_again 1 65535 sid (omega (arith, h.1)) h.0 h.1) (passes_test (has_node v sid) sid BadNode h.2)

digit_bounds : (c : ℕ) → is_ascii_digit c ≡ true → (48 ≤ c) × (c ≤ 57)
digit_bounds c h = let p = both (nat_le 48 c) (nat_le c 57) h in (leb-true _ _ p.0, leb-true _ _ p.1)

no_colon : (ds : List ℕ) → all_ascii_digits ds ≡ true → AllByRecursion (λ b. (b == 58) ≡ false) ds
no_colon [] h = tt
no_colon (c ∷ cs) h =
    let p = both (is_ascii_digit c) (all_ascii_digits cs) h in
    let r = digit_bounds c p.0 in
    (ne_eqb c 58 (λ e. omega arith), no_colon cs p.1)

lacks_colon : (n : ℕ) → n < 2 ^ 64 → All (λ b. (b == 58) ≡ false) (decimal n)
lacks_colon n fits = All-from_recursion (λ b. (b == 58) ≡ false) (decimal n) (no_colon (decimal n) (digits_decimal own n fits))

datum_again : (limit : ℕ) (d : Datum) → limit < 2 ^ 32 → IsDatum limit d → datum limit (datum_word d) ≡ Ok d
unfolding datum datum_word hex_word
datum_again limit (Bytes bytes) small h = rw (decode_of-encode_lower bytes h.0, le-leb (length bytes) limit h.1) refl
datum_again limit (Made n s) small h =
    let parts : slice_split (λ b. b == 58) (decimal n ++ (58 ∷ decimal s)) ≡ decimal n ∷ decimal s ∷ [] =
    slice_split_at (λ b. b == 58) (decimal n) 58 (decimal s) (lacks_colon n (omega (arith, h.0))) refl
    ∙ ap (λ (x : List (List ℕ)). decimal n ∷ x) (slice_split_none (λ b. b == 58) (decimal s) (lacks_colon s (omega (arith, h.1)))) in
    rw (parts, number_in_again 0 limit n (omega (arith, h.0)) (omega arith) h.0, number_in_again 0 255 s (omega (arith, h.1)) (omega arith) h.1) refl

datum_from_again : (offset : ℕ) (d : Datum) → IsDatum most_bytes d → offset + datum_length d ≤ last_byte → datum_from offset (datum_word d) ≡ Ok d
unfolding datum_from
datum_from_again offset d h k =
    rw (datum_again most_bytes d (omega arith) h) (passes_test (nat_le (offset + datum_length d) last_byte) d OutOfRange (le-leb (offset + datum_length d) last_byte k))

length_from_again : (offset n : ℕ) → n ≤ most_bytes → offset + n ≤ last_byte → length_from offset (decimal n) ≡ Ok n
unfolding length_from
length_from_again offset n h k =
    rw (number_in_again 0 most_bytes n (omega arith) (omega arith) h) (passes_test (nat_le (offset + n) last_byte) n OutOfRange (le-leb (offset + n) last_byte k))

way_again : (b : Bool) → way (way_word b) ≡ Ok b
unfolding way
way_again true = refl
way_again false = refl

-- ---- operations

abbrev call_verb : TreeCall → Verb
call_verb (tree.Lookup path) = verbs.OnPath path_verbs.Lookup
call_verb (tree.Getattr path) = verbs.OnPath path_verbs.Getattr
call_verb (tree.Rmdir path) = verbs.OnPath path_verbs.Rmdir
call_verb (tree.Mkdir path) = verbs.OnPath path_verbs.Mkdir
call_verb (tree.Create path) = verbs.OnPath path_verbs.Create
call_verb (tree.Unlink path) = verbs.OnPath path_verbs.Unlink
call_verb (tree.Readlink path) = verbs.OnPath path_verbs.Readlink
call_verb (tree.Readdir path) = verbs.OnPath path_verbs.Readdir
call_verb (tree.OpenFile path) = verbs.Rebuild
call_verb (tree.Setattr path mode mtime) = verbs.Setattr
call_verb (tree.Rename path to) = verbs.OnPair pair_verbs.Rename
call_verb (tree.Link path to) = verbs.OnPair pair_verbs.Link
call_verb (tree.Symlink target path) = verbs.OnPair pair_verbs.Symlink

abbrev verb_of : Operation → Verb
verb_of (Tree call) = call_verb call
verb_of (Put path block d) = verbs.Put
verb_of (Get path block) = verbs.Get
verb_of (Write path offset d) = verbs.Write
verb_of (Read path offset len) = verbs.Read
verb_of (Rebuild sid) = verbs.Rebuild
verb_of (Update path offset d) = verbs.Update
verb_of (View path offset len) = verbs.View

call_again : (form : Form) (n : ℕ) (call : TreeCall) → IsCall call → verb form (Client n) (call_word call) ≡ Ok (call_verb call)
unfolding verb verb_named path_verb_named pair_verb_named other_verb_named
call_again form n (tree.Lookup path) h = refl
call_again form n (tree.Getattr path) h = refl
call_again form n (tree.Rmdir path) h = refl
call_again form n (tree.Mkdir path) h = refl
call_again form n (tree.Create path) h = refl
call_again form n (tree.Unlink path) h = refl
call_again form n (tree.Readlink path) h = refl
call_again form n (tree.Readdir path) h = refl
call_again form n (tree.OpenFile path) h = absurd h
call_again form n (tree.Setattr path mode mtime) h = refl
call_again form n (tree.Rename path to) h = refl
call_again form n (tree.Link path to) h = refl
call_again form n (tree.Symlink target path) h = refl

client_verb_again : (form : Form) (n : ℕ) (v : Volume) (o : Operation) → IsOfClient v o → allows form (Op (Client n) o) ≡ true → verb form (Client n) (verb_word o) ≡ Ok (verb_of o)
unfolding verb verb_named path_verb_named pair_verb_named other_verb_named
client_verb_again form n v (Tree call) h a = call_again form n call h
client_verb_again form n v (Put path block d) h a = refl
client_verb_again form n v (Get path block) h a = refl
client_verb_again form n v (Write path offset d) h a = refl
client_verb_again form n v (Read path offset len) h a = refl
client_verb_again form n v (Rebuild sid) h a = absurd h
client_verb_again forms.Replay n v (Update path offset d) h a = refl
client_verb_again forms.Run n v (Update path offset d) h a = absurd cc
client_verb_again forms.Migrate n v (Update path offset d) h a = absurd cc
client_verb_again forms.Replay n v (View path offset len) h a = refl
client_verb_again forms.Run n v (View path offset len) h a = absurd cc
client_verb_again forms.Migrate n v (View path offset len) h a = absurd cc

rebuilder_verb_again : (form : Form) (n : ℕ) (v : Volume) (o : Operation) → IsOfRebuilder v o → verb form (Rebuilder n) (verb_word o) ≡ Ok (verb_of o)
unfolding verb verb_named path_verb_named pair_verb_named other_verb_named
rebuilder_verb_again form n v (Tree call) h = absurd h
rebuilder_verb_again form n v (Put path block d) h = absurd h
rebuilder_verb_again form n v (Get path block) h = absurd h
rebuilder_verb_again form n v (Write path offset d) h = absurd h
rebuilder_verb_again form n v (Read path offset len) h = absurd h
rebuilder_verb_again form n v (Rebuild sid) h = refl
rebuilder_verb_again form n v (Update path offset d) h = absurd h
rebuilder_verb_again form n v (View path offset len) h = absurd h

verb_again : (form : Form) (v : Volume) (by : Actor) (o : Operation) → IsOperation v by o → allows form (Op by o) ≡ true → verb form by (verb_word o) ≡ Ok (verb_of o)
verb_again form v (Client n) o h a = client_verb_again form n v o h a
verb_again form v (Rebuilder n) o h a = rebuilder_verb_again form n v o h
verb_again form v Admin o h a = absurd h

call_operands_again : (v : Volume) (call : TreeCall) → IsCall call → operands v (call_verb call) (call_operands call) ≡ Ok (Tree call)
unfolding operands on_path on_pair setattr
call_operands_again v (tree.Lookup path) h = refl
call_operands_again v (tree.Getattr path) h = refl
call_operands_again v (tree.Rmdir path) h = refl
call_operands_again v (tree.Mkdir path) h = refl
call_operands_again v (tree.Create path) h = refl
call_operands_again v (tree.Unlink path) h = refl
call_operands_again v (tree.Readlink path) h = refl
call_operands_again v (tree.Readdir path) h = refl
call_operands_again v (tree.OpenFile path) h = absurd h
call_operands_again v (tree.Setattr path mode mtime) h = rw (number_in_again 0 4095 mode (omega (arith, h.1)) (omega arith) h.1, number_again mtime h.2) refl
call_operands_again v (tree.Rename path to) h = refl
call_operands_again v (tree.Link path to) h = refl
call_operands_again v (tree.Symlink target path) h = refl

client_operands_again : (v : Volume) (o : Operation) → block_bytes_of v.layout < 2 ^ 32 → IsOfClient v o → operands v (verb_of o) (operands_of o) ≡ Ok o
unfolding operands put get bytes_at range_at
client_operands_again v (Tree call) small h = call_operands_again v call h
client_operands_again v (Put path block d) small h = rw (number_again block h.1, datum_again (block_bytes_of v.layout) d small h.2) refl
client_operands_again v (Get path block) small h = rw (number_again block h.1) refl
client_operands_again v (Write path offset d) small h = rw (number_again offset (omega (arith, h.2)), datum_from_again offset d h.1 h.2) refl
client_operands_again v (Read path offset len) small h = rw (number_again offset (omega (arith, h.2)), length_from_again offset len h.1 h.2) refl
client_operands_again v (Rebuild sid) small h = absurd h
client_operands_again v (Update path offset d) small h = rw (number_again offset (omega (arith, h.2)), datum_from_again offset d h.1 h.2) refl
client_operands_again v (View path offset len) small h = rw (number_again offset (omega (arith, h.2)), length_from_again offset len h.1 h.2) refl

rebuilder_operands_again : (v : Volume) (o : Operation) → IsOfRebuilder v o → operands v (verb_of o) (operands_of o) ≡ Ok o
unfolding operands rebuild
rebuilder_operands_again v (Tree call) h = absurd h
rebuilder_operands_again v (Put path block d) h = absurd h
rebuilder_operands_again v (Get path block) h = absurd h
rebuilder_operands_again v (Write path offset d) h = absurd h
rebuilder_operands_again v (Read path offset len) h = absurd h
rebuilder_operands_again v (Rebuild sid) h = rw (node_again v sid h) refl
rebuilder_operands_again v (Update path offset d) h = absurd h
rebuilder_operands_again v (View path offset len) h = absurd h

operands_again : (v : Volume) (by : Actor) (o : Operation) → block_bytes_of v.layout < 2 ^ 32 → IsOperation v by o → operands v (verb_of o) (operands_of o) ≡ Ok o
operands_again v (Client n) o small h = client_operands_again v o small h
operands_again v (Rebuilder n) o small h = rebuilder_operands_again v o h
operands_again v Admin o small h = absurd h

-- ---- lines

step : {A B : Type 0} (judge : Judge A) (next : A → Reader B) (w : Word) (ws : List Word) (x : A) → judge w ≡ Ok x → (judge >>= next) (w ∷ ws) ≡ next x ws
step judge next w ws x e = ap (λ r. and_then r (λ y. next y ws)) e

op_again : (form : Form) (v : Volume) (by : Actor) (o : Operation) → block_bytes_of v.layout < 2 ^ 32 → IsActor by → IsOperation v by o → allows form (Op by o) ≡ true → op form v (actor_word by ∷ verb_word o ∷ operands_of o) ≡ Ok (Op by o)
unfolding op
op_again form v by o small a h allowed =
    step actor (λ by. verb form by >>= λ name. by_actor by (operands v name)) (actor_word by) (verb_word o ∷ operands_of o) by (actor_again by a)
    ∙ step (verb form by) (λ name. by_actor by (operands v name)) (verb_word o) (operands_of o) (verb_of o) (verb_again form v by o h allowed)
    ∙ ap (λ r. and_then r (λ operation. fine (Op by operation))) (operands_again v by o small h)

line_again : (form : Form) (v : Volume) (l : Line) → block_bytes_of v.layout < 2 ^ 32 → IsLine v l → allows form l ≡ true → line form v (line_words l) ≡ Ok (Some l)
unfolding line line_words counted keyword keyword_named after_keyword turn rounds rest on_node break_node miss
line_again forms.Replay v (Op by o) small h a = rw (op_again forms.Replay v by o small h.0 h.1 a) refl
line_again forms.Replay v (Turn by k) small h a = rw (actor_again by h.0, number_in_again 1 1000000 k (omega (arith, h.2)) h.1 h.2) refl
line_again forms.Replay v (Rounds k) small h a = rw (number_in_again 1 1000000 k (omega (arith, h.1)) h.0 h.1) refl
line_again forms.Replay v Rest small h a = refl
line_again forms.Replay v (Stop sid) small h a = rw (node_again v sid h) refl
line_again forms.Replay v (Start sid) small h a = rw (node_again v sid h) refl
line_again forms.Replay v (Lose sid) small h a = rw (node_again v sid h) refl
line_again forms.Replay v (Break sid k pick) small h a = rw (node_again v sid h.0, number_in_again 0 1000000 k (omega (arith, h.1)) (omega arith) h.1, number_again pick h.2) refl
line_again forms.Replay v (Miss by reply) small h a = rw (actor_again by h, way_again reply) refl
line_again forms.Run v (Op by o) small h a = rw (op_again forms.Run v by o small h.0 h.1 a) refl
line_again forms.Run v (Turn by k) small h a = absurd cc
line_again forms.Run v (Rounds k) small h a = absurd cc
line_again forms.Run v Rest small h a = absurd cc
line_again forms.Run v (Stop sid) small h a = rw (node_again v sid h) refl
line_again forms.Run v (Start sid) small h a = rw (node_again v sid h) refl
line_again forms.Run v (Lose sid) small h a = rw (node_again v sid h) refl
line_again forms.Run v (Break sid k pick) small h a = rw (node_again v sid h.0, number_in_again 0 1000000 k (omega (arith, h.1)) (omega arith) h.1, number_again pick h.2) refl
line_again forms.Run v (Miss by reply) small h a = absurd cc
line_again forms.Migrate v l small h a = absurd cc

-- ---- words of a line

word_of : (w : Word) → 0 < length w → list_all is_plain w ≡ true → IsUtf8 w → IsWord w
word_of w f p t = record { full = f; plain = p; text = t }

pub literal : (w : Word) → 0 < length w → list_all is_plain w ≡ true → scalars w ≡ true → encodes w ≡ w → IsWord w
literal w f p s e = record { full = f; plain = p; text = (w, (s, e)) }

digits_plain : (ds : List ℕ) → all_ascii_digits ds ≡ true → list_all is_plain ds ≡ true
digits_plain [] h = refl
digits_plain (c ∷ cs) h =
    let p = both (is_ascii_digit c) (all_ascii_digits cs) h in
    let r = digit_bounds c p.0 in
    rw (ne_eqb c 32 (λ e. omega arith), ne_eqb c 10 (λ e. omega arith), digits_plain cs p.1) refl

pub number_word : (n : ℕ) → n < 2 ^ 64 → IsWord (decimal n)
number_word n fits = word_of (decimal n) (decimal_nonempty n fits) (digits_plain (decimal n) (digits_decimal own n fits)) (IsUtf8-from_ascii (decimal n) (IsAscii-decimal n fits))

pub after : (a w : Word) → IsWord a → IsWord w → IsWord (a ++ w)
after a w p q = record { full = omega (arith, p.full, length-append a w); plain = list_all-append is_plain a w ∙ rw (p.plain, q.plain) refl; text = IsUtf8-append a w p.text q.text }

actor_is_word : (by : Actor) → IsActor by → IsWord (actor_word by)
unfolding actor_word encode
actor_is_word (Client n) h = after (codes "c") (decimal n) (literal (codes "c") (omega arith) refl refl refl) (number_word n (omega (arith, h.1)))
actor_is_word (Rebuilder n) h = after (codes "r") (decimal n) (literal (codes "r") (omega arith) refl refl refl) (number_word n (omega (arith, h.1)))
actor_is_word Admin h = absurd h

node_is_word : (v : Volume) (sid : ℕ) → IsNodeOf v sid → IsWord (node_word sid)
unfolding node_word encode
node_is_word v sid h = after (codes "n") (decimal sid) (literal (codes "n") (omega arith) refl refl refl) (number_word sid (omega (arith, h.1)))

hex_is_plain : (c : ℕ) → is_hex_digit c ≡ true → is_plain c ≡ true
hex_is_plain c h =
    let space : (c == 32) ≡ false = ne_eqb c 32 (λ e. let bad = rw e at h in cc) in
    let feed : (c == 10) ≡ false = ne_eqb c 10 (λ e. let bad = rw e at h in cc) in
    rw (space, feed) refl

hex_below : (c : ℕ) → is_hex_digit c ≡ true → c < 128
hex_below c h = grind (arith, nat_tests)

hex_ascii : (w : List ℕ) → AllPass is_hex_digit w → (i : ℕ) → get_or w i 0 < 128
hex_ascii w h i =
    elim (cases_lt i (length w)) [
      | inl lt ↦ hex_below (get_or w i 0) (h i 0 lt)
      | inr le ↦ rw (get_or_past w i 0 le) (omega arith)
    ]

datum_is_word : (limit : ℕ) (d : Datum) → limit < 2 ^ 32 → IsDatum limit d → IsWord (datum_word d)
unfolding datum_word hex_word encode
datum_is_word limit (Bytes bytes) small h =
    let digits = (decode_of-ok (encode_lower bytes) bytes (decode_of-encode_lower bytes h.0)).1 in
    record {
      full = omega arith;
      plain = list_all-from_AllPass is_plain (encode_lower bytes) (λ k d lt. hex_is_plain (get_or (encode_lower bytes) k d) (digits k d lt));
      text = IsUtf8-append (codes "x:") (encode_lower bytes) (codes "x:", (refl, refl)) (IsUtf8-from_ascii (encode_lower bytes) (hex_ascii (encode_lower bytes) digits));
    }
datum_is_word limit (Made n s) small h =
    let tail = after (codes ":") (decimal s) (literal (codes ":") (omega arith) refl refl refl) (number_word s (omega (arith, h.1))) in
    let len = after (decimal n) (codes ":" ++ decimal s) (number_word n (omega (arith, h.0))) tail in
    after (codes "g:") (decimal n ++ (codes ":" ++ decimal s)) (literal (codes "g:") (omega arith) refl refl refl) len

way_is_word : (b : Bool) → IsWord (way_word b)
unfolding encode
way_is_word true = literal (codes "reply") (omega arith) refl refl refl
way_is_word false = literal (codes "request") (omega arith) refl refl refl

call_is_word : (call : TreeCall) → IsCall call → IsWord (call_word call)
unfolding encode
call_is_word (tree.Lookup path) h = literal (codes "lookup") (omega arith) refl refl refl
call_is_word (tree.Getattr path) h = literal (codes "getattr") (omega arith) refl refl refl
call_is_word (tree.Rmdir path) h = literal (codes "rmdir") (omega arith) refl refl refl
call_is_word (tree.Mkdir path) h = literal (codes "mkdir") (omega arith) refl refl refl
call_is_word (tree.Create path) h = literal (codes "create") (omega arith) refl refl refl
call_is_word (tree.Unlink path) h = literal (codes "unlink") (omega arith) refl refl refl
call_is_word (tree.Readlink path) h = literal (codes "readlink") (omega arith) refl refl refl
call_is_word (tree.Readdir path) h = literal (codes "readdir") (omega arith) refl refl refl
call_is_word (tree.OpenFile path) h = absurd h
call_is_word (tree.Setattr path mode mtime) h = literal (codes "setattr") (omega arith) refl refl refl
call_is_word (tree.Rename path to) h = literal (codes "rename") (omega arith) refl refl refl
call_is_word (tree.Link path to) h = literal (codes "link") (omega arith) refl refl refl
call_is_word (tree.Symlink target path) h = literal (codes "symlink") (omega arith) refl refl refl

call_operands_are : (call : TreeCall) → IsCall call → AllByRecursion IsWord (call_operands call)
call_operands_are (tree.Lookup path) h = (h, tt)
call_operands_are (tree.Getattr path) h = (h, tt)
call_operands_are (tree.Rmdir path) h = (h, tt)
call_operands_are (tree.Mkdir path) h = (h, tt)
call_operands_are (tree.Create path) h = (h, tt)
call_operands_are (tree.Unlink path) h = (h, tt)
call_operands_are (tree.Readlink path) h = (h, tt)
call_operands_are (tree.Readdir path) h = (h, tt)
call_operands_are (tree.OpenFile path) h = absurd h
call_operands_are (tree.Setattr path mode mtime) h = (h.0, (number_word mode (omega (arith, h.1)), (number_word mtime h.2, tt)))
call_operands_are (tree.Rename path to) h = (h.0, (h.1, tt))
call_operands_are (tree.Link path to) h = (h.0, (h.1, tt))
call_operands_are (tree.Symlink target path) h = (h.0, (h.1, tt))

client_words_are : (v : Volume) (o : Operation) → block_bytes_of v.layout < 2 ^ 32 → IsOfClient v o → IsWord (verb_word o) × AllByRecursion IsWord (operands_of o)
unfolding encode
client_words_are v (Tree call) small h = (call_is_word call h, call_operands_are call h)
client_words_are v (Put path block d) small h = (literal (codes "put") (omega arith) refl refl refl, (h.0, (number_word block h.1, (datum_is_word (block_bytes_of v.layout) d small h.2, tt))))
client_words_are v (Get path block) small h = (literal (codes "get") (omega arith) refl refl refl, (h.0, (number_word block h.1, tt)))
client_words_are v (Write path offset d) small h = (literal (codes "write") (omega arith) refl refl refl, (h.0, (number_word offset (omega (arith, h.2)), (datum_is_word most_bytes d (omega arith) h.1, tt))))
client_words_are v (Read path offset len) small h = (literal (codes "read") (omega arith) refl refl refl, (h.0, (number_word offset (omega (arith, h.2)), (number_word len (omega (arith, h.1)), tt))))
client_words_are v (Rebuild sid) small h = absurd h
client_words_are v (Update path offset d) small h = (literal (codes "update") (omega arith) refl refl refl, (h.0, (number_word offset (omega (arith, h.2)), (datum_is_word most_bytes d (omega arith) h.1, tt))))
client_words_are v (View path offset len) small h = (literal (codes "view") (omega arith) refl refl refl, (h.0, (number_word offset (omega (arith, h.2)), (number_word len (omega (arith, h.1)), tt))))

rebuilder_words_are : (v : Volume) (o : Operation) → IsOfRebuilder v o → IsWord (verb_word o) × AllByRecursion IsWord (operands_of o)
unfolding encode
rebuilder_words_are v (Tree call) h = absurd h
rebuilder_words_are v (Put path block d) h = absurd h
rebuilder_words_are v (Get path block) h = absurd h
rebuilder_words_are v (Write path offset d) h = absurd h
rebuilder_words_are v (Read path offset len) h = absurd h
rebuilder_words_are v (Rebuild sid) h = (literal (codes "rebuild") (omega arith) refl refl refl, (node_is_word v sid h, tt))
rebuilder_words_are v (Update path offset d) h = absurd h
rebuilder_words_are v (View path offset len) h = absurd h

operation_words_are : (v : Volume) (by : Actor) (o : Operation) → block_bytes_of v.layout < 2 ^ 32 → IsOperation v by o → IsWord (verb_word o) × AllByRecursion IsWord (operands_of o)
operation_words_are v (Client n) o small h = client_words_are v o small h
operation_words_are v (Rebuilder n) o small h = rebuilder_words_are v o h
operation_words_are v Admin o small h = absurd h

are_words : (v : Volume) (l : Line) → block_bytes_of v.layout < 2 ^ 32 → IsLine v l → AllByRecursion IsWord (line_words l)
unfolding line_words encode
are_words v (Op by o) small h =
    let p = operation_words_are v by o small h.1 in
    (literal (codes "op") (omega arith) refl refl refl, (actor_is_word by h.0, (p.0, p.1)))
are_words v (Turn by k) small h = (literal (codes "turn") (omega arith) refl refl refl, (actor_is_word by h.0, (number_word k (omega (arith, h.2)), tt)))
are_words v (Rounds k) small h = (literal (codes "rounds") (omega arith) refl refl refl, (number_word k (omega (arith, h.1)), tt))
are_words v Rest small h = (literal (codes "rest") (omega arith) refl refl refl, tt)
are_words v (Stop sid) small h = (literal (codes "stop") (omega arith) refl refl refl, (node_is_word v sid h, tt))
are_words v (Start sid) small h = (literal (codes "start") (omega arith) refl refl refl, (node_is_word v sid h, tt))
are_words v (Lose sid) small h = (literal (codes "lose") (omega arith) refl refl refl, (node_is_word v sid h, tt))
are_words v (Break sid k pick) small h = (literal (codes "break") (omega arith) refl refl refl, (node_is_word v sid h.0, (number_word k (omega (arith, h.1)), (number_word pick h.2, tt))))
are_words v (Miss by reply) small h = (literal (codes "miss") (omega arith) refl refl refl, (actor_is_word by h, (way_is_word reply, tt)))

-- ---- lines of a text

joined_feed : (ws : List Word) → AllByRecursion IsWord ws → AllByRecursion (λ b. (b == 10) ≡ false) (join_with_byte 32 ws)
joined_feed [] h = tt
joined_feed (w ∷ []) h = no_feed w h.0.plain
joined_feed (w ∷ v ∷ ws) h = joins (λ b. (b == 10) ≡ false) w (32 ∷ join_with_byte 32 (v ∷ ws)) (no_feed w h.0.plain) (refl, joined_feed (v ∷ ws) h.1)

pub joined_text : (ws : List Word) → AllByRecursion IsWord ws → IsUtf8 (join_with_byte 32 ws)
unfolding encode
joined_text [] h = IsUtf8-nil
joined_text (w ∷ []) h = h.0.text
joined_text (w ∷ v ∷ ws) h = IsUtf8-append w (32 ∷ join_with_byte 32 (v ∷ ws)) h.0.text (IsUtf8-append (32 ∷ []) (join_with_byte 32 (v ∷ ws)) (32 ∷ [], (refl, refl)) (joined_text (v ∷ ws) h.1))

-- words in a row are the first line of a text that goes on after a line feed
pub first_line : (ws : List Word) (more : List ℕ) → AllByRecursion IsWord ws → lines (join_with_byte 32 ws ++ (10 ∷ more)) ≡ join_with_byte 32 ws ∷ lines more
first_line ws more h = slice_split_at (λ b. b == 10) (join_with_byte 32 ws) 10 more (All-from_recursion (λ b. (b == 10) ≡ false) (join_with_byte 32 ws) (joined_feed ws h)) refl

lines_printed : (v : Volume) (l : Line) (ls : List Line) → block_bytes_of v.layout < 2 ^ 32 → IsLine v l → lines (lines_text (l ∷ ls)) ≡ join_with_byte 32 (line_words l) ∷ lines (lines_text ls)
unfolding line_text lines_text
lines_printed v l ls small h =
    let body = join_with_byte 32 (line_words l) in
    let apart : flat_map line_text (l ∷ ls) ≡ body ++ (10 ∷ flat_map line_text ls) = flat_map-cons line_text l ls ∙ append_assoc body (10 ∷ []) (flat_map line_text ls) in
    ap lines apart ∙ first_line (line_words l) (flat_map line_text ls) (are_words v l small h)

none_left : (form : Form) (v : Volume) (n : ℕ) → lines_from form v n (lines (lines_text [])) ≡ Ok []
unfolding lines_from line lines_text
none_left form v n = refl

pub lines_again : (form : Form) (v : Volume) (n : ℕ) (ls : List Line) → block_bytes_of v.layout < 2 ^ 32 → AreLines v ls → list_all (allows form) ls ≡ true → lines_from form v n (lines (lines_text ls)) ≡ Ok ls
unfolding lines_from
lines_again form v n [] small h a = none_left form v n
lines_again form v n (l ∷ ls) small h a =
    let body = join_with_byte 32 (line_words l) in
    let p = both (allows form l) (list_all (allows form) ls) a in
    let one : line form v (words body) ≡ Ok (Some l) = ap (line form v) (words_joined (line_words l) (are_words v l small h.0)) ∙ line_again form v l small h.0 p.0 in
    ap (lines_from form v n) (lines_printed v l ls small h.0) ∙ rw (one, lines_again form v (n + 1) ls small h.1 p.1) refl

pub printed_text : (v : Volume) (ls : List Line) → block_bytes_of v.layout < 2 ^ 32 → AreLines v ls → IsUtf8 (lines_text ls)
unfolding line_text lines_text encode
printed_text v [] small h = IsUtf8-nil
printed_text v (l ∷ ls) small h =
    rw (flat_map-cons line_text l ls) (IsUtf8-append (line_text l) (flat_map line_text ls) (IsUtf8-append (join_with_byte 32 (line_words l)) (10 ∷ []) (joined_text (line_words l) (are_words v l small h.0)) (10 ∷ [], (refl, refl))) (printed_text v ls small h.1))
