-- What is read keeps the limits of lines.
use Rattle.std.proofs.Common.{◌≡◌, ℕ, ◌+◌, ◌^◌, ◌<◌, ◌≤◌, ◌==◌, ◌&&◌, ◌⊎◌, Bool, true, false, cond, not, slice_index, nat_le, List, [], ◌∷◌, length, Option, Some, None, Result, Ok, Err, inl, inr, refl, subst}
use Rattle.std.specs.List.{AllByRecursion, slice_split}
use Rattle.std.specs.Option.{ok_or}
use Rattle.std.proofs.lemmas.Bool.{leb-true, ltb-true}
use Rattle.hex.specs.Hex.{decode_of, IsBytes}
use Rattle.hex.specs.declared.error.FromHexError.{FromHexError}
use Rattle.hex.proofs.HexLemmas.{decode_of-ok}
use Rattle.mj_angles.specs.Layout.{block_bytes_of}
use Rattle.rz_events.specs.declared.keys.Actor.{Actor}
use Rattle.rz_events.specs.declared.keys.Actor.TheVariants.{Client, Rebuilder, Admin}
use Rattle.rz_events.specs.declared.tree.TreeCall.TheVariants as tree
use Rattle.rz_events.specs.Volume.{Volume}
use Rattle.rz_script_words.specs.Words.{Word}
use Rattle.rz_script_words.specs.declared.fault.ScriptCause.{ScriptCause}
use Rattle.rz_script_words.specs.declared.fault.ScriptCause.TheVariants.{BadNode, OutOfRange}
use Rattle.rz_events.specs.declared.operations.Datum.{Datum}
use Rattle.rz_events.specs.declared.operations.Datum.TheVariants.{Bytes, Made}
use Rattle.rz_events.specs.declared.operations.Operation.{Operation}
use Rattle.rz_events.specs.declared.operations.Operation.TheVariants.{Tree, Put, Get, Write, Read, Rebuild, Update, View}
use Rattle.rz_script.specs.declared.line.Line.{Line}
use Rattle.rz_script.specs.declared.line.Line.TheVariants.{Op, Turn, Rounds, Rest, Stop, Start, Lose, Break, Miss}
use Rattle.rz_script_words.specs.declared.form.Form.{Form}
use Rattle.rz_script_words.specs.declared.form.Form.TheVariants as forms
use Rattle.rz_script_words.specs.declared.verbs.PathVerb.{PathVerb}
use Rattle.rz_script_words.specs.declared.verbs.PathVerb.TheVariants as path_verbs
use Rattle.rz_script_words.specs.declared.verbs.PairVerb.{PairVerb}
use Rattle.rz_script_words.specs.declared.verbs.PairVerb.TheVariants as pair_verbs
use Rattle.rz_script_words.specs.declared.verbs.Verb.{Verb}
use Rattle.rz_script_words.specs.declared.verbs.Verb.TheVariants as verbs
use Rattle.rz_script.specs.declared.keywords.Keyword.{Keyword}
use Rattle.rz_script.specs.declared.keywords.Keyword.TheVariants as keys
use Rattle.rz_script.proofs.Bytes.{utf8_bytes, are_bytes}
use Rattle.rz_script_words.specs.Limits.{has_node, datum_length, most_bytes, last_byte}
use Rattle.rz_script.specs.Lines.{IsActor, IsWord, IsDatum, IsCall, IsNodeOf, IsWrite, IsRead, IsOfClient, IsOfRebuilder, IsOperation, IsLine}
use Rattle.rz_script_words.specs.Grammar.{Judge, Reader, and_then, ◌>>=◌, done, any, number, number_in, numbered, actor, of_volume, node, at_most, made, hex, datum, datum_from, length_from, verb, judged, judged_if, unless_run, verb_named, path_call, pair_call, on_path, on_pair, setattr, put, get, bytes_at, range_at, rebuild, operands}
use Rattle.rz_script.specs.Grammar.{way, by_actor, op, turn, rounds, rest, on_node, break_node, miss, keyword, after_keyword, counted, line, some}

both : (a b : Bool) → (a && b) ≡ true → (a ≡ true) × (b ≡ true)
both true b h = (refl, h)
both false b h = absurd cc

-- ---- the combinators

and_ok : {A B : Type 0} (r : Result A ScriptCause) (f : A → Result B ScriptCause) (y : B) → and_then r f ≡ Ok y → (x : A) × (r ≡ Ok x) × (f x ≡ Ok y)
and_ok (Ok x) f y e = (x, refl, e)
and_ok (Err d) f y e = absurd cc

record Took {A B : Type 0} (judge : Judge A) (next : A → Reader B) (ws : List Word) (y : B) : Type 0 where
  word : Word
  others : List Word
  value : A
  are : ws ≡ word ∷ others
  reads : judge word ≡ Ok value
  goes : next value others ≡ Ok y

take_ok : {A B : Type 0} (judge : Judge A) (next : A → Reader B) (ws : List Word) (y : B) → (judge >>= next) ws ≡ Ok y → Took judge next ws y
take_ok judge next [] y e = absurd cc
take_ok judge next (w ∷ ws) y e =
    let (x, p, q) = and_ok (judge w) (λ x. next x ws) y e in
    record { word = w; others = ws; value = x; are = refl; reads = p; goes = q }

-- what a judge and then a reader give, where every word is a word
takes : {A B : Type 0} (judge : Judge A) (next : A → Reader B) (P : A → Type 0) (Q : B → Type 0)
    → ((w : Word) (x : A) → IsWord w → judge w ≡ Ok x → P x)
    → ((x : A) (ws : List Word) (y : B) → P x → AllByRecursion IsWord ws → next x ws ≡ Ok y → Q y)
    → (ws : List Word) (y : B) → AllByRecursion IsWord ws → (judge >>= next) ws ≡ Ok y → Q y
takes judge next P Q judge_ok next_ok ws y good e =
    let t = take_ok judge next ws y e in
    let all = rw t.are at good in
    next_ok t.value t.others y (judge_ok t.word t.value all.0 t.reads) all.1 t.goes

done_ok : {B : Type 0} (Q : B → Type 0) (x y : B) (ws : List Word) → Q x → done x ws ≡ Ok y → Q y
done_ok Q x y [] q e = let same : x ≡ y = cc in subst Q same q
done_ok Q x y (w ∷ ws) q e = absurd cc

if_ok : {A : Type 0} (b : Bool) (x y : A) (d : ScriptCause) → cond b (Ok x) (Err d) ≡ Ok y → (b ≡ true) × (x ≡ y)
if_ok true x y d e = (refl, cc)
if_ok false x y d e = absurd cc

numeral_ok : (b : Bool) (x y : ℕ) (d : ScriptCause) → ok_or (cond b (Some x) None) d ≡ Ok y → (b ≡ true) × (x ≡ y)
numeral_ok true x y d e = (refl, cc)
numeral_ok false x y d e = absurd cc

chosen : {A : Type 0} (b : Bool) (x y z : A) → cond b x y ≡ z → ((b ≡ true) × (x ≡ z)) ⊎ ((b ≡ false) × (y ≡ z))
chosen true x y z e = inl (refl, e)
chosen false x y z e = inr (refl, e)

abbrev fine : {A : Type 0} → A → Result A ScriptCause
fine x = Ok x

-- ---- words

any_ok : (w x : Word) → IsWord w → any w ≡ Ok x → IsWord x
any_ok w x h e = let same : w ≡ x = cc in subst IsWord same h

number_ok : (w : Word) (n : ℕ) → IsWord w → number w ≡ Ok n → n < 2 ^ 64
unfolding number
number_ok w n h e =
    let p = numeral_ok _ _ _ _ e in
    let q = both _ _ p.0 in
    rw (← p.1) (ltb-true _ _ q.1)

number_in_ok : (low high : ℕ) (w : Word) (n : ℕ) → number_in low high w ≡ Ok n → (low ≤ n) × (n ≤ high)
unfolding number_in
number_in_ok low high w n e =
    let (m, p, q) = and_ok (number w) (λ n. cond (nat_le low n && nat_le n high) (Ok n) (Err OutOfRange)) n e in
    let r = if_ok _ _ _ _ q in
    let s = both _ _ r.0 in
    rw (← r.1) (leb-true _ _ s.0, leb-true _ _ s.1)

within_ok : (low high : ℕ) (w : Word) (n : ℕ) → IsWord w → number_in low high w ≡ Ok n → (low ≤ n) × (n ≤ high)
within_ok low high w n h e = number_in_ok low high w n e

numbered_ok : (kind : ℕ → Actor) (most : ℕ) (digits : Word) (by : Actor) (r : Result ℕ ScriptCause) → ((n : ℕ) → 1 ≤ n → n ≤ most → IsActor (kind n)) → number_in 1 most digits ≡ r → numbered kind r ≡ Ok by → IsActor by
numbered_ok kind most digits by (Ok n) is p e =
    let h = number_in_ok 1 most digits n p in
    let same : kind n ≡ by = cc in
    subst IsActor same (is n h.0 h.1)
numbered_ok kind most digits by (Err d) is p e = absurd cc

actor_ok : (w : Word) (by : Actor) → IsWord w → actor w ≡ Ok by → IsActor by
unfolding actor
actor_ok [] by h e = absurd cc
actor_ok (b ∷ digits) by h e =
    elim (chosen (b == 99) _ _ _ e) [
      | inl (is, c) ↦ numbered_ok Client 64 digits by (number_in 1 64 digits) (λ n l m. (l, m)) refl c
      | inr (not_is, o) ↦ elim (chosen (b == 114) _ _ _ o) [
        | inl (is, r) ↦ numbered_ok Rebuilder 16 digits by (number_in 1 16 digits) (λ n l m. (l, m)) refl r
        | inr (no_kind, bad) ↦ absurd cc
      ]
    ]

of_volume_ok : (v : Volume) (digits : Word) (r : Result ℕ ScriptCause) (sid : ℕ) → number_in 1 65535 digits ≡ r → of_volume v r ≡ Ok sid → IsNodeOf v sid
of_volume_ok v digits (Ok n) sid p e =
    let q = if_ok (has_node v n) n sid BadNode e in
    let h = number_in_ok 1 65535 digits n p in
    subst (IsNodeOf v) q.1 (h.0, h.1, q.0)
of_volume_ok v digits (Err d) sid p e = absurd cc

node_ok : (v : Volume) (w : Word) (sid : ℕ) → IsWord w → node v w ≡ Ok sid → IsNodeOf v sid
unfolding node
node_ok v [] sid h e = absurd cc
node_ok v (b ∷ digits) sid h e =
    elim (chosen (b == 110) _ _ _ e) [
      | inl (is, c) ↦ of_volume_ok v digits (number_in 1 65535 digits) sid refl c
      | inr (not_is, o) ↦ absurd cc
    ]

at_most_ok : (limit : ℕ) (bytes : List ℕ) (d : Datum) → IsBytes bytes → at_most limit bytes ≡ Ok d → IsDatum limit d
at_most_ok limit bytes d h e =
    let p = if_ok (nat_le (length bytes) limit) (Bytes bytes) d OutOfRange e in
    let most : length bytes ≤ limit = leb-true _ _ p.0 in
    subst (IsDatum limit) p.1 (h, most)

made_ok : (limit : ℕ) (parts : List Word) (d : Datum) → made limit parts ≡ Ok d → IsDatum limit d
made_ok limit [] d e = absurd cc
made_ok limit (len ∷ []) d e = absurd cc
made_ok limit (len ∷ seed ∷ []) d e =
    let (n, p, q) = and_ok (number_in 0 limit len) (λ n. and_then (number_in 0 255 seed) (λ s. Ok (Made n s))) d e in
    let (s, r, t) = and_ok (number_in 0 255 seed) (λ s. Ok (Made n s)) d q in
    let same : Made n s ≡ d = cc in
    subst (IsDatum limit) same ((number_in_ok 0 limit len n p).1, (number_in_ok 0 255 seed s r).1)
made_ok limit (len ∷ seed ∷ more ∷ parts) d e = absurd cc

hex_ok : (limit : ℕ) (text : List ℕ) (r : Result (List ℕ) FromHexError) (d : Datum) → decode_of text ≡ r → hex limit r ≡ Ok d → IsDatum limit d
hex_ok limit text (Ok bytes) d p e = at_most_ok limit bytes d (decode_of-ok text bytes p).3 e
hex_ok limit text (Err x) d p e = absurd cc

text_ok : (limit : ℕ) (kind colon : ℕ) (bytes : List ℕ) (d : Datum) → IsWord (kind ∷ colon ∷ bytes) → at_most limit bytes ≡ Ok d → IsDatum limit d
text_ok limit kind colon bytes d h e = at_most_ok limit bytes d (are_bytes bytes (utf8_bytes (kind ∷ colon ∷ bytes) h.text).1.1) e

datum_ok : (limit : ℕ) (w : Word) (d : Datum) → IsWord w → datum limit w ≡ Ok d → IsDatum limit d
unfolding datum
datum_ok limit [] d h e = absurd cc
datum_ok limit (kind ∷ []) d h e = absurd cc
datum_ok limit (kind ∷ colon ∷ bytes) d h e =
    elim (chosen (not (colon == 58)) _ _ _ e) [
      | inl (is, c) ↦ absurd cc
      | inr (is, o) ↦ elim (chosen (kind == 116) _ _ _ o) [
        | inl (text, c) ↦ text_ok limit kind colon bytes d h c
        | inr (not_text, o2) ↦ elim (chosen (kind == 120) _ _ _ o2) [
          | inl (digits, c) ↦ hex_ok limit bytes (decode_of bytes) d refl c
          | inr (not_digits, o3) ↦ elim (chosen (kind == 103) _ _ _ o3) [
            | inl (is_made, c) ↦ made_ok limit (slice_split (λ b. b == 58) bytes) d c
            | inr (none, bad) ↦ absurd cc
          ]
        ]
      ]
    ]

abbrev Writes : ℕ → Datum → Type 0
Writes offset d = IsDatum most_bytes d × (offset + datum_length d ≤ last_byte)

datum_from_ok : (offset : ℕ) (w : Word) (d : Datum) → IsWord w → datum_from offset w ≡ Ok d → Writes offset d
unfolding datum_from
datum_from_ok offset w d h e =
    let (x, p, q) = and_ok (datum most_bytes w) (λ d. cond (nat_le (offset + datum_length d) last_byte) (Ok d) (Err OutOfRange)) d e in
    let r = if_ok (nat_le (offset + datum_length x) last_byte) x d OutOfRange q in
    let ends : offset + datum_length x ≤ last_byte = leb-true _ _ r.0 in
    subst (Writes offset) r.1 (datum_ok most_bytes w x h p, ends)

abbrev Reads : ℕ → ℕ → Type 0
Reads offset n = (n ≤ most_bytes) × (offset + n ≤ last_byte)

length_from_ok : (offset : ℕ) (w : Word) (n : ℕ) → IsWord w → length_from offset w ≡ Ok n → Reads offset n
unfolding length_from
length_from_ok offset w n h e =
    let (x, p, q) = and_ok (number_in 0 most_bytes w) (λ n. cond (nat_le (offset + n) last_byte) (Ok n) (Err OutOfRange)) n e in
    let r = if_ok (nat_le (offset + x) last_byte) x n OutOfRange q in
    let ends : offset + x ≤ last_byte = leb-true _ _ r.0 in
    subst (Reads offset) r.1 ((number_in_ok 0 most_bytes w x p).1, ends)

way_ok : (w : Word) (b : Bool) → IsWord w → way w ≡ Ok b → Unit {0}
way_ok w b h e = tt

-- ---- operations

path_call_ok : (verb : PathVerb) (path : List ℕ) → IsWord path → IsCall (path_call verb path)
path_call_ok path_verbs.Lookup path h = h
path_call_ok path_verbs.Getattr path h = h
path_call_ok path_verbs.Rmdir path h = h
path_call_ok path_verbs.Mkdir path h = h
path_call_ok path_verbs.Create path h = h
path_call_ok path_verbs.Unlink path h = h
path_call_ok path_verbs.Readlink path h = h
path_call_ok path_verbs.Readdir path h = h

pair_call_ok : (verb : PairVerb) (a b : List ℕ) → IsWord a → IsWord b → IsCall (pair_call verb a b)
pair_call_ok pair_verbs.Rename a b h k = (h, k)
pair_call_ok pair_verbs.Link a b h k = (h, k)
pair_call_ok pair_verbs.Symlink a b h k = (h, k)

module _ (v : Volume) where
  on_path_ok : (verb : PathVerb) (ws : List Word) (o : Operation) → AllByRecursion IsWord ws → on_path verb ws ≡ Ok o → IsOfClient v o
  unfolding on_path
  on_path_ok verb ws o good e =
      takes any (λ path. done (Tree (path_call verb path))) IsWord (IsOfClient v) any_ok
      (λ path us y p g f. done_ok (IsOfClient v) (Tree (path_call verb path)) y us (path_call_ok verb path p) f) ws o good e

  on_pair_ok : (verb : PairVerb) (ws : List Word) (o : Operation) → AllByRecursion IsWord ws → on_pair verb ws ≡ Ok o → IsOfClient v o
  unfolding on_pair
  on_pair_ok verb ws o good e =
      takes any (λ a. any >>= λ b. done (Tree (pair_call verb a b))) IsWord (IsOfClient v) any_ok
      (λ a us y p g f. takes any (λ b. done (Tree (pair_call verb a b))) IsWord (IsOfClient v) any_ok
      (λ b us2 y2 q g2 f2. done_ok (IsOfClient v) (Tree (pair_call verb a b)) y2 us2 (pair_call_ok verb a b p q) f2) us y g f) ws o good e

  setattr_ok : (ws : List Word) (o : Operation) → AllByRecursion IsWord ws → setattr ws ≡ Ok o → IsOfClient v o
  unfolding setattr
  setattr_ok ws o good e =
      takes any (λ path. number_in 0 4095 >>= λ mode. number >>= λ mtime. done (Tree (tree.Setattr path mode mtime))) IsWord (IsOfClient v) any_ok
      (λ path us y p g f. takes (number_in 0 4095) (λ mode. number >>= λ mtime. done (Tree (tree.Setattr path mode mtime))) (λ n. (0 ≤ n) × (n ≤ 4095)) (IsOfClient v) (within_ok 0 4095)
      (λ mode us2 y2 m g2 f2. takes number (λ mtime. done (Tree (tree.Setattr path mode mtime))) (λ n. n < 2 ^ 64) (IsOfClient v) number_ok
      (λ mtime us3 y3 t g3 f3. done_ok (IsOfClient v) (Tree (tree.Setattr path mode mtime)) y3 us3 (p, m.1, t) f3) us2 y2 g2 f2) us y g f) ws o good e

  put_ok : (ws : List Word) (o : Operation) → AllByRecursion IsWord ws → put v ws ≡ Ok o → IsOfClient v o
  unfolding put
  put_ok ws o good e =
      takes any (λ path. number >>= λ block. datum (block_bytes_of v.layout) >>= λ bytes. done (Put path block bytes)) IsWord (IsOfClient v) any_ok
      (λ path us y p g f. takes number (λ block. datum (block_bytes_of v.layout) >>= λ bytes. done (Put path block bytes)) (λ n. n < 2 ^ 64) (IsOfClient v) number_ok
      (λ block us2 y2 n g2 f2. takes (datum (block_bytes_of v.layout)) (λ bytes. done (Put path block bytes)) (IsDatum (block_bytes_of v.layout)) (IsOfClient v) (datum_ok (block_bytes_of v.layout))
      (λ bytes us3 y3 d g3 f3. done_ok (IsOfClient v) (Put path block bytes) y3 us3 (p, n, d) f3) us2 y2 g2 f2) us y g f) ws o good e

  get_ok : (ws : List Word) (o : Operation) → AllByRecursion IsWord ws → get ws ≡ Ok o → IsOfClient v o
  unfolding get
  get_ok ws o good e =
      takes any (λ path. number >>= λ block. done (Get path block)) IsWord (IsOfClient v) any_ok
      (λ path us y p g f. takes number (λ block. done (Get path block)) (λ n. n < 2 ^ 64) (IsOfClient v) number_ok
      (λ block us2 y2 n g2 f2. done_ok (IsOfClient v) (Get path block) y2 us2 (p, n) f2) us y g f) ws o good e

  bytes_at_ok : (make : List ℕ → ℕ → Datum → Operation) → ((path : List ℕ) (offset : ℕ) (d : Datum) → IsWrite path offset d → IsOfClient v (make path offset d)) → (ws : List Word) (o : Operation) → AllByRecursion IsWord ws → bytes_at make ws ≡ Ok o → IsOfClient v o
  unfolding bytes_at
  bytes_at_ok make made_ok ws o good e =
      takes any (λ path. number >>= λ offset. datum_from offset >>= λ bytes. done (make path offset bytes)) IsWord (IsOfClient v) any_ok
      (λ path us y p g f. takes number (λ offset. datum_from offset >>= λ bytes. done (make path offset bytes)) (λ n. n < 2 ^ 64) (IsOfClient v) number_ok
      (λ offset us2 y2 n g2 f2. takes (datum_from offset) (λ bytes. done (make path offset bytes)) (Writes offset) (IsOfClient v) (datum_from_ok offset)
      (λ bytes us3 y3 d g3 f3. done_ok (IsOfClient v) (make path offset bytes) y3 us3 (made_ok path offset bytes (p, d.0, d.1)) f3) us2 y2 g2 f2) us y g f) ws o good e

  range_at_ok : (make : List ℕ → ℕ → ℕ → Operation) → ((path : List ℕ) (offset len : ℕ) → IsRead path offset len → IsOfClient v (make path offset len)) → (ws : List Word) (o : Operation) → AllByRecursion IsWord ws → range_at make ws ≡ Ok o → IsOfClient v o
  unfolding range_at
  range_at_ok make made_ok ws o good e =
      takes any (λ path. number >>= λ offset. length_from offset >>= λ len. done (make path offset len)) IsWord (IsOfClient v) any_ok
      (λ path us y p g f. takes number (λ offset. length_from offset >>= λ len. done (make path offset len)) (λ n. n < 2 ^ 64) (IsOfClient v) number_ok
      (λ offset us2 y2 n g2 f2. takes (length_from offset) (λ len. done (make path offset len)) (Reads offset) (IsOfClient v) (length_from_ok offset)
      (λ len us3 y3 d g3 f3. done_ok (IsOfClient v) (make path offset len) y3 us3 (made_ok path offset len (p, d.0, d.1)) f3) us2 y2 g2 f2) us y g f) ws o good e

  rebuild_ok : (ws : List Word) (o : Operation) → AllByRecursion IsWord ws → rebuild v ws ≡ Ok o → IsOfRebuilder v o
  unfolding rebuild
  rebuild_ok ws o good e =
      takes (node v) (λ sid. done (Rebuild sid)) (IsNodeOf v) (IsOfRebuilder v) (node_ok v)
      (λ sid us y p g f. done_ok (IsOfRebuilder v) (Rebuild sid) y us p f) ws o good e

  -- what a client may do, and a rebuilder
  abbrev does : Actor → Verb → Type 0
  does (Client n) verbs.Rebuild = ⊥
  does (Client n) _ = Unit {0}
  does (Rebuilder n) verbs.Rebuild = Unit {0}
  does (Rebuilder n) _ = ⊥
  does Admin _ = ⊥

  operands_ok : (by : Actor) (name : Verb) → does by name → (ws : List Word) (o : Operation) → AllByRecursion IsWord ws → operands v name ws ≡ Ok o → IsOperation v by o
  unfolding operands
  operands_ok (Client n) (verbs.OnPath verb) d ws o good e = on_path_ok verb ws o good e
  operands_ok (Client n) (verbs.OnPair verb) d ws o good e = on_pair_ok verb ws o good e
  operands_ok (Client n) verbs.Setattr d ws o good e = setattr_ok ws o good e
  operands_ok (Client n) verbs.Put d ws o good e = put_ok ws o good e
  operands_ok (Client n) verbs.Get d ws o good e = get_ok ws o good e
  operands_ok (Client n) verbs.Write d ws o good e = bytes_at_ok Write (λ path offset d h. h) ws o good e
  operands_ok (Client n) verbs.Read d ws o good e = range_at_ok Read (λ path offset len h. h) ws o good e
  operands_ok (Client n) verbs.Rebuild d ws o good e = absurd d
  operands_ok (Client n) verbs.Update d ws o good e = bytes_at_ok Update (λ path offset d h. h) ws o good e
  operands_ok (Client n) verbs.View d ws o good e = range_at_ok View (λ path offset len h. h) ws o good e
  operands_ok (Rebuilder n) (verbs.OnPath verb) d ws o good e = absurd d
  operands_ok (Rebuilder n) (verbs.OnPair verb) d ws o good e = absurd d
  operands_ok (Rebuilder n) verbs.Setattr d ws o good e = absurd d
  operands_ok (Rebuilder n) verbs.Put d ws o good e = absurd d
  operands_ok (Rebuilder n) verbs.Get d ws o good e = absurd d
  operands_ok (Rebuilder n) verbs.Write d ws o good e = absurd d
  operands_ok (Rebuilder n) verbs.Read d ws o good e = absurd d
  operands_ok (Rebuilder n) verbs.Rebuild d ws o good e = rebuild_ok ws o good e
  operands_ok (Rebuilder n) verbs.Update d ws o good e = absurd d
  operands_ok (Rebuilder n) verbs.View d ws o good e = absurd d
  operands_ok Admin name d ws o good e = absurd d

  unless_ok : (form : Form) (n : ℕ) (u name : Verb) → does (Client n) u → unless_run form u ≡ Ok name → does (Client n) name
  unless_ok forms.Replay n u name d e = let same : u ≡ name = cc in subst (does (Client n)) same d
  unless_ok forms.Run n u name d e = absurd cc
  unless_ok forms.Migrate n u name d e = let same : u ≡ name = cc in subst (does (Client n)) same d

  same_ok : (by : Actor) (u name : Verb) → does by u → fine u ≡ Ok name → does by name
  same_ok by u name d e = let same : u ≡ name = cc in subst (does by) same d

  judged_ok : (form : Form) (by : Actor) (u name : Verb) → judged form by u ≡ Ok name → does by name
  judged_ok form (Client n) (verbs.OnPath verb) name e = same_ok (Client n) (verbs.OnPath verb) name tt e
  judged_ok form (Client n) (verbs.OnPair verb) name e = same_ok (Client n) (verbs.OnPair verb) name tt e
  judged_ok form (Client n) verbs.Setattr name e = same_ok (Client n) verbs.Setattr name tt e
  judged_ok form (Client n) verbs.Put name e = same_ok (Client n) verbs.Put name tt e
  judged_ok form (Client n) verbs.Get name e = same_ok (Client n) verbs.Get name tt e
  judged_ok form (Client n) verbs.Write name e = same_ok (Client n) verbs.Write name tt e
  judged_ok form (Client n) verbs.Read name e = same_ok (Client n) verbs.Read name tt e
  judged_ok form (Client n) verbs.Rebuild name e = absurd cc
  judged_ok form (Client n) verbs.Update name e = unless_ok form n verbs.Update name tt e
  judged_ok form (Client n) verbs.View name e = unless_ok form n verbs.View name tt e
  judged_ok form (Rebuilder n) (verbs.OnPath verb) name e = absurd cc
  judged_ok form (Rebuilder n) (verbs.OnPair verb) name e = absurd cc
  judged_ok form (Rebuilder n) verbs.Setattr name e = absurd cc
  judged_ok form (Rebuilder n) verbs.Put name e = absurd cc
  judged_ok form (Rebuilder n) verbs.Get name e = absurd cc
  judged_ok form (Rebuilder n) verbs.Write name e = absurd cc
  judged_ok form (Rebuilder n) verbs.Read name e = absurd cc
  judged_ok form (Rebuilder n) verbs.Rebuild name e = same_ok (Rebuilder n) verbs.Rebuild name tt e
  judged_ok form (Rebuilder n) verbs.Update name e = absurd cc
  judged_ok form (Rebuilder n) verbs.View name e = absurd cc
  judged_ok form Admin u name e = absurd cc

  judged_if_ok : (form : Form) (by : Actor) (u : Option Verb) (name : Verb) → judged_if form by u ≡ Ok name → does by name
  judged_if_ok form by None name e = absurd cc
  judged_if_ok form by (Some u) name e = judged_ok form by u name e

  verb_ok : (form : Form) (by : Actor) (w : Word) (name : Verb) → IsWord w → verb form by w ≡ Ok name → does by name
  unfolding verb
  verb_ok form by w name h e = judged_if_ok form by (verb_named w) name e

  -- ---- lines

  by_actor_ok : (by : Actor) (name : Verb) (ws : List Word) (l : Line) → IsActor by → does by name → AllByRecursion IsWord ws → by_actor by (operands v name) ws ≡ Ok l → IsLine v l
  by_actor_ok by name ws l b d good e =
      let (o, p, q) = and_ok (operands v name ws) (λ operation. Ok (Op by operation)) l e in
      let same : Op by o ≡ l = cc in
      subst (IsLine v) same (b, operands_ok by name d ws o good p)

  op_ok : (form : Form) (ws : List Word) (l : Line) → AllByRecursion IsWord ws → op form v ws ≡ Ok l → IsLine v l
  unfolding op
  op_ok form ws l good e =
      takes actor (λ by. verb form by >>= λ name. by_actor by (operands v name)) IsActor (IsLine v) actor_ok
      (λ by us y b g f. takes (verb form by) (λ name. by_actor by (operands v name)) (does by) (IsLine v) (verb_ok form by)
      (λ name us2 y2 d g2 f2. by_actor_ok by name us2 y2 b d g2 f2) us y g f) ws l good e

  turn_ok : (ws : List Word) (l : Line) → AllByRecursion IsWord ws → turn ws ≡ Ok l → IsLine v l
  unfolding turn
  turn_ok ws l good e =
      takes actor (λ by. number_in 1 1000000 >>= λ k. done (Turn by k)) IsActor (IsLine v) actor_ok
      (λ by us y b g f. takes (number_in 1 1000000) (λ k. done (Turn by k)) (λ n. (1 ≤ n) × (n ≤ 1000000)) (IsLine v) (within_ok 1 1000000)
      (λ k us2 y2 n g2 f2. done_ok (IsLine v) (Turn by k) y2 us2 (b, n.0, n.1) f2) us y g f) ws l good e

  rounds_ok : (ws : List Word) (l : Line) → AllByRecursion IsWord ws → rounds ws ≡ Ok l → IsLine v l
  unfolding rounds
  rounds_ok ws l good e =
      takes (number_in 1 1000000) (λ k. done (Rounds k)) (λ n. (1 ≤ n) × (n ≤ 1000000)) (IsLine v) (within_ok 1 1000000)
      (λ k us y n g f. done_ok (IsLine v) (Rounds k) y us n f) ws l good e

  rest_ok : (ws : List Word) (l : Line) → rest ws ≡ Ok l → IsLine v l
  unfolding rest
  rest_ok ws l e = done_ok (IsLine v) Rest l ws tt e

  on_node_ok : (act : ℕ → Line) (ws : List Word) (l : Line) → ((sid : ℕ) → IsNodeOf v sid → IsLine v (act sid)) → AllByRecursion IsWord ws → on_node v act ws ≡ Ok l → IsLine v l
  unfolding on_node
  on_node_ok act ws l is good e =
      takes (node v) (λ sid. done (act sid)) (IsNodeOf v) (IsLine v) (node_ok v)
      (λ sid us y p g f. done_ok (IsLine v) (act sid) y us (is sid p) f) ws l good e

  break_ok : (ws : List Word) (l : Line) → AllByRecursion IsWord ws → break_node v ws ≡ Ok l → IsLine v l
  unfolding break_node
  break_ok ws l good e =
      takes (node v) (λ sid. number_in 0 1000000 >>= λ k. number >>= λ pick. done (Break sid k pick)) (IsNodeOf v) (IsLine v) (node_ok v)
      (λ sid us y p g f. takes (number_in 0 1000000) (λ k. number >>= λ pick. done (Break sid k pick)) (λ n. (0 ≤ n) × (n ≤ 1000000)) (IsLine v) (within_ok 0 1000000)
      (λ k us2 y2 n g2 f2. takes number (λ pick. done (Break sid k pick)) (λ n. n < 2 ^ 64) (IsLine v) number_ok
      (λ pick us3 y3 t g3 f3. done_ok (IsLine v) (Break sid k pick) y3 us3 (p, n.1, t) f3) us2 y2 g2 f2) us y g f) ws l good e

  miss_ok : (ws : List Word) (l : Line) → AllByRecursion IsWord ws → miss ws ≡ Ok l → IsLine v l
  unfolding miss
  miss_ok ws l good e =
      takes actor (λ by. way >>= λ reply. done (Miss by reply)) IsActor (IsLine v) actor_ok
      (λ by us y b g f. takes way (λ reply. done (Miss by reply)) (λ reply. Unit {0}) (IsLine v) way_ok
      (λ reply us2 y2 n g2 f2. done_ok (IsLine v) (Miss by reply) y2 us2 b f2) us y g f) ws l good e

  after_keyword_ok : (form : Form) (k : Keyword) (ws : List Word) (l : Line) → AllByRecursion IsWord ws → after_keyword form v k ws ≡ Ok l → IsLine v l
  unfolding after_keyword
  after_keyword_ok form keys.Volume ws l good e = absurd cc
  after_keyword_ok form keys.Op ws l good e = op_ok form ws l good e
  after_keyword_ok form keys.Turn ws l good e = turn_ok ws l good e
  after_keyword_ok form keys.Rounds ws l good e = rounds_ok ws l good e
  after_keyword_ok form keys.Rest ws l good e = rest_ok ws l e
  after_keyword_ok form keys.Stop ws l good e = on_node_ok Stop ws l (λ sid h. h) good e
  after_keyword_ok form keys.Start ws l good e = on_node_ok Start ws l (λ sid h. h) good e
  after_keyword_ok form keys.Lose ws l good e = on_node_ok Lose ws l (λ sid h. h) good e
  after_keyword_ok form keys.Break ws l good e = break_ok ws l good e
  after_keyword_ok form keys.Miss ws l good e = miss_ok ws l good e

  counted_ok : (form : Form) (w : Word) (ws : List Word) (l : Line) → AllByRecursion IsWord ws → counted form v w ws ≡ Ok l → IsLine v l
  unfolding counted
  counted_ok form w ws l good e =
      let (k, p, q) = and_ok (keyword form w) (λ k. after_keyword form v k ws) l e in
      after_keyword_ok form k ws l good q

  abbrev pub MayBeLine : Option Line → Type 0
  MayBeLine None = Unit {0}
  MayBeLine (Some l) = IsLine v l

  some_ok : (form : Form) (w : Word) (ws : List Word) (r : Result Line ScriptCause) (o : Option Line) → AllByRecursion IsWord ws → counted form v w ws ≡ r → some r ≡ Ok o → MayBeLine o
  some_ok form w ws (Ok l) None good p e = tt
  some_ok form w ws (Ok l) (Some m) good p e =
      let same : l ≡ m = cc in
      subst (IsLine v) same (counted_ok form w ws l good p)
  some_ok form w ws (Err c) o good p e = absurd cc

  pub line_ok : (form : Form) (ws : List Word) (o : Option Line) → AllByRecursion IsWord ws → line form v ws ≡ Ok o → MayBeLine o
  unfolding line
  line_ok form [] o good e = let same : None ≡ o = cc in subst MayBeLine same tt
  line_ok form (w ∷ ws) o good e =
      elim (chosen (slice_index w 0 == 35) _ _ _ e) [
        | inl (is, c) ↦ let same : None ≡ o = cc in subst MayBeLine same tt
        | inr (is, c) ↦ some_ok form w ws (counted form v w ws) o good.1 refl c
      ]
