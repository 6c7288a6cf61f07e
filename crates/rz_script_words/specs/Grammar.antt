-- The grammar of operands: what the words of an actor, a node, a number, a datum and an operation mean under a form of reading, or their
-- first cause.
use Rattle.std.specs.Prelude.{ℕ, ◌+◌, not, nat_le, ◌==◌, ◌&&◌, if◌then◌else◌, List, [], ◌∷◌, length, filter, codes, bytes_eq, Option, Some, None, Result, Ok, Err, ok_or}
use Rattle.std.specs.List.{slice_split, after_first}
use Rattle.hex.specs.Hex.{decode_of}
use Rattle.hex.specs.declared.error.FromHexError.{FromHexError}
use Rattle.mj_angles.specs.Layout.{block_bytes_of}
use Rattle.rz_events.specs.declared.keys.Actor.{Actor}
use Rattle.rz_events.specs.declared.keys.Actor.TheVariants.{Client, Rebuilder, Admin}
use Rattle.rz_events.specs.declared.tree.TreeCall.{TreeCall}
use Rattle.rz_events.specs.declared.tree.TreeCall.TheVariants as tree
use Rattle.rz_events.specs.Volume.{Volume}
use Rattle.rz_events.specs.declared.operations.Datum.{Datum}
use Rattle.rz_events.specs.declared.operations.Datum.TheVariants.{Bytes, Made}
use Rattle.rz_events.specs.declared.operations.Operation.{Operation}
use Rattle.rz_events.specs.declared.operations.Operation.TheVariants.{Tree, Put, Get, Write, Read, Rebuild, Update, View}
use Rattle.rz_script_words.specs.Words.{Word}
use Rattle.rz_script_words.specs.Numerals.{numeral}
use Rattle.rz_script_words.specs.Limits.{has_node, datum_length, most_bytes, last_byte}
use Rattle.rz_script_words.specs.declared.form.Form.{Form}
use Rattle.rz_script_words.specs.declared.form.Form.TheVariants as forms
use Rattle.rz_script_words.specs.declared.verbs.PathVerb.{PathVerb}
use Rattle.rz_script_words.specs.declared.verbs.PathVerb.TheVariants as path_verbs
use Rattle.rz_script_words.specs.declared.verbs.PairVerb.{PairVerb}
use Rattle.rz_script_words.specs.declared.verbs.PairVerb.TheVariants as pair_verbs
use Rattle.rz_script_words.specs.declared.verbs.Verb.{Verb}
use Rattle.rz_script_words.specs.declared.verbs.Verb.TheVariants as verbs
use Rattle.rz_script_words.specs.declared.fault.ScriptCause.{ScriptCause}
use Rattle.rz_script_words.specs.declared.fault.ScriptCause.TheVariants.{MissingWord, ExtraWord, BadNumber, OutOfRange, BadActor, BadNode, BadDatum, BadOperation, NotForRun}

-- the words of a line: what stands between spaces
abbrev pub words : List ℕ → List Word
words line = filter (λ w. not (length w == 0)) (slice_split (λ b. b == 32) line)

-- what stands after the first word and the space that ends it
abbrev pub after_word : List ℕ → List ℕ
after_word [] = []
after_word (b ∷ bs) = if b == 32 then after_word bs else after_first (λ c. c == 32) (b ∷ bs)

-- A judge tells what one word means. A reader tells what the words of a line mean from some word on.
abbrev pub Judge : Type 0 → Type 0
Judge A = Word → Result A ScriptCause

abbrev pub Reader : Type 0 → Type 0
Reader A = List Word → Result A ScriptCause

abbrev pub and_then : {A B : Type 0} → Result A ScriptCause → (A → Result B ScriptCause) → Result B ScriptCause
and_then (Ok x) f = f x
and_then (Err e) f = Err e

-- the next word by this judge, and then the others
infixl 10 ◌>>=◌
abbrev pub ◌>>=◌ : {A B : Type 0} → Judge A → (A → Reader B) → Reader B
(judge >>= next) [] = Err MissingWord
(judge >>= next) (w ∷ ws) = and_then (judge w) (λ x. next x ws)

-- no other words
abbrev pub done : {A : Type 0} → A → Reader A
done x [] = Ok x
done x (w ∷ ws) = Err ExtraWord

-- ---- words

-- PATH and TARGET: any word
abbrev pub any : Judge (List ℕ)
any w = Ok w

-- a number: decimal digits, at most a u64
unfoldable pub number : Judge ℕ
number w = ok_or (numeral w) BadNumber

-- a number from low to high
unfoldable pub number_in : ℕ → ℕ → Judge ℕ
number_in low high w = and_then (number w) (λ n. if nat_le low n && nat_le n high then Ok n else Err OutOfRange)

-- an actor of a kind by its number
abbrev pub numbered : (ℕ → Actor) → Result ℕ ScriptCause → Result Actor ScriptCause
numbered kind (Ok n) = Ok (kind n)
numbered kind (Err e) = Err BadActor

-- ACTOR: `c1` to `c64` or `r1` to `r16`
unfoldable pub actor : Judge Actor
actor [] = Err BadActor
actor (b ∷ digits) =
    if b == 99 then numbered Client (number_in 1 64 digits)
    else if b == 114 then numbered Rebuilder (number_in 1 16 digits)
    else Err BadActor

-- a number, where a node of the volume has it
abbrev pub of_volume : Volume → Result ℕ ScriptCause → Result ℕ ScriptCause
of_volume v (Ok sid) = if has_node v sid then Ok sid else Err BadNode
of_volume v (Err e) = Err BadNode

-- NODE: `n` and the number of a node of the volume
unfoldable pub node : Volume → Judge ℕ
node v [] = Err BadNode
node v (b ∷ digits) = if b == 110 then of_volume v (number_in 1 65535 digits) else Err BadNode

-- the bytes of a datum, of which there may be so many
abbrev pub at_most : ℕ → List ℕ → Result Datum ScriptCause
at_most limit bytes = if nat_le (length bytes) limit then Ok (Bytes bytes) else Err OutOfRange

-- what stands between the colons of `g:LENGTH:SEED`
abbrev pub made : ℕ → List Word → Result Datum ScriptCause
made limit [] = Err BadDatum
made limit (len ∷ []) = Err BadDatum
made limit (len ∷ seed ∷ []) = and_then (number_in 0 limit len) (λ n. and_then (number_in 0 255 seed) (λ s. Ok (Made n s)))
made limit (len ∷ seed ∷ more ∷ parts) = Err BadDatum

-- the bytes of pairs of hex digits
abbrev pub hex : ℕ → Result (List ℕ) FromHexError → Result Datum ScriptCause
hex limit (Ok bytes) = at_most limit bytes
hex limit (Err e) = Err BadDatum

-- DATUM: `t:` and bytes, `x:` and hex digits, or `g:LENGTH:SEED`
unfoldable pub datum : ℕ → Judge Datum
datum limit [] = Err BadDatum
datum limit (kind ∷ []) = Err BadDatum
datum limit (kind ∷ colon ∷ rest) =
    if not (colon == 58) then Err BadDatum
    else if kind == 116 then at_most limit rest
    else if kind == 120 then hex limit (decode_of rest)
    else if kind == 103 then made limit (slice_split (λ b. b == 58) rest)
    else Err BadDatum

-- DATUM of bytes from an offset on
unfoldable pub datum_from : ℕ → Judge Datum
datum_from offset w = and_then (datum most_bytes w) (λ d. if nat_le (offset + datum_length d) last_byte then Ok d else Err OutOfRange)

-- LENGTH of bytes from an offset on
unfoldable pub length_from : ℕ → Judge ℕ
length_from offset w = and_then (number_in 0 most_bytes w) (λ n. if nat_le (offset + n) last_byte then Ok n else Err OutOfRange)

-- ---- operations

-- the call on one path that a word names
unfoldable pub path_verb_named : Word → Option PathVerb
path_verb_named w =
    if bytes_eq w (codes "mkdir") then Some path_verbs.Mkdir
    else if bytes_eq w (codes "rmdir") then Some path_verbs.Rmdir
    else if bytes_eq w (codes "create") then Some path_verbs.Create
    else if bytes_eq w (codes "unlink") then Some path_verbs.Unlink
    else if bytes_eq w (codes "readlink") then Some path_verbs.Readlink
    else if bytes_eq w (codes "readdir") then Some path_verbs.Readdir
    else if bytes_eq w (codes "lookup") then Some path_verbs.Lookup
    else if bytes_eq w (codes "getattr") then Some path_verbs.Getattr
    else None

-- the call on two words that a word names
unfoldable pub pair_verb_named : Word → Option PairVerb
pair_verb_named w =
    if bytes_eq w (codes "rename") then Some pair_verbs.Rename
    else if bytes_eq w (codes "link") then Some pair_verbs.Link
    else if bytes_eq w (codes "symlink") then Some pair_verbs.Symlink
    else None

-- any other operation that a word names
unfoldable pub other_verb_named : Word → Option Verb
other_verb_named w =
    if bytes_eq w (codes "setattr") then Some verbs.Setattr
    else if bytes_eq w (codes "put") then Some verbs.Put
    else if bytes_eq w (codes "get") then Some verbs.Get
    else if bytes_eq w (codes "write") then Some verbs.Write
    else if bytes_eq w (codes "read") then Some verbs.Read
    else if bytes_eq w (codes "update") then Some verbs.Update
    else if bytes_eq w (codes "view") then Some verbs.View
    else if bytes_eq w (codes "rebuild") then Some verbs.Rebuild
    else None

abbrev pub first_verb : Option PathVerb → Option PairVerb → Option Verb → Option Verb
first_verb (Some v) pair other = Some (verbs.OnPath v)
first_verb None (Some v) other = Some (verbs.OnPair v)
first_verb None None other = other

-- the operation that a word names
unfoldable pub verb_named : Word → Option Verb
verb_named w = first_verb (path_verb_named w) (pair_verb_named w) (other_verb_named w)

-- an operation that locks a range is not for many threads
abbrev pub unless_run : {A : Type 0} → Form → A → Result A ScriptCause
unless_run forms.Replay x = Ok x
unless_run forms.Run x = Err NotForRun
unless_run forms.Migrate x = Ok x

-- whether an actor may do it: a rebuilder rebuilds, and a client does all else
abbrev pub judged : Form → Actor → Verb → Result Verb ScriptCause
judged form (Client n) verbs.Rebuild = Err BadOperation
judged form (Client n) verbs.Update = unless_run form verbs.Update
judged form (Client n) verbs.View = unless_run form verbs.View
judged form (Client n) v = Ok v
judged form (Rebuilder n) verbs.Rebuild = Ok verbs.Rebuild
judged form (Rebuilder n) v = Err BadOperation
judged form Admin v = Err BadOperation

abbrev pub judged_if : Form → Actor → Option Verb → Result Verb ScriptCause
judged_if form by None = Err BadOperation
judged_if form by (Some v) = judged form by v

-- the first word of OPERATION
unfoldable pub verb : Form → Actor → Judge Verb
verb form by w = judged_if form by (verb_named w)

-- the call of a verb on one path
abbrev pub path_call : PathVerb → List ℕ → TreeCall
path_call path_verbs.Lookup path = tree.Lookup path
path_call path_verbs.Getattr path = tree.Getattr path
path_call path_verbs.Rmdir path = tree.Rmdir path
path_call path_verbs.Mkdir path = tree.Mkdir path
path_call path_verbs.Create path = tree.Create path
path_call path_verbs.Unlink path = tree.Unlink path
path_call path_verbs.Readlink path = tree.Readlink path
path_call path_verbs.Readdir path = tree.Readdir path

-- the call of a verb on two words
abbrev pub pair_call : PairVerb → List ℕ → List ℕ → TreeCall
pair_call pair_verbs.Rename path to = tree.Rename path to
pair_call pair_verbs.Link path to = tree.Link path to
pair_call pair_verbs.Symlink target path = tree.Symlink target path

-- mkdir PATH, rmdir PATH, create PATH, unlink PATH, readlink PATH, readdir PATH, lookup PATH, getattr PATH
unfoldable pub on_path : PathVerb → Reader Operation
on_path v = do
  path ← any
  done (Tree (path_call v path))

-- rename PATH PATH, link PATH PATH, symlink TARGET PATH
unfoldable pub on_pair : PairVerb → Reader Operation
on_pair v = do
  first ← any
  second ← any
  done (Tree (pair_call v first second))

-- setattr PATH MODE MTIME
unfoldable pub setattr : Reader Operation
setattr = do
  path ← any
  mode ← number_in 0 4095
  mtime ← number
  done (Tree (tree.Setattr path mode mtime))

-- put PATH BLOCK DATUM
unfoldable pub put : Volume → Reader Operation
put v = do
  path ← any
  block ← number
  bytes ← datum (block_bytes_of v.layout)
  done (Put path block bytes)

-- get PATH BLOCK
unfoldable pub get : Reader Operation
get = do
  path ← any
  block ← number
  done (Get path block)

-- PATH OFFSET DATUM of a write or an update
unfoldable pub bytes_at : (List ℕ → ℕ → Datum → Operation) → Reader Operation
bytes_at make = do
  path ← any
  offset ← number
  bytes ← datum_from offset
  done (make path offset bytes)

-- PATH OFFSET LENGTH of a read or a view
unfoldable pub range_at : (List ℕ → ℕ → ℕ → Operation) → Reader Operation
range_at make = do
  path ← any
  offset ← number
  len ← length_from offset
  done (make path offset len)

-- rebuild NODE
unfoldable pub rebuild : Volume → Reader Operation
rebuild v = do
  sid ← node v
  done (Rebuild sid)

-- the words after the first word of OPERATION
unfoldable pub operands : Volume → Verb → Reader Operation
operands v (verbs.OnPath verb) = on_path verb
operands v (verbs.OnPair verb) = on_pair verb
operands v verbs.Setattr = setattr
operands v verbs.Put = put v
operands v verbs.Get = get
operands v verbs.Write = bytes_at Write
operands v verbs.Read = range_at Read
operands v verbs.Update = bytes_at Update
operands v verbs.View = range_at View
operands v verbs.Rebuild = rebuild v
