-- The limits of lines: what the grammar gives under a volume.
use Rattle.std.specs.Prelude.{◌≡◌, ℕ, ◌<◌, ◌≤◌, ◌+◌, ◌^◌, Bool, true, false, not, ◌==◌, ◌&&◌, List, length}
use Rattle.std.specs.List.{list_all, AllByRecursion}
use Rattle.std.specs.Str.{IsUtf8}
use Rattle.hex.specs.Hex.{IsBytes}
use Rattle.mj_angles.specs.Layout.{block_bytes_of}
use Rattle.rz_events.specs.declared.keys.Actor.{Actor}
use Rattle.rz_events.specs.declared.keys.Actor.TheVariants.{Client, Rebuilder, Admin}
use Rattle.rz_events.specs.declared.tree.TreeCall.{TreeCall}
use Rattle.rz_events.specs.declared.tree.TreeCall.TheVariants as tree
use Rattle.rz_events.specs.Volume.{Volume}
use Rattle.rz_events.specs.declared.operations.Datum.{Datum}
use Rattle.rz_events.specs.declared.operations.Datum.TheVariants.{Bytes, Made}
use Rattle.rz_events.specs.declared.operations.Operation.{Operation}
use Rattle.rz_events.specs.declared.operations.Operation.TheVariants.{Tree, Put, Get, Write, Read, Rebuild, Update, View}
use Rattle.rz_script_words.specs.Limits.{has_node, datum_length, most_bytes, last_byte}
use Rattle.rz_script_words.specs.declared.form.Form.{Form}
use Rattle.rz_script_words.specs.declared.form.Form.TheVariants.{Replay, Run, Migrate}
use Rattle.rz_script.specs.declared.line.Line.{Line}
use Rattle.rz_script.specs.declared.line.Line.TheVariants.{Op, Turn, Rounds, Rest, Stop, Start, Lose, Break, Miss}

-- a byte of a word: neither a space nor a line feed
abbrev pub is_plain : ℕ → Bool
is_plain b = not (b == 32) && not (b == 10)

-- a word is some text without spaces and line feeds
pub record IsWord (w : List ℕ) : Type 0 where
  pub full : 0 < length w
  pub plain : list_all is_plain w ≡ true
  pub text : IsUtf8 w

-- the clients are 1 to 64, and the rebuilders 1 to 16
abbrev pub IsActor : Actor → Type 0
IsActor (Client n) = (1 ≤ n) × (n ≤ 64)
IsActor (Rebuilder n) = (1 ≤ n) × (n ≤ 16)
IsActor Admin = ⊥

abbrev pub IsNodeOf : Volume → ℕ → Type 0
IsNodeOf v sid = (1 ≤ sid) × (sid ≤ 65535) × (has_node v sid ≡ true)

-- a datum of at most so many bytes
abbrev pub IsDatum : ℕ → Datum → Type 0
IsDatum limit (Bytes bytes) = IsBytes bytes × (length bytes ≤ limit)
IsDatum limit (Made len seed) = (len ≤ limit) × (seed ≤ 255)

-- the calls on the tree whose paths are words
abbrev pub IsCall : TreeCall → Type 0
IsCall (tree.Lookup path) = IsWord path
IsCall (tree.Getattr path) = IsWord path
IsCall (tree.Rmdir path) = IsWord path
IsCall (tree.Mkdir path) = IsWord path
IsCall (tree.Create path) = IsWord path
IsCall (tree.Unlink path) = IsWord path
IsCall (tree.Readlink path) = IsWord path
IsCall (tree.Readdir path) = IsWord path
IsCall (tree.OpenFile path) = ⊥
IsCall (tree.Setattr path mode mtime) = IsWord path × (mode ≤ 4095) × (mtime < 2 ^ 64)
IsCall (tree.Rename path to) = IsWord path × IsWord to
IsCall (tree.Link path to) = IsWord path × IsWord to
IsCall (tree.Symlink target path) = IsWord target × IsWord path

-- bytes that are written or read from an offset on
abbrev pub IsWrite : List ℕ → ℕ → Datum → Type 0
IsWrite path offset d = IsWord path × IsDatum most_bytes d × (offset + datum_length d ≤ last_byte)

abbrev pub IsRead : List ℕ → ℕ → ℕ → Type 0
IsRead path offset len = IsWord path × (len ≤ most_bytes) × (offset + len ≤ last_byte)

-- an operation of a client
abbrev pub IsOfClient : Volume → Operation → Type 0
IsOfClient v (Tree call) = IsCall call
IsOfClient v (Put path block d) = IsWord path × (block < 2 ^ 64) × IsDatum (block_bytes_of v.layout) d
IsOfClient v (Get path block) = IsWord path × (block < 2 ^ 64)
IsOfClient v (Write path offset d) = IsWrite path offset d
IsOfClient v (Read path offset len) = IsRead path offset len
IsOfClient v (Rebuild node) = ⊥
IsOfClient v (Update path offset d) = IsWrite path offset d
IsOfClient v (View path offset len) = IsRead path offset len

-- an operation of a rebuilder
abbrev pub IsOfRebuilder : Volume → Operation → Type 0
IsOfRebuilder v (Rebuild node) = IsNodeOf v node
IsOfRebuilder v _ = ⊥

abbrev pub IsOperation : Volume → Actor → Operation → Type 0
IsOperation v (Client n) op = IsOfClient v op
IsOperation v (Rebuilder n) op = IsOfRebuilder v op
IsOperation v Admin op = ⊥

-- a line under a volume
abbrev pub IsLine : Volume → Line → Type 0
IsLine v (Op by op) = IsActor by × IsOperation v by op
IsLine v (Turn by k) = IsActor by × (1 ≤ k) × (k ≤ 1000000)
IsLine v (Rounds k) = (1 ≤ k) × (k ≤ 1000000)
IsLine v Rest = Unit {0}
IsLine v (Stop node) = IsNodeOf v node
IsLine v (Start node) = IsNodeOf v node
IsLine v (Lose node) = IsNodeOf v node
IsLine v (Break node k pick) = IsNodeOf v node × (k ≤ 1000000) × (pick < 2 ^ 64)
IsLine v (Miss by reply) = IsActor by

abbrev pub AreLines : Volume → List Line → Type 0
AreLines v ls = AllByRecursion (IsLine v) ls

-- whether many threads may run an operation
abbrev pub runs : Operation → Bool
runs (Update path offset d) = false
runs (View path offset len) = false
runs _ = true

-- whether a line may stand where many threads run
abbrev pub may_run : Line → Bool
may_run (Op by op) = runs op
may_run (Turn by k) = false
may_run (Rounds k) = false
may_run Rest = false
may_run (Miss by reply) = false
may_run _ = true

-- whether a form lets a line stand
abbrev pub allows : Form → Line → Bool
allows Replay l = true
allows Run l = may_run l
allows Migrate l = false
