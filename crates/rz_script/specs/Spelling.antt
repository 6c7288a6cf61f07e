-- The one spelling of a script.
use Rattle.std.specs.Prelude.{ℕ, ◌≤◌, List, [], ◌∷◌, ◌++◌, codes}
use Rattle.std.specs.List.{flat_map, join_by, join_with_byte, AllByRecursion}
use Rattle.std.specs.Fmt.{decimal}
use Rattle.mj_angles.specs.declared.layout.Layout.{Layout}
use Rattle.mj_angles.specs.Layout.{number_of, block_bytes_of}
use Rattle.rz_events.specs.declared.tree.TreeCall.{TreeCall}
use Rattle.rz_events.specs.declared.tree.TreeCall.TheVariants as tree
use Rattle.rz_events.specs.declared.files.NodeSpec.{NodeSpec}
use Rattle.rz_events.specs.Volume.{Volume, Cluster}
use Rattle.rz_events.specs.declared.operations.Datum.{Datum}
use Rattle.rz_events.specs.declared.operations.Datum.TheVariants.{Bytes, Made}
use Rattle.rz_events.specs.declared.operations.Operation.{Operation}
use Rattle.rz_events.specs.declared.operations.Operation.TheVariants.{Tree, Put, Get, Write, Read, Rebuild, Update, View}
use Rattle.rz_script_words.specs.Words.{Word, actor_word, node_word, hex_word}
use Rattle.rz_script.specs.declared.line.Line.{Line}
use Rattle.rz_script.specs.declared.line.Line.TheVariants.{Op, Turn, Rounds, Rest, Stop, Start, Lose, Break, Miss}
use Rattle.rz_script.specs.Scripts.{Script}
use Rattle.std.specs.Prelude.{Bool, true, false}

-- ---- lines

unfoldable pub datum_word : Datum → Word
datum_word (Bytes bytes) = hex_word bytes
datum_word (Made len seed) = codes "g:" ++ (decimal len ++ (codes ":" ++ decimal seed))

-- the word of what an operation does; no operation opens a file
abbrev pub call_word : TreeCall → Word
call_word (tree.Lookup path) = codes "lookup"
call_word (tree.Getattr path) = codes "getattr"
call_word (tree.Rmdir path) = codes "rmdir"
call_word (tree.Mkdir path) = codes "mkdir"
call_word (tree.Create path) = codes "create"
call_word (tree.Unlink path) = codes "unlink"
call_word (tree.Readlink path) = codes "readlink"
call_word (tree.Readdir path) = codes "readdir"
call_word (tree.OpenFile path) = codes "open"
call_word (tree.Setattr path mode mtime) = codes "setattr"
call_word (tree.Rename path to) = codes "rename"
call_word (tree.Link path to) = codes "link"
call_word (tree.Symlink target path) = codes "symlink"

-- the words after it
abbrev pub call_operands : TreeCall → List Word
call_operands (tree.Lookup path) = path ∷ []
call_operands (tree.Getattr path) = path ∷ []
call_operands (tree.Rmdir path) = path ∷ []
call_operands (tree.Mkdir path) = path ∷ []
call_operands (tree.Create path) = path ∷ []
call_operands (tree.Unlink path) = path ∷ []
call_operands (tree.Readlink path) = path ∷ []
call_operands (tree.Readdir path) = path ∷ []
call_operands (tree.OpenFile path) = path ∷ []
call_operands (tree.Setattr path mode mtime) = path ∷ decimal mode ∷ decimal mtime ∷ []
call_operands (tree.Rename path to) = path ∷ to ∷ []
call_operands (tree.Link path to) = path ∷ to ∷ []
call_operands (tree.Symlink target path) = target ∷ path ∷ []

abbrev pub verb_word : Operation → Word
verb_word (Tree call) = call_word call
verb_word (Put path block d) = codes "put"
verb_word (Get path block) = codes "get"
verb_word (Write path offset d) = codes "write"
verb_word (Read path offset len) = codes "read"
verb_word (Rebuild sid) = codes "rebuild"
verb_word (Update path offset d) = codes "update"
verb_word (View path offset len) = codes "view"

abbrev pub operands_of : Operation → List Word
operands_of (Tree call) = call_operands call
operands_of (Put path block d) = path ∷ decimal block ∷ datum_word d ∷ []
operands_of (Get path block) = path ∷ decimal block ∷ []
operands_of (Write path offset d) = path ∷ decimal offset ∷ datum_word d ∷ []
operands_of (Read path offset len) = path ∷ decimal offset ∷ decimal len ∷ []
operands_of (Rebuild sid) = node_word sid ∷ []
operands_of (Update path offset d) = path ∷ decimal offset ∷ datum_word d ∷ []
operands_of (View path offset len) = path ∷ decimal offset ∷ decimal len ∷ []

-- what is lost of a message
abbrev pub way_word : Bool → Word
way_word false = codes "request"
way_word true = codes "reply"

-- the words of a line
unfoldable pub line_words : Line → List Word
line_words (Op by op) = codes "op" ∷ actor_word by ∷ verb_word op ∷ operands_of op
line_words (Turn by k) = codes "turn" ∷ actor_word by ∷ decimal k ∷ []
line_words (Rounds k) = codes "rounds" ∷ decimal k ∷ []
line_words Rest = codes "rest" ∷ []
line_words (Stop sid) = codes "stop" ∷ node_word sid ∷ []
line_words (Start sid) = codes "start" ∷ node_word sid ∷ []
line_words (Lose sid) = codes "lose" ∷ node_word sid ∷ []
line_words (Break sid k pick) = codes "break" ∷ node_word sid ∷ decimal k ∷ decimal pick ∷ []
line_words (Miss by reply) = codes "miss" ∷ actor_word by ∷ way_word reply ∷ []

-- the words with a space between each two, and a line feed
unfoldable pub line_text : Line → List ℕ
line_text l = join_with_byte 32 (line_words l) ++ codes "\n"

-- the lines of a script
unfoldable pub lines_text : List Line → List ℕ
lines_text ls = flat_map line_text ls

-- ---- the volume

unfoldable pub node_text : NodeSpec → List ℕ
node_text n = codes "{\"sid\":" ++ (decimal n.sid ++ (codes ",\"cells\":" ++ (decimal n.cells ++ codes "}")))

unfoldable pub cluster_text : Cluster → List ℕ
cluster_text c = codes "{\"cid\":" ++ (decimal c.cid ++ (codes ",\"nodes\":[" ++ (join_by node_text (codes ",") c.nodes ++ codes "]}")))

-- the description of a volume with a layout and clusters, as JSON without spaces
unfoldable pub description_text : Layout → List Cluster → List ℕ
description_text y cs =
    codes "{\"layout\":" ++ (decimal (number_of y)
    ++ (codes ",\"bsize\":" ++ (decimal (block_bytes_of y)
    ++ (codes ",\"clusters\":[" ++ (join_by cluster_text (codes ",") cs ++ codes "]}")))))

abbrev pub volume_text : Volume → List ℕ
volume_text v = description_text v.layout v.clusters

-- the volume line, and then the lines
unfoldable pub script_text : Script → List ℕ
script_text s = codes "volume " ++ (volume_text s.volume ++ (codes "\n" ++ lines_text s.lines))

-- ---- numbers of volumes, which have 16 bits

abbrev pub AreShortNodes : List NodeSpec → Type 0
AreShortNodes ns = AllByRecursion (λ n. n.sid ≤ 65535) ns

abbrev pub AreShortClusters : List Cluster → Type 0
AreShortClusters cs = AllByRecursion (λ c. (c.cid ≤ 65535) × AreShortNodes c.nodes) cs
