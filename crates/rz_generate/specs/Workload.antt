-- The workload of a seed: eight clients that make, write and read files, and a disk that is lost and rebuilt beside them.
use Rattle.std.specs.Prelude.{ℕ, zero, suc, ◌+◌, ◌/◌, ◌%◌, List, [], ◌∷◌, ◌++◌, codes, map}
use Rattle.std.specs.Fmt.{decimal}
use Rattle.std.specs.List.{flat_map, range_with_len}
use Rattle.rand_pcg.specs.Lcg.{Lcg}
use Rattle.mj_angles.specs.declared.layout.Layout.TheVariants.{L1}
use Rattle.rz_events.specs.declared.files.NodeSpec.{NodeSpec}
use Rattle.rz_events.specs.declared.keys.Actor.TheVariants.{Client, Rebuilder}
use Rattle.rz_events.specs.declared.tree.TreeCall.TheVariants as tree
use Rattle.rz_events.specs.Volume.{Volume, Cluster}
use Rattle.rz_events.specs.declared.operations.Datum.{Datum}
use Rattle.rz_events.specs.declared.operations.Datum.TheVariants.{Made}
use Rattle.rz_events.specs.declared.operations.Operation.TheVariants.{Tree, Put, Get, Rebuild}
use Rattle.rz_script.specs.declared.line.Line.{Line}
use Rattle.rz_script.specs.declared.line.Line.TheVariants.{Op, Rounds, Rest, Lose}
use Rattle.rz_script.specs.Scripts.{Script}
use Rattle.rz_generate.specs.Draws.{seeded, draw, after, draw_after}

-- ---- the volume

abbrev pub node_of : ℕ → NodeSpec
node_of sid = record { sid = sid; cells = 4096 }

-- a cluster of eight nodes, numbered from the first on
abbrev pub cluster_of : ℕ → ℕ → Cluster
cluster_of cid first = record { cid = cid; nodes = map node_of (range_with_len first 8) }

-- layout 1 with blocks of 4096 bytes
unfoldable pub volume : Volume
volume = record { layout = L1; clusters = cluster_of 1 1 ∷ cluster_of 2 9 ∷ [] }

-- ---- the lines of a file, of which one draw gives the last block

-- /fC_J
unfoldable pub path_of : ℕ → ℕ → List ℕ
path_of client file = codes "/f" ++ (decimal client ++ (codes "_" ++ decimal file))

abbrev pub create_line : ℕ → List ℕ → Line
create_line client path = Op (Client client) (Tree (tree.Create path))

abbrev pub put_line : ℕ → List ℕ → ℕ → Datum → Line
put_line client path block datum = Op (Client client) (Put path block datum)

abbrev pub get_line : ℕ → List ℕ → ℕ → Line
get_line client path block = Op (Client client) (Get path block)

-- the last block of a file
unfoldable pub last_block : Lcg → ℕ
last_block g = draw g % 40

-- one draw gives the seed of each block
unfoldable pub seed_of : Lcg → ℕ → ℕ
seed_of g block = draw_after g (block + 1) % 256

-- and one more the length of the last one; the others are whole
unfoldable pub last_bytes : Lcg → ℕ
last_bytes g = 1 + draw_after g (last_block g + 2) % 4096

abbrev pub whole_put : ℕ → List ℕ → Lcg → ℕ → Line
whole_put client path g block = put_line client path block (Made 4096 (seed_of g block))

unfoldable pub puts : ℕ → List ℕ → Lcg → List Line
puts client path g =
    map (whole_put client path g) (range_with_len 0 (last_block g))
    ++ put_line client path (last_block g) (Made (last_bytes g) (seed_of g (last_block g))) ∷ []

unfoldable pub gets : ℕ → List ℕ → ℕ → List Line
gets client path blocks = map (get_line client path) (range_with_len 0 blocks)

-- a file is made, each of its blocks is written, and then each is read
unfoldable pub file_lines : ℕ → List ℕ → Lcg → List Line
file_lines client path g = create_line client path ∷ (puts client path g ++ gets client path (last_block g + 1))

-- the generator after the draws of a file
unfoldable pub after_file : Lcg → Lcg
after_file g = after g (last_block g + 3)

-- ---- all files, of which each of the clients 1 to 8 has those from 1 to 25

-- the generator before the file with a number, counted from 0
abbrev pub before_file : Lcg → ℕ → Lcg
before_file g zero = g
before_file g (suc number) = after_file (before_file g number)

unfoldable pub numbered_file : Lcg → ℕ → List Line
numbered_file g number =
    let client = 1 + number / 25 in
    let file = 1 + number % 25 in
    file_lines client (path_of client file) (before_file g number)

-- so many files
unfoldable pub files : Lcg → ℕ → List Line
files g count = flat_map (numbered_file g) (range_with_len 0 count)

-- ---- the whole

-- after so many rounds a disk is lost and rebuilt, and all is played to its end
unfoldable pub ends : List Line
ends = Rounds 2000 ∷ Lose 3 ∷ Op (Rebuilder 1) (Rebuild 3) ∷ Rest ∷ []

unfoldable pub workload : ℕ → Script
workload seed = record { volume = volume; lines = files (seeded seed) 200 ++ ends }

-- a script with lines at the end
abbrev pub with_lines : Script → List Line → Script
with_lines s lines = record { volume = s.volume; lines = s.lines ++ lines }
