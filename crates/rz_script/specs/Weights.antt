-- How much work a script is, counted in pieces of 4096 bytes.
use Rattle.std.specs.Prelude.{ℕ, ◌+◌, ◌*◌, ◌/◌, sum_by}
use Rattle.mj_angles.specs.declared.layout.Layout.{Layout}
use Rattle.mj_angles.specs.Layout.{block_bytes_of}
use Rattle.rz_events.specs.declared.operations.Operation.{Operation}
use Rattle.rz_events.specs.declared.operations.Operation.TheVariants.{Put, Get, Write, Read, Update, View}
use Rattle.rz_script_words.specs.Limits.{datum_length}
use Rattle.rz_script.specs.declared.line.Line.{Line}
use Rattle.rz_script.specs.declared.line.Line.TheVariants.{Op}
use Rattle.rz_script.specs.Scripts.{Script}

-- a block
abbrev pub block_weight : Layout → ℕ
block_weight y = block_bytes_of y / 4096

-- so many bytes, which may begin and end within blocks
abbrev pub range_weight : Layout → ℕ → ℕ
range_weight y len = (len / block_bytes_of y + 2) * block_weight y

-- an operation; a range that is written may be read first
abbrev pub operation_weight : Layout → Operation → ℕ
operation_weight y (Put path block d) = block_weight y
operation_weight y (Get path block) = block_weight y
operation_weight y (Write path offset d) = 2 * range_weight y (datum_length d)
operation_weight y (Update path offset d) = 2 * range_weight y (datum_length d)
operation_weight y (Read path offset len) = range_weight y len
operation_weight y (View path offset len) = range_weight y len
operation_weight y _ = 0

abbrev pub line_weight : Layout → Line → ℕ
line_weight y (Op by op) = operation_weight y op
line_weight y _ = 0

abbrev pub script_weight : Script → ℕ
script_weight s = sum_by (line_weight s.volume.layout) s.lines
