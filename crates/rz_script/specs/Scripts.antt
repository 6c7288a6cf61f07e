-- What a script is to every contract: its volume and its lines.
use Rattle.std.specs.Prelude.{List, [], ◌∷◌, ◌++◌}
use Rattle.rz_events.specs.Volume.{Volume}
use Rattle.rz_script.specs.declared.line.Line.{Line}

pub record Script : Type 0 where
  pub volume : Volume
  pub lines : List Line

-- a volume alone
abbrev pub no_lines : Volume → Script
no_lines v = record { volume = v; lines = [] }

-- with a line at the end
abbrev pub with_line : Script → Line → Script
with_line s l = record { volume = s.volume; lines = s.lines ++ l ∷ [] }
