-- What a command line means.
use Rattle.std.specs.Prelude.{ℕ, ◌≡◌, ◌<◌, ◌==◌, ◌&&◌, nat_le, not, Bool, true, false, if◌then◌else◌, List, [], ◌∷◌, Option, Some, None, Result, Ok, Err, IsSome, codes, option_map, option_and_then, string_bytes}
use Rattle.std.specs.Str.{bytes_eq}
use Rattle.rz_script_words.specs.Numerals.{numeral}
use Rattle.rz_request.specs.declared.items.ItemKind.TheVariants.{Disks, Folder, Plain}
use Rattle.rz_request.specs.declared.command.Command.{Command}
use Rattle.rz_request.specs.declared.command.Command.TheVariants.{Replay, Run, Load, Migrate, Scrub, First, Again}
use Rattle.rz_request.specs.declared.line.CommandLine as lines
use Rattle.rz_request.specs.declared.command.Wanted.{Wanted}
use Rattle.rz_request.specs.declared.command.WordsError.{WordsError}
use Rattle.rz_request.specs.declared.command.WordsError.TheVariants.{NoMemory, Usage}
use Rattle.rz_request.specs.Items.{Item, Text, items, values}

-- a number from low to high
abbrev pub number_in : ℕ → ℕ → Text → Option ℕ
number_in low high word = option_and_then (λ n. if nat_le low n && nat_le n high then Some n else None) (numeral word)

-- a path is not empty and does not begin with a hyphen
abbrev pub is_path : Text → Bool
is_path [] = false
is_path (b ∷ bs) = not (b == 45)

-- a command without a number, and one with a number, by the words that stand by themselves
abbrev pub alone : Command → List Text → Option Command
alone command [] = Some command
alone command (word ∷ words) = None

abbrev pub number_stated : ℕ → ℕ → List Text → Option ℕ
number_stated low high (word ∷ []) = number_in low high word
number_stated low high _ = None

abbrev pub numbered : (ℕ → Command) → ℕ → ℕ → List Text → Option Command
numbered command low high plain = option_map command (number_stated low high plain)

abbrev pub command_of : Text → List Text → Option Command
command_of name plain =
    if bytes_eq name (codes "replay") then alone Replay plain
    else if bytes_eq name (codes "run") then alone Run plain
    else if bytes_eq name (codes "load") then numbered Load 0 18446744073709551615 plain
    else if bytes_eq name (codes "migrate") then numbered Migrate 1 65535 plain
    else if bytes_eq name (codes "scrub") then alone Scrub plain
    else if bytes_eq name (codes "first") then alone First plain
    else if bytes_eq name (codes "again") then alone Again plain
    else None

-- the number of disks is stated once
abbrev pub disks_of : List Text → Option ℕ
disks_of (word ∷ []) = number_in 1 256 word
disks_of _ = None

-- a folder is stated at most once
abbrev pub folder_of : List Text → Option (Option Text)
folder_of [] = Some None
folder_of (word ∷ []) = if is_path word then Some (Some word) else None
folder_of _ = None

-- the command, the number of disks and the folder that a line states
pub record Meaning : Type 0 where
  pub command : Command
  pub disks : ℕ
  pub folder : Option Text

abbrev pub stated : Option Command → Option ℕ → Option (Option Text) → Option Meaning
stated (Some command) (Some disks) (Some folder) = Some (record { command = command; disks = disks; folder = folder })
stated _ _ _ = None

abbrev pub of_items : Text → List Item → Option Meaning
of_items name is = stated (command_of name (values Plain is)) (disks_of (values Disks is)) (folder_of (values Folder is))

-- The words of a line are the program's name, the command, and the items of the command in any order.
abbrev pub meaning : List Text → Option Meaning
meaning (program ∷ name ∷ words) = of_items name (items words)
meaning _ = None

-- what was read of a line
abbrev pub seen : lines.CommandLine → Meaning
seen l = record { command = l.command; disks = l.disks; folder = option_map (λ path. path.now) l.folder }

-- what was wanted
abbrev pub meaning_of : Wanted → Meaning
meaning_of w = record { command = w.command; disks = w.disks; folder = option_map string_bytes w.folder }

-- the meaning is answered, or the words have none; memory is wanted only for a line that means something
abbrev pub Answers : Option Meaning → Result Wanted WordsError → Type 0
Answers m (Ok w) = m ≡ Some (meaning_of w)
Answers m (Err Usage) = m ≡ None
Answers m (Err NoMemory) = IsSome m
