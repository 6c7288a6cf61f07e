-- The command line as clap's definitions see it.
use Rattle.std.specs.Prelude.{ℕ, Bool, Some, codes, false, true}
use Rattle.clap.specs.Walk.{Rule, Text}
use Rattle.clap.specs.Simple.{App, new_app, new_rule, with_rule, with_subcommand, on_top}
use Rattle.clap.specs.declared.builder.action.ArgAction.TheVariants.{Set}
use Rattle.clap.specs.declared.builder.value_parser.ValueParser.{ValueParser}
use Rattle.clap.specs.declared.builder.value_parser.ValueParser.TheVariants.{NonEmptyString, Unsigned}

-- an option with a value of a kind
abbrev pub option : Text → ValueParser → Bool → Rule
option name values is_required =
    record (new_rule name) { long = Some name; action = Some Set; value_names = 1; parser = Some values; required = is_required }

abbrev pub disks : Rule
disks = option (codes "disks") (Unsigned 1 256) true

abbrev pub dir : Rule
dir = option (codes "dir") NonEmptyString false

abbrev pub number : ℕ → ℕ → Rule
number low high = record (new_rule (codes "number")) { action = Some Set; value_names = 1; parser = Some (Unsigned low high); required = true }

-- a command with the two options, and one with a number from low to high besides
abbrev pub plain : Text → App
plain name = with_rule (with_rule (new_app name) disks) dir

abbrev pub numbered : Text → ℕ → ℕ → App
numbered name low high = with_rule (plain name) (number low high)

abbrev pub top : App
top = on_top (λ s. record s { subcommand_required = true }) (new_app (codes "rozo"))

abbrev pub short : App
short = with_subcommand (with_subcommand (with_subcommand (with_subcommand (with_subcommand top
    (plain (codes "replay")).top) (plain (codes "run")).top) (plain (codes "scrub")).top) (plain (codes "first")).top) (plain (codes "again")).top

abbrev pub rozo : App
rozo = with_subcommand (with_subcommand short (numbered (codes "load") 0 18446744073709551615).top) (numbered (codes "migrate") 1 65535).top
