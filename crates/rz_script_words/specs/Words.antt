-- The words of actors, of nodes and of bytes. A number is its decimal digits.
use Rattle.std.specs.Prelude.{ℕ, List, ◌++◌, codes}
use Rattle.std.specs.Fmt.{decimal}
use Rattle.hex.specs.Hex.{encode_lower}
use Rattle.rz_events.specs.declared.keys.Actor.{Actor}
use Rattle.rz_events.specs.declared.keys.Actor.TheVariants.{Client, Rebuilder, Admin}

abbrev pub Word : Type 0
Word = List ℕ

-- who acts
unfoldable pub actor_word : Actor → Word
actor_word (Client n) = codes "c" ++ decimal n
actor_word (Rebuilder n) = codes "r" ++ decimal n
actor_word Admin = codes "admin"

unfoldable pub node_word : ℕ → Word
node_word sid = codes "n" ++ decimal sid

-- bytes, all of them, in hexadecimal
unfoldable pub hex_word : List ℕ → Word
hex_word bytes = codes "x:" ++ encode_lower bytes
