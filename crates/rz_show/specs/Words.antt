-- The words of the printed log.
use Rattle.std.specs.Prelude.{ℕ, nat_le, if◌then◌else◌, List, ◌∷◌, ◌++◌, codes, length}
use Rattle.std.specs.Fmt.{decimal}
use Rattle.std.specs.Int.{to_be_bytes, w128}
use Rattle.std.specs.List.{flat_map}
use Rattle.hex.specs.Hex.{encode_lower}
use Rattle.sha2.specs.Sha256.{sha256}
use Rattle.uuid.specs.Text.{hyphenated_text, lower}
use Rattle.rz_events.specs.declared.keys.Actor.{Actor}
use Rattle.rz_events.specs.declared.files.Kind.{Kind}
use Rattle.rz_events.specs.declared.files.Kind.TheVariants.{File, Dir, Link}
use Rattle.rz_script_words.specs.Words.{Word, actor_word, node_word, hex_word}

-- words, each after a space
abbrev pub spaced : List Word → List ℕ
spaced words = flat_map (λ w. 32 ∷ w) words

-- a line of an actor: the number of its operation, and words on it
unfoldable pub actor_line : Actor → ℕ → List Word → List ℕ
actor_line by number words = actor_word by ++ spaced (decimal number ∷ words) ++ codes "\n"

-- a line of a node
unfoldable pub node_line : ℕ → List Word → List ℕ
node_line node words = node_word node ++ spaced words ++ codes "\n"

-- the number of an object, in the form 8-4-4-4-12 of hexadecimal digits
unfoldable pub uuid_word : ℕ → Word
uuid_word fid = hyphenated_text lower (to_be_bytes w128 fid)

unfoldable pub kind_word : Kind → Word
kind_word File = codes "file"
kind_word Dir = codes "dir"
kind_word Link = codes "link"

-- bytes: up to 32 in hexadecimal, and more by their SHA-256
unfoldable pub bytes_word : List ℕ → Word
bytes_word bytes = if nat_le (length bytes) 32 then hex_word bytes else codes "h:" ++ encode_lower (sha256 bytes)
