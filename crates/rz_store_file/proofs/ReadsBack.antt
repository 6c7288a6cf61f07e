-- The value of a description is read as that description.
use Rattle.std.proofs.Common.{◌≡◌, ℕ, ◌+◌, ◌≤◌, List, [], ◌∷◌, ◌++◌, map, Some, Ok, refl, sym, ap, ◌∙◌}
use Rattle.std.specs.Prelude.{All}
use Rattle.std.proofs.lemmas.List.{append-nil, append_assoc}
use Rattle.serde_json.specs.Data.{Data, string, depth}
use Rattle.serde_json.specs.Read.{max_depth, read as json}
use Rattle.serde_json.specs.View.{items_of}
use Rattle.serde_json.proofs.OnLiterals.{serde_json_on_literals}
use Rattle.rz_events.specs.Volume.{Volume, IsVolume}
use Rattle.rz_config.specs.Described as volume
use Rattle.rz_store_file.specs.Described.{Description, IsDescription, object_of, texts_from, described_store, store_of_value, store_of_text}
use Rattle.rz_store_file.specs.Written.{store_data, IsSmall}
use Rattle.rz_store_file.proofs.Nested.{store_most}
use Rattle.rz_store_file.proofs.Volumes.{volume_back}

texts_back : (i : ℕ) (before paths : List (List ℕ)) → texts_from i before (items_of (map string paths)) ≡ Ok (before ++ paths)
unfolding texts_from
texts_back i before [] = rw append-nil refl
texts_back i before (path ∷ paths) = texts_back (i + 1) (before ++ path ∷ []) paths ∙ ap Ok (append_assoc before (path ∷ []) paths)

store_keys : (s : Description) → object_of (store_data s) ≡ Ok tt
unfolding object_of serde_json_on_literals
store_keys s = refl

pub store_back : (s : Description) → IsVolume s.volume → All IsSmall s.volume.clusters → IsDescription s → described_store (store_data s) ≡ Ok s
unfolding described_store serde_json_on_literals
store_back s is small proper = rw (store_keys s, volume_back s.volume is small, texts_back 0 [] s.disks) proper

-- what a text of a value describes
pub volume_read : (text : List ℕ) (d : Data) (r : volume.Read Volume) → json text ≡ Some d → volume.volume_of_text text ≡ r → volume.described_volume d ≡ r
unfolding volume.volume_of_text
volume_read text d r is told = ap volume.volume_of_value (sym is) ∙ told

pub store_text : (text : List ℕ) (d : Data) (s : Description) → d ≡ store_data s → (depth d ≤ max_depth → json text ≡ Some d) → IsVolume s.volume → All IsSmall s.volume.clusters → IsDescription s
    → store_of_text text ≡ Ok s
unfolding store_of_text
store_text text d s is reads rules small proper =
    let least : depth d ≤ max_depth = rw is (store_most s) in
    ap store_of_value (reads least ∙ ap Some is) ∙ store_back s rules small proper
