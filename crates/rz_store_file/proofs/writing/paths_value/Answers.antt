use Rattle.std.proofs.Common.{◌∙◌, ap, sym, map, Global, string_bytes}
use Rattle.std.proofs.lemmas.List.{take_all}
use Rattle.std.proofs.lemmas.Simd.{map-map}
use Rattle.serde_json.specs.Data.{array, string}
use Rattle.serde_json.specs.View.{items_of}
use Rattle.serde_json.proofs.Views.{view-Array}
use Rattle.rz_store_file.proofs.writing.paths_value.Goals as goal

pub returns : goal.returns
returns c =
    view-Array c.loop-path.items
    ∙ ap (λ ds. array (items_of ds)) (c.loop-path.invariant
    ∙ (ap (map (λ p. string (string_bytes {Z = Global} p))) (take_all c.loop-path.path-index c.args.paths.now c.loop-path-test.false) ∙ sym (map-map string string_bytes c.args.paths.now)))
