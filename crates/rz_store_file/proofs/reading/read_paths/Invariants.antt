use Rattle.std.proofs.Common.{◌≡◌, [], drop, map, string_bytes}
use Rattle.serde_json.specs.View.{items_view}
use Rattle.rz_store_file.specs.Described.{texts_from}
use Rattle.rz_store_file.proofs.reading.read_paths.Given as goal

abbrev pub invariant-loop-i : goal.invariant-loop-i
invariant-loop-i l =
    texts_from l.i (map string_bytes l.paths.items) (items_view (drop l.i l.items))
    ≡ texts_from 0 [] (items_view l.items)
