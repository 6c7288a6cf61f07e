use Rattle.std.proofs.Common.{◌≡◌, ◌++◌, map, length, string_bytes}
use Rattle.rz_request.specs.Items.{items, values}
use Rattle.rz_request.proofs.Found.{listed}
use Rattle.rz_request.proofs.items.stated.Given as goal

abbrev pub invariant-items : goal.invariant-items
invariant-items l = values l.kind (items (map string_bytes l.words)) ≡ listed l.found ++ values l.kind (items (map string_bytes l.rest))

abbrev pub decreases-items : goal.decreases-items
decreases-items l = length l.rest
