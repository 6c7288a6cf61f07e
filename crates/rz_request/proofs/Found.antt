-- What was found so far of a kind.
use Rattle.std.proofs.Common.{ℕ, List, [], ◌∷◌, Option, Some, None}
use Rattle.std.specs.Borrow.{Bor}
use Rattle.rz_request.specs.Items.{Text}

-- the text that was found, as a list
abbrev pub listed : Option (Bor Text) → List Text
listed None = []
listed (Some t) = t.now ∷ []
