-- Nothing is stated where more than one text is.
use Rattle.std.proofs.Common.{◌≡◌, ◌<◌, ℕ, List, [], ◌∷◌, None, length, refl, arith}
use Rattle.rz_request.specs.declared.command.Command.{Command}
use Rattle.rz_request.specs.Items.{Text}
use Rattle.rz_request.specs.Line.{alone, disks_of, folder_of, number_stated}

pub disks_many : (texts : List Text) → 1 < length texts → None ≡ disks_of texts
disks_many [] l = absurd (omega arith)
disks_many (t ∷ []) l = absurd (omega arith)
disks_many (t ∷ u ∷ more) l = refl

pub folder_many : (texts : List Text) → 1 < length texts → None ≡ folder_of texts
folder_many [] l = absurd (omega arith)
folder_many (t ∷ []) l = absurd (omega arith)
folder_many (t ∷ u ∷ more) l = refl

pub number_many : (low high : ℕ) (texts : List Text) → 1 < length texts → None ≡ number_stated low high texts
number_many low high [] l = absurd (omega arith)
number_many low high (t ∷ []) l = absurd (omega arith)
number_many low high (t ∷ u ∷ more) l = refl

pub alone_many : (command : Command) (texts : List Text) → 1 < length texts → None ≡ alone command texts
alone_many command [] l = absurd (omega arith)
alone_many command (t ∷ texts) l = refl
