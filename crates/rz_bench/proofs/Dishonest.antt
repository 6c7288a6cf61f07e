-- A book of the plain volume that is not honest.
use Rattle.std.proofs.Common.{◌≡◌, ℕ, List, true, false, sym, ap, ◌∙◌, true≢false}
use Rattle.std.specs.Prelude.{IsTrue}
use Rattle.rz_config.specs.Plain.{plain_volume}
use Rattle.rz_chronicle.specs.Kinds.{kind_of, is_honest, goes_on}

pub not-honest : (kind : List ℕ) → kind ≡ kind_of false plain_volume → IsTrue (is_honest kind) → ⊥
not-honest kind is honest = let no : false ≡ true = sym (ap is_honest is) ∙ honest in true≢false (sym no)

pub not-on : (kind : List ℕ) → kind ≡ kind_of false plain_volume → IsTrue (goes_on kind) → ⊥
not-on kind is on = let no : false ≡ true = sym (ap goes_on is) ∙ on in true≢false (sym no)
