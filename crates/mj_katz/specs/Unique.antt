-- When projections leave no choice.
use Rattle.std.specs.Prelude.{◌≡◌, ◌≢◌, ℤ, List, All}
use Rattle.std.specs.List.{AllPairs}
use Rattle.rz_words.specs.Grid.{Grid}
use Rattle.mj_forward.specs.Forward.{projection_of}

-- both blocks have the same projection at each angle
abbrev pub HaveSameProjections : List ℤ → Grid → Grid → Type 0
HaveSameProjections angles g h = All (λ p. projection_of g p ≡ projection_of h p) angles

-- no angle comes twice
abbrev pub AreDistinct : List ℤ → Type 0
AreDistinct = AllPairs (λ p q. p ≢ q)
