-- The nodes of a file, in a table of sixteen.
use Rattle.std.specs.Prelude.{ℕ, ◌≡◌, ◌≤◌, ◌-◌, List, ◌++◌, length, take, replicate}
use Rattle.std.proofs.Common.{sym, ◌∙◌, ap}
use Rattle.rz_events.specs.declared.files.Places.TheInside.{Inside}

-- a table of sixteen in which only the first `count` are used: the others are 0
pub record IsPadded (count : ℕ) (list : List ℕ) : Type 0 where
  pub few : count ≤ 16
  pub used : length (take count list) ≡ count
  pub rest : list ≡ take count list ++ replicate (16 - count) 0

-- the table of these nodes
abbrev pub padded : List ℕ → Inside
padded nodes = record { list = nodes ++ replicate (16 - length nodes) 0; count = length nodes }

-- the nodes of a table give the table back
pub padded-take : (count : ℕ) (list : List ℕ) → IsPadded count list → padded (take count list) ≡ record { list = list; count = count }
padded-take count list h =
    let sized : ℕ → Inside = λ n. record { list = take count list ++ replicate (16 - n) 0; count = n } in
    let with_list : List ℕ → Inside = λ l. record { list = l; count = count } in
    ap sized h.used ∙ ap with_list (sym h.rest)
