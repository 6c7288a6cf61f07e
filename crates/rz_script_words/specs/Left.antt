-- What is left of the words of a line after a call that read some of them.
use Rattle.std.specs.Prelude.{Bool, true, false, if◌then◌else◌, List, [], ◌∷◌, Result, Err}
use Rattle.rz_script_words.specs.Words.{Word}
use Rattle.rz_script_words.specs.Grammar.{Reader}
use Rattle.rz_script_words.specs.declared.fault.ScriptCause.{ScriptCause}
use Rattle.rz_script_words.specs.declared.fault.ScriptCause.TheVariants.{MissingWord}

-- the words so far are too few
abbrev pub is_short : {A : Type 0} → Result A ScriptCause → Bool
is_short (Err MissingWord) = true
is_short read = false

-- A reader takes the next word as long as the words so far are too few, and leaves the others.
abbrev pub left : {A : Type 0} → Reader A → List Word → List Word
left read [] = []
left read (w ∷ ws) = if is_short (read []) then left (λ more. read (w ∷ more)) ws else w ∷ ws
