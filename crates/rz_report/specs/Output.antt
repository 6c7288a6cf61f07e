-- What came of writing a text.
use Rattle.std.specs.Prelude.{ℕ, Bool, true, false, ◌≡◌, ◌≤◌, ◌⊎◌, List, Option, length, take}
use Rattle.std.specs.Io.KnownBytes.{Appends}
use Rattle.rz_ports.specs.Counts.{Rises}

-- The sink took all of the text; or its faults rose, and it took the first n bytes.
abbrev pub HasWritten : Option (List ℕ) → Option (List ℕ) → ℕ → ℕ → List ℕ → Bool → Type 0
HasWritten before after old new text true = Appends before after text
HasWritten before after old new text false = Rises old new × ((n : ℕ) × (n ≤ length text) × Appends before after (take n text))

-- what the sink had taken before a call and after it, where that is told, and its faults
pub record Sunk : Type 0 where
  pub before : Option (List ℕ)
  pub after : Option (List ℕ)
  pub old : ℕ
  pub new : ℕ

-- a text that was to be written with a status: the sink took all of it, or the status is 5, its faults rose and it took a front
abbrev pub Ends : Sunk → ℕ → List ℕ → ℕ → Type 0
Ends sink status text result =
    ((result ≡ status) × Appends sink.before sink.after text)
    ⊎ ((result ≡ 5) × Rises sink.old sink.new × ((n : ℕ) × (n ≤ length text) × Appends sink.before sink.after (take n text)))

-- there was no memory, and nothing was written
abbrev pub Lacks : Sunk → ℕ → Type 0
Lacks sink result = (result ≡ 70) × (sink.after ≡ sink.before)
