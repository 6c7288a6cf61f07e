-- What came of reading an input.
use Rattle.std.specs.Prelude.{ℕ, ◌≡◌, ◌≤◌, ◌<◌, List, [], Option, Some, IfSome, length}
use Rattle.rz_ports.specs.Counts.{Rises}
use Rattle.rz_request.specs.declared.input.Taken.{Taken}
use Rattle.rz_request.specs.declared.input.Taken.TheVariants as taken

-- the most bytes that an input may have
abbrev pub limit : ℕ
limit = 4194304

-- Of a source that had `before` left and `after` now, where that is told, and whose faults were `old` and are `new`:
-- all was taken, more was there than the limit, or its faults rose. Want of memory says nothing.
abbrev pub HasTaken : Option (List ℕ) → Option (List ℕ) → ℕ → ℕ → Taken → Type 0
HasTaken before after old new (taken.All bytes) =
    IfSome before (λ text. (text ≡ bytes.items) × (after ≡ Some [])) × (length bytes.items ≤ limit)
HasTaken before after old new taken.Long = IfSome before (λ text. limit < length text)
HasTaken before after old new taken.Failed = Rises old new
HasTaken before after old new taken.NoMemory = Unit {0}
