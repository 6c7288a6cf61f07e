-- The records that a node holds: of each block one or two, the greatest stamp first.
use Rattle.std.specs.Prelude.{ℕ, ◌≡◌, ◌==◌, List, [], ◌∷◌, Option, Some, None, cond}
use Rattle.std.specs.FinMap as map
use Rattle.rz_events.specs.Keys.{key_cmp}
use Rattle.rz_events.specs.declared.keys.Key.{Key}
use Rattle.rz_events.specs.declared.records.Head.{Head}
use Rattle.rz_events.specs.declared.records.Held.{Held}
use Rattle.rz_node_model.specs.declared.pending.Pending.{Pending}
use Rattle.rz_node_model.specs.declared.pending.Pending.TheVariants as pending
use Rattle.rz_node_model.specs.Versions.{kept, refilled, without}

-- from each key that is held to its records; no list in it is empty
abbrev pub Records : Type 0
Records = map.FinMap key_cmp (List Held)

abbrev pub listed : Option (List Held) → List Held
listed None = []
listed (Some records) = records

-- the records of a key
abbrev pub held_of : Records → Key → List Held
held_of held key = listed (map.get held key)

-- the records with these as those of a key, which is not held where there are none
abbrev pub with_held : Records → Key → List Held → Records
with_held held key [] = map.remove held key
with_held held key (r ∷ more) = map.insert held key (r ∷ more)

-- no key is held with no record
abbrev pub IsWhole : Records → Type 0
IsWhole held = (key : Key) → ¬ (map.get held key ≡ Some [])

abbrev pub stamp_of : Held → ℕ
stamp_of r = r.stamp

abbrev pub base_of : Held → ℕ
base_of r = r.base

-- what a node keeps of a head
abbrev pub record_of : Head → Held
record_of head = record { stamp = head.stamp; length = head.length; base = head.base }

-- the record with stamp s
abbrev pub found : ℕ → List Held → Option Held
found s [] = None
found s (r ∷ more) = cond (r.stamp == s) (Some r) (found s more)

-- the records after a change
abbrev pub carried : Pending → Records → Records
carried (pending.Keep key r) held = with_held held key (kept stamp_of r.base r (held_of held key))
carried (pending.Refill key r) held = with_held held key (refilled stamp_of r (held_of held key))
carried (pending.Drop key s) held = with_held held key (without stamp_of s (held_of held key))

-- a block of a file
abbrev pub key_at : ℕ → ℕ → Key
key_at fid block = record { fid = fid; block = block }

-- the block of the first of these keys that is of the file
abbrev pub first_block : ℕ → List Key → Option ℕ
first_block fid [] = None
first_block fid (key ∷ keys) = cond (key.fid == fid) (Some key.block) (first_block fid keys)

-- the least block of a file that is held: the keys of a map ascend
abbrev pub least_block : Records → ℕ → Option ℕ
least_block held fid = first_block fid (map.keys held)
