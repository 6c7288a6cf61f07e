-- How a record is stored by the rule of a keep or of a refill.
use Rattle.std.specs.Prelude.{ℕ, ◌≡◌, Bool, true, false, List, Option, Some, None}
use Rattle.rz_events.specs.declared.keys.Key.{Key}
use Rattle.rz_events.specs.declared.records.Held.{Held}
use Rattle.rz_events.specs.declared.nodes.KeepAnswer.{KeepAnswer}
use Rattle.rz_events.specs.declared.nodes.KeepAnswer.TheVariants as keep
use Rattle.rz_events.specs.declared.nodes.RefillAnswer.{RefillAnswer}
use Rattle.rz_events.specs.declared.nodes.RefillAnswer.TheVariants as refill
use Rattle.rz_node_model.specs.declared.pending.Pending.{Pending}
use Rattle.rz_node_model.specs.declared.pending.Pending.TheVariants as pending
use Rattle.rz_node_model.specs.Afterwards.{with_change, after_fault}
use Rattle.rz_node_model.specs.Answers.{is_full}
use Rattle.rz_node_model.specs.Records.{Records, held_of, stamp_of, base_of}
use Rattle.rz_node_model.specs.States.{NodeState}
use Rattle.rz_node_model.specs.Versions.{greater_goes, kept, refilled, passes_keep, passes_refill}
use Rattle.rz_versions.specs.Sides.{never}
use Rattle.rz_node.specs.declared.storing.Rule.{Rule}
use Rattle.rz_node.specs.declared.storing.Rule.TheVariants as rule
use Rattle.rz_node.specs.declared.storing.Stored.{Stored}
use Rattle.rz_node.specs.declared.storing.Stored.TheVariants as stored

-- the greatest stamp, where a version of stamp s is passed over
abbrev pub passes : {A : Type 0} → Rule → (A → ℕ) → (A → ℕ) → ℕ → List A → Option ℕ
passes rule.Keep stamp base s held = passes_keep stamp s held
passes rule.Refill stamp base s held = passes_refill stamp base s held

-- whether of two versions the greater gives way to a new one of this base
abbrev pub gives_way : Rule → ℕ → ℕ → ℕ → Bool
gives_way rule.Keep base = greater_goes base
gives_way rule.Refill base = never

-- the records of a key with a new one
abbrev pub stored_in : Rule → Held → List Held → List Held
stored_in rule.Keep r held = kept stamp_of r.base r held
stored_in rule.Refill r held = refilled stamp_of r held

abbrev pub change_by : Rule → Key → Held → Pending
change_by rule.Keep key r = pending.Keep key r
change_by rule.Refill key r = pending.Refill key r

-- Passed over, then full.

abbrev pub stored_room : Bool → Stored
stored_room true = stored.Full
stored_room false = stored.Kept

abbrev pub stored_unless : Option ℕ → Stored → Stored
stored_unless None next = next
stored_unless (Some held) next = stored.Passed held

abbrev pub stored_answer : ℕ → Records → Rule → Key → Held → Stored
stored_answer pairs held by key r = stored_unless (passes by stamp_of base_of r.stamp (held_of held key)) (stored_room (is_full pairs held key))

-- a disk fault comes only in the place of `Kept`
abbrev pub IsStored : Stored → Stored → Type 0
IsStored sure stored.DiskFault = sure ≡ stored.Kept
IsStored sure given = given ≡ sure

abbrev pub after_stored : Stored → NodeState → Pending → NodeState
after_stored stored.Kept s change = with_change s change
after_stored stored.DiskFault s change = after_fault s (Some change)
after_stored _ s change = s

-- `Some` where the disk was used, and whether all went well
abbrev pub stored_used : Stored → Option Bool
stored_used stored.Kept = Some true
stored_used stored.DiskFault = Some false
stored_used _ = None

abbrev pub keep_of : Stored → KeepAnswer
keep_of stored.Kept = keep.Kept
keep_of (stored.Passed held) = keep.Passed held
keep_of stored.Full = keep.Full
keep_of stored.DiskFault = keep.DiskFault

abbrev pub refill_of : Stored → RefillAnswer
refill_of stored.Kept = refill.Kept
refill_of (stored.Passed held) = refill.Passed held
refill_of stored.Full = refill.Full
refill_of stored.DiskFault = refill.DiskFault
