-- Which answers belong to each step of a rebuild.
use Rattle.std.specs.Prelude.{ℕ}
use Rattle.mj_angles.specs.declared.layout.Layout.{Layout}
use Rattle.rz_events.specs.declared.machines.RebuildAnswer.{RebuildAnswer}
use Rattle.rz_events.specs.declared.machines.RebuildAnswer.TheVariants as told
use Rattle.rz_operation_model.specs.Rebuild.{IsNextAnswer}

abbrev pub IsProbed : RebuildAnswer → Type 0
IsProbed (told.Probed loss) = Unit {0}
IsProbed a = ⊥

abbrev pub IsEnrolled : RebuildAnswer → Type 0
IsEnrolled (told.Enrolled fence) = Unit {0}
IsEnrolled (told.Denied cause) = Unit {0}
IsEnrolled a = ⊥

abbrev pub IsReplaced : RebuildAnswer → Type 0
IsReplaced (told.Replaced answer) = Unit {0}
IsReplaced a = ⊥

abbrev pub IsListingAnswer : Layout → ℕ → RebuildAnswer → Type 0
IsListingAnswer layout n (told.Listed l) = IsNextAnswer layout n l
IsListingAnswer layout n a = ⊥

abbrev pub IsRefillDone : RebuildAnswer → Type 0
IsRefillDone (told.Refilled answer) = Unit {0}
IsRefillDone told.Missed = Unit {0}
IsRefillDone a = ⊥
