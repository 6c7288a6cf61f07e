-- What an export keeps of its nodes.
use Rattle.std.specs.Prelude.{ℕ, ◌+◌, ◌-◌, ◌^◌, ◌==◌, min, Bool, true, false, cond, List, Option, Some, None}
use Rattle.std.specs.List.{filter_map}
use Rattle.std.specs.Option.{option_map, option_map_or}
use Rattle.std.specs.Ordering.{nat_cmp}
use Rattle.std.specs.FinMap as maps
use Rattle.std.specs.FinMap.{FinMap}
use Rattle.rz_events.specs.declared.files.NodeSpec.{NodeSpec}
use Rattle.rz_events.specs.declared.files.Published.{Published}
use Rattle.rz_export_model.specs.Export.{Enrolled, names_node}
use Rattle.rz_export.specs.declared.nodes.Enrolment.{Enrolment}
use Rattle.rz_export.specs.declared.nodes.KeptNode.{KeptNode}

-- a node of which no cell is used and no loss enrolled
abbrev pub new_node : NodeSpec → KeptNode
new_node n = record { spec = n; used = 0; enrolled = None }

-- an enrolment, as a call sees it
abbrev pub enrolled_of : Enrolment → Enrolled
enrolled_of e = record { loss = e.loss; fence = e.fence }

-- the last enrolment of a kept node, with the node's number
abbrev pub enrolled_entry : KeptNode → Option (ℕ × Enrolled)
enrolled_entry n = option_map (λ e. (n.spec.sid, enrolled_of e)) n.enrolled

-- the last enrolments, by node
abbrev pub enrolments_of : List KeptNode → FinMap nat_cmp Enrolled
enrolments_of nodes = maps.from_entries (filter_map enrolled_entry nodes)

-- this enrolment is the last one of the node
abbrev pub with_enrolment : ℕ → Enrolment → KeptNode → KeptNode
with_enrolment node e n = cond (n.spec.sid == node) (record n { enrolled = Some e }) n

-- whether what is published names the node among these places
abbrev pub is_named : ℕ → List ℕ → Option Published → Bool
is_named node places published = option_map_or (λ p. names_node node p.mask 0 places) published false

-- a count, at least 0 and of 64 bits, where a block used a cell and where it uses one
abbrev pub moved : Bool → Bool → ℕ → ℕ
moved true true used = used
moved true false used = used - 1
moved false true used = min (used + 1) (2 ^ 64 - 1)
moved false false used = used

-- the node counted anew, where `after` is published of a block with these places, and `before` was so
abbrev pub recounted : List ℕ → Option Published → Option Published → KeptNode → KeptNode
recounted places before after n =
    record n { used = moved (is_named n.spec.sid places before) (is_named n.spec.sid places after) n.used }
