-- The losses of nodes that an export enrolled last, each with its fence.
use Rattle.std.specs.Prelude.{ℕ, ◌==◌, cond, List, [], ◌∷◌, map, Option, None, Some}
use Rattle.std.specs.List.{filter_map}
use Rattle.std.specs.Option.{option_map_or}
use Rattle.std.specs.FinMap as maps
use Rattle.rz_export_model.specs.Export.{Export, Enrolled}
use Rattle.rz_tree.specs.declared.parts.Part.{Part}
use Rattle.rz_tree.specs.declared.parts.Part.TheVariants as part
use Rattle.rz_metadata.specs.declared.enrolments.NodeEnrolment.{NodeEnrolment}

-- the loss that was enrolled last of a node, or 0
abbrev pub loss_of : Export → ℕ → ℕ
loss_of s node = option_map_or (λ e. e.loss) (maps.get s.enrolled node) 0

-- what was enrolled last of a node
abbrev pub enrolment_of : ℕ × Enrolled → NodeEnrolment
enrolment_of e = record { node = e.0; loss = e.1.loss; fence = e.1.fence }

-- the last enrolment of each node of which a loss was enrolled
abbrev pub enrolments : Export → List NodeEnrolment
enrolments s = map enrolment_of (maps.entries s.enrolled)

-- the first of these that is of a node
abbrev pub among : ℕ → List NodeEnrolment → Option NodeEnrolment
among node [] = None
among node (e ∷ es) = cond (e.node == node) (Some e) (among node es)

-- its loss, or 0
abbrev pub loss_among : ℕ → List NodeEnrolment → ℕ
loss_among node es = option_map_or (λ e. e.loss) (among node es) 0

-- its fence, or 0
abbrev pub fence_among : ℕ → List NodeEnrolment → ℕ
fence_among node es = option_map_or (λ e. e.fence) (among node es) 0

-- the enrolment that a part is
abbrev pub said_by : Part → Option NodeEnrolment
said_by (part.Counters last made) = None
said_by (part.Object fid kind mode mtime size cid places target) = None
said_by (part.Name path fid) = None
said_by (part.Block key latest published) = None
said_by (part.Enrolled node loss fence) = Some (record { node = node; loss = loss; fence = fence })

abbrev pub said_in : List Part → List NodeEnrolment
said_in parts = filter_map said_by parts
