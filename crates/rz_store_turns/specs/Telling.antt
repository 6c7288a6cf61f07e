-- What a store lacks on a node.
use Rattle.std.specs.Prelude.{ℕ, ◌≡◌, ◌-◌, ◌^◌, Bool, ◌&&◌, not, min, count_by, List, None}
use Rattle.rz_events.specs.Volume.{Volume}
use Rattle.rz_events.specs.declared.files.Listed.{Listed}
use Rattle.rz_events.specs.declared.events.Event.{Event}
use Rattle.rz_export_model.specs.Export.{is_on}
use Rattle.rz_contents.specs.Model.{export_at}
use Rattle.rz_scrub_report.specs.Scrubs.{AreListed}
use Rattle.rz_shared_locked.specs.Told.{holds_record}

-- the published mask of a block names the node, which does not hold the record of the published stamp
abbrev pub is_missing : List Event → ℕ → Listed → Bool
is_missing h n l = is_on n l && not (holds_record h n l.key l.published.stamp)

-- so many, where so many can be counted
abbrev pub missing_among : List Event → ℕ → List Listed → ℕ
missing_among h n blocks = min (count_by (is_missing h n) blocks) (2 ^ 64 - 1)

-- of all published blocks of live files so many are missing at node n
pub record AreMissing (v : Volume) (h : List Event) (n count : ℕ) : Type 0 where
  pub blocks : List Listed
  pub all : AreListed (export_at v h) None blocks
  pub count_is : count ≡ missing_among h n blocks
