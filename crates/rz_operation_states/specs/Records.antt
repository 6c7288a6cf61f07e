-- The records that nodes are asked to have: their heads, and how many bins come with them.
use Rattle.std.specs.Prelude.{ℕ, ◌≡◌, ◌<◌, List, length}
use Rattle.mj_angles.specs.declared.layout.Layout.{Layout}
use Rattle.mj_angles.specs.Layout.{safe_of, bins_at_of}
use Rattle.rz_events.specs.declared.records.Head.{Head}
use Rattle.rz_events.specs.declared.nodes.NodeAsk.{NodeAsk}
use Rattle.rz_events.specs.declared.nodes.NodeAsk.TheVariants as node
use Rattle.rz_record.specs.Record.{IsValid}
use Rattle.rz_operation_model.specs.Ask.{Ask, AskNode}

-- What a call of a node needs of its ask.

-- a head that a record of the layout may have
abbrev pub IsHeadOf : Layout → Head → Type 0
IsHeadOf layout head = IsValid head × (head.layout ≡ layout)

abbrev pub HasHeadFor : Layout → NodeAsk → Type 0
HasHeadFor layout (node.Keep head) = IsHeadOf layout head
HasHeadFor layout (node.Refill fence head) = IsHeadOf layout head
HasHeadFor layout (node.Fetch key position stamp) = position < safe_of layout
HasHeadFor layout question = Unit {0}

-- what a node is to keep, or to have as a refill, has such a head, and a position that is fetched is one of the layout
abbrev pub HasHead : Layout → Ask → Type 0
HasHead layout (AskNode n question) = HasHeadFor layout question
HasHead layout ask = Unit {0}

abbrev pub IsCountFor : Layout → NodeAsk → List ℕ → Type 0
IsCountFor layout (node.Keep head) bins = length bins ≡ bins_at_of layout head.position
IsCountFor layout (node.Refill fence head) bins = length bins ≡ bins_at_of layout head.position
IsCountFor layout question bins = Unit {0}

-- there are as many bins as the position has
abbrev pub IsCount : Layout → Ask → List ℕ → Type 0
IsCount layout (AskNode n question) bins = IsCountFor layout question bins
IsCount layout ask bins = Unit {0}
