-- What contracts see of a machine, and the bins and the text that it gives.
use Rattle.std.specs.Prelude.{ℕ, Bool, true, false, ◌≡◌, List, [], take, Option, Some, None, IsSomeAnd}
use Rattle.mj_angles.specs.declared.layout.Layout.{Layout}
use Rattle.mj_angles.specs.Layout.{angle_of}
use Rattle.mj_forward.specs.Forward.{projection_of}
use Rattle.mj_inverse.specs.Fits.{Pair}
use Rattle.rz_words.specs.Grid.{Grid, bytes_from}
use Rattle.rz_events.specs.declared.nodes.NodeAsk.{NodeAsk}
use Rattle.rz_events.specs.declared.nodes.NodeAsk.TheVariants as node
use Rattle.rz_events.specs.declared.ends.ReadMark.{ReadMark}
use Rattle.rz_events.specs.declared.ends.ReadMark.TheVariants as mark
use Rattle.rz_operation_model.specs.Ask.{Ask, AskNode, Say, Saying, SayGot, ask_of}
use Rattle.rz_operation_model.specs.Work.{Work, Writing, Over}
use Rattle.rz_writer.specs.Machine.{block_of}

-- the layout and the work; the angles and bins of the records of the block that is read, while they are fetched; and the
-- block that fits them, once it is found
pub record Machine : Type 0 where
  pub layout : Layout
  pub work : Work
  pub pairs : List Pair
  pub block : Option Grid

-- nothing is left to do
abbrev pub is_over : Work → Bool
is_over Over = true
is_over work = false

-- what an actor has in hand, with a machine or with none
abbrev pub work_in : Option Machine → Work
work_in None = Over
work_in (Some m) = m.work

-- a machine has the layout
abbrev pub HasLayout : Layout → Option Machine → Type 0
HasLayout layout None = Unit {0}
HasLayout layout (Some m) = m.layout ≡ layout

-- The bins of what a node is to keep, or to have as a refill.

-- the text of the block that is written
abbrev pub text_in : Work → List ℕ
text_in (Writing course text s) = text
text_in work = []

abbrev pub HasBinsFor : NodeAsk → Type 0
HasBinsFor (node.Keep head) = Unit {0}
HasBinsFor (node.Refill fence head) = Unit {0}
HasBinsFor question = ⊥

abbrev pub HasBins : Ask → Type 0
HasBins (AskNode n question) = HasBinsFor question
HasBins ask = ⊥

abbrev pub AreBinsFor : Machine → NodeAsk → List ℕ → Type 0
AreBinsFor m (node.Keep head) bins = bins ≡ projection_of (block_of m.layout (text_in m.work)) (angle_of m.layout head.position)
AreBinsFor m (node.Refill fence head) bins = IsSomeAnd m.block (λ g. bins ≡ projection_of g (angle_of m.layout head.position))
AreBinsFor m question bins = ⊥

-- the bins are those of the block in hand at the position that was asked
abbrev pub AreBins : Machine → Ask → List ℕ → Type 0
AreBins m (AskNode n question) bins = AreBinsFor m question bins
AreBins m ask bins = ⊥

-- The text that was found.

abbrev pub text_found : ReadMark → Option Grid → List ℕ
text_found (mark.Found stamp length) (Some g) = take length (bytes_from g.words)
text_found mark block = []

abbrev pub text_said : Option Grid → Saying → List ℕ
text_said block (SayGot key part mark) = text_found mark block
text_said block said = []

abbrev pub text_asked : Option Grid → Ask → List ℕ
text_asked block (Say said) = text_said block said
text_asked block ask = []

abbrev pub text_of : Machine → List ℕ
text_of m = text_asked m.block (ask_of m.layout m.work)

-- the text that was found has this length
abbrev pub IsFoundLong : ReadMark → ℕ → Type 0
IsFoundLong (mark.Found stamp length) size = length ≡ size
IsFoundLong m size = ⊥

abbrev pub HasTextSaid : Saying → ℕ → Type 0
HasTextSaid (SayGot key part m) size = IsFoundLong m size
HasTextSaid said size = ⊥

abbrev pub HasText : Ask → ℕ → Type 0
HasText (Say said) size = HasTextSaid said size
HasText ask size = ⊥
