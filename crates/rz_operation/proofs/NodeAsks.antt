-- What a machine asks of a node: whether the link may lose it, which bins go with it, and that there is room for what is fetched.
use Rattle.std.proofs.Common.{◌≡◌, ℕ, ◌≤◌, true, List, length, sym, subst, arith}
use Rattle.mj_angles.specs.declared.layout.Layout.{Layout}
use Rattle.mj_angles.specs.Layout.{max_bins_of}
use Rattle.mj_angles.proofs.Numbers.{bins_at-le}
use Rattle.rz_events.specs.declared.nodes.NodeAsk.{NodeAsk}
use Rattle.rz_events.specs.declared.nodes.NodeAsk.TheVariants as ask
use Rattle.rz_events.specs.declared.nodes.NodeAnswer.{NodeAnswer}
use Rattle.rz_events.specs.declared.nodes.NodeAnswer.TheVariants as answer
use Rattle.rz_events.specs.declared.nodes.FetchAnswer.TheVariants as fetch
use Rattle.rz_operation_model.specs.Ask.{Ask, AskNode}
use Rattle.rz_operation_model.specs.Turns.{goes_by_link}
use Rattle.rz_operation_states.specs.Machine.{HasBinsFor}
use Rattle.rz_operation_states.specs.Answers.{MayMiss, ComeWith, HasBinsTo, IsPlaced}

-- a message that goes through the link may be lost
pub may-miss : (asked : Ask) (n : ℕ) (question : NodeAsk) → asked ≡ AskNode n question → goes_by_link question ≡ true → MayMiss asked
may-miss asked n question is by_link = subst MayMiss (sym is) by_link

has-bins : (layout : Layout) (question : NodeAsk) (a : NodeAnswer) (bins : List ℕ) → IsPlaced layout question → max_bins_of layout ≤ length bins → HasBinsTo layout question a bins
has-bins layout (ask.Fetch key position stamp) (answer.Fetch (fetch.Held r)) bins placed most = let each = bins_at-le layout position placed in omega (arith, each, most)
has-bins layout (ask.Fetch key position stamp) (answer.Fetch fetch.Nothing) bins placed most = tt
has-bins layout (ask.Fetch key position stamp) (answer.Fetch fetch.Lost) bins placed most = tt
has-bins layout (ask.Fetch key position stamp) (answer.Fetch fetch.Down) bins placed most = tt
has-bins layout (ask.Fetch key position stamp) (answer.Fetch fetch.DiskFault) bins placed most = tt
has-bins layout (ask.Fetch key position stamp) a bins placed most = tt
has-bins layout question a bins placed most = tt

-- room for a record of the layout is room for what is fetched
pub come-with : (layout : Layout) (asked : Ask) (n : ℕ) (question : NodeAsk) (a : NodeAnswer) (bins : List ℕ) → asked ≡ AskNode n question → IsPlaced layout question → max_bins_of layout ≤ length bins
    → ComeWith layout asked a bins
come-with layout asked n question a bins is placed most = subst (λ (x : Ask). ComeWith layout x a bins) (sym is) (has-bins layout question a bins placed most)

-- what a node is not to keep comes without bins
abbrev pub IsBinless : NodeAsk → Type 0
IsBinless (ask.Keep head) = ⊥
IsBinless (ask.Refill fence head) = ⊥
IsBinless question = Unit {0}

pub no-bins : (question : NodeAsk) → IsBinless question → HasBinsFor question → ⊥
no-bins (ask.Keep head) none has = none
no-bins (ask.Refill fence head) none has = none
no-bins question none has = has

-- what it is to keep comes with them
abbrev pub IsBinful : NodeAsk → Type 0
IsBinful (ask.Keep head) = Unit {0}
IsBinful (ask.Refill fence head) = Unit {0}
IsBinful question = ⊥
