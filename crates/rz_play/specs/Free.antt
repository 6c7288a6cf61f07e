-- Turns over disks of which some may not tell their texts, as real files. A node answers by what it knows, as ever; what a read
-- finds on such a disk is not said: the records that came may fit no block, and a read may find any text.
use Rattle.std.specs.Prelude.{ℕ, Bool, true, false, ◌≡◌, ◌⊎◌, List, [], ◌∷◌}
use Rattle.rz_events.specs.Volume.{Volume}
use Rattle.rz_events.specs.declared.keys.Actor.{Actor}
use Rattle.rz_events.specs.declared.nodes.NodeAsk.{NodeAsk}
use Rattle.rz_events.specs.declared.nodes.NodeAnswer.{NodeAnswer}
use Rattle.rz_events.specs.declared.nodes.NodeAnswer.TheVariants as answer
use Rattle.rz_events.specs.declared.events.Event.{Event}
use Rattle.rz_operation_model.specs.Ask.{Ask, AskNode, Say, Saying, ask_of}
use Rattle.rz_operation_model.specs.Turns.{said_event}
use Rattle.rz_operation_model.specs.Steps.{Answered, Noted}
use Rattle.rz_play.specs.World.{World, Agenda, at_work}
use Rattle.rz_play.specs.Turns.{IsTurn, IsAskTurn, IsNodeTurn, IsGiven, IsThrough, advanced, answered, counted, lock_after, moved}

-- the records that came with a fetch may fit no block; nothing comes with another answer
abbrev pub MayFit : NodeAnswer → (fits : Bool) → Type 0
MayFit (answer.Fetch a) fits = Unit {0}
MayFit given fits = fits ≡ true

-- the request and the answer come through
abbrev pub IsFreeThrough : Volume → World → Actor → Agenda → ℕ → NodeAsk → World → Type 0
IsFreeThrough v w by s n question next = (given : NodeAnswer) × (x : Event) × (fits : Bool) × MayFit given fits × IsGiven v w by n question given x
    × IsThrough s.miss question × (next ≡ moved (answered w n question given) by (advanced v s (Answered fits given)) (x ∷ []))

-- the actor says a word of its own, with any text that it may have found
abbrev pub IsFreeSay : Volume → World → Actor → Agenda → Saying → World → Type 0
IsFreeSay v w by s said next = (text : List ℕ)
    × (next ≡ moved w by (record (advanced v s (Noted text)) { lock = lock_after said s.lock }) (said_event by s.number text said ∷ []))

abbrev pub IsFreeAskTurn : Volume → World → Actor → Agenda → Ask → World → Type 0
IsFreeAskTurn v w by s (AskNode n question) next = IsNodeTurn v w by s n question next ⊎ IsFreeThrough v w by s n question next
IsFreeAskTurn v w by s (Say said) next = IsFreeSay v w by s said next
IsFreeAskTurn v w by s ask next = IsAskTurn v w by s ask next

abbrev pub IsFreeTurn : Volume → Actor → World → World → Type 0
IsFreeTurn v by w next = let s = at_work (w.agendas by) in IsFreeAskTurn v (counted w) by s (ask_of v.layout s.work) next

-- A turn of the actor, over disks that tell their texts or that do not.
abbrev pub IsTurnOver : Volume → Actor → (tells : Bool) → World → World → Type 0
IsTurnOver v by true w next = IsTurn v by w next
IsTurnOver v by false w next = IsFreeTurn v by w next
