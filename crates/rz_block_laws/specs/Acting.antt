-- An actor's operation beside a log in which others act too. `h` has the log of this run that the actor has seen, and
-- `earlier` the one that the run goes on after.
use Rattle.std.specs.Prelude.{ℕ, ◌≡◌, ◌<◌, List, ◌++◌, length, Some}
use Rattle.std.specs.List.{All}
use Rattle.rz_events.specs.Volume.{Volume}
use Rattle.rz_events.specs.declared.keys.Actor.{Actor}
use Rattle.rz_events.specs.declared.ends.ReadMark.TheVariants as mark
use Rattle.rz_events.specs.declared.events.Event.{Event}
use Rattle.rz_client_model.specs.declared.reading.ReadStage.{ReadStage}
use Rattle.rz_client_model.specs.declared.reading.ReadStage.TheVariants.{Fetching, Ended}
use Rattle.rz_operation_model.specs.Work.{Work, Reading}
use Rattle.rz_operation_model.specs.Steps.{Told, Replied}
use Rattle.rz_operation.specs.Machine.{Machine}
use Rattle.rz_core.specs.History.{Facts, Begun, facts, of_actor}
use Rattle.rz_play_laws.specs.Own.{HasOwnEvents}
use Rattle.rz_block_laws.specs.Laws.{IsTrueTo}

-- Texts.

-- each write that began has a text of bytes
abbrev pub AreBytes : Facts → Type 0
AreBytes f = (s : ℕ) (b : Begun) → f.wrote s ≡ Some b → All (λ x. x < 256) b.text

-- so has the write with this stamp, which began
pub record IsTextKnown (f : Facts) (stamp : ℕ) : Type 0 where
  pub begun : Begun
  pub wrote : f.wrote stamp ≡ Some begun
  pub bytes : All (λ x. x < 256) begun.text

-- A read looks for a text that is known: the length that the first record told is that of the text.
abbrev pub KnowsText : Facts → ReadStage → Type 0
KnowsText f (Fetching t) = (known : IsTextKnown f t.stamp) × (0 < t.given → t.length ≡ length known.begun.text)
KnowsText f (Ended (mark.Found stamp size)) = (known : IsTextKnown f stamp) × (size ≡ length known.begun.text)
KnowsText f stage = Unit {0}

abbrev pub KnowsTexts : Facts → Work → Type 0
KnowsTexts f (Reading course s) = KnowsText f s.stage
KnowsTexts f work = Unit {0}

-- what must be so where the export replied
abbrev pub TellsBytes : Facts → Told → Type 0
TellsBytes f (Replied r) = AreBytes f
TellsBytes f t = Unit {0}

-- The operation.

-- The actor's own events say how far its operation of this number has come, and what the machine has in hand is true.
pub record IsActing (v : Volume) (earlier h : List Event) (by : Actor) (number : ℕ) (m : Machine) : Type 0 where
  pub true_to : IsTrueTo v (facts (h ++ earlier)) (of_actor by (h ++ earlier)) (of_actor by h) by m
  pub way : HasOwnEvents v by number (of_actor by h) m.work
  pub texts : KnowsTexts (facts (h ++ earlier)) m.work
