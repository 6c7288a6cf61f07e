-- What is true beside the log of what actors have in hand and of the nodes' disks, where disks tell their texts. The log is the
-- whole one: that of this run behind that of earlier runs.
use Rattle.std.specs.Prelude.{ℕ, ◌≡◌, ◌<◌, ◌++◌, List, length, Some}
use Rattle.std.specs.List.{AllByRecursion}
use Rattle.rz_events.specs.Volume.{Volume, IsVolume}
use Rattle.rz_events.specs.declared.keys.Actor.{Actor}
use Rattle.rz_events.specs.declared.ends.ReadMark.TheVariants as mark
use Rattle.rz_events.specs.declared.events.Event.{Event}
use Rattle.rz_client_model.specs.declared.reading.ReadStage.{ReadStage}
use Rattle.rz_client_model.specs.declared.reading.ReadStage.TheVariants.{Fetching, Ended}
use Rattle.rz_core.specs.History.{Facts, Begun, facts}
use Rattle.rz_operation_model.specs.Work.{Work, Reading}
use Rattle.rz_player.specs.Behind.{behind}
use Rattle.rz_play.specs.World.{World}
use Rattle.rz_play_laws.specs.Fine.{IsFine}
use Rattle.rz_block_laws.specs.Acting.{AreBytes}
use Rattle.rz_driver_actors.specs.declared.actor_agenda.Agenda.{Agenda}
use Rattle.rz_driver_actors.specs.Hands.{HasTrueHand}
use Rattle.rz_nodes.specs.declared.formatting.Server.{Server}
use Rattle.rz_driver_nodes.specs.Images.{AreImaged}

-- Texts.

-- The write whose text a read looks for began, and the length that the first record told is that of its text.
abbrev pub KnowsLength : Facts → ReadStage → Type 0
KnowsLength f (Fetching t) = (b : Begun) × (f.wrote t.stamp ≡ Some b) × (0 < t.given → t.length ≡ length b.text)
KnowsLength f (Ended (mark.Found stamp size)) = (b : Begun) × (f.wrote stamp ≡ Some b) × (size ≡ length b.text)
KnowsLength f stage = Unit {0}

abbrev pub KnowsLengths : Facts → Work → Type 0
KnowsLengths f (Reading course s) = KnowsLength f s.stage
KnowsLengths f work = Unit {0}

-- Between two turns: the world of the play is in order behind the earlier log, what each actor has in hand is true, and the
-- images of each disk are those of its node's state.
pub record IsCoherent {D : Type 0} (image : D → List ℕ → Type 0) (v : Volume) (old : List Event) (w : World) (agendas : List Agenda) (servers : List (Server D)) : Type 0 where
  pub rules : IsVolume v
  pub bytes : AreBytes (facts old)
  pub fine : IsFine v old (behind old w)
  pub lengths : (by : Actor) → KnowsLengths (facts (w.log ++ old)) (w.agendas by).work
  pub hands : AllByRecursion (λ (s : Agenda). HasTrueHand v (facts (w.log ++ old)) s.machine) agendas
  pub disks : AreImaged image v (facts (w.log ++ old)) servers
