-- What is shown of a play is what its script comes to.
use Rattle.std.proofs.Common.{ℕ, true, ◌≡◌, List, Result, Ok, Err, reverse, sym, ap, ◌∙◌, subst}
use Rattle.std.specs.Global.{Vec}
use Rattle.rz_events.specs.declared.events.Event.{Event}
use Rattle.rz_script.specs.Scripts.{Script}
use Rattle.rz_play.specs.World.{new_world}
use Rattle.rz_player.specs.Ends.{IsEnded}
use Rattle.rz_player.specs.declared.lines.PlayEnd.{PlayEnd}
use Rattle.rz_player.specs.declared.lines.PlayEnd.TheVariants as end
use Rattle.rz_show.specs.Text.{text_of}
use Rattle.rozo_sample.specs.Samples.{Shows, Tells}
use Rattle.rozo_sample.specs.declared.sample.Refused.{Refused}

pub shows : (s : Script) (e : PlayEnd) (lost : ℕ) (h log : List Event) (r : Result (Vec ℕ) Refused) → IsEnded s.volume (new_world s.volume) s.lines e lost h → log ≡ reverse h → Tells e log r → Shows s r
shows s end.Ended lost h log (Ok text) ended is told = (h, ended.0, told ∙ ap (λ (l : List Event). text_of l true) is)
shows s end.Ended lost h log (Err why) ended is told = subst (λ w. Shows s (Err w)) (sym told) tt
shows s end.TooManyTurns lost h log r ended is told = subst (Shows s) (sym told) (h, ended.0)
shows s end.NoMemory lost h log r ended is told = subst (Shows s) (sym told) tt
shows s end.Journal lost h log r ended is told = subst (Shows s) (sym told) tt
shows s end.JournalFull lost h log r ended is told = subst (Shows s) (sym told) tt
