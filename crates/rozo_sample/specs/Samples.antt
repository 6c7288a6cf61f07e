-- What a text comes to.
use Rattle.std.specs.Prelude.{ℕ, true, ◌≡◌, ◌≤◌, ◌<◌, List, Result, Ok, Err, IsErr, length, reverse}
use Rattle.std.specs.Global.{Vec}
use Rattle.rz_events.specs.declared.events.Event.{Event}
use Rattle.rz_script.specs.Scripts.{Script}
use Rattle.rz_script.specs.Grammar.{script}
use Rattle.rz_script_words.specs.declared.form.Form.TheVariants.{Replay}
use Rattle.rz_play.specs.Stops.{TurnsSpent}
use Rattle.rz_play.specs.Played.{IsPlayed, IsStopped}
use Rattle.rz_player.specs.declared.lines.PlayEnd.{PlayEnd}
use Rattle.rz_player.specs.declared.lines.PlayEnd.TheVariants as end
use Rattle.rz_show.specs.Text.{text_of}
use Rattle.rozo_sample.specs.declared.sample.Refused.{Refused}
use Rattle.rozo_sample.specs.declared.sample.Refused.TheVariants as refused

-- the most bytes of a script
abbrev pub limit : ℕ
limit = 4194304

-- What is shown of a play that ended so, with this log. Want of memory says nothing; it alone cuts off a play that has no journal.
abbrev pub Tells : PlayEnd → List Event → Result (Vec ℕ) Refused → Type 0
Tells end.Ended log (Ok text) = text.items ≡ text_of log true
Tells end.Ended log (Err why) = why ≡ refused.NoMemory
Tells end.TooManyTurns log shown = shown ≡ Err refused.TooManyTurns
Tells cut_off log shown = shown ≡ Err refused.NoMemory

-- The text of the log of a whole play of the script; or a play of it stopped before a turn too many. Want of memory says nothing.
abbrev pub Shows : Script → Result (Vec ℕ) Refused → Type 0
Shows s (Ok text) = (h : List Event) × IsPlayed s.volume s.lines h × (text.items ≡ text_of (reverse h) true)
Shows s (Err refused.TooManyTurns) = (h : List Event) × IsStopped s.volume TurnsSpent s.lines h
Shows s (Err refused.NoMemory) = Unit {0}
Shows s (Err _) = ⊥

-- A text is longer than a script may be, or it is no script; or what its script comes to is shown.
abbrev pub IsSample : List ℕ → Result (Vec ℕ) Refused → Type 0
IsSample text (Err refused.Long) = limit < length text
IsSample text (Err refused.Script) = (length text ≤ limit) × IsErr (script Replay text)
IsSample text (Err refused.NoMemory) = Unit {0}
IsSample text shown = (s : Script) × (length text ≤ limit) × (script Replay text ≡ Ok s) × Shows s shown
