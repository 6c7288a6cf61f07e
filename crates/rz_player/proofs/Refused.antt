-- Where something was not done, and what is left then.
use Rattle.std.proofs.Common.{ℕ, Bool, ◌≡◌, ◌≤◌, List, Option, Some, None, Err, refl}
use Rattle.rz_events.specs.Volume.{Volume}
use Rattle.rz_events.specs.declared.export.Call.{Call}
use Rattle.rz_events.specs.declared.events.Event.{Event}
use Rattle.rz_script.specs.declared.line.Line.{Line}
use Rattle.rz_play.specs.World.{World}
use Rattle.rz_play.specs.Stops.{JournalRefused}
use Rattle.rz_player.specs.Behind.{Before}
use Rattle.rz_player.specs.Ends.{StaysTrue, CutsOff, EndsAfter, IsCut, IsEndedOver, IsStoppedOver, OnCut}
use Rattle.rz_player.specs.declared.lines.PlayEnd.{PlayEnd}
use Rattle.rz_player.specs.declared.lines.PlayEnd.TheVariants as end
use Rattle.rz_player.specs.declared.turns.CutCause.{CutCause}
use Rattle.rz_player.specs.declared.turns.CutCause.TheVariants as cut

-- what goes from one to the other does so where both were cut off for one cause
pub halted : (A B : Type 0) (cause : CutCause) (P Q : Type 0) → (P → Q) → OnCut {A = A} (Err cause) P → OnCut {A = B} (Err cause) Q
halted A B cut.TooManyTurns P Q on h = tt
halted A B cut.NoMemory P Q on h = on h

-- what was cut off last was so in the whole
pub cut-on : (e : PlayEnd) (first last : Before → Type 0) (leaves : Option Call → Before → Type 0) (then now : Call → Before → Type 0) → StaysTrue first last → ((c : Call) (b : Before) → first b → then c b → now c b)
    → IsCut e last leaves then → IsCut e first leaves now
cut-on e first last leaves then now so_far on h = record {
  refused = h.refused;
  ends = h.ends;
  left = λ b held. h.left b (so_far b held);
  stopped = λ c is b held. on c b held (h.stopped c is b (so_far b held));
}

-- nothing was refused where a play ended between two turns
pub cut-none : (e : PlayEnd) (first : Before → Type 0) (leaves : Option Call → Before → Type 0) (stops : Call → Before → Type 0) → EndsAfter e None → StaysTrue first (leaves None) → IsCut e first leaves stops
cut-none e first leaves stops ends left = record { refused = None; ends = ends; left = left; stopped = λ c is. cc }

-- the log of a play that was cut off
pub cut-over : (tells : Bool) (v : Volume) (w : World) (xs : List Line) (lost : ℕ) (h : List Event) (journaled : Bool) (e : PlayEnd) → CutsOff journaled e → (refused : Option Call) → EndsAfter e refused
    → ((c : Call) → refused ≡ Some c → IsStoppedOver tells v (JournalRefused c) w xs lost h) → IsEndedOver tells v w xs end.NoMemory lost h → IsEndedOver tells v w xs e lost h
cut-over tells v w xs lost h journaled end.Ended cuts refused ends stopped begun = absurd cuts
cut-over tells v w xs lost h journaled end.TooManyTurns cuts refused ends stopped begun = absurd cuts
cut-over tells v w xs lost h journaled end.NoMemory cuts refused ends stopped begun = begun
cut-over tells v w xs lost h journaled end.Journal cuts None ends stopped begun = absurd (cc)
cut-over tells v w xs lost h journaled end.Journal cuts (Some c) ends stopped begun = let s = stopped c refl in record { last = s.last; played = (c, s.played); losses = s.losses; log_is = s.log_is }
cut-over tells v w xs lost h journaled end.JournalFull cuts None ends stopped begun = absurd (cc)
cut-over tells v w xs lost h journaled end.JournalFull cuts (Some c) ends stopped begun = let s = stopped c refl in record { last = s.last; played = (c, s.played); losses = s.losses; log_is = s.log_is }
