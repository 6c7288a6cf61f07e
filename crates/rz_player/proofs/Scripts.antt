-- A script, line by line, over disks that tell their texts or that do not.
use Rattle.std.proofs.Common.{ℕ, zero, suc, Bool, true, IsTrue, ◌≡◌, ◌+◌, ◌<◌, ◌≤◌, List, [], ◌∷◌, ◌++◌, Err, length, get_or, take, drop, subst, sym, refl, arith, inl, inr, add-one, drop-cons, take-append-drop}
use Rattle.std.proofs.lemmas.List.{take_more}
use Rattle.rz_events.specs.Volume.{Volume}
use Rattle.rz_events.specs.declared.export.Call.{Call}
use Rattle.rz_events.specs.declared.events.Event.{Event}
use Rattle.rz_script.specs.declared.line.Line.{Line}
use Rattle.rz_script.specs.declared.line.Line.TheVariants as line
use Rattle.rz_script.specs.Lines.{IsLine, AreLines}
use Rattle.rz_play.specs.World.{World}
use Rattle.rz_play.specs.Lines.{PlaysLineOver, TakesNoTurn}
use Rattle.rz_play.specs.Stops.{StopCause, TurnsSpent, JournalRefused, StopsLineOver, BeginsLineOver, most_turns}
use Rattle.rz_play.specs.Played.{PlaysLinesOver, StopsLinesOver, BeginsLinesOver}
use Rattle.rz_player.specs.declared.turns.CutCause.TheVariants as cut
use Rattle.rz_player.specs.declared.lines.PlayEnd.{PlayEnd}
use Rattle.rz_player.specs.declared.lines.PlayEnd.TheVariants as end
use Rattle.rz_player.specs.Ends.{IsEnded, IsEndedOver, IsLinePlayed, IsLogOf, IsStoppedOver, TellsOf}

pub line-at : (v : Volume) (xs : List Line) (i : ℕ) (d : Line) → AreLines v xs → i < length xs → IsLine v (get_or xs i d)
line-at v [] i d all lt = absurd (omega arith)
line-at v (x ∷ xs) zero d all lt = all.0
line-at v (x ∷ xs) (suc i) d all lt = line-at v xs i d all.1 (omega arith)

split-at : (xs : List Line) (i : ℕ) (d : Line) → i < length xs → xs ≡ take i xs ++ get_or xs i d ∷ drop (i + 1) xs
split-at xs i d lt = let split = sym (take-append-drop i xs) in
    subst (λ (ys : List Line). xs ≡ take i xs ++ ys) (rw (add-one) (drop-cons xs i d lt)) split

lines-more : (v : Volume) (tells : Bool) (done : List Line) (x : Line) (w mid next : World) → PlaysLinesOver v done tells w mid → PlaysLineOver v x tells mid next → PlaysLinesOver v (done ++ x ∷ []) tells w next
lines-more v tells [] x w mid next same played = (next, subst (λ (m : World). PlaysLineOver v x tells m next) same played, refl)
lines-more v tells (y ∷ done) x w mid next h played = (h.0, h.1, lines-more v tells done x h.0 mid next h.2 played)

pub lines-at : (v : Volume) (tells : Bool) (xs : List Line) (i : ℕ) (d : Line) (w mid next : World) → i < length xs → PlaysLinesOver v (take i xs) tells w mid → PlaysLineOver v (get_or xs i d) tells mid next → PlaysLinesOver v (take (i + 1) xs) tells w next
lines-at v tells xs i d w mid next lt h played = subst (λ (ys : List Line). PlaysLinesOver v ys tells w next) (sym (take_more xs i d lt)) (lines-more v tells (take i xs) (get_or xs i d) w mid next h played)

stops-after : (v : Volume) (cause : StopCause) (tells : Bool) (done : List Line) (x : Line) (more : List Line) (w mid next : World) → PlaysLinesOver v done tells w mid → StopsLineOver v cause x tells mid next → StopsLinesOver v cause (done ++ x ∷ more) tells w next
stops-after v cause tells [] x more w mid next same stops = inl (subst (λ (m : World). StopsLineOver v cause x tells m next) same stops)
stops-after v cause tells (y ∷ done) x more w mid next h stops = inr (h.0, h.1, stops-after v cause tells done x more h.0 mid next h.2 stops)

begins-after : (v : Volume) (tells : Bool) (done : List Line) (x : Line) (more : List Line) (w mid next : World) → PlaysLinesOver v done tells w mid → BeginsLineOver v x tells mid next → BeginsLinesOver v (done ++ x ∷ more) tells w next
begins-after v tells [] x more w mid next same begins = inl (subst (λ (m : World). BeginsLineOver v x tells m next) same begins)
begins-after v tells (y ∷ done) x more w mid next h begins = inr (h.0, h.1, begins-after v tells done x more h.0 mid next h.2 begins)

-- it stopped before a turn that is one too many
pub script-stopped : (v : Volume) (tells : Bool) (xs : List Line) (i : ℕ) (d : Line) (w mid next : World) (lost : ℕ) → i < length xs → PlaysLinesOver v (take i xs) tells w mid
    → IsLinePlayed v (get_or xs i d) tells mid (Err cut.TooManyTurns) next → next.lost ≤ lost → IsEndedOver tells v w xs end.TooManyTurns lost next.log
script-stopped v tells xs i d w mid next lost lt h stops few = record {
  last = next;
  played = subst (λ (ys : List Line). StopsLinesOver v TurnsSpent ys tells w next) (sym (split-at xs i d lt)) (stops-after v TurnsSpent tells (take i xs) (get_or xs i d) (drop (i + 1) xs) w mid next h stops);
  losses = few;
  log_is = refl;
}

-- it was cut off
pub script-cut : (v : Volume) (tells : Bool) (xs : List Line) (i : ℕ) (d : Line) (w mid next : World) (lost : ℕ) → i < length xs → PlaysLinesOver v (take i xs) tells w mid
    → IsLinePlayed v (get_or xs i d) tells mid (Err cut.NoMemory) next → next.lost ≤ lost → IsEndedOver tells v w xs end.NoMemory lost next.log
script-cut v tells xs i d w mid next lost lt h begins few = record {
  last = begins.0;
  played = (subst (λ (ys : List Line). BeginsLinesOver v ys tells w begins.0) (sym (split-at xs i d lt)) (begins-after v tells (take i xs) (get_or xs i d) (drop (i + 1) xs) w mid begins.0 h begins.1), begins.2);
  losses = (let same = begins.3.1 in omega (arith, few, same));
  log_is = sym begins.3.0;
}

-- before the turn of a call that the journal refused
pub script-refused : (v : Volume) (tells : Bool) (xs : List Line) (i : ℕ) (d : Line) (w mid next : World) (c : Call) (lost : ℕ) → i < length xs → PlaysLinesOver v (take i xs) tells w mid
    → IsLogOf (StopsLineOver v (JournalRefused c) (get_or xs i d) tells mid) next → next.lost ≤ lost → IsStoppedOver tells v (JournalRefused c) w xs lost next.log
script-refused v tells xs i d w mid next c lost lt h stops few = record {
  last = stops.0;
  played = subst (λ (ys : List Line). StopsLinesOver v (JournalRefused c) ys tells w stops.0) (sym (split-at xs i d lt)) (stops-after v (JournalRefused c) tells (take i xs) (get_or xs i d) (drop (i + 1) xs) w mid stops.0 h stops.1);
  losses = (let same = stops.3.1 in omega (arith, few, same));
  log_is = sym stops.3.0;
}

-- a line without turns that was not carried out: nothing of it was
pub order-cut : (v : Volume) (l : Line) (tells : Bool) (w next : World) → TakesNoTurn l → w.turns ≤ most_turns → TellsOf w next → IsLogOf (BeginsLineOver v l tells w) next
order-cut v (line.Op by op) tells w next calm few h = (w, refl, few, h)
order-cut v (line.Turn by k) tells w next calm few h = absurd calm
order-cut v (line.Rounds k) tells w next calm few h = absurd calm
order-cut v line.Rest tells w next calm few h = absurd calm
order-cut v (line.Stop n) tells w next calm few h = (w, refl, few, h)
order-cut v (line.Start n) tells w next calm few h = (w, refl, few, h)
order-cut v (line.Lose n) tells w next calm few h = (w, refl, few, h)
order-cut v (line.Break n k pick) tells w next calm few h = (w, refl, few, h)
order-cut v (line.Miss by reply) tells w next calm few h = (w, refl, few, h)

-- Over disks that tell their texts.

ended-true : (v : Volume) (first : World) (lines : List Line) (e : PlayEnd) (lost : ℕ) (h : List Event) → IsEndedOver true v first lines e lost h → IsEnded v first lines e lost h
ended-true v first lines end.Ended lost h over = (record { last = over.last; played = over.played.0; few = over.played.1; log_is = over.log_is }, over.losses)
ended-true v first lines end.TooManyTurns lost h over = (record { last = over.last; played = over.played; log_is = over.log_is }, over.losses)
ended-true v first lines end.NoMemory lost h over = (record { last = over.last; played = over.played.0; few = over.played.1; log_is = over.log_is }, over.losses)
ended-true v first lines end.Journal lost h over = (over.played.0, record { last = over.last; played = over.played.1; log_is = over.log_is }, over.losses)
ended-true v first lines end.JournalFull lost h over = (over.played.0, record { last = over.last; played = over.played.1; log_is = over.log_is }, over.losses)

pub told : (tells : Bool) (v : Volume) (first : World) (lines : List Line) (e : PlayEnd) (lost : ℕ) (h : List Event) → IsTrue tells → IsEndedOver tells v first lines e lost h → IsEnded v first lines e lost h
told tells v first lines e lost h is over = ended-true v first lines e lost h (subst (λ (t : Bool). IsEndedOver t v first lines e lost h) is over)
