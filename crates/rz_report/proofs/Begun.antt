-- However a play ended, it has begun.
use Rattle.std.proofs.Common.{ℕ, ◌≡◌, inl, inr, ◌≤◌, ◌+◌, ◌++◌, ◌∙◌, Bool, cond, IsTrue, List, [], Option, ap, subst, sym, arith}
use Rattle.std.proofs.lemmas.List.{append-nil}
use Rattle.std.proofs.lemmas.List.Sums.{sum_by-append}
use Rattle.rz_events.specs.Volume.{Volume}
use Rattle.rz_events.specs.declared.export.Call.{Call}
use Rattle.rz_events.specs.declared.events.Event.{Event}
use Rattle.rz_script.specs.declared.line.Line.{Line}
use Rattle.rz_node_model.specs.States.{NodeState}
use Rattle.rz_export_model.specs.Export.{Export as ExportState}
use Rattle.rz_play.specs.World.{World, new_world, world_after}
use Rattle.rz_play.specs.Faults.{is_missed, missed, misses}
use Rattle.rz_play_laws.specs.Runs.{IsWorldReached}
use Rattle.rz_play.specs.Stops.{JournalRefused, StopCause, TurnsSpent}
use Rattle.rz_play_laws.proofs.Plays.{stops-begin}
use Rattle.rz_play.specs.Played.{IsPlayedFrom, IsStoppedFrom, IsBegunFrom}
use Rattle.rz_player.specs.Behind.{Before, behind}
use Rattle.rz_player.specs.Ends.{ComesToWorld, IsCut, IsEnded, IsEndedOver, IsStoppedOver}
use Rattle.rz_report.specs.Telling.{IsPlayOf}
use Rattle.rz_report.specs.Told.{AreLossesTold}
use Rattle.rz_player.specs.declared.lines.PlayEnd.{PlayEnd}
use Rattle.rz_player.specs.declared.lines.PlayEnd.TheVariants.{Ended, TooManyTurns, NoMemory, Journal, JournalFull}

pub has_begun : ((v : Volume) (first : World) (lines : List Line) (log : List Event) → (p : IsPlayedFrom v first lines log) → (begun : IsBegunFrom v first lines log) × (begun.last ≡ p.last))
    → ((v : Volume) (cause : StopCause) (first : World) (lines : List Line) (log : List Event) → (p : IsStoppedFrom v cause first lines log) → (begun : IsBegunFrom v first lines log) × (begun.last ≡ p.last))
    → (v : Volume) (first : World) (end : PlayEnd) (lines : List Line) (lost : ℕ) (log : List Event) → IsEnded v first lines end lost log → (begun : IsBegunFrom v first lines log) × (begun.last.lost ≤ lost)
has_begun ended stopped v first Ended lines lost log h =
    let b = ended v first lines log h.0 in (b.0, subst (λ (w : World). w.lost ≤ lost) (sym b.1) h.1)
has_begun ended stopped v first TooManyTurns lines lost log h =
    let b = stopped v TurnsSpent first lines log h.0 in (b.0, subst (λ (w : World). w.lost ≤ lost) (sym b.1) h.1)
has_begun ended stopped v first NoMemory lines lost log h = h
has_begun ended stopped v first Journal lines lost log h =
    let b = stopped v (JournalRefused h.0) first lines log h.1 in (b.0, subst (λ (w : World). w.lost ≤ lost) (sym b.1) h.2)
has_begun ended stopped v first JournalFull lines lost log h =
    let b = stopped v (JournalRefused h.0) first lines log h.1 in (b.0, subst (λ (w : World). w.lost ≤ lost) (sym b.1) h.2)

-- what a stage tells of its own volume is so of the volume that it stands for, and no message was lost before the first line
module _ (v own : Volume) (first : World) (lines given : List Line) (end : PlayEnd) (before lost : ℕ) (log : List Event) (volume_is : own ≡ v) (lines_are : given ≡ lines) (none_lost : before ≡ 0) where
  pub ended_play : IsEnded own first given end (before + lost) log → IsEnded v first lines end lost log
  ended_play played =
      let P : Volume → Type 0 = λ x. IsEnded x first given end (before + lost) log in
      let R : List Line → Type 0 = λ x. IsEnded v first x end (before + lost) log in
      let S : ℕ → Type 0 = λ x. IsEnded v first lines end x log in
      let none : before + lost ≡ lost = omega (arith, none_lost) in
      subst S none (subst R lines_are (subst P volume_is played))

  -- the same of a stage over disks that need not tell
  pub ended_over : (tells : Bool) → IsEndedOver tells own first given end (before + lost) log → IsEndedOver tells v first lines end lost log
  ended_over tells played =
      let P : Volume → Type 0 = λ x. IsEndedOver tells x first given end (before + lost) log in
      let R : List Line → Type 0 = λ x. IsEndedOver tells v first x end (before + lost) log in
      let S : ℕ → Type 0 = λ x. IsEndedOver tells v first lines end x log in
      let none : before + lost ≡ lost = omega (arith, none_lost) in
      subst S none (subst R lines_are (subst P volume_is played))

  -- and of one that stopped for a cause
  pub stopped_play : (tells : Bool) (cause : StopCause) → IsStoppedOver tells own cause first given (before + lost) log → IsStoppedOver tells v cause first lines lost log
  stopped_play tells cause stopped =
      let P : Volume → Type 0 = λ x. IsStoppedOver tells x cause first given (before + lost) log in
      let R : List Line → Type 0 = λ x. IsStoppedOver tells v cause first x (before + lost) log in
      let S : ℕ → Type 0 = λ x. IsStoppedOver tells v cause first lines x log in
      let none : before + lost ≡ lost = omega (arith, none_lost) in
      subst S none (subst R lines_are (subst P volume_is stopped))

-- in a play that begins anew
pub anew_play : (v : Volume) (first : World) (lines : List Line) (end : PlayEnd) (lost : ℕ) (log old : List Event) → old ≡ [] → first ≡ new_world v → IsEnded v (behind old first) lines end lost (log ++ old)
    → IsEnded v (new_world v) lines end lost log
anew_play v first lines end lost log old none new played =
    let P : List Event → Type 0 = λ h. IsEnded v (behind h first) lines end lost (log ++ h) in
    let Q : World → Type 0 = λ w. IsEnded v (behind [] w) lines end lost (log ++ []) in
    let R : List Event → Type 0 = λ h. IsEnded v (new_world v) lines end lost h in
    subst R (append-nil log) (subst Q new (subst P none played))

-- the lost messages of a play that came so far, over any disks
reached : (tells : Bool) (v : Volume) (lines : List Line) (end : PlayEnd) (first last : World) → ComesToWorld v lines tells end first last → IsWorldReached v lines tells first last
reached tells v lines Ended first last is = inl is.0
reached tells v lines TooManyTurns first last is = inr (inl is)
reached tells v lines NoMemory first last is = inr (inr is.0)
reached tells v lines Journal first last is = inr (inr (stops-begin v (JournalRefused is.0) lines tells first last is.1))
reached tells v lines JournalFull first last is = inr (inr (stops-begin v (JournalRefused is.0) lines tells first last is.1))

missed-with : (x old : List Event) → missed (x ++ old) ≡ missed x + missed old
missed-with x old = sum_by-append (λ y. cond (is_missed y) 1 0) x old

pub losses_told : ((v : Volume) (lines : List Line) (tells : Bool) (nodes : ℕ → NodeState) (s : ExportState) (old : List Event) (last : World) → IsWorldReached v lines tells (world_after nodes s old) last → missed last.log ≤ missed old + misses lines + last.lost)
    → AreLossesTold
losses_told law tells v lines end lost nodes s old log over =
    let bound = law v lines tells nodes s old over.last (reached tells v lines end (world_after nodes s old) over.last over.played) in
    let few = over.losses in
    let whole = ap missed over.log_is ∙ missed-with log old in
    omega (arith, bound, few, whole)

-- how a stage on which nothing was played says that a script was played, behind each earlier log
module _ (holds : Before → Type 0) (tells : Bool) (v own : Volume) (w next : World) (lines given : List Line) (end : PlayEnd) (lost : ℕ) (volume_is : own ≡ v) (lines_are : given ≡ lines)
    (new : (nodes : ℕ → NodeState) × (s : ExportState) × (w ≡ world_after nodes s [])) (losses : AreLossesTold)
    (played : (b : Before) → holds b → IsTrue tells → IsEnded own (behind b.log w) given end (w.lost + lost) (next.log ++ b.log))
    (over : (b : Before) → holds b → IsEndedOver tells own (behind b.log w) given end (w.lost + lost) (next.log ++ b.log)) where
  none-lost : w.lost ≡ 0
  none-lost = ap (λ (x : World). x.lost) new.2

  pub told_play : (b : Before) → holds b → IsTrue tells → IsEnded v (behind b.log w) lines end lost (next.log ++ b.log)
  told_play b held telling = ended_play v own (behind b.log w) lines given end w.lost lost (next.log ++ b.log) volume_is lines_are none-lost (played b held telling)

  pub plays_so : (b : Before) → holds b → IsPlayOf tells v (behind b.log w) lines end lost (next.log ++ b.log) next.log
  plays_so b held =
      let here = ended_over v own (behind b.log w) lines given end w.lost lost (next.log ++ b.log) volume_is lines_are none-lost tells (over b held) in
      let P : World → Type 0 = λ x. IsEndedOver tells v (behind b.log x) lines end lost (next.log ++ b.log) in
      (told_play b held, here, losses tells v lines end lost new.0 new.1 b.log next.log (subst P new.2 here))

-- how such a stage says that the script stopped before the turn of a call that its journal refused
pub cut_so_far : (holds : Before → Type 0) (leaves : Option Call → Before → Type 0) (tells : Bool) (v own : Volume) (w next : World) (lines given : List Line) (end : PlayEnd) (lost : ℕ) → own ≡ v → given ≡ lines
    → ((nodes : ℕ → NodeState) × (s : ExportState) × (w ≡ world_after nodes s []))
    → IsCut end holds leaves (λ c b. IsStoppedOver tells own (JournalRefused c) (behind b.log w) given (w.lost + lost) (next.log ++ b.log))
    → IsCut end holds leaves (λ c b. IsStoppedOver tells v (JournalRefused c) (behind b.log w) lines lost (next.log ++ b.log))
cut_so_far holds leaves tells v own w next lines given end lost volume_is lines_are new cut = record {
  refused = cut.refused;
  ends = cut.ends;
  left = cut.left;
  stopped = λ c is b held. stopped_play v own (behind b.log w) lines given end w.lost lost (next.log ++ b.log) volume_is lines_are (ap (λ (x : World). x.lost) new.2) tells (JournalRefused c) (cut.stopped c is b held);
}
