-- The disk of a journal behind those of the nodes, and how a journal ends a play.
use Rattle.std.proofs.Common.{ℕ, zero, suc, inl, inr, ◌⊎◌, ◌≡◌, ◌≢◌, ◌+◌, ◌<◌, ◌≤◌, Bool, true, false, IsTrue, List, [], ◌∷◌, ◌++◌, Option, Some, None, length, refl, sym, ap, ◌∙◌, subst, arith}
use Rattle.mj_angles.specs.declared.layout.Layout.{Layout}
use Rattle.rz_disk.specs.Meter.{Meter, faults, Rises as HasRisen}
use Rattle.rz_disk.specs.declared.disk.Disk.{Ghosts}
use Rattle.rz_events.specs.Volume.{Volume}
use Rattle.rz_events.specs.declared.files.NodeSpec.{NodeSpec}
use Rattle.rz_events.specs.declared.export.Call.{Call}
use Rattle.rz_events.specs.declared.events.Event.{Event}
use Rattle.rz_script.specs.declared.line.Line.{Line}
use Rattle.rz_nodes.specs.Formatted.{AreBack}
use Rattle.rz_driver_nodes.specs.Meters.{AreDisksCounted, faults_at}
use Rattle.rz_metadata.specs.declared.metadata.Metadata.{Metadata}
use Rattle.rz_metadata.specs.declared.metadata.Metadata.TheVariants.{InMemory, Journaled}
use Rattle.rz_metadata.specs.declared.journaled.JournalRefusal.{JournalRefusal}
use Rattle.rz_metadata.specs.declared.journaled.JournalRefusal.TheVariants.{Full, Failed}
use Rattle.rz_metadata.specs.Stands.{disk_of, is_journaled}
use Rattle.rz_core.specs.Legal.{IsLegalInRuns}
use Rattle.rz_driver.specs.Continued.{AreLeft}
use Rattle.rz_driver.proofs.JournalEndings.{whole-stands}
use Rattle.rz_driver.specs.Endings.{EndsAsRefused, StandsForLog, end_by}
use Rattle.rz_player.specs.Ends.{EndsAfter, EndsBy}
use Rattle.rz_player.specs.declared.lines.PlayEnd.{PlayEnd}
use Rattle.rz_player.specs.declared.lines.PlayEnd.TheVariants as ends
use Rattle.rz_request.specs.Requests.{nodes_in}
use Rattle.rz_request.specs.declared.wishes.Request.{Request}
use Rattle.rz_request.specs.declared.wishes.Wish.{Wish}
use Rattle.rz_request.specs.declared.wishes.Wish.TheVariants as wishes
use Rattle.rz_report.specs.Replays.{RequestProgress, Faulted, HasJournal, MayEnd}
use Rattle.rz_report.specs.Scrubs.{BetweenTurns}
use Rattle.rz_replay.specs.Disks.{AreAllBack, AreBackAgain, AreBackFrom, AreFaultsTold, AreImagesTold, IsJournalLeft, LeavesNext, MayBeResumed, asked_in}

-- Without a journal.

-- no journal ends a play
pub plain-end : (end why : PlayEnd) (r : Request) (disks : Faulted) (journaled : Bool) → journaled ≡ false → EndsBy journaled why end → MayEnd end r disks
plain-end ends.Ended why r disks journaled is cut = tt
plain-end ends.TooManyTurns why r disks journaled is cut = tt
plain-end ends.NoMemory why r disks journaled is cut = tt
plain-end ends.Journal why r disks journaled is cut = let journal : IsTrue journaled = cut.1 in cc
plain-end ends.JournalFull why r disks journaled is cut = let journal : IsTrue journaled = cut.1 in cc

-- the disks are those of the nodes
pub plain-back : {D : Type 0} (G : Ghosts D) (course : RequestProgress) (wish : Wish) (v : Volume) (lines : List Line) (lost : ℕ) (old new : List D) (h : List Event)
    → wish ≢ wishes.First → wish ≢ wishes.Again
    → AreFaultsTold G.meter v old new (asked_in course ++ h) × AreImagesTold G course v old new h → AreBackFrom G course wish v lines lost old new h
plain-back G course wishes.Replay v lines lost old new h plain anew back = back
plain-back G course (wishes.Load seed) v lines lost old new h plain anew back = back
plain-back G course wishes.Scrub v lines lost old new h plain anew back = back
plain-back G course wishes.First v lines lost old new h plain anew back = absurd (plain refl)
plain-back G course wishes.Again v lines lost old new h plain anew back = absurd (anew refl)

-- with one, that of the journal is behind them
module _ {D : Type 0} (G : Ghosts D) (course : RequestProgress) (wish : Wish) (v : Volume) (lines : List Line) (lost : ℕ) (old new : List D) (h : List Event) where
  pub first-back : wish ≡ wishes.First → AreAllBack G course v lines lost old new h → AreBackFrom G course wish v lines lost old new h
  first-back is back = subst (λ (w : Wish). AreBackFrom G course w v lines lost old new h) (sym is) back

  pub again-back : wish ≡ wishes.Again → AreBackAgain G course v lines lost old new h → AreBackFrom G course wish v lines lost old new h
  again-back is back = subst (λ (w : Wish). AreBackFrom G course w v lines lost old new h) (sym is) back

-- The last of some disks.

module _ {D : Type 0} where
  pub split-last : (n : ℕ) (disks : List D) → length disks ≡ n + 1 → (nodes : List D) × (last : D) × (disks ≡ nodes ++ last ∷ []) × (length nodes ≡ n)
  split-last n [] count = absurd (omega (arith, count))
  split-last zero (d ∷ []) count = ([], d, refl, refl)
  split-last zero (d ∷ e ∷ disks) count = absurd (omega (arith, count))
  split-last (suc n) (d ∷ disks) count =
      let more = split-last n disks (omega (arith, count)) in (d ∷ more.0, more.1, ap (λ (xs : List D). d ∷ xs) more.2, ap suc more.3)

  pub length-joined : (nodes : List D) (last : D) → length (nodes ++ last ∷ []) ≡ length nodes + 1
  length-joined [] last = refl
  length-joined (d ∷ nodes) last = let more = length-joined nodes last in omega (arith, more)

  -- a journal has a disk
  pub has-disk : (m : Metadata D) → is_journaled m ≡ true → (disk : D) × (disk_of m ≡ Some disk)
  has-disk (InMemory s) is = cc
  has-disk (Journaled j) is = (j.journal.disk, refl)

  -- an export in memory has none
  pub no-disk : (m : Metadata D) → is_journaled m ≡ false → disk_of m ≡ None
  no-disk (InMemory s) is = refl
  no-disk (Journaled j) is = cc

  module _ (meter : D → Meter) where
    pub at-last : (nodes : List D) (last : D) → faults_at meter (nodes ++ last ∷ []) (length nodes) ≡ faults (meter last)
    at-last [] last = refl
    at-last (d ∷ nodes) last = at-last nodes last

    pub at-front : (nodes : List D) (last : D) (k : ℕ) → k < length nodes → faults_at meter (nodes ++ last ∷ []) k ≡ faults_at meter nodes k
    at-front [] last k lt = absurd (omega (arith, lt))
    at-front (d ∷ nodes) last zero lt = refl
    at-front (d ∷ nodes) last (suc k) lt = at-front nodes last k (omega (arith, lt))

    pub counted-length : (first : ℕ → ℕ) (i : ℕ) (numbers : List ℕ) (disks : List D) (h : List Event) → AreDisksCounted meter first i numbers disks h → length disks ≡ length numbers
    counted-length first i [] [] h all = refl
    counted-length first i [] (d ∷ disks) h all = absurd all
    counted-length first i (n ∷ numbers) [] h all = absurd all
    counted-length first i (n ∷ numbers) (d ∷ disks) h all = ap suc (counted-length first (i + 1) numbers disks h all.2)

    -- no count fell
    pub all-back-faults : (tells : Bool) (image : D → List ℕ → Type 0) (layout : Layout) (nodes : List NodeSpec) (old new : List D) (o n : D) → length old ≡ length nodes → AreBack tells meter image layout nodes old new
        → faults (meter o) ≤ faults (meter n) → (i : ℕ) → faults_at meter (old ++ o ∷ []) i ≤ faults_at meter (new ++ n ∷ []) i
    all-back-faults tells image layout [] [] [] o n count all last zero = last
    all-back-faults tells image layout [] [] [] o n count all last (suc i) = omega arith
    all-back-faults tells image layout [] [] (y ∷ new) o n count all last i = absurd all
    all-back-faults tells image layout [] (x ∷ old) new o n count all last i = absurd (omega (arith, count))
    all-back-faults tells image layout (s ∷ nodes) [] new o n count all last i = absurd (omega (arith, count))
    all-back-faults tells image layout (s ∷ nodes) (x ∷ old) [] o n count all last i = absurd all
    all-back-faults tells image layout (s ∷ nodes) (x ∷ old) (y ∷ new) o n count all last zero = all.0.count
    all-back-faults tells image layout (s ∷ nodes) (x ∷ old) (y ∷ new) o n count all last (suc i) = all-back-faults tells image layout nodes old new o n (omega (arith, count)) all.1 last i

-- Behind a journal.

-- how a play ended tells what the journal refused

full-is : (why : Option JournalRefusal) → ends.JournalFull ≡ end_by why → why ≡ Some Full
full-is None is = cc
full-is (Some Full) is = refl
full-is (Some Failed) is = cc

failed-is : (why : Option JournalRefusal) → ends.Journal ≡ end_by why → why ≡ Some Failed
failed-is None is = cc
failed-is (Some Full) is = cc
failed-is (Some Failed) is = refl

none-is : (why : Option JournalRefusal) → ends.NoMemory ≡ end_by why → why ≡ None
none-is None is = refl
none-is (Some Full) is = cc
none-is (Some Failed) is = cc

-- a journal ends a play
pub journal-end : (end : PlayEnd) (why : Option JournalRefusal) (journaled : Bool) (r : Request) (disks : Faulted) → HasJournal r.wish → EndsBy journaled (end_by why) end
    → (why ≡ Some Failed → HasRisen (disks.old (nodes_in r.script)) (disks.new (nodes_in r.script))) → MayEnd end r disks
journal-end ends.Ended why journaled r disks has cut risen = tt
journal-end ends.TooManyTurns why journaled r disks has cut risen = tt
journal-end ends.NoMemory why journaled r disks has cut risen = tt
journal-end ends.JournalFull why journaled r disks has cut risen = has
journal-end ends.Journal why journaled r disks has cut risen = (has, risen (failed-is why cut.0))

module _ {D : Type 0} (G : Ghosts D) (v : Volume) (old new : D) (h : List Event) (stops : Call → Type 0) (why : Option JournalRefusal) (journaled : Bool) where
  abbrev Ends : Option JournalRefusal → Option Call → Type 0
  Ends o c = EndsAsRefused o c G.tells (G.image new) (faults (G.meter old)) (faults (G.meter new)) v h

  pub journal-left : (end : PlayEnd) (refused : Option Call) → EndsBy journaled (end_by why) end → EndsAfter end refused → ((c : Call) → refused ≡ Some c → stops c) → BetweenTurns end (IsTrue G.tells → StandsForLog (G.image new) v h)
      → Ends why refused → IsJournalLeft G stops end v old new h
  journal-left ends.Ended refused cut after stopped stands ended = stands
  journal-left ends.TooManyTurns refused cut after stopped stands ended = stands
  journal-left ends.NoMemory refused cut after stopped stands ended =
      whole-stands why refused G.tells (G.image new) (faults (G.meter old)) (faults (G.meter new)) v h (λ failed. let never : None ≡ Some Failed = sym (none-is why cut.0) ∙ failed in cc) ended
  journal-left ends.Journal None cut after stopped stands ended = absurd (cc)
  journal-left ends.Journal (Some c) cut after stopped stands ended = (c, stopped c refl, subst (λ (o : Option JournalRefusal). Ends o (Some c)) (failed-is why cut.0) ended)
  journal-left ends.JournalFull None cut after stopped stands ended = absurd (cc)
  journal-left ends.JournalFull (Some c) cut after stopped stands ended = (c, stopped c refl, subst (λ (o : Option JournalRefusal). Ends o (Some c)) (full-is why cut.0) ended)

-- what goes from one to the other between two turns does so where a play ended between two turns
pub between-on : (end : PlayEnd) (so then : Type 0) → (so → then) → BetweenTurns end so → BetweenTurns end then
between-on ends.Ended so then on h = on h
between-on ends.TooManyTurns so then on h = on h
between-on ends.NoMemory so then on h = tt
between-on ends.Journal so then on h = tt
between-on ends.JournalFull so then on h = tt

-- What a run leaves for the next.

-- where a play ended between two turns the stage holds, and where it was cut off it says why
pub whole-end : (Holds Leaves : Type 0) (end : PlayEnd) (why : Option JournalRefusal) (journaled : Bool) → EndsBy journaled (end_by why) end → BetweenTurns end Holds → Leaves → LeavesNext end (Holds ⊎ (Leaves × (why ≢ Some Failed)))
whole-end Holds Leaves ends.Ended why journaled cut holds left = inl holds
whole-end Holds Leaves ends.TooManyTurns why journaled cut holds left = inl holds
whole-end Holds Leaves ends.JournalFull why journaled cut holds left = inr (left, λ failed. let never : Some Full ≡ Some Failed = sym (full-is why cut.0) ∙ failed in cc)
whole-end Holds Leaves ends.NoMemory why journaled cut holds left = inr (left, λ failed. let never : None ≡ Some Failed = sym (none-is why cut.0) ∙ failed in cc)
whole-end Holds Leaves ends.Journal why journaled cut holds left = tt

pub next-on : (end : PlayEnd) (so then : Type 0) → (so → then) → LeavesNext end so → LeavesNext end then
next-on ends.Ended so then on h = on h
next-on ends.TooManyTurns so then on h = on h
next-on ends.JournalFull so then on h = on h
next-on ends.NoMemory so then on h = on h
next-on ends.Journal so then on h = tt

pub may-follow : {D : Type 0} (image : D → List ℕ → Type 0) (v : Volume) (h : List Event) (disks : List D) → IsLegalInRuns v h → AreLeft image v h disks → MayBeResumed image v h disks
may-follow image v h disks legal left = record { earlier = λ few there. record { legal = legal; few = few; there = there }; left = left }
