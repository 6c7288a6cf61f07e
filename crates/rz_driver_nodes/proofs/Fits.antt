-- What a machine may say of records that fit no block. One that does not go on to say so was told as if they fit.
use Rattle.std.proofs.Common.{◌≡◌, ◌⊎◌, inl, inr, ⊎_elim, ℕ, Bool, true, false, cond, List, refl, sym, ◌∙◌, ap, subst}
use Rattle.std.specs.Prelude.{◌==◌, nat_lt}
use Rattle.mj_angles.specs.declared.layout.Layout.{Layout}
use Rattle.mj_angles.specs.Layout.{inverse_of}
use Rattle.rz_events.specs.declared.ends.Seen.TheVariants as seen
use Rattle.rz_events.specs.declared.ends.LeftWhy.{LeftWhy}
use Rattle.rz_events.specs.declared.ends.LeftWhy.TheVariants as left
use Rattle.rz_events.specs.declared.ends.ReadMark.{ReadMark}
use Rattle.rz_events.specs.declared.ends.ReadMark.TheVariants as mark
use Rattle.rz_events.specs.declared.nodes.FetchAnswer.{FetchAnswer}
use Rattle.rz_events.specs.declared.nodes.FetchAnswer.TheVariants as fetch
use Rattle.rz_events.specs.declared.nodes.NodeAnswer.{NodeAnswer}
use Rattle.rz_events.specs.declared.nodes.NodeAnswer.TheVariants as answer
use Rattle.rz_events.specs.declared.files.Listed.{Listed}
use Rattle.rz_events.specs.declared.machines.ReaderAnswer.TheVariants as reads
use Rattle.rz_client_model.specs.declared.reading.ReaderState.{ReaderState}
use Rattle.rz_client_model.specs.declared.reading.ReadStage.{ReadStage}
use Rattle.rz_client_model.specs.declared.reading.ReadStage.TheVariants.{Looking, Fetching, Ended}
use Rattle.rz_client_model.specs.declared.reading.Fetches.{Fetches}
use Rattle.rz_client_model.specs.Read.{after_answer, after_fetch, unless_enough, with_record, with_seen, reader_told, end_at, ask_at}
use Rattle.rz_operation.specs.Machine.{Machine}
use Rattle.rz_operation.specs.Answers.{FitsIfEnough}
use Rattle.rz_operation_model.specs.Ask.{Ask, Say, Saying, SayGot, SayLeft, ask_of, read_asks, is_part, rebuild_asks}
use Rattle.rz_operation_model.specs.Rebuild.{RebuildState, Copying, Tally, after_read, base_told, rebuild_ask}
use Rattle.rz_operation_model.specs.Steps.{Answered, told}
use Rattle.rz_operation_model.specs.Work.{Work, Course, Calling, Dropping, Opening, Locking, Writing, Reading, Rebuilding, Ending, Over}
use Rattle.rz_play.specs.Free.{MayFit}
use Rattle.rz_driver_asks.specs.Parts.{IsMachineTold}

-- What is not said over disks that tell their texts: that records fit no block.

abbrev pub is_bad_mark : ReadMark → Bool
is_bad_mark mark.Inconsistent = true
is_bad_mark m = false

abbrev pub is_bad_left : LeftWhy → Bool
is_bad_left left.Inconsistent = true
is_bad_left why = false

abbrev pub is_bad_saying : Saying → Bool
is_bad_saying (SayGot key part m) = is_bad_mark m
is_bad_saying (SayLeft key why) = is_bad_left why
is_bad_saying said = false

abbrev pub is_bad : Ask → Bool
is_bad (Say said) = is_bad_saying said
is_bad ask = false

never : {A : Type 0} (b : Bool) → b ≡ true → b ≡ false → A
never b t f = let none : true ≡ false = sym t ∙ f in absurd (cc)

-- ---- the read of a block

by-count : (layout : Layout) (t : Fetches) → (unless_enough layout false t ≡ unless_enough layout true t) ⊎ (unless_enough layout false t ≡ Ended mark.Inconsistent)
by-count layout t = go (nat_lt t.given (inverse_of layout))
  where
    go : (b : Bool) → (cond b (Fetching t) (Ended mark.Inconsistent) ≡ cond b (Fetching t) (Ended (mark.Found t.stamp t.length))) ⊎ (cond b (Fetching t) (Ended mark.Inconsistent) ≡ Ended mark.Inconsistent)
    go true = inl refl
    go false = inr refl

by-answer : (layout : Layout) (t : Fetches) (a : FetchAnswer) → (after_fetch layout false t a ≡ after_fetch layout true t a) ⊎ (after_fetch layout false t a ≡ Ended mark.Inconsistent)
by-answer layout t (fetch.Held r) = by-enough (r.stamp == t.stamp)
  where
    by-enough : (b : Bool) → (cond b (unless_enough layout false (with_record t r.length)) (Fetching (with_seen t seen.Held)) ≡ cond b (unless_enough layout true (with_record t r.length)) (Fetching (with_seen t seen.Held))) ⊎ (cond b (unless_enough layout false (with_record t r.length)) (Fetching (with_seen t seen.Held)) ≡ Ended mark.Inconsistent)
    by-enough true = by-count layout (with_record t r.length)
    by-enough false = inl refl
by-answer layout t fetch.Nothing = inl refl
by-answer layout t fetch.Lost = inl refl
by-answer layout t fetch.Down = inl refl
by-answer layout t fetch.DiskFault = inl refl

by-stage : (layout : Layout) (stage : ReadStage) (a : FetchAnswer) → (after_answer layout false stage (reads.Fetched a) ≡ after_answer layout true stage (reads.Fetched a)) ⊎ (after_answer layout false stage (reads.Fetched a) ≡ Ended mark.Inconsistent)
by-stage layout Looking a = inl refl
by-stage layout (Fetching t) a = by-answer layout t a
by-stage layout (Ended e) a = inl refl

-- ---- any work

module _ (layout : Layout) (a : FetchAnswer) where
  abbrev apart : Work → Type 0
  apart work = is_bad (ask_of layout (told layout work (Answered false (answer.Fetch a)))) ≡ false → told layout work (Answered false (answer.Fetch a)) ≡ told layout work (Answered true (answer.Fetch a))

  in-read : (course : Course) (s : ReaderState) → apart (Reading course s)
  in-read course s good = ⊎_elim
      (λ (same : after_answer s.layout false s.stage (reads.Fetched a) ≡ after_answer s.layout true s.stage (reads.Fetched a)). ap (λ (stage : ReadStage). Reading course (record s { stage = stage })) same)
      (λ (bad : after_answer s.layout false s.stage (reads.Fetched a) ≡ Ended mark.Inconsistent).
      let s' = reader_told false s (reads.Fetched a) in
      never (is_bad (ask_of layout (Reading course s'))) (ap (λ (stage : ReadStage). is_bad (read_asks (is_part course) s'.key (end_at stage) (ask_at s' stage))) bad) good)
      (by-stage s.layout s.stage a)

  in-copy : (n : ℕ) (t : Tally) (l : Listed) (base : ℕ) (s : ReaderState) → apart (Rebuilding n (Copying t l base s))
  in-copy n t l base s good = ⊎_elim
      (λ (same : after_answer s.layout false s.stage (reads.Fetched a) ≡ after_answer s.layout true s.stage (reads.Fetched a)).
      ap (λ (stage : ReadStage). Rebuilding n (after_read t l (base_told s base (reads.Fetched a)) (record s { stage = stage }) (end_at stage))) same)
      (λ (bad : after_answer s.layout false s.stage (reads.Fetched a) ≡ Ended mark.Inconsistent).
      let s' = reader_told false s (reads.Fetched a) in
      never (is_bad (ask_of layout (told layout (Rebuilding n (Copying t l base s)) (Answered false (answer.Fetch a))))) (ap (λ (stage : ReadStage). is_bad (rebuild_asks layout n (rebuild_ask n (after_read t l (base_told s base (reads.Fetched a)) s' (end_at stage))))) bad) good)
      (by-stage s.layout s.stage a)

  in-rebuild : (n : ℕ) (s : RebuildState) → apart (Rebuilding n s)
  in-rebuild n (Copying t l base s) = in-copy n t l base s
  in-rebuild n s = λ good. refl

  pub as-fit : (work : Work) → apart work
  as-fit (Reading course s) = in-read course s
  as-fit (Rebuilding n s) = in-rebuild n s
  as-fit (Calling c) = λ good. refl
  as-fit (Dropping fid n places) = λ good. refl
  as-fit (Opening path plan) = λ good. refl
  as-fit (Locking path plan) = λ good. refl
  as-fit (Writing course text s) = λ good. refl
  as-fit (Ending end) = λ good. refl
  as-fit Over = λ good. refl

-- a machine that was told a fetch
told-fetch : (fits : Bool) (a : FetchAnswer) (m new : Machine) → new.layout ≡ m.layout → new.work ≡ told m.layout m.work (Answered fits (answer.Fetch a)) → is_bad (ask_of new.layout new.work) ≡ false → new.work ≡ told m.layout m.work (Answered true (answer.Fetch a))
told-fetch true a m new layout work good = work
told-fetch false a m new layout work good =
    work ∙ as-fit m.layout a m.work ((λ i. is_bad (ask_of (sym layout i) (sym work i))) ∙ good)

-- what a machine was told of an answer
pub told-so : (m : Machine) (a : NodeAnswer) (bins : List ℕ) (new : Machine) → FitsIfEnough m a bins new → (fits : Bool) × MayFit a fits × IsMachineTold m new (Answered fits a)
told-so m (answer.Fetch a) bins new given = (given.0, tt, record { layout = given.2.layout; work = given.2.work })
told-so m (answer.Keep a) bins new given = (true, refl, record { layout = given.layout; work = given.work })
told-so m (answer.Refill a) bins new given = (true, refl, record { layout = given.layout; work = given.work })
told-so m (answer.Drop a) bins new given = (true, refl, record { layout = given.layout; work = given.work })
told-so m (answer.Probe a) bins new given = (true, refl, record { layout = given.layout; work = given.work })
told-so m (answer.Stop a) bins new given = (true, refl, record { layout = given.layout; work = given.work })
told-so m (answer.Start a) bins new given = (true, refl, record { layout = given.layout; work = given.work })
told-so m (answer.Lose a) bins new given = (true, refl, record { layout = given.layout; work = given.work })
told-so m (answer.Replace a) bins new given = (true, refl, record { layout = given.layout; work = given.work })

told-alone : (m new : Machine) (a : NodeAnswer) (fits : Bool) → fits ≡ true → IsMachineTold m new (Answered fits a) → IsMachineTold m new (Answered true a)
told-alone m new a fits is told = subst (λ (b : Bool). IsMachineTold m new (Answered b a)) is told

-- one that does not go on to say that they fit no block
pub told-true : (m new : Machine) (a : NodeAnswer) (fits : Bool) → MayFit a fits → IsMachineTold m new (Answered fits a) → is_bad (ask_of new.layout new.work) ≡ false → IsMachineTold m new (Answered true a)
told-true m new (answer.Fetch a) fits may told good = record { layout = told.layout; work = told-fetch fits a m new told.layout told.work good }
told-true m new (answer.Keep a) fits may told good = told-alone m new (answer.Keep a) fits may told
told-true m new (answer.Refill a) fits may told good = told-alone m new (answer.Refill a) fits may told
told-true m new (answer.Drop a) fits may told good = told-alone m new (answer.Drop a) fits may told
told-true m new (answer.Probe a) fits may told good = told-alone m new (answer.Probe a) fits may told
told-true m new (answer.Stop a) fits may told good = told-alone m new (answer.Stop a) fits may told
told-true m new (answer.Start a) fits may told good = told-alone m new (answer.Start a) fits may told
told-true m new (answer.Lose a) fits may told good = told-alone m new (answer.Lose a) fits may told
told-true m new (answer.Replace a) fits may told good = told-alone m new (answer.Replace a) fits may told
