-- What is found after a play, as what a performance tells of it.
use Rattle.std.proofs.Common.{ℕ, ◌≡◌, ◌⊎◌, inl, inr, ◌∙◌, ◌+◌, ◌-◌, ◌^◌, ◌++◌, ◌<◌, ◌≤◌, Bool, IsTrue, List, [], ◌∷◌, Option, None, Result, Ok, Err, IfOk, length, length-append, arith, refl, ap, reverse, sym, subst}
use Rattle.mj_angles.specs.declared.layout.Layout.{Layout}
use Rattle.rz_events.specs.Volume.{Volume}
use Rattle.rz_events.specs.declared.keys.Key.{Key}
use Rattle.rz_events.specs.declared.records.Held.{Held}
use Rattle.rz_events.specs.declared.export.Call.{Call}
use Rattle.rz_events.specs.declared.events.Event.{Event}
use Rattle.rz_script.specs.declared.line.Line.{Line}
use Rattle.rz_play.specs.World.{World}
use Rattle.rz_play.specs.Played.{PlaysLinesOver}
use Rattle.rz_player.specs.Behind.{Before, behind}
use Rattle.rz_player.specs.Ends.{IsCut, StaysTrue, EndsBy}
use Rattle.rz_player.specs.declared.lines.PlayEnd.{PlayEnd}
use Rattle.rz_player.specs.declared.lines.PlayEnd.TheVariants.{Ended, TooManyTurns, NoMemory, Journal, JournalFull}
use Rattle.rz_request.specs.declared.wishes.Wish.{Wish}
use Rattle.rz_request.specs.declared.wishes.Wish.TheVariants.{Replay, Load, Scrub, First, Again}
use Rattle.rz_events.specs.declared.files.Listed.{Listed}
use Rattle.rz_events.specs.declared.nodes.FetchAnswer.{FetchAnswer}
use Rattle.rz_events.specs.declared.nodes.FetchAnswer.TheVariants as fetch
use Rattle.rz_scrub.specs.Records.{Records, no_records}
use Rattle.rz_words.specs.Grid.{Grid}
use Rattle.rz_scrub_report.specs.Asks.{AreAsked, AreGiven, IsRecordAsked}
use Rattle.rz_scrub_report.specs.Scrubs.{AreListed, AreFindingsTold, AreUnaltered, EachListed, IsScrubbed}
use Rattle.rz_scrub_report.specs.Stores.{HasAsked, AreBinsRead, State}
use Rattle.rz_report.specs.Output.{Lacks, Sunk}
use Rattle.rz_report.specs.Telling.{IsPlayOf, PerformsBehind, Says}
use Rattle.rz_report.specs.Scrubs.{AreFoundFrom, HoldsOfCounts, FindsRecords, IsFoundIn, IsScrubbable, IsSought, BetweenTurns, LeavesStore, anything, seen_in}

-- What was found with some knowledge of what disks give was found, whatever they give.

module _ (layout : Layout) (gives : ℕ → Key → Held → List ℕ → List ℕ → Type 0) where
  read_any : (n : ℕ) (key : Key) (given : FetchAnswer) (before room : List ℕ) → AreBinsRead (anything n key) given before room
  read_any n key (fetch.Held told) before room = tt
  read_any n key _ before room = tt

  asked_any : (l : Listed) (position n : ℕ) (w next : State) (s s' : Records) → IsRecordAsked gives l position n w next s s' → IsRecordAsked anything l position n w next s s'
  asked_any l position n w next s s' a = record {
    given = a.given;
    before = a.before;
    room = a.room;
    fetched = a.fetched;
    read = read_any n l.key a.given a.before a.room;
    records = a.records;
  }

  all_asked_any : (l : Listed) (position : ℕ) (nodes : List ℕ) (w next : State) (s s' : Records) → AreAsked gives l position nodes w next s s' → AreAsked anything l position nodes w next s s'
  all_asked_any l position [] w next s s' a = a
  all_asked_any l position (n ∷ nodes) w next s s' a =
      (a.0, a.1, asked_any l position n w a.0 s a.1 a.2, all_asked_any l (position + 1) nodes a.0 next a.1 s' a.3)

  all_told_any : (blocks : List Listed) (w : State) (text : List ℕ) (next : State) → AreFindingsTold layout gives blocks w text next → AreFindingsTold layout anything blocks w text next
  all_told_any [] w text next t = t
  all_told_any (l ∷ blocks) w text next t =
      let found = t.3 in
      (t.0, t.1, t.2, (found.0, all_asked_any l 0 l.info.places w t.0 (no_records layout) found.0 found.1, found.2), all_told_any blocks t.0 t.2 next t.4, t.5)

  scrubbed_any : (w : State) (text : List ℕ) (next : State) → IsScrubbed layout gives w text next → IsScrubbed layout anything w text next
  scrubbed_any w text next (blocks, listed, told) = (blocks, listed, all_told_any blocks w text next told)

if_ok : {A E : Type 0} {P Q : A → Type 0} (r : Result A E) → ((x : A) → P x → Q x) → IfOk r P → IfOk r Q
if_ok (Ok x) f p = f x p
if_ok (Err e) f p = tt

if_ok_all : {A E : Type 0} (P : A → Before → Type 0) (r : Result A E) (holds : Before → Type 0) → ((b : Before) → holds b → IfOk r (λ x. P x b)) → IfOk r (λ x. (b : Before) → holds b → P x b)
if_ok_all P (Ok x) holds p = p
if_ok_all P (Err e) holds p = tt

module _ {S : Type 0} (tells : Bool) (volume : S → Volume) (world : S → World) (journaled : S → Bool) (is_ready : S → Type 0) (holds : S → Before → Type 0) (described : S → Volume) (state : S → List Event → State)
    (is_open : S → Type 0) (gives : S → ℕ → Key → Held → List ℕ → List ℕ → Type 0) (counts : S → List Event → (ℕ → ℕ) → Type 0) (only_asked : S → S → Type 0)
    (scrubbable : IsScrubbable tells volume world journaled is_ready holds described state is_open gives counts only_asked) where
  -- no line of a scrub of this store, beside these events, says that a record is altered
  abbrev Unaltered : S → List Event → List ℕ → Type 0
  Unaltered old h text = (blocks : List Listed) × AreListed (state old h).export None blocks × AreUnaltered (described old).layout blocks text

  -- the lines that a store's scrub gives are those of the stage, behind each earlier log
  in_stage : (old new : S) (before later : List Event) (text : List ℕ) → (let h = (world old).log ++ before in (IsTrue tells → Unaltered old h text)
      → IsScrubbed (described old).layout (gives old) (state old h) text (state new (later ++ h))
      → IsFoundIn tells (volume old) (behind before (world old)) later text)
  in_stage old new before later text sure told =
      let h : List Event = (world old).log ++ before in
      let U : Volume → State → Type 0 = λ v w. (blocks : List Listed) × AreListed w.export None blocks × AreUnaltered v.layout blocks text in
      let P : Volume → Type 0 = λ v. IsScrubbed v.layout (gives old) (state old h) text (state new (later ++ h)) in
      let Q : State → Type 0 = λ w. IsScrubbed (volume old).layout (gives old) w text (state new (later ++ h)) in record {
        next = state new (later ++ h);
        events_are = ap (λ (w : State). w.events) (scrubbable.state_is new (later ++ h));
        scrubbed = scrubbed_any (volume old).layout (gives old) (seen_in (world old) h) text (state new (later ++ h))
            (subst Q (scrubbable.state_is old h) (subst P (scrubbable.described_is old) told));
        unaltered = λ telling. subst (λ (w : State). U (volume old) w) (scrubbable.state_is old h)
            (subst (λ (v : Volume). U v (state old h)) (scrubbable.described_is old) (sure telling));
      }

  sought : {A E : Type 0} (items : A → List ℕ) (old new : S) (result : Result A E)
      → ((b : Before) → holds old b → (let h = (world old).log ++ b.log in (text : List ℕ) (next : State) → IsScrubbed (described old).layout (gives old) (state old h) text next → IsTrue tells → Unaltered old h text))
      → HasAsked is_open described gives state counts only_asked old new (λ w next. IfOk result (λ (text : A). IsScrubbed (described old).layout (gives old) w (items text) next))
      → FindsRecords tells volume world journaled holds counts only_asked Ended Scrub old new (λ p. IfOk result (λ (lines : A). p (items lines)))
  sought items old new result sure asked = record {
    later = asked.later;
    may = asked.asks;
    volume_is = sym (scrubbable.described_is new) ∙ asked.onward.described_is ∙ scrubbable.described_is old;
    log_is = scrubbable.log_is old new asked.onward.asked;
    journal_is = scrubbable.journal_is old new asked.onward.asked;
    left = inr (refl, refl, asked.onward.asked, λ b held. asked.onward.counted (world old).log b.counts (scrubbable.counted old b held));
    found = if_ok_all (λ text b. IsFoundIn tells (volume old) (behind b.log (world old)) asked.later (items text)) result (holds old)
        (λ b held. if_ok result (λ text told. in_stage old new b.log asked.later (items text) (sure b held (items text) (state new (asked.later ++ ((world old).log ++ b.log))) told) told)
        (asked.told ((world old).log ++ b.log)));
  }

  pub sought_here : {A E : Type 0} (items : A → List ℕ) (end : PlayEnd) (wish : Wish) (old new : S) (result : Result A E) → end ≡ Ended → wish ≡ Scrub
      → ((w next : State) (text : List ℕ) → EachListed w.export (λ l. (g : Grid) × AreGiven (described old).layout (gives old) w.nodes l g) → IsScrubbed (described old).layout (gives old) w text next
      → (blocks : List Listed) × AreListed w.export None blocks × AreUnaltered (described old).layout blocks text)
      → is_ready old → length (world old).log ≤ 2 ^ 62
      → HasAsked is_open described gives state counts only_asked old new (λ w next. IfOk result (λ (text : A). IsScrubbed (described old).layout (gives old) w (items text) next))
      → FindsRecords tells volume world journaled holds counts only_asked end wish old new (λ p. IfOk result (λ (lines : A). p (items lines)))
  sought_here {A = A} items end wish old new result end_is wish_is law ready few asked =
      let F : PlayEnd → Wish → Type 0 = λ e w. FindsRecords tells volume world journaled holds counts only_asked e w old new (λ p. IfOk result (λ (lines : A). p (items lines))) in
      subst (λ (e : PlayEnd). F e wish) (sym end_is) (subst (λ (w : Wish). F Ended w) (sym wish_is)
      (sought items old new result
      (λ b held text next told telling. law (state old ((world old).log ++ b.log)) next text (scrubbable.whole old b ready held telling (all-few b (scrubbable.short old b held))) told) asked))
    where
      all-few : (b : Before) → length b.log < 2 ^ 63 + 512 → length ((world old).log ++ b.log) < 2 ^ 64 - 1
      all-few b short = let all = length-append (world old).log b.log in omega (arith, all, few, short)

-- it was found after the lines, behind each earlier log
module _ (holds held_now : Before → Type 0) (tells : Bool) (v : Volume) (first : World) (lines : List Line) where
  after : (end : PlayEnd) (wish : Wish) (last : World) (later : List Event) (found : List ℕ)
      → (end ≡ Ended → (b : Before) → holds b → PlaysLinesOver v lines tells (behind b.log first) (behind b.log last)) → (end ≡ Ended → StaysTrue holds held_now)
      → IsSought held_now tells v last end wish later found
      → (b : Before) → holds b → AreFoundFrom tells v (behind b.log first) lines end wish (last.log ++ b.log) later found
  after Ended Scrub last later found whole held sought b holding = (behind b.log last, whole refl b holding, refl, sought b (held refl b holding))
  after Ended Replay last later found whole held sought b holding = sought
  after Ended (Load seed) last later found whole held sought b holding = sought
  after Ended First last later found whole held sought b holding = sought
  after Ended Again last later found whole held sought b holding = sought
  after TooManyTurns wish last later found whole held sought b holding = sought
  after NoMemory wish last later found whole held sought b holding = sought
  after Journal wish last later found whole held sought b holding = sought
  after JournalFull wish last later found whole held sought b holding = sought

-- what a stage tells of its own volume is so of the volume that it stands for
pub whole_play : (tells : Bool) (v own : Volume) (first : World) (lines given : List Line) (last : World) → own ≡ v → given ≡ lines
    → PlaysLinesOver own given tells first last → PlaysLinesOver v lines tells first last
whole_play tells v own first lines given last volume_is lines_are whole =
    let P : Volume → Type 0 = λ x. PlaysLinesOver x given tells first last in
    let R : List Line → Type 0 = λ x. PlaysLinesOver v x tells first last in
    subst R lines_are (subst P volume_is whole)

-- what a play leaves between two turns
between : (end : PlayEnd) (so : Type 0) → (end ≡ Ended → so) → (end ≡ TooManyTurns → so) → BetweenTurns end so
between Ended so ended stopped = ended refl
between TooManyTurns so ended stopped = stopped refl
between NoMemory so ended stopped = tt
between Journal so ended stopped = tt
between JournalFull so ended stopped = tt

-- only a play that was cut off ended as the stage says
any-end : (journaled : Bool) (why : PlayEnd) (end : PlayEnd) → end ≡ Ended → EndsBy journaled why end
any-end journaled why Ended is = tt
any-end journaled why TooManyTurns is = tt
any-end journaled why NoMemory is = cc
any-end journaled why Journal is = cc
any-end journaled why JournalFull is = cc

-- what is left of the stage
leaves_so : {S : Type 0} (tells : Bool) (volume : S → Volume) (world : S → World) (journaled : S → Bool) (holds : S → Before → Type 0) (leaves : S → Option Call → Before → Type 0) (counts : S → List Event → (ℕ → ℕ) → Type 0) (only_asked : S → S → Type 0)
    (stops : List Event → Call → Before → Type 0) (end : PlayEnd) (wish : Wish) (first played last : S) (IfFound : (List ℕ → Type 0) → Type 0) → IsCut end (holds first) (leaves played) (stops (world played).log) → (end ≡ Ended → StaysTrue (holds first) (holds played))
    → (end ≡ TooManyTurns → StaysTrue (holds first) (holds played)) → (f : FindsRecords tells volume world journaled holds counts only_asked end wish played last IfFound) → LeavesStore world holds leaves counts only_asked (stops (world last).log) end wish first last f.later
leaves_so {S} tells volume world journaled holds leaves counts only_asked stops end wish first played last IfFound left held stopped f = so f.left
  where
    so : ((f.later ≡ []) × (last ≡ played)) ⊎ ((end ≡ Ended) × (wish ≡ Scrub) × only_asked played last × HoldsOfCounts (holds played) (counts last (f.later ++ (world played).log))) → LeavesStore world holds leaves counts only_asked (stops (world last).log) end wish first last f.later
    so (inl (none, same)) =
        let P : S → Type 0 = λ s. IsCut end (holds first) (leaves s) (stops (world s).log) in
        let Q : S → Type 0 = λ s. BetweenTurns end (StaysTrue (holds first) (holds s)) in
        inl (none, subst P (sym same) left, subst Q (sym same) (between end (StaysTrue (holds first) (holds played)) held stopped))
    so (inr (ended, scrubs, asked, counted)) =
        let P : List Event → Type 0 = λ h. HoldsOfCounts (holds first) (counts last (f.later ++ h)) in
        inr (played, scrubs, held ended, asked, subst P (sym f.log_is) (λ b holding. counted b (held ended b holding)))

-- a play, and what was sought after it, as a performance
module _ {S : Type 0} (tells : Bool) (volume : S → Volume) (world : S → World) (journaled : S → Bool) (was : Bool) (cut_off : S → PlayEnd) (holds : S → Before → Type 0) (leaves : S → Option Call → Before → Type 0) (counts : S → List Event → (ℕ → ℕ) → Type 0)
    (only_asked : S → S → Type 0) (stops : List Event → Call → Before → Type 0) (v : Volume) (lines : List Line) (wish : Wish) (lost : ℕ) (end : PlayEnd) (first played last : S) where
  cut_so : (IfFound : (List ℕ → Type 0) → Type 0) → FindsRecords tells volume world journaled holds counts only_asked end wish played last IfFound → EndsBy was (cut_off played) end → EndsBy was (cut_off last) end
  cut_so IfFound f cut = so f.left
    where
      so : ((f.later ≡ []) × (last ≡ played)) ⊎ ((end ≡ Ended) × (wish ≡ Scrub) × only_asked played last × HoldsOfCounts (holds played) (counts last (f.later ++ (world played).log))) → EndsBy was (cut_off last) end
      so (inl (none, same)) = let P : S → Type 0 = λ s. EndsBy was (cut_off s) end in subst P (sym same) cut
      so (inr (ended, scrubs, asked, counted)) = any-end was (cut_off last) end ended

  pub performed_so : ((b : Before) → holds first b → IsPlayOf tells v (behind b.log (world first)) lines end lost ((world played).log ++ b.log) (world played).log)
      → (end ≡ Ended → (b : Before) → holds first b → PlaysLinesOver v lines tells (behind b.log (world first)) (behind b.log (world played)))
      → volume played ≡ v → EndsBy was (cut_off played) end → IsCut end (holds first) (leaves played) (stops (world played).log)
      → (end ≡ Ended → StaysTrue (holds first) (holds played)) → (end ≡ TooManyTurns → StaysTrue (holds first) (holds played))
      → (IfFound : (List ℕ → Type 0) → Type 0) (f : FindsRecords tells volume world journaled holds counts only_asked end wish played last IfFound) (sink : Sunk) (status : ℕ)
      → ((found : List ℕ) × IsSought (holds played) tells (volume played) (world played) end wish f.later found × Says end wish found (reverse (world last).log) sink status)
      ⊎ Lacks sink status
      → (e : PlayEnd) × (later : List Event) × LeavesStore world holds leaves counts only_asked (stops (world last).log) e wish first last later × EndsBy was (cut_off last) e
      × PerformsBehind (holds first) tells v (world first) lines wish e later lost (world last).log sink status
  performed_so plays whole is_of cut left held stopped IfFound f sink status told =
      let P : List Event → Type 0 = λ h. PerformsBehind (holds first) tells v (world first) lines wish end f.later lost h sink status in
      let at_end : P (world played).log = (f.may, plays, tells_so told) in
      (end, f.later, leaves_so tells volume world journaled holds leaves counts only_asked stops end wish first played last IfFound left held stopped f, cut_so IfFound f cut, subst P (sym f.log_is) at_end)
    where
      tells_so : ((found : List ℕ) × IsSought (holds played) tells (volume played) (world played) end wish f.later found × Says end wish found (reverse (world last).log) sink status)
          ⊎ Lacks sink status
          → ((found : List ℕ) × ((b : Before) → holds first b → AreFoundFrom tells v (behind b.log (world first)) lines end wish ((world played).log ++ b.log) f.later found)
          × Says end wish found (reverse (world played).log) sink status) ⊎ Lacks sink status
      tells_so (inl (found, sought, says)) =
          let Q : Volume → Type 0 = λ x. IsSought (holds played) tells x (world played) end wish f.later found in
          let R : List Event → Type 0 = λ h. Says end wish found (reverse h) sink status in
          inl (found, after (holds first) (holds played) tells v (world first) lines end wish (world played) f.later found whole held (subst Q is_of sought), subst R f.log_is says)
      tells_so (inr lacks) = inr lacks
