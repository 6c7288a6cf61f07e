-- A text that an operation found is that of the write.
use Rattle.std.proofs.Common.{◌≡◌, ℕ, Bool, true, false, cond, ◌==◌, ◌*◌, ◌≤◌, List, length, take, Option, Some, None, refl, sym, ◌∙◌, ap, subst}
use Rattle.std.specs.Prelude.{slice_index, IsSomeAnd}
use Rattle.mj_angles.specs.declared.layout.Layout.{Layout}
use Rattle.mj_angles.specs.declared.layout.Layout.TheVariants as layouts
use Rattle.mj_angles.specs.Layout.{inverse_of, cols_of, block_bytes_of}
use Rattle.rz_words.specs.Grid.{Grid, bytes_from}
use Rattle.rz_words.proofs.Little.{bytes_from-words_from}
use Rattle.rz_events.specs.declared.keys.Key.{Key}
use Rattle.rz_events.specs.declared.ends.ReadMark.{ReadMark}
use Rattle.rz_events.specs.declared.ends.ReadMark.TheVariants as mark
use Rattle.rz_events.specs.declared.ends.WriteEnd.{WriteEnd}
use Rattle.rz_events.specs.declared.machines.ReaderAsk.{ReaderAsk}
use Rattle.rz_events.specs.declared.machines.ReaderAsk.TheVariants as reads
use Rattle.rz_events.specs.declared.machines.WriterAsk.{WriterAsk}
use Rattle.rz_events.specs.declared.machines.WriterAsk.TheVariants as writes
use Rattle.rz_client_model.specs.declared.reading.ReaderState.{ReaderState}
use Rattle.rz_client_model.specs.declared.reading.ReadStage.{ReadStage}
use Rattle.rz_client_model.specs.declared.reading.ReadStage.TheVariants.{Looking, Fetching, Ended}
use Rattle.rz_client_model.specs.declared.writing.WriterState.{WriterState}
use Rattle.rz_client_model.specs.Read.{ask_at, end_at, next_position, reader_ask}
use Rattle.rz_client_model.specs.Write.{writer_ask, writer_end}
use Rattle.rz_operation_model.specs.Work.{Work, RangePlan, WriteBytes, ReadBytes, Calling, Dropping, Opening, Locking, Writing, Reading, Rebuilding, Ending, Over}
use Rattle.rz_operation_model.specs.Rebuild.{Probing, Enrolling, Replacing, Listing, Copying, Refilling, Leaving, ask_to_copy}
use Rattle.rz_operation_model.specs.Ask.{Say, Saying, SayGot, SayGave, SayLeft, SayDone, ask_of, is_part, gave, read_asks, write_asks, rebuild_asks, lock_asks}
use Rattle.rz_operation.specs.Machine.{text_found}
use Rattle.rz_operation.specs.Machine as machine
use Rattle.rz_core.specs.History.{Facts, Begun, text_in}
use Rattle.rz_core.specs.HeldRecords.{block_of}
use Rattle.rz_play.specs.Turns.{found_text, text_said}
use Rattle.rz_block_laws.specs.InHand.{IsInHand, IsReadInHand, IsWriteBlock}
use Rattle.rz_block_laws.specs.Acting.{IsTextKnown, KnowsText, KnowsTexts}

-- ---- the bytes of a block are those of its text

pub room : (y : Layout) → block_bytes_of y ≡ 8 * (inverse_of y * cols_of y)
room layouts.L0 = refl
room layouts.L1 = refl
room layouts.L2 = refl
room layouts.L0B1 = refl
room layouts.L0B2 = refl
room layouts.L0B3 = refl
room layouts.L1B1 = refl
room layouts.L1B2 = refl
room layouts.L1B3 = refl
room layouts.L2B1 = refl
room layouts.L2B2 = refl
room layouts.L2B3 = refl

pub same-begun : (a b : Begun) → Some a ≡ Some b → a ≡ b
same-begun a b is = cc

module _ (y : Layout) (f : Facts) (key : Key) (stamp size : ℕ) (known : IsTextKnown f stamp) (long : size ≡ length known.begun.text) (short : length known.begun.text ≤ block_bytes_of y) where
  -- the block that was found
  found : (block : Option Grid) → IsSomeAnd block (IsWriteBlock y f key stamp) → text_found (mark.Found stamp size) block ≡ text_in (f.wrote stamp)
  found None is = absurd is
  found (Some g) is =
      let same : is.begun ≡ known.begun = same-begun is.begun known.begun (sym is.wrote ∙ known.wrote) in
      let block_is : g ≡ block_of y known.begun.text = is.block_is ∙ ap (λ (b : Begun). block_of y b.text) same in
      ap (λ (h : Grid). take size (bytes_from h.words)) block_is
      ∙ bytes_from-words_from known.begun.text (inverse_of y * cols_of y) size known.bytes (sym long) (subst (λ (n : ℕ). n ≤ 8 * (inverse_of y * cols_of y)) (sym long) (subst (λ (n : ℕ). length known.begun.text ≤ n) (room y) short))
      ∙ ap text_in (sym known.wrote)

-- ---- what is said

pub same-saying : (a b : Saying) → Say a ≡ Say b → a ≡ b
same-saying a b is = cc

module _ (y : Layout) (f : Facts) (block : Option Grid) (s : Saying) where
  -- what would be said of it is so
  abbrev Right : Type 0
  Right = machine.text_said block s ≡ text_said f s

  gave-right : (part : Bool) (key : Key) (e : Option WriteEnd) → gave part key e ≡ Say s → Right
  gave-right part key None is = absurd cc
  gave-right part key (Some e) is = subst (λ (z : Saying). machine.text_said block z ≡ text_said f z) (same-saying (SayGave key part e) s is) refl

  write-right : (part : Bool) (text : List ℕ) (w : WriterState) (a : WriterAsk) → write_asks part text w a ≡ Say s → Right
  write-right part text w (writes.Begin size) is = absurd cc
  write-right part text w (writes.Keep position n stamp base) is = absurd cc
  write-right part text w (writes.Publish stamp mask) is = absurd cc
  write-right part text w writes.End is = gave-right part w.key (writer_end w) is

  module _ (pairs : _) (short : (stamp : ℕ) (b : Begun) → f.wrote stamp ≡ Some b → length b.text ≤ block_bytes_of y) where
    found-right : (key : Key) (m : ReadMark) → IsReadInHand y f key pairs block (Ended m) → KnowsText f (Ended m) → text_found m block ≡ found_text f m
    found-right key (mark.Found stamp size) hand knows = found y f key stamp size knows.0 knows.1 (short stamp knows.0.begun knows.0.wrote) block hand
    found-right key mark.Hole hand knows = refl
    found-right key (mark.TooFew seen) hand knows = refl
    found-right key mark.Inconsistent hand knows = refl
    found-right key (mark.Denied why) hand knows = refl
    found-right key (mark.Moved was now) hand knows = refl

    read-right : (part : Bool) (r : ReaderState) (stage : ReadStage) → IsReadInHand y f r.key pairs block stage → KnowsText f stage → read_asks part r.key (end_at stage) (ask_at r stage) ≡ Say s → Right
    read-right part r Looking hand knows is = absurd cc
    read-right part r (Fetching t) hand knows is = go (t.left == 0) is
      where
        go : (b : Bool) → read_asks part r.key None (cond b reads.Recheck (reads.Fetch (next_position t) (slice_index r.places (next_position t)) t.stamp)) ≡ Say s → Right
        go true is = absurd cc
        go false is = absurd cc
    read-right part r (Ended m) hand knows is =
        subst (λ (z : Saying). machine.text_said block z ≡ text_said f z) (same-saying (SayGot r.key part m) s is) (found-right r.key m hand knows)

    pub right : (z : Layout) (work : Work) → IsInHand y f work pairs block → KnowsTexts f work → ask_of z work ≡ Say s → Right
    right z (Calling c) hand knows is = absurd cc
    right z (Dropping fid n places) hand knows is = absurd cc
    right z (Opening path plan) hand knows is = absurd cc
    right z (Locking path plan) hand knows is = locking path plan is
      where
        locking : (path : List ℕ) (plan : RangePlan) → lock_asks z path plan ≡ Say s → Right
        locking path (WriteBytes offset bytes) is = absurd cc
        locking path (ReadBytes offset count) is = absurd cc
    right z (Writing course text w) hand knows is = write-right (is_part course) text w (writer_ask w) is
    right z (Reading course r) hand knows is = read-right (is_part course) r r.stage hand knows is
    right z (Rebuilding n Probing) hand knows is = absurd cc
    right z (Rebuilding n (Enrolling loss)) hand knows is = absurd cc
    right z (Rebuilding n (Replacing loss fence)) hand knows is = absurd cc
    right z (Rebuilding n (Listing t)) hand knows is = absurd cc
    right z (Rebuilding n (Copying t l base r)) hand knows is = copying l.key (reader_ask r) is
      where
        copying : (key : Key) (a : ReaderAsk) → rebuild_asks z n (ask_to_copy key a) ≡ Say s → Right
        copying key reads.Look is = absurd cc
        copying key (reads.Fetch position m stamp) is = absurd cc
        copying key reads.Recheck is = absurd cc
        copying key reads.End is = absurd cc
    right z (Rebuilding n (Refilling t l size base)) hand knows is = absurd cc
    right z (Rebuilding n (Leaving t key why)) hand knows is = subst (λ (z : Saying). machine.text_said block z ≡ text_said f z) (same-saying (SayLeft key why) s is) refl
    right z (Ending answer) hand knows is = subst (λ (z : Saying). machine.text_said block z ≡ text_said f z) (same-saying (SayDone answer) s is) refl
    right z Over hand knows is = absurd cc
