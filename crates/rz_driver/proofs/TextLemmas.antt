-- A text that is said is that of the write which it names, by the whole log.
use Rattle.std.proofs.Common.{◌≡◌, inl, inr, ℕ, Bool, true, false, cond, ◌==◌, ◌*◌, ◌<◌, ◌≤◌, List, [], ◌∷◌, length, take, Option, Some, None, refl, sym, ◌∙◌, ap, subst}
use Rattle.std.specs.Prelude.{slice_index, IsSomeAnd}
use Rattle.std.specs.List.{All}
use Rattle.mj_angles.specs.declared.layout.Layout.{Layout}
use Rattle.mj_angles.specs.Layout.{inverse_of, cols_of, block_bytes_of}
use Rattle.mj_inverse.specs.Fits.{Pair}
use Rattle.rz_words.specs.Grid.{Grid, bytes_from}
use Rattle.rz_words.proofs.Little.{bytes_from-words_from}
use Rattle.rz_events.specs.Volume.{Volume}
use Rattle.rz_events.specs.declared.keys.Key.{Key}
use Rattle.rz_events.specs.declared.events.Event.{Event}
use Rattle.rz_events.specs.declared.events.Event.TheVariants as e
use Rattle.rz_events.specs.declared.ends.ReadMark.{ReadMark}
use Rattle.rz_events.specs.declared.ends.ReadMark.TheVariants as mark
use Rattle.rz_events.specs.declared.ends.WriteEnd.{WriteEnd}
use Rattle.rz_events.specs.declared.machines.ReaderAsk.{ReaderAsk}
use Rattle.rz_events.specs.declared.machines.ReaderAsk.TheVariants as reads
use Rattle.rz_events.specs.declared.machines.WriterAsk.{WriterAsk}
use Rattle.rz_events.specs.declared.machines.WriterAsk.TheVariants as writes
use Rattle.rz_client_model.specs.declared.reading.ReaderState.{ReaderState}
use Rattle.rz_client_model.specs.declared.reading.ReadStage.{ReadStage}
use Rattle.rz_client_model.specs.declared.reading.ReadStage.TheVariants.{Looking, Fetching, Ended}
use Rattle.rz_client_model.specs.declared.writing.WriterState.{WriterState}
use Rattle.rz_client_model.specs.Read.{ask_at, end_at, next_position, reader_ask}
use Rattle.rz_client_model.specs.Write.{writer_ask, writer_end}
use Rattle.rz_operation_model.specs.Work.{Work, RangePlan, WriteBytes, ReadBytes, Calling, Dropping, Opening, Locking, Writing, Reading, Rebuilding, Ending, Over}
use Rattle.rz_operation_model.specs.Rebuild.{Probing, Enrolling, Replacing, Listing, Copying, Refilling, Leaving, ask_to_copy}
use Rattle.rz_operation_model.specs.Ask.{Say, Saying, SayGot, SayGave, SayLeft, SayDone, ask_of, is_part, gave, read_asks, write_asks, rebuild_asks, lock_asks}
use Rattle.rz_operation.specs.Machine.{text_found}
use Rattle.rz_operation.specs.Machine as machine
use Rattle.rz_core.specs.History.{Facts, Begun, facts, wrote, text_in}
use Rattle.rz_core.specs.HeldRecords.{block_of}
use Rattle.rz_core.specs.Legal.{IsLegalInRuns}
use Rattle.rz_core.proofs.Stamps.{wrote-cases, begun_by-is}
use Rattle.rz_play.specs.Turns.{text_said}
use Rattle.rz_block_laws.specs.InHand.{IsInHand, IsReadInHand, IsWriteBlock}
use Rattle.rz_block_laws.proofs.Sayings.{room, same-begun, same-saying}
use Rattle.rz_driver.specs.Coherence.{KnowsLength, KnowsLengths}
use Rattle.rz_block_laws.specs.Acting.{AreBytes}

-- each text that began has at most a block's bytes
pub short-text : (v : Volume) (h : List Event) → IsLegalInRuns v h → (s : ℕ) (b : Begun) → wrote h s ≡ Some b → length b.text ≤ block_bytes_of v.layout
short-text v [] legal s b k = cc
short-text v (e.Begin by at stamp base text ∷ h) legal s b k =
    elim (wrote-cases (e.Begin by at stamp base text) h s b k) [
      | inl old ↦ short-text v h legal.0 s b old
      | inr new ↦ (let same = begun_by-is s (e.Begin by at stamp base text) b new in let t : text ≡ b.text = cc in subst (λ (l : List ℕ). length l ≤ block_bytes_of v.layout) t legal.1.row.short)
    ]
short-text v (x ∷ h) legal s b k = elim (wrote-cases x h s b k) [ inl old ↦ short-text v h legal.0 s b old | inr new ↦ cc ]

-- ---- the bytes of a block are those of its text

module _ (y : Layout) (f : Facts) (key : Key) (stamp size : ℕ) (b : Begun) (known : f.wrote stamp ≡ Some b) (bytes : All (λ x. x < 256) b.text) (long : size ≡ length b.text) (short : length b.text ≤ block_bytes_of y) where
  -- the block that was found
  found : (block : Option Grid) → IsSomeAnd block (IsWriteBlock y f key stamp) → text_found (mark.Found stamp size) block ≡ text_in (f.wrote stamp)
  found None is = absurd is
  found (Some g) is =
      let same : is.begun ≡ b = same-begun is.begun b (sym is.wrote ∙ known) in
      let block_is : g ≡ block_of y b.text = is.block_is ∙ ap (λ (o : Begun). block_of y o.text) same in
      ap (λ (h : Grid). take size (bytes_from h.words)) block_is
      ∙ bytes_from-words_from b.text (inverse_of y * cols_of y) size bytes (sym long) (subst (λ (n : ℕ). n ≤ 8 * (inverse_of y * cols_of y)) (sym long) (subst (λ (n : ℕ). length b.text ≤ n) (room y) short))
      ∙ ap text_in (sym known)

-- ---- what is said

module _ (y : Layout) (whole : List Event) (block : Option Grid) (pairs : List Pair) where
  abbrev f : Facts
  f = facts whole

  -- what is said of it is so by the whole log
  abbrev Goes : Saying → Type 0
  Goes s = machine.text_said block s ≡ text_said f s

  gave-right : (s : Saying) (part : Bool) (key : Key) (end : Option WriteEnd) → gave part key end ≡ Say s → Goes s
  gave-right s part key None is = absurd cc
  gave-right s part key (Some end) is = subst Goes (same-saying (SayGave key part end) s is) refl

  write-right : (s : Saying) (part : Bool) (text : List ℕ) (w : WriterState) (a : WriterAsk) → write_asks part text w a ≡ Say s → Goes s
  write-right s part text w (writes.Begin size) is = absurd cc
  write-right s part text w (writes.Keep position n stamp base) is = absurd cc
  write-right s part text w (writes.Publish stamp mask) is = absurd cc
  write-right s part text w writes.End is = gave-right s part w.key (writer_end w) is

  module _ (bytes : AreBytes f) (short : (stamp : ℕ) (b : Begun) → f.wrote stamp ≡ Some b → length b.text ≤ block_bytes_of y) where
    found-right : (key : Key) (part : Bool) (m : ReadMark) → IsReadInHand y f key pairs block (Ended m) → KnowsLength f (Ended m) → Goes (SayGot key part m)
    found-right key part (mark.Found stamp size) hand knows =
        found y f key stamp size knows.0 knows.1 (bytes stamp knows.0 knows.1) knows.2 (short stamp knows.0 knows.1) block hand
    found-right key part mark.Hole hand knows = refl
    found-right key part (mark.TooFew seen) hand knows = refl
    found-right key part mark.Inconsistent hand knows = refl
    found-right key part (mark.Denied why) hand knows = refl
    found-right key part (mark.Moved was now) hand knows = refl

    read-right : (s : Saying) (part : Bool) (r : ReaderState) (stage : ReadStage) → IsReadInHand y f r.key pairs block stage → KnowsLength f stage → read_asks part r.key (end_at stage) (ask_at r stage) ≡ Say s → Goes s
    read-right s part r Looking hand knows is = absurd cc
    read-right s part r (Fetching t) hand knows is = go (t.left == 0) is
      where
        go : (b : Bool) → read_asks part r.key None (cond b reads.Recheck (reads.Fetch (next_position t) (slice_index r.places (next_position t)) t.stamp)) ≡ Say s → Goes s
        go true is = absurd cc
        go false is = absurd cc
    read-right s part r (Ended m) hand knows is = subst Goes (same-saying (SayGot r.key part m) s is) (found-right r.key part m hand knows)

    pub right : (s : Saying) (z : Layout) (work : Work) → IsInHand y f work pairs block → KnowsLengths f work → ask_of z work ≡ Say s → Goes s
    right s z (Calling c) hand knows is = absurd cc
    right s z (Dropping fid n places) hand knows is = absurd cc
    right s z (Opening path plan) hand knows is = absurd cc
    right s z (Locking path plan) hand knows is = locking path plan is
      where
        locking : (path : List ℕ) (plan : RangePlan) → lock_asks z path plan ≡ Say s → Goes s
        locking path (WriteBytes offset bytes) is = absurd cc
        locking path (ReadBytes offset count) is = absurd cc
    right s z (Writing course text w) hand knows is = write-right s (is_part course) text w (writer_ask w) is
    right s z (Reading course r) hand knows is = read-right s (is_part course) r r.stage hand knows is
    right s z (Rebuilding n Probing) hand knows is = absurd cc
    right s z (Rebuilding n (Enrolling loss)) hand knows is = absurd cc
    right s z (Rebuilding n (Replacing loss fence)) hand knows is = absurd cc
    right s z (Rebuilding n (Listing t)) hand knows is = absurd cc
    right s z (Rebuilding n (Copying t l base r)) hand knows is = copying l.key (reader_ask r) is
      where
        copying : (key : Key) (a : ReaderAsk) → rebuild_asks z n (ask_to_copy key a) ≡ Say s → Goes s
        copying key reads.Look is = absurd cc
        copying key (reads.Fetch position m stamp) is = absurd cc
        copying key reads.Recheck is = absurd cc
        copying key reads.End is = absurd cc
    right s z (Rebuilding n (Refilling t l size base)) hand knows is = absurd cc
    right s z (Rebuilding n (Leaving t key why)) hand knows is = subst Goes (same-saying (SayLeft key why) s is) refl
    right s z (Ending answer) hand knows is = subst Goes (same-saying (SayDone answer) s is) refl
    right s z Over hand knows is = absurd cc
