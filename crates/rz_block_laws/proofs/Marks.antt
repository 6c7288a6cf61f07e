-- What an operation says of a block that it read.
use Rattle.std.proofs.Common.{◌≡◌, ℕ, Bool, true, false, cond, ◌==◌, List, Option, Some, None, subst}
use Rattle.std.specs.Prelude.{slice_index}
use Rattle.mj_angles.specs.declared.layout.Layout.{Layout}
use Rattle.mj_inverse.specs.Fits.{Pair}
use Rattle.rz_words.specs.Grid.{Grid}
use Rattle.rz_events.specs.Volume.{Volume}
use Rattle.rz_events.specs.declared.keys.Key.{Key}
use Rattle.rz_events.specs.declared.ends.ReadMark.{ReadMark}
use Rattle.rz_events.specs.declared.ends.ReadMark.TheVariants as mark
use Rattle.rz_events.specs.declared.ends.WriteEnd.{WriteEnd}
use Rattle.rz_events.specs.declared.ends.LeftWhy.{LeftWhy}
use Rattle.rz_events.specs.declared.ends.LeftWhy.TheVariants as left
use Rattle.rz_events.specs.declared.machines.ReaderAsk.{ReaderAsk}
use Rattle.rz_events.specs.declared.machines.ReaderAsk.TheVariants as reads
use Rattle.rz_events.specs.declared.machines.WriterAsk.{WriterAsk}
use Rattle.rz_events.specs.declared.machines.WriterAsk.TheVariants as writes
use Rattle.rz_events.specs.declared.events.Answer.{Answer}
use Rattle.rz_client_model.specs.declared.reading.ReaderState.{ReaderState}
use Rattle.rz_client_model.specs.declared.reading.ReadStage.{ReadStage}
use Rattle.rz_client_model.specs.declared.reading.ReadStage.TheVariants.{Looking, Fetching, Ended}
use Rattle.rz_client_model.specs.declared.writing.WriterState.{WriterState}
use Rattle.rz_client_model.specs.Read.{ask_at, end_at, next_position, reader_ask}
use Rattle.rz_client_model.specs.Write.{writer_ask, writer_end}
use Rattle.rz_operation_model.specs.Work.{Work, RangePlan, WriteBytes, ReadBytes, Calling, Dropping, Opening, Locking, Writing, Reading, Rebuilding, Ending, Over}
use Rattle.rz_operation_model.specs.Rebuild.{Probing, Enrolling, Replacing, Listing, Copying, Refilling, Leaving, ask_to_copy}
use Rattle.rz_operation_model.specs.Ask.{Say, Saying, SayGot, SayGave, SayLeft, SayDone, ask_of, is_part, gave, read_asks, write_asks, rebuild_asks, lock_asks}
use Rattle.rz_core.specs.History.{Facts}
use Rattle.rz_block_laws.specs.InHand.{IsInHand, IsReadInHand, IsRebuildInHand}
use Rattle.rz_block_laws.specs.Laws.{IsFittingLaw}

-- a bad word: that the records fit no block
pub data IsBad : Saying → Type 0 where
  bad-got : (key : Key) (part : Bool) → IsBad (SayGot key part mark.Inconsistent)
  bad-left : (key : Key) → IsBad (SayLeft key left.Inconsistent)

-- the saying is not bad, whatever is asked
same-saying : (s t : Saying) → Say s ≡ Say t → s ≡ t
same-saying s t is = cc

not-got : (s : Saying) → IsBad s → (key : Key) (part : Bool) (e : ReadMark) → SayGot key part e ≡ s → e ≡ mark.Inconsistent
not-got _ (bad-got k p) key part e is = cc
not-got _ (bad-left k) key part e is = absurd (cc)

not-left : (s : Saying) → IsBad s → (key : Key) (why : LeftWhy) → SayLeft key why ≡ s → why ≡ left.Inconsistent
not-left _ (bad-got k p) key why is = absurd (cc)
not-left _ (bad-left k) key why is = cc

not-gave : (s : Saying) → IsBad s → (key : Key) (part : Bool) (e : WriteEnd) → SayGave key part e ≡ s → ⊥
not-gave _ (bad-got k p) key part e is = absurd (cc)
not-gave _ (bad-left k) key part e is = absurd (cc)

not-done : (s : Saying) → IsBad s → (answer : Answer) → SayDone answer ≡ s → ⊥
not-done _ (bad-got k p) answer is = absurd (cc)
not-done _ (bad-left k) answer is = absurd (cc)

module _ (y : Layout) (f : Facts) (pairs : List Pair) (block : Option Grid) (s : Saying) (bad : IsBad s) where
  lock-fits : (z : Layout) (path : List ℕ) (plan : RangePlan) → lock_asks z path plan ≡ Say s → ⊥
  lock-fits z path (WriteBytes offset bytes) is = absurd (cc)
  lock-fits z path (ReadBytes offset count) is = absurd (cc)

  gave-fits : (part : Bool) (key : Key) (e : Option WriteEnd) → gave part key e ≡ Say s → ⊥
  gave-fits part key None is = absurd (cc)
  gave-fits part key (Some e) is = not-gave s bad key part e (same-saying (SayGave key part e) s is)

  write-fits : (part : Bool) (text : List ℕ) (w : WriterState) (a : WriterAsk) → write_asks part text w a ≡ Say s → ⊥
  write-fits part text w (writes.Begin size) is = absurd (cc)
  write-fits part text w (writes.Keep position n stamp base) is = absurd (cc)
  write-fits part text w (writes.Publish stamp mask) is = absurd (cc)
  write-fits part text w writes.End is = gave-fits part w.key (writer_end w) is

  read-fits : (part : Bool) (r : ReaderState) (stage : ReadStage) → IsReadInHand y f r.key pairs block stage
      → read_asks part r.key (end_at stage) (ask_at r stage) ≡ Say s → ⊥
  read-fits part r Looking hand is = absurd (cc)
  read-fits part r (Fetching t) hand is = go (t.left == 0) is
    where
      go : (b : Bool) → read_asks part r.key None (cond b reads.Recheck (reads.Fetch (next_position t) (slice_index r.places (next_position t)) t.stamp)) ≡ Say s → ⊥
      go true is = absurd (cc)
      go false is = absurd (cc)
  read-fits part r (Ended e) hand is =
      subst (λ (m : ReadMark). IsReadInHand y f r.key pairs block (Ended m)) (not-got s bad r.key part e (same-saying (SayGot r.key part e) s is)) hand

  copy-fits : (z : Layout) (n : ℕ) (key : Key) (a : ReaderAsk) → rebuild_asks z n (ask_to_copy key a) ≡ Say s → ⊥
  copy-fits z n key reads.Look is = absurd (cc)
  copy-fits z n key (reads.Fetch position m stamp) is = absurd (cc)
  copy-fits z n key reads.Recheck is = absurd (cc)
  copy-fits z n key reads.End is = absurd (cc)

  pub fits : (z : Layout) (work : Work) → IsInHand y f work pairs block → ask_of z work ≡ Say s → ⊥
  fits z (Calling c) hand is = absurd (cc)
  fits z (Dropping fid n places) hand is = absurd (cc)
  fits z (Opening path plan) hand is = absurd (cc)
  fits z (Locking path plan) hand is = lock-fits z path plan is
  fits z (Writing course text w) hand is = write-fits (is_part course) text w (writer_ask w) is
  fits z (Reading course r) hand is = read-fits (is_part course) r r.stage hand is
  fits z (Rebuilding n Probing) hand is = absurd (cc)
  fits z (Rebuilding n (Enrolling loss)) hand is = absurd (cc)
  fits z (Rebuilding n (Replacing loss fence)) hand is = absurd (cc)
  fits z (Rebuilding n (Listing t)) hand is = absurd (cc)
  fits z (Rebuilding n (Copying t l base r)) hand is = copy-fits z n l.key (reader_ask r) is
  fits z (Rebuilding n (Refilling t l size base)) hand is = absurd (cc)
  fits z (Rebuilding n (Leaving t key why)) hand is =
      subst (λ (w : LeftWhy). IsRebuildInHand y f pairs block (Leaving t key w)) (not-left s bad key why (same-saying (SayLeft key why) s is)) hand
  fits z (Ending answer) hand is = not-done s bad answer (same-saying (SayDone answer) s is)
  fits z Over hand is = absurd (cc)

pub fitting-law : (v : Volume) → IsFittingLaw v
fitting-law v f m hand key = (
  λ part is. fits v.layout f m.pairs m.block (SayGot key part mark.Inconsistent) (bad-got key part) m.layout m.work hand is,
  λ is. fits v.layout f m.pairs m.block (SayLeft key left.Inconsistent) (bad-left key) m.layout m.work hand is,
)
