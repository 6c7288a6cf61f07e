-- The heads of what nodes are to have are valid.
use Rattle.std.proofs.Common.{◌≡◌, ◌<◌, ℕ, arith, Bool, true, false, cond, List, Option, Some, None, refl, sym, subst}
use Rattle.std.specs.Prelude.{nat_lt, slice_index}
use Rattle.mj_angles.specs.declared.layout.Layout.{Layout}
use Rattle.mj_angles.specs.Layout.{forward_of}
use Rattle.rz_events.specs.declared.keys.Key.{Key}
use Rattle.rz_events.specs.declared.ends.ReadMark.{ReadMark}
use Rattle.rz_events.specs.declared.machines.ReaderAsk.{ReaderAsk}
use Rattle.rz_events.specs.declared.machines.ReaderAsk.TheVariants as reads
use Rattle.rz_events.specs.declared.machines.WriterAsk.{WriterAsk}
use Rattle.rz_events.specs.declared.machines.WriterAsk.TheVariants as writes
use Rattle.rz_client_model.specs.declared.writing.WriterState.{WriterState}
use Rattle.rz_client_model.specs.declared.writing.WriteStage.{WriteStage}
use Rattle.rz_client_model.specs.declared.writing.WriteStage.TheVariants as writing
use Rattle.rz_client_model.specs.declared.reading.ReaderState.{ReaderState}
use Rattle.rz_client_model.specs.declared.reading.ReadStage.{ReadStage}
use Rattle.rz_client_model.specs.declared.reading.ReadStage.TheVariants as reading
use Rattle.rz_client_model.specs.Read.{reader_ask, reader_end, ask_at as reading_ask, end_at as reading_end}
use Rattle.rz_reader.specs.Machine.{IsAskOf as IsReaderAskOf}
use Rattle.rz_client_model.specs.Write.{IsWrite, ask_at, end_at, mask_of, next_position, writer_ask}
use Rattle.rz_writer.specs.Machine.{IsAskOf as IsWriterAskOf}
use Rattle.rz_operation_model.specs.Files.{FileState, Reads, Writes, Ended, ask_to_read, ask_to_write, file_ask}
use Rattle.rz_operation_model.specs.Rebuild.{Rebuild, Going, Ended as RebuildEnded, RebuildState, Probing, Enrolling, Replacing, Listing, Copying, Refilling, Leaving, IsRebuild, rebuild_ask, ask_to_copy}
use Rattle.rz_operation_model.specs.Ask.{ask_of, got, read_asks, write_asks, rebuild_asks}
use Rattle.rz_operation_model.specs.Steps.{in_range, in_rebuild}
use Rattle.rz_file.specs.Machine.{IsUnderWay, IsLaidOut, IsAskOf as IsFileAskOf}
use Rattle.rz_rebuild.specs.Machine.{ask_in, IsUnderWay as IsRebuildUnderWay, IsAskOf as IsRebuildAskOf}
use Rattle.rz_operation_states.specs.Records.{HasHead}
use Rattle.rz_operation_states.specs.Inside.{IsRebuildGoing}

-- A read.

got-none : (layout : Layout) (part : Bool) (key : Key) (end : Option ReadMark) → HasHead layout (got part key end)
got-none layout part key None = tt
got-none layout part key (Some m) = tt

pub read-none : (layout : Layout) (part : Bool) (key : Key) (end : Option ReadMark) (ask : ReaderAsk) → IsReaderAskOf layout ask → HasHead layout (read_asks part key end ask)
read-none layout part key end reads.Look place = tt
read-none layout part key end (reads.Fetch position n stamp) place = place
read-none layout part key end reads.Recheck place = tt
read-none layout part key end reads.End place = got-none layout part key end

-- A write.

module _ (part : Bool) (text : List ℕ) (s : WriterState) where
  at-stage : (at : WriteStage) → IsWrite (record s { stage = at }) → IsWriterAskOf s.layout (writer_ask (record s { stage = at })) →
      HasHead s.layout (write_asks part text (record s { stage = at }) (writer_ask (record s { stage = at })))
  at-stage writing.Beginning write place = tt
  at-stage (writing.Ended e) write place = tt
  at-stage (writing.Sending t) write place = go (nat_lt t.kept (forward_of s.layout)) place
    where
      keep : WriterAsk
      keep = writes.Keep (next_position t) (slice_index s.places (next_position t)) t.stamp t.base

      go : (b : Bool) → IsWriterAskOf s.layout (cond b keep (writes.Publish t.stamp (mask_of t.why))) →
          HasHead s.layout (write_asks part text (record s { stage = writing.Sending t }) (cond b keep (writes.Publish t.stamp (mask_of t.why))))
      go true at =
          let older : t.base < t.stamp = write.within.2 in (
            record {
              some = λ none. omega (arith, older, none);
              bsize = refl;
              position = at;
              fits = write.short;
              older = older;
            },
            refl,
          )
      go false at = tt

  pub write-head : IsWrite s → IsWriterAskOf s.layout (writer_ask s) → HasHead s.layout (write_asks part text s (writer_ask s))
  write-head write place = at-stage s.stage write place

-- A range.

asked-at : (s : WriterState) (at : WriteStage) → IsFileAskOf s.layout (ask_to_write s.key.block (end_at at) (ask_at s at)) → IsWriterAskOf s.layout (ask_at s at)
asked-at s writing.Beginning asked = tt
asked-at s (writing.Sending t) asked = asked
asked-at s (writing.Ended e) asked = tt

read-at : (layout : Layout) (s : ReaderState) (at : ReadStage) → IsFileAskOf layout (ask_to_read s.key.block (reading_end at) (reading_ask s at)) → IsReaderAskOf layout (reading_ask s at)
read-at layout s reading.Looking asked = tt
read-at layout s (reading.Fetching t) asked = asked
read-at layout s (reading.Ended m) asked = tt

pub range-head : (layout : Layout) (state : FileState) → IsUnderWay state → IsLaidOut layout state → IsFileAskOf layout (file_ask state) →
    HasHead layout (ask_of layout (in_range state))
range-head layout (Reads r s) under same place = read-none layout true s.key (reader_end s) (reader_ask s) (read-at layout s s.stage place)
range-head layout (Writes r text s) under same place =
    let asked : IsFileAskOf s.layout (file_ask (Writes r text s)) = subst (λ y. IsFileAskOf y (file_ask (Writes r text s))) (sym same) place in
    subst (λ y. HasHead y (ask_of y (in_range (Writes r text s)))) same (write-head true text s under.0 (asked-at s s.stage asked))
range-head layout (Ended r end) under same place = tt

-- A rebuild.

copy-head : (layout : Layout) (n : ℕ) (key : Key) (ask : ReaderAsk) → IsRebuildAskOf layout (ask_to_copy key ask) → HasHead layout (rebuild_asks layout n (ask_to_copy key ask))
copy-head layout n key reads.Look place = tt
copy-head layout n key (reads.Fetch position m stamp) place = place
copy-head layout n key reads.Recheck place = tt
copy-head layout n key reads.End place = tt

pub rebuild-head : (layout : Layout) (n : ℕ) (s : RebuildState) → IsRebuild layout n s → IsRebuildAskOf layout (rebuild_ask n s) → HasHead layout (rebuild_asks layout n (rebuild_ask n s))
rebuild-head layout n Probing is place = tt
rebuild-head layout n (Enrolling loss) is place = tt
rebuild-head layout n (Replacing loss fence) is place = tt
rebuild-head layout n (Listing t) is place = tt
rebuild-head layout n (Copying t l base s) is place = copy-head layout n l.key (reader_ask s) place
rebuild-head layout n (Refilling t l size base) is place = (
  record {
    some = λ none. omega (arith, is.1, none);
    bsize = refl;
    position = is.0.position;
    fits = is.2;
    older = is.1;
  },
  refl,
)
rebuild-head layout n (Leaving t key why) is place = tt

pub going-head : (layout y : Layout) (n node : ℕ) (state : Rebuild) → y ≡ layout → node ≡ n → IsRebuildGoing state → IsRebuildUnderWay y node state → IsRebuildAskOf y (ask_in node state) →
    HasHead layout (ask_of layout (in_rebuild n state))
going-head layout y n node (Going s) same is going under place =
    let here : IsRebuild layout n s = subst (λ z. IsRebuild layout z s) is (subst (λ z. IsRebuild z node s) same under) in
    let asked : IsRebuildAskOf layout (rebuild_ask n s) = subst (λ z. IsRebuildAskOf layout (rebuild_ask z s)) is (subst (λ z. IsRebuildAskOf z (rebuild_ask node s)) same place) in
    rebuild-head layout n s here asked
going-head layout y n node (RebuildEnded end) same is going under place = absurd going
