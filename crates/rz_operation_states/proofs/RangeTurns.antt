-- A turn of a range is one of its operation.
use Rattle.std.proofs.Common.{◌≡◌, ℕ, true, List, [], Bool, Option, Some, None, ap, subst, sym, ◌∙◌, refl}
use Rattle.mj_inverse.specs.Fits.{Pair}
use Rattle.mj_angles.specs.declared.layout.Layout.{Layout}
use Rattle.rz_words.specs.Grid.{Grid}
use Rattle.rz_events.specs.declared.ends.ReadMark.{ReadMark}
use Rattle.rz_events.specs.declared.ends.ReadMark.TheVariants as mark
use Rattle.rz_events.specs.declared.ends.WriteEnd.{WriteEnd}
use Rattle.rz_events.specs.declared.export.Reply.{Reply}
use Rattle.rz_events.specs.declared.export.Reply.TheVariants as reply
use Rattle.rz_events.specs.declared.files.FileInfo.{FileInfo}
use Rattle.rz_events.specs.declared.nodes.FetchAnswer.{FetchAnswer}
use Rattle.rz_events.specs.declared.nodes.NodeAnswer.{NodeAnswer}
use Rattle.rz_events.specs.declared.nodes.NodeAnswer.TheVariants as node
use Rattle.rz_events.specs.declared.machines.ReaderAnswer.TheVariants as reads
use Rattle.rz_events.specs.declared.machines.WriterAnswer.TheVariants as writes
use Rattle.rz_events.specs.declared.machines.FileAsk.{FileAsk}
use Rattle.rz_events.specs.declared.machines.FileAsk.TheVariants as asks
use Rattle.rz_events.specs.declared.machines.FileAnswer.{FileAnswer}
use Rattle.rz_events.specs.declared.machines.FileAnswer.TheVariants as files
use Rattle.rz_client_model.specs.declared.reading.ReaderState.{ReaderState}
use Rattle.rz_client_model.specs.declared.reading.ReadStage.{ReadStage}
use Rattle.rz_client_model.specs.declared.reading.ReadStage.TheVariants as reading
use Rattle.rz_client_model.specs.declared.writing.WriterState.{WriterState}
use Rattle.rz_client_model.specs.Read.{reader_ask, reader_end}
use Rattle.rz_client_model.specs.Write.{writer_ask, writer_end}
use Rattle.rz_reader.specs.Machine.{AreFitting}
use Rattle.rz_operation_model.specs.Ranges.{RangeState}
use Rattle.rz_operation_model.specs.Files.{FileState, Reads, Writes, Ended, ask_to_read, ask_to_write, after_part, after_written_block, file_ask, file_told}
use Rattle.rz_operation_model.specs.Work.{RangePlan, WriteBytes, ReadBytes, Within, Reading, Writing}
use Rattle.rz_operation_model.specs.Ask.{ask_of}
use Rattle.rz_operation_model.specs.Steps.{Told, Replied, Answered, Missed, Noted, told, in_range, range_planned, reader_after, writer_after, said_writing}
use Rattle.rz_file.specs.Machine.{Machine as FileMachine, begun, IsRangeAfter as FileGoes, FitsIfEnough as IsFileAnswered, text_in, text_found as found_text, pairs_in as file_pairs, IsBlockIn as IsFileBlock, pairs_fetched as file_fetched}
use Rattle.rz_operation_states.specs.declared.stage.OperationState.{OperationState}
use Rattle.rz_operation_states.specs.declared.stage.OperationState.TheVariants as stage
use Rattle.rz_operation_states.specs.Machine.{text_found, text_asked}
use Rattle.rz_operation_states.specs.Told.{read_answer, write_answer, as_read, as_write, reply_to, range_reply, range_told, miss_to, range_miss}
use Rattle.rz_operation_states.specs.Answers.{MayMiss, pairs_in, pairs_fetched, IsBlockIn, IsWorkAfter, FitsIfEnough}
use Rattle.rz_operation_states.specs.Inside.{IsRangeOpen, IsRangeStage, IsOperationState, machine_of, work_of}

-- Pairs and block are those of the range.

same-pairs : (state : FileState) (had : List Pair) → file_pairs state had ≡ pairs_in (in_range state) had
same-pairs (Reads r s) had = refl
same-pairs (Writes r text s) had = refl
same-pairs (Ended r end) had = refl

same-block : (layout : Layout) (state : FileState) (had : List Pair) (block : Option Grid) → IsFileBlock layout had state block →
    IsBlockIn layout had (in_range state) block
same-block layout (Reads r s) had block h = h
same-block layout (Writes r text s) had block h = h
same-block layout (Ended r end) had block h = h

same-fetched : (layout : Layout) (state : FileState) (pairs : List Pair) (a : FetchAnswer) (bins : List ℕ) →
    file_fetched layout state pairs a bins ≡ pairs_fetched layout (in_range state) pairs a bins
same-fetched layout (Reads r s) pairs a bins = refl
same-fetched layout (Writes r text s) pairs a bins = refl
same-fetched layout (Ended r end) pairs a bins = refl

-- How the operation goes on.

settled-goes : (file new_file : FileMachine) (had : List Pair) (t : Told) (next : FileState) (new : OperationState) → FileGoes file had next new_file →
    told file.layout (in_range file.state) t ≡ in_range next → IsRangeStage new_file new_file.state new →
    IsWorkAfter (machine_of file.layout (stage.Ranging file)) had t (machine_of file.layout new)
settled-goes file new_file had t next new goes same is = go new_file.state refl is
  where
    under-way : new ≡ stage.Ranging new_file → IsWorkAfter (machine_of file.layout (stage.Ranging file)) had t (machine_of file.layout new)
    under-way here =
        subst (λ (x : OperationState). IsWorkAfter (machine_of file.layout (stage.Ranging file)) had t (machine_of file.layout x)) (sym here)
        (record {
          layout = refl;
          work = ap in_range goes.state ∙ sym same;
          pairs = goes.pairs ∙ same-pairs new_file.state had;
          block = same-block file.layout new_file.state had new_file.block goes.block;
        })

    go : (state : FileState) → new_file.state ≡ state → IsRangeStage new_file state new → IsWorkAfter (machine_of file.layout (stage.Ranging file)) had t (machine_of file.layout new)
    go (Reads r s) at here = under-way here
    go (Writes r text s) at here = under-way here
    go (Ended r end) at here =
        subst (λ (x : OperationState). IsWorkAfter (machine_of file.layout (stage.Ranging file)) had t (machine_of file.layout x)) (sym here)
        (record {
          layout = refl;
          work = ap in_range (sym at ∙ goes.state) ∙ sym same;
          pairs = refl;
          block = refl;
        })

pub settled-inside : (y : Layout) (file : FileMachine) (state : FileState) (new : OperationState) → file.layout ≡ y → file.state ≡ state → IsRangeStage file state new → IsOperationState y new
settled-inside y file (Reads r s) new same at is =
    subst (λ (x : OperationState). IsOperationState y x) (sym is) (record { layout = same; going = subst (λ (z : FileState). IsRangeOpen z) (sym at) tt })
settled-inside y file (Writes r text s) new same at is =
    subst (λ (x : OperationState). IsOperationState y x) (sym is) (record { layout = same; going = subst (λ (z : FileState). IsRangeOpen z) (sym at) tt })
settled-inside y file (Ended r end) new same at is = subst (λ (x : OperationState). IsOperationState y x) (sym is) tt

pub settled-work : (file : FileMachine) (state : FileState) (new : OperationState) → file.state ≡ state → IsRangeStage file state new → work_of new ≡ in_range state
settled-work file (Reads r s) new at is = ap (λ (x : OperationState). work_of x) is ∙ ap (λ (z : FileState). in_range z) at
settled-work file (Writes r text s) new at is = ap (λ (x : OperationState). work_of x) is ∙ ap (λ (z : FileState). in_range z) at
settled-work file (Ended r end) new at is = ap (λ (x : OperationState). work_of x) is

pub range-begun : (layout : Layout) (info : FileInfo) (plan : RangePlan) → in_range (begun layout info plan) ≡ range_planned layout info plan
range-begun layout info (WriteBytes offset bytes) = refl
range-begun layout info (ReadBytes offset count) = refl

abbrev given : Option FileAnswer → FileAnswer
given None = files.Noted
given (Some a) = a

-- A reply of the export.

reads-replied : (layout : Layout) (found : List ℕ) (r : RangeState) (s : ReaderState) (x : Reply) (a : FileAnswer) → as_read (read_answer x) ≡ Some a →
    Reading (Within r) (reader_after s (Replied x)) ≡ in_range (file_told layout true found (Reads r s) a)
reads-replied layout found r s (reply.Looked p) a is = ap (λ y. in_range (file_told layout true found (Reads r s) y)) (ap given is)
reads-replied layout found r s (reply.Denied why) a is = ap (λ y. in_range (file_told layout true found (Reads r s) y)) (ap given is)
reads-replied layout found r s (_) a is = cc

writes-replied : (layout : Layout) (found : List ℕ) (r : RangeState) (text : List ℕ) (s : WriterState) (x : Reply) (a : FileAnswer) → as_write (write_answer x) ≡ Some a →
    Writing (Within r) text (writer_after s (Replied x)) ≡ in_range (file_told layout true found (Writes r text s) a)
writes-replied layout found r text s (reply.Begun stamp base) a is = ap (λ y. in_range (file_told layout true found (Writes r text s) y)) (ap given is)
writes-replied layout found r text s (reply.Denied why) a is = ap (λ y. in_range (file_told layout true found (Writes r text s) y)) (ap given is)
writes-replied layout found r text s reply.Accepted a is = ap (λ y. in_range (file_told layout true found (Writes r text s) y)) (ap given is)
writes-replied layout found r text s (reply.Enrolled position fence) a is = ap (λ y. in_range (file_told layout true found (Writes r text s) y)) (ap given is)
writes-replied layout found r text s (reply.Revoked later) a is = ap (λ y. in_range (file_told layout true found (Writes r text s) y)) (ap given is)
writes-replied layout found r text s (_) a is = cc

told-reply : (layout : Layout) (found : List ℕ) (state : FileState) (x : Reply) (a : FileAnswer) → range_reply state x ≡ Some a →
    told layout (in_range state) (Replied x) ≡ in_range (file_told layout true found state a)
told-reply layout found (Reads r s) x a is = go (reader_end s) is
  where
    go : (end : Option ReadMark) → reply_to (ask_to_read s.key.block end (reader_ask s)) x ≡ Some a →
        told layout (in_range (Reads r s)) (Replied x) ≡ in_range (file_told layout true found (Reads r s) a)
    go None at = reads-replied layout found r s x a at
    go (Some m) at = cc
told-reply layout found (Writes r text s) x a is = go (writer_end s) is
  where
    go : (end : Option WriteEnd) → reply_to (ask_to_write s.key.block end (writer_ask s)) x ≡ Some a →
        told layout (in_range (Writes r text s)) (Replied x) ≡ in_range (file_told layout true found (Writes r text s) a)
    go None at = writes-replied layout found r text s x a at
    go (Some m) at = cc
told-reply layout found (Ended r end) x a is = cc

module _ (file new_file : FileMachine) (bins : List ℕ) where
  -- the range goes on by this answer, which is no record
  abbrev GoesBy : FileAnswer → Type 0
  GoesBy a = FileGoes file file.pairs (file_told file.layout true (text_in file.state file.block) file.state a) new_file

  read-reply : (x : Reply) (a : FileAnswer) → as_read (read_answer x) ≡ Some a → IsFileAnswered file a bins new_file → GoesBy a
  read-reply (reply.Looked p) a is = subst (λ y. IsFileAnswered file y bins new_file → GoesBy y) (ap given is) (λ g. g)
  read-reply (reply.Denied why) a is = subst (λ y. IsFileAnswered file y bins new_file → GoesBy y) (ap given is) (λ g. g)
  read-reply (_) a is = cc

  write-reply : (x : Reply) (a : FileAnswer) → as_write (write_answer x) ≡ Some a → IsFileAnswered file a bins new_file → GoesBy a
  write-reply (reply.Begun stamp base) a is = subst (λ y. IsFileAnswered file y bins new_file → GoesBy y) (ap given is) (λ g. g)
  write-reply (reply.Denied why) a is = subst (λ y. IsFileAnswered file y bins new_file → GoesBy y) (ap given is) (λ g. g)
  write-reply reply.Accepted a is = subst (λ y. IsFileAnswered file y bins new_file → GoesBy y) (ap given is) (λ g. g)
  write-reply (reply.Enrolled position fence) a is = subst (λ y. IsFileAnswered file y bins new_file → GoesBy y) (ap given is) (λ g. g)
  write-reply (reply.Revoked later) a is = subst (λ y. IsFileAnswered file y bins new_file → GoesBy y) (ap given is) (λ g. g)
  write-reply (_) a is = cc

  no-record : (question : FileAsk) (x : Reply) (a : FileAnswer) → reply_to question x ≡ Some a → IsFileAnswered file a bins new_file → GoesBy a
  no-record (asks.Read block q) x a is h = read-reply x a is h
  no-record (asks.Write block q) x a is h = write-reply x a is h
  no-record (asks.Got block m) x a is h = cc
  no-record (asks.Gave block e) x a is h = cc
  no-record asks.End x a is h = cc

  no-record-missed : (question : FileAsk) → IsFileAnswered file (miss_to question) bins new_file → GoesBy (miss_to question)
  no-record-missed (asks.Read block q) h = h
  no-record-missed (asks.Write block q) h = h
  no-record-missed (asks.Got block m) h = h
  no-record-missed (asks.Gave block e) h = h
  no-record-missed asks.End h = h

  module _ (new : OperationState) (is : IsRangeStage new_file new_file.state new) where
    pub replied : (x : Reply) (a : FileAnswer) → range_reply file.state x ≡ Some a → IsFileAnswered file a bins new_file →
        IsWorkAfter (machine_of file.layout (stage.Ranging file)) file.pairs (Replied x) (machine_of file.layout new)
    replied x a same h =
        settled-goes file new_file file.pairs (Replied x) _ new (no-record (file_ask file.state) x a same h)
        (told-reply file.layout (text_in file.state file.block) file.state x a same) is

    -- The answer of a node.

    told-fetch : (state : FileState) (fits : Bool) (a : FetchAnswer) →
        told file.layout (in_range state) (Answered fits (node.Fetch a)) ≡ in_range (file_told file.layout fits [] state (files.Read (reads.Fetched a)))
    told-fetch (Reads r s) fits a = refl
    told-fetch (Writes r text s) fits a = refl
    told-fetch (Ended r end) fits a = refl

    told-keep : (found : List ℕ) (state : FileState) (a : _) →
        told file.layout (in_range state) (Answered true (node.Keep a)) ≡ in_range (file_told file.layout true found state (files.Write (writes.Kept a)))
    told-keep found (Reads r s) a = refl
    told-keep found (Writes r text s) a = refl
    told-keep found (Ended r end) a = refl

    fetched : (a : FetchAnswer) → IsFileAnswered file (files.Read (reads.Fetched a)) bins new_file →
        FitsIfEnough (machine_of file.layout (stage.Ranging file)) (node.Fetch a) bins (machine_of file.layout new)
    fetched a h =
        subst (λ (ps : List Pair). (fits : Bool) × AreFitting file.layout ps fits
        × IsWorkAfter (machine_of file.layout (stage.Ranging file)) ps (Answered fits (node.Fetch a)) (machine_of file.layout new))
        (same-fetched file.layout file.state file.pairs a bins)
        (h.0, h.1, settled-goes file new_file _ (Answered h.0 (node.Fetch a)) _ new h.2 (told-fetch file.state h.0 a) is)

    pub answered : (answer : NodeAnswer) (a : FileAnswer) → range_told answer ≡ Some a → IsFileAnswered file a bins new_file →
        FitsIfEnough (machine_of file.layout (stage.Ranging file)) answer bins (machine_of file.layout new)
    answered (node.Fetch f) a same h = fetched f (subst (λ y. IsFileAnswered file y bins new_file) (sym (ap given same)) h)
    answered (node.Keep k) a same h =
        let goes : GoesBy (files.Write (writes.Kept k)) = subst (λ y. IsFileAnswered file y bins new_file) (sym (ap given same)) h in
        settled-goes file new_file file.pairs (Answered true (node.Keep k)) _ new goes (told-keep (text_in file.state file.block) file.state k) is
    answered (_) a same h = cc

    -- A lost message.

    read-missed : (found : List ℕ) (r : RangeState) (s : ReaderState) (at : ReadStage) → MayMiss (ask_of file.layout (in_range (Reads r (record s { stage = at })))) →
        told file.layout (in_range (Reads r (record s { stage = at }))) Missed ≡ in_range (file_told file.layout true found (Reads r (record s { stage = at })) (range_miss (Reads r (record s { stage = at }))))
    read-missed found r s reading.Looking may = absurd may
    read-missed found r s (reading.Fetching t) may = refl
    read-missed found r s (reading.Ended m) may = absurd may

    told-missed : (found : List ℕ) (state : FileState) → IsRangeOpen state → MayMiss (ask_of file.layout (in_range state)) →
        told file.layout (in_range state) Missed ≡ in_range (file_told file.layout true found state (range_miss state))
    told-missed found (Reads r s) going may = read-missed found r s s.stage may
    told-missed found (Writes r text s) going may = go (writer_end s)
      where
        go : (end : Option WriteEnd) →
            Writing (Within r) text (writer_after s Missed) ≡ in_range (file_told file.layout true found (Writes r text s) (miss_to (ask_to_write s.key.block end (writer_ask s))))
        go None = refl
        go (Some e) = refl
    told-missed found (Ended r end) going may = absurd going

    pub missed : IsRangeOpen file.state → MayMiss (ask_of file.layout (in_range file.state)) → IsFileAnswered file (range_miss file.state) bins new_file →
        IsWorkAfter (machine_of file.layout (stage.Ranging file)) file.pairs Missed (machine_of file.layout new)
    missed going may h =
        settled-goes file new_file file.pairs Missed _ new (no-record-missed (file_ask file.state) h)
        (told-missed (text_in file.state file.block) file.state going may) is

    -- The end of a block is said.

    same-text : (m : ReadMark) (block : Option Grid) → text_found m block ≡ found_text (Some m) block
    same-text (mark.Found stamp size) (Some g) = refl
    same-text (mark.Found stamp size) None = refl
    same-text mark.Hole block = refl
    same-text (mark.TooFew seen) block = refl
    same-text mark.Inconsistent block = refl
    same-text (mark.Denied why) block = refl
    same-text (mark.Moved was now) block = refl

    read-noted : (block : Option Grid) (r : RangeState) (s : ReaderState) (at : ReadStage) →
        told file.layout (in_range (Reads r (record s { stage = at }))) (Noted (text_asked block (ask_of file.layout (in_range (Reads r (record s { stage = at }))))))
        ≡ in_range (file_told file.layout true (text_in (Reads r (record s { stage = at })) block) (Reads r (record s { stage = at })) files.Noted)
    read-noted block r s reading.Looking = refl
    read-noted block r s (reading.Fetching t) = refl
    read-noted block r s (reading.Ended m) = ap (λ text. in_range (after_part file.layout r text m)) (same-text m block)

    told-noted : (block : Option Grid) (state : FileState) → IsRangeOpen state →
        told file.layout (in_range state) (Noted (text_asked block (ask_of file.layout (in_range state)))) ≡ in_range (file_told file.layout true (text_in state block) state files.Noted)
    told-noted block (Reads r s) going = read-noted block r s s.stage
    told-noted block (Writes r text s) going = go (writer_end s)
      where
        go : (end : Option WriteEnd) → said_writing file.layout (Within r) text s end ≡ in_range (after_written_block file.layout r text s end)
        go None = refl
        go (Some e) = refl
    told-noted block (Ended r end) going = absurd going

    pub noted : IsRangeOpen file.state → IsFileAnswered file files.Noted bins new_file →
        IsWorkAfter (machine_of file.layout (stage.Ranging file)) file.pairs (Noted (text_asked file.block (ask_of file.layout (in_range file.state)))) (machine_of file.layout new)
    noted going h = settled-goes file new_file file.pairs _ _ new h (told-noted file.block file.state going) is
