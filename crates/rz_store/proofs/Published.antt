-- A put that was done has published its block.
use Rattle.std.proofs.Common.{ℕ, Bool, true, false, ◌≡◌, List, ◌∷◌, ◌++◌, Option, Some, None, cond, nat_lt, refl, sym, ◌∙◌, ap, subst, append_assoc}
use Rattle.std.specs.Prelude.{IsTrue, slice_index, Result, Ok, Err, OnOk}
use Rattle.mj_angles.specs.declared.layout.Layout.{Layout}
use Rattle.mj_angles.specs.Layout.{forward_of}
use Rattle.rz_events.specs.Volume.{Volume}
use Rattle.rz_events.specs.declared.keys.Key.{Key}
use Rattle.rz_events.specs.declared.keys.Actor.{Actor}
use Rattle.rz_events.specs.declared.ends.WriteEnd.{WriteEnd}
use Rattle.rz_events.specs.declared.ends.WriteEnd.TheVariants as write
use Rattle.rz_events.specs.declared.events.Answer.{Answer}
use Rattle.rz_events.specs.declared.events.Answer.TheVariants as answer
use Rattle.rz_events.specs.declared.events.Event.{Event}
use Rattle.rz_events.specs.declared.events.Event.TheVariants as e
use Rattle.rz_events.specs.declared.machines.WriterAsk.TheVariants as asks
use Rattle.rz_events.specs.declared.machines.ReaderAsk.{ReaderAsk}
use Rattle.rz_events.specs.declared.machines.ReaderAsk.TheVariants as reads
use Rattle.rz_events.specs.declared.operations.Datum.TheVariants as datum
use Rattle.rz_events.specs.declared.operations.Operation.TheVariants as operation
use Rattle.rz_export_model.specs.Tree.{Tree, Found}
use Rattle.rz_client_model.specs.declared.writing.WriterState.{WriterState}
use Rattle.rz_client_model.specs.declared.writing.WriteStage.{WriteStage}
use Rattle.rz_client_model.specs.declared.writing.WriteStage.TheVariants as writing
use Rattle.rz_client_model.specs.declared.writing.SentRecords.{SentRecords}
use Rattle.rz_events.specs.declared.ends.ReadMark.{ReadMark}
use Rattle.rz_client_model.specs.Read.{reader_ask, reader_end}
use Rattle.rz_client_model.specs.Write.{mask_of, next_position, writer_ask}
use Rattle.rz_operation_model.specs.Work.{Work, Course, OnBlock, PutBlock, Opening, Writing, Reading, Ending}
use Rattle.rz_operation_model.specs.Ask.{Say, SayDone, ask_of, is_part, read_asks, write_asks}
use Rattle.rz_operation.specs.Machine.{Machine}
use Rattle.rz_chronicle.specs.Kinds.{keeps_legal, volume_in}
use Rattle.rz_core.proofs.Stamps.{same_key-refl}
use Rattle.rz_contents.specs.Contents.{IsUnpublished}
use Rattle.rz_contents.specs.Putting.{IsPutStage, IsPublished}
use Rattle.rz_contents.proofs.Opened.{loud}
use Rattle.rz_contents.proofs.Putting.{puts_once}
use Rattle.rz_contents.specs.Model.{model_of}
use Rattle.rz_contents.specs.Files.{IsFileAt, key_in, IsBlockAt, IsOnBlock, IsSilentCourse, LeadsToBlock}
use Rattle.rz_store_turns.specs.Sole.{SoleView, IsInHand}
use Rattle.rz_store_turns.specs.Performed.{HasCome, IsQuiet}
use Rattle.rz_store.specs.declared.faults.WriteFault.{WriteFault}
use Rattle.rz_store.specs.Outcomes.{end_told, put_told}
use Rattle.rz_store.specs.Store.{HasPublished}
use Rattle.rz_store.proofs.Renewed.{front-published}
use Rattle.rz_store.proofs.Wholes.{view, whole, come-log, come-legal}

-- A put that was acknowledged has published its block.
abbrev ArePutsPublished : Type 0
ArePutsPublished = (layout : Layout) (by : Actor) (number : ℕ) (path : List ℕ) (block : ℕ) (text : List ℕ) (xs : List Event) (course : Course) (written : List ℕ) (s : WriterState) (stamp mask : ℕ)
    → IsSilentCourse layout by number (Opening path (OnBlock (PutBlock block text))) xs (Writing course written s) → s.stage ≡ writing.Ended (write.Acked stamp mask)
    → ¬ IsUnpublished s.key xs

law : ArePutsPublished
law layout by number path block text xs course written s stamp mask silent ended =
    let put = puts_once layout by number path block text xs (Writing course written s)
    (loud layout by number (Opening path (OnBlock (PutBlock block text))) xs (Writing course written s) silent) in
    let done : IsPublished by xs s.key stamp mask text = subst (λ (stage : WriteStage). IsPutStage by xs s.key text stage) ended put.2 in
    λ none.
    (let first : IsUnpublished s.key (e.Publish by s.key stamp mask None ∷ done.earlier) = subst (λ (ys : List Event). IsUnpublished s.key ys) done.xs_is none in
    let not-published = first.0 in
    let published = same_key-refl s.key in
    absurd (cc))

module _ (names : Tree) (layout : Layout) (by : Actor) (number : ℕ) (path text : List ℕ) (block : ℕ) (xs : List Event) where
  -- the block to which the path leads is published by these events
  abbrev pub IsPublishedIn : Type 0
  IsPublishedIn = (file : Found) × IsFileAt names path file × ¬ IsUnpublished (key_in file block) xs

  abbrev Silent : Work → Type 0
  Silent work = IsSilentCourse layout by number (Opening path (OnBlock (PutBlock block text))) xs work

  module _ (course : Course) (written : List ℕ) (of : Layout) (key : Key) (places : List ℕ) (size : ℕ) (at : IsBlockAt names path block key) where
    abbrev in_stage : WriteStage → WriterState
    in_stage stage = record { layout = of; key = key; places = places; length = size; stage = stage }

    ended : (end : WriteEnd) → Silent (Writing course written (in_stage (writing.Ended end))) → OnOk (end_told end) IsPublishedIn
    ended (write.Acked stamp mask) silent =
        (at.file, at.at, subst (λ (k : Key). ¬ IsUnpublished k xs) at.key_is (law layout by number path block text xs course written (in_stage (writing.Ended (write.Acked stamp mask))) stamp mask silent refl))
    ended (write.TooFew causes) silent = tt
    ended (write.Denied why) silent = tt
    ended (write.Revoked later) silent = tt

    sending : (t : SentRecords) → OnOk (put_told (write_asks (is_part course) written (in_stage (writing.Sending t)) (writer_ask (in_stage (writing.Sending t))))) IsPublishedIn
    sending t = go (nat_lt t.kept (forward_of of))
      where
        go : (b : Bool) → OnOk (put_told (write_asks (is_part course) written (in_stage (writing.Sending t)) (cond b (asks.Keep (next_position t) (slice_index places (next_position t)) t.stamp t.base) (asks.Publish t.stamp (mask_of t.why))))) IsPublishedIn
        go true = tt
        go false = tt

    stage-told : (stage : WriteStage) → Silent (Writing course written (in_stage stage)) → OnOk (put_told (write_asks (is_part course) written (in_stage stage) (writer_ask (in_stage stage)))) IsPublishedIn
    stage-told writing.Beginning silent = tt
    stage-told (writing.Sending t) silent = sending t
    stage-told (writing.Ended end) silent = ended end silent

  answered : (a : Answer) → OnOk (put_told (Say (SayDone a))) IsPublishedIn
  answered (answer.Refused f) = tt
  answered (_) = tt

  reading : (part : Bool) (key : Key) (end : Option ReadMark) (question : ReaderAsk) → OnOk (put_told (read_asks part key end question)) IsPublishedIn
  reading part key end reads.Look = tt
  reading part key end (reads.Fetch position n stamp) = tt
  reading part key end reads.Recheck = tt
  reading part key None reads.End = tt
  reading part key (Some mark) reads.End = tt

  told-published : (work : Work) → IsOnBlock names path block work → Silent work → OnOk (put_told (ask_of layout work)) IsPublishedIn
  told-published (Opening p plan) on silent = tt
  told-published (Writing course written s) on silent = stage-told course written s.layout s.key s.places s.length on.1 s.stage silent
  told-published (Reading course s) on silent = reading (is_part course) s.key (reader_end s) (reader_ask s)
  told-published (Ending a) on silent = answered a
  told-published (_) on silent = absurd on

ok-so : {T E : Type 0} (r : Result T E) (P Q : Type 0) → (P → Q) → OnOk r P → OnOk r Q
ok-so (Ok x) P Q so is = so is
ok-so (Err f) P Q so is = tt

module _ (kind : List ℕ) (earlier : List Event) (path text : List ℕ) (block : ℕ) (leads : LeadsToBlock (volume_in kind)) where
  pub put-published : (old new last : SoleView) (m : Machine) (come : HasCome kind earlier (operation.Put path block (datum.Bytes text)) old new m.work) → IsInHand kind earlier new m
      → IsTrue (keeps_legal kind) → IsQuiet kind earlier new last → (told : Result (Unit {0}) WriteFault) → told ≡ put_told (ask_of m.layout m.work)
      → OnOk told (HasPublished (view kind earlier old) path block (view kind earlier last))
  put-published old new last m come hand keeps quiet told is =
      let v : Volume = volume_in kind in
      let by = new.pass.actor in
      let names : Tree = (model_of v (whole kind earlier old)).names in
      let on = leads (whole kind earlier old) come.events by new.number path (PutBlock block text) m.work (come-legal kind earlier (operation.Put path block (datum.Bytes text)) old new m.work come keeps) (come.course keeps) in
      let said : OnOk (put_told (ask_of v.layout m.work)) (IsPublishedIn names v.layout by new.number path text block come.events) =
      told-published names v.layout by new.number path text block come.events m.work on (come.course keeps) in
      let log : last.pass.log ++ earlier ≡ (quiet.events ++ come.events) ++ (old.pass.log ++ earlier) =
      ap (λ (h : List Event). h ++ earlier) (quiet.log keeps) ∙ append_assoc quiet.events new.pass.log earlier
      ∙ ap (λ (h : List Event). quiet.events ++ h) (come-log kind earlier (operation.Put path block (datum.Bytes text)) old new m.work come) ∙ sym (append_assoc quiet.events come.events (old.pass.log ++ earlier)) in
      subst (λ (r : Result (Unit {0}) WriteFault). OnOk r (HasPublished (view kind earlier old) path block (view kind earlier last))) (sym (is ∙ ap (λ (y : Layout). put_told (ask_of y m.work)) hand.layout))
      (ok-so (put_told (ask_of v.layout m.work)) (IsPublishedIn names v.layout by new.number path text block come.events) (HasPublished (view kind earlier old) path block (view kind earlier last))
      (λ (p : IsPublishedIn names v.layout by new.number path text block come.events). record {
        file = p.0;
        at = p.1;
        published = (quiet.events ++ come.events, log, λ none. p.2 (front-published (key_in p.0 block) quiet.events come.events none));
      })
      said)
