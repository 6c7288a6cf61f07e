-- The courses of the operations in the examples, event by event.
use Rattle.std.proofs.Common.{true, false, List, [], ◌∷◌, Some, None, refl}
use Rattle.std.specs.Int.Count.{count_trailing_zeros}
use Rattle.rz_events.specs.declared.operations.Datum.TheVariants as datum
use Rattle.rz_events.specs.declared.operations.Operation.TheVariants as operation
use Rattle.rz_events.specs.declared.tree.TreeCall.TheVariants as call
use Rattle.rz_events.specs.declared.tree.TreeReply.TheVariants as given
use Rattle.rz_events.specs.declared.export.Reply.TheVariants as reply
use Rattle.rz_events.specs.declared.nodes.NodeAnswer.TheVariants as answer
use Rattle.rz_events.specs.declared.nodes.KeepAnswer.TheVariants as keep
use Rattle.rz_events.specs.declared.nodes.FetchAnswer.TheVariants as fetch
use Rattle.rz_events.specs.declared.nodes.DropAnswer.TheVariants as drops
use Rattle.rz_events.specs.declared.nodes.RefillAnswer.TheVariants as refill
use Rattle.rz_events.specs.declared.nodes.ReplaceAnswer.TheVariants as replace
use Rattle.rz_events.specs.declared.ends.ReadMark.TheVariants as mark
use Rattle.rz_events.specs.declared.ends.RebuildEnd.TheVariants as rebuild
use Rattle.rz_events.specs.declared.ends.ReadEnd.TheVariants as read
use Rattle.rz_events.specs.declared.ends.WriteEnd.TheVariants as write
use Rattle.rz_events.specs.declared.events.Answer.TheVariants as answers
use Rattle.rz_events.specs.declared.events.Event.{Event}
use Rattle.rz_events.specs.declared.events.Event.TheVariants as e
use Rattle.rz_operation_model.specs.Work.{Work, Calling}
use Rattle.rz_operation_model.specs.Steps.{Told, Replied, Answered, Missed, begun, told}
use Rattle.rz_operation_model.specs.Turns.{Through, ReplyLost, RequestLost}
use Rattle.rz_core.specs.History.{of_actor}
use Rattle.rz_core.specs.Own.{IsBetween}
use Rattle.rz_core.specs.Courses.{IsCourse, Begun, Went, IsGot, IsGave, DoneRow}
use Rattle.rz_examples.specs.Plain.{plain, one, mender, block, file, path, hello}
use Rattle.rz_examples.specs.Ordinary as plainly
use Rattle.rz_examples.specs.Ordinary.{made, made_done, opened, kept_at, accepted_on, looked, hello_published, hello_record, fetched_at, with_file, with_begin, with_keeps, with_write, with_records}
use Rattle.rz_examples.specs.Mended.{with_disk, probed, enrolled, replaced, hello_listed, listed, empty_there, given_at, refilled, none_left, with_sources, mended}
use Rattle.rz_examples.specs.Troubled.{with_three, down_at, short_causes, looked_again, none_at, lost_at, short_outcomes, gone, dropped_at}

-- a file was made
pub made_row : DoneRow plain one 1 (made ∷ []) (answers.Created 1)
made_row = record {
  work = _;
  course = Went [] (Calling (call.Create path)) (Replied (reply.Tree (given.MadeFile (file 0)))) (made ∷ [])
      (Begun [] (operation.Tree (call.Create path)) refl tt) (reply.Tree (given.MadeFile (file 0)), made, refl, refl, refl);
  asks = refl;
}

-- The write of the block.

abbrev pub put_begun : Work
put_begun = told plain.layout (begun (operation.Put path 0 (datum.Bytes hello))) (Replied (reply.Tree (given.File (file 0))))

pub put_opened : IsCourse plain.layout one 2 (opened 0 ∷ made_done ∷ made ∷ []) put_begun
put_opened =
    Went _ _ (Replied (reply.Tree (given.File (file 0)))) (opened 0 ∷ []) (Begun (made_done ∷ made ∷ []) (operation.Put path 0 (datum.Bytes hello)) refl refl)
    (reply.Tree (given.File (file 0)), opened 0, refl, refl, refl)

pub put_started : IsCourse plain.layout one 2 (of_actor one with_begin) (told plain.layout put_begun (Replied (reply.Begun 1 0)))
put_started = Went _ _ (Replied (reply.Begun 1 0)) (plainly.begun ∷ []) put_opened (reply.Begun 1 0, plainly.begun, refl, refl, refl)

-- a record was kept
abbrev pub kept : Work → Work
kept work = told plain.layout work (Answered true (answer.Keep keep.Kept))

pub put_kept : IsCourse plain.layout one 2 (of_actor one with_keeps) (kept (kept (kept (told plain.layout put_begun (Replied (reply.Begun 1 0))))))
put_kept =
    let one_kept = Went _ _ (Answered true (answer.Keep keep.Kept)) (kept_at 1 0 ∷ []) put_started (Through (answer.Keep keep.Kept) (kept_at 1 0) refl) in
    let two_kept = Went _ _ (Answered true (answer.Keep keep.Kept)) (kept_at 2 1 ∷ []) one_kept (Through (answer.Keep keep.Kept) (kept_at 2 1) refl) in
    Went _ _ (Answered true (answer.Keep keep.Kept)) (kept_at 3 2 ∷ []) two_kept (Through (answer.Keep keep.Kept) (kept_at 3 2) refl)

pub put_gave : IsGave plain one 2 (accepted_on 7 ∷ of_actor one with_keeps) block false (write.Acked 1 7)
put_gave = record {
  work = _;
  course = Went _ _ (Replied reply.Accepted) (accepted_on 7 ∷ []) put_kept (reply.Accepted, accepted_on 7, refl, refl, refl);
  asks = refl;
}

-- Its read.

abbrev pub get_begun : Work
get_begun = told plain.layout (begun (operation.Get path 0)) (Replied (reply.Tree (given.File (file 5))))

-- the block was looked up
abbrev pub get_looked : Work
get_looked = told plain.layout get_begun (Replied (reply.Looked (Some hello_published)))

pub get_opened : (before : List Event) → IsBetween before → IsCourse plain.layout one 3 (opened 5 ∷ before) get_begun
get_opened before between =
    Went _ _ (Replied (reply.Tree (given.File (file 5)))) (opened 5 ∷ []) (Begun before (operation.Get path 0) refl between)
    (reply.Tree (given.File (file 5)), opened 5, refl, refl, refl)

pub get_started : (before : List Event) → IsBetween before → IsCourse plain.layout one 3 (looked ∷ opened 5 ∷ before) get_looked
get_started before between =
    Went _ _ (Replied (reply.Looked (Some hello_published))) (looked ∷ []) (get_opened before between)
    (reply.Looked (Some hello_published), looked, refl, refl, refl)

-- a record came
abbrev came : Work → Work
came work = told plain.layout work (Answered true (answer.Fetch (fetch.Held hello_record)))

pub get_got : IsGot plain one 3 (of_actor one with_records) block false (read.Found 1 hello)
unfolding count_trailing_zeros
get_got = record {
  mark = mark.Found 1 5;
  text = hello;
  end_is = refl;
  saying = record {
    work = came (came get_looked);
    course =
        let first =
        Went _ _ (Answered true (answer.Fetch (fetch.Held hello_record))) (fetched_at 1 0 ∷ []) (get_started (of_actor one with_write) refl)
        (Through (answer.Fetch (fetch.Held hello_record)) (fetched_at 1 0) refl) in
        Went _ _ (Answered true (answer.Fetch (fetch.Held hello_record))) (fetched_at 2 1 ∷ []) first
        (Through (answer.Fetch (fetch.Held hello_record)) (fetched_at 2 1) refl);
    asks = refl;
  };
}

-- The write of which a reply was lost.

pub lost_gave : IsGave plain one 2 (accepted_on 14 ∷ of_actor one with_three) block false (write.Acked 1 14)
lost_gave =
    let missed = Went _ _ Missed (e.Missed one 1 true ∷ kept_at 1 0 ∷ []) put_started (ReplyLost (answer.Keep keep.Kept) (kept_at 1 0) refl refl) in
    let one_kept = Went _ _ (Answered true (answer.Keep keep.Kept)) (kept_at 2 1 ∷ []) missed (Through (answer.Keep keep.Kept) (kept_at 2 1) refl) in
    let two_kept = Went _ _ (Answered true (answer.Keep keep.Kept)) (kept_at 3 2 ∷ []) one_kept (Through (answer.Keep keep.Kept) (kept_at 3 2) refl) in
    let all_kept = Went _ _ (Answered true (answer.Keep keep.Kept)) (kept_at 4 3 ∷ []) two_kept (Through (answer.Keep keep.Kept) (kept_at 4 3) refl) in
    record {
      work = _;
      course = Went _ _ (Replied reply.Accepted) (accepted_on 14 ∷ []) all_kept (reply.Accepted, accepted_on 14, refl, refl, refl);
      asks = refl;
    }

-- The write for which two nodes are down.

pub short_gave : IsGave plain one 2 (down_at 2 ∷ down_at 1 ∷ of_actor one with_begin) block false (write.TooFew short_causes)
short_gave =
    let one_down = Went _ _ (Answered true (answer.Keep keep.Down)) (down_at 1 ∷ []) put_started (Through (answer.Keep keep.Down) (down_at 1) refl) in
    record {
      work = _;
      course = Went _ _ (Answered true (answer.Keep keep.Down)) (down_at 2 ∷ []) one_down (Through (answer.Keep keep.Down) (down_at 2) refl);
      asks = refl;
    }

-- The read to which one node alone gave the record.

pub short_got : IsGot plain one 3 (looked_again ∷ none_at 4 3 ∷ fetched_at 3 2 ∷ lost_at 2 ∷ none_at 1 0 ∷ looked ∷ opened 5 ∷ of_actor one with_disk) block false (read.TooFew short_outcomes)
unfolding count_trailing_zeros
short_got =
    let first =
    Went _ _ (Answered true (answer.Fetch fetch.Nothing)) (none_at 1 0 ∷ []) (get_started (of_actor one with_disk) refl)
    (Through (answer.Fetch fetch.Nothing) (none_at 1 0) refl) in
    let second = Went _ _ (Answered true (answer.Fetch fetch.Lost)) (lost_at 2 ∷ []) first (Through (answer.Fetch fetch.Lost) (lost_at 2) refl) in
    let third =
    Went _ _ (Answered true (answer.Fetch (fetch.Held hello_record))) (fetched_at 3 2 ∷ []) second
    (Through (answer.Fetch (fetch.Held hello_record)) (fetched_at 3 2) refl) in
    let last = Went _ _ (Answered true (answer.Fetch fetch.Nothing)) (none_at 4 3 ∷ []) third (Through (answer.Fetch fetch.Nothing) (none_at 4 3) refl) in
    record {
      mark = mark.TooFew short_outcomes;
      text = [];
      end_is = refl;
      saying = record {
        work = _;
        course =
            Went _ _ (Replied (reply.Looked (Some hello_published))) (looked_again ∷ []) last
            (reply.Looked (Some hello_published), looked_again, refl, refl, refl);
        asks = refl;
      };
    }

-- A file went, and its records were dropped at its nodes, of which one did not get the message.

pub unlinked_row : DoneRow plain one 3 (e.Void one 4 1 ∷ e.Missed one 3 false ∷ dropped_at 2 ∷ dropped_at 1 ∷ gone ∷ of_actor one with_write) answers.Plain
unlinked_row =
    let asked =
    Went _ _ (Replied (reply.Tree (given.Gone (Some (file 5))))) (gone ∷ []) (Begun (of_actor one with_write) (operation.Tree (call.Unlink path)) refl refl)
    (reply.Tree (given.Gone (Some (file 5))), gone, refl, refl, refl) in
    let first =
    Went _ _ (Answered true (answer.Drop (drops.Dropped 0 1 false))) (dropped_at 1 ∷ []) asked
    (Through (answer.Drop (drops.Dropped 0 1 false)) (dropped_at 1) refl) in
    let second =
    Went _ _ (Answered true (answer.Drop (drops.Dropped 0 1 false))) (dropped_at 2 ∷ []) first
    (Through (answer.Drop (drops.Dropped 0 1 false)) (dropped_at 2) refl) in
    let third = Went _ _ Missed (e.Missed one 3 false ∷ []) second (RequestLost refl) in
    record {
      work = _;
      course = Went _ _ (Answered true (answer.Drop drops.Nothing)) (e.Void one 4 1 ∷ []) third (Through (answer.Drop drops.Nothing) (e.Void one 4 1) refl);
      asks = refl;
    }

-- A node was rebuilt.

-- the work after all that was told, the oldest first
abbrev pub after_all : Work → List Told → Work
after_all work [] = work
after_all work (t ∷ ts) = after_all (told plain.layout work t) ts

-- the rebuild of node 1 up to its fresh disk
abbrev pub with_fresh : Work
with_fresh =
    after_all (begun (operation.Rebuild 1))
    (Answered true (answer.Probe (Some 1)) ∷ Replied (reply.Fence 2) ∷ Answered true (answer.Replace replace.Replaced) ∷ [])

pub disk_replaced : IsCourse plain.layout mender 1 (replaced ∷ enrolled ∷ probed ∷ []) with_fresh
disk_replaced =
    let probe =
    Went _ _ (Answered true (answer.Probe (Some 1))) (probed ∷ []) (Begun [] (operation.Rebuild 1) refl tt) (Through (answer.Probe (Some 1)) probed refl) in
    let enrol = Went _ _ (Replied (reply.Fence 2)) (enrolled ∷ []) probe (reply.Fence 2, enrolled, refl, refl, refl) in
    Went _ _ (Answered true (answer.Replace replace.Replaced)) (replaced ∷ []) enrol (Through (answer.Replace replace.Replaced) replaced refl)

-- and up to the records that it read
abbrev pub with_copy : Work
with_copy =
    after_all with_fresh
    (Replied (reply.Listed (Some hello_listed)) ∷ Answered true (answer.Fetch fetch.Nothing) ∷ Answered true (answer.Fetch (fetch.Held hello_record))
    ∷ Answered true (answer.Fetch (fetch.Held hello_record)) ∷ [])

pub block_copied : IsCourse plain.layout mender 1 (of_actor mender with_sources) with_copy
unfolding count_trailing_zeros
block_copied =
    let told_one =
    Went _ _ (Replied (reply.Listed (Some hello_listed))) (listed ∷ []) disk_replaced (reply.Listed (Some hello_listed), listed, refl, refl, refl) in
    let none = Went _ _ (Answered true (answer.Fetch fetch.Nothing)) (empty_there ∷ []) told_one (Through (answer.Fetch fetch.Nothing) empty_there refl) in
    let first =
    Went _ _ (Answered true (answer.Fetch (fetch.Held hello_record))) (given_at 2 1 ∷ []) none
    (Through (answer.Fetch (fetch.Held hello_record)) (given_at 2 1) refl) in
    Went _ _ (Answered true (answer.Fetch (fetch.Held hello_record))) (given_at 3 2 ∷ []) first
    (Through (answer.Fetch (fetch.Held hello_record)) (given_at 3 2) refl)

pub finished_row : DoneRow plain mender 1 (of_actor mender mended) (answers.Rebuild (rebuild.Rebuilt 2 1))
unfolding count_trailing_zeros
finished_row =
    let filled = Went _ _ (Answered true (answer.Refill refill.Kept)) (refilled ∷ []) block_copied (Through (answer.Refill refill.Kept) refilled refl) in
    record {
      work = _;
      course = Went _ _ (Replied (reply.Listed None)) (none_left ∷ []) filled (reply.Listed None, none_left, refl, refl, refl);
      asks = refl;
    }
