-- The steps of the history of an update and a view.
use Rattle.std.proofs.Common.{true, false, [], ◌∷◌, Some, None, refl, inl, inr, lit<, lit≤}
use Rattle.std.specs.Int.Count.{count_trailing_zeros}
use Rattle.rz_events.specs.declared.operations.Datum.TheVariants as datum
use Rattle.rz_events.specs.declared.operations.Operation.TheVariants as operation
use Rattle.rz_events.specs.declared.tree.TreeReply.TheVariants as given
use Rattle.rz_events.specs.declared.export.Reply.TheVariants as reply
use Rattle.rz_events.specs.declared.nodes.NodeAnswer.TheVariants as answer
use Rattle.rz_events.specs.declared.nodes.KeepAnswer.TheVariants as keep
use Rattle.rz_events.specs.declared.nodes.FetchAnswer.TheVariants as fetch
use Rattle.rz_events.specs.declared.ends.ReadMark.TheVariants as mark
use Rattle.rz_events.specs.declared.ends.ReadEnd.TheVariants as read
use Rattle.rz_events.specs.declared.ends.WriteEnd.TheVariants as write
use Rattle.rz_events.specs.declared.events.Answer.TheVariants as answers
use Rattle.rz_events.specs.declared.events.Word.TheVariants.{Export}
use Rattle.rz_operation_model.specs.Steps.{Replied, Locked, Answered, Noted, begun, told}
use Rattle.rz_operation_model.specs.Turns.{Through}
use Rattle.rz_core.specs.History.{facts, of_word}
use Rattle.rz_core.specs.Courses.{IsCourse, Begun, Went, IsGot, IsGave, DoneRow}
use Rattle.rz_core.specs.Legal.{IsLegal}
use Rattle.rz_examples.specs.Plain.{plain, one, block, file, path, places, hello}
use Rattle.rz_examples.specs.Ordinary as plainly
use Rattle.rz_examples.specs.Ordinary.{opened, kept_at, accepted_on, looked, hello_published, hello_record, fetched_at, with_file}
use Rattle.rz_examples.specs.Ranged.{hole_looked, hole_got}
use Rattle.rz_examples.specs.Locked.{with_lock, with_update_begun, with_update_kept, part_acked, updated, part_found, with_view, viewed}
use Rattle.rz_examples.proofs.Names.{open_reply, open_twice, open_updated}
use Rattle.rz_examples.proofs.Steps.{node_1, node_2, node_3, the_write, quorum, legal_file}
use Rattle.rz_examples.proofs.Rows.{writes, first_keep, the_record, keeps_7, free_7}

-- The update.

record UpdateRows : Type 0 where
  hole : IsGot plain one 2 (hole_looked 0 ∷ with_lock) block true read.Hole
  gave : IsGave plain one 2 (accepted_on 7 ∷ with_update_kept) block true (write.Acked 1 7)
  done : DoneRow plain one 2 (part_acked ∷ accepted_on 7 ∷ with_update_kept) (answers.Wrote 5)

update_rows : UpdateRows
update_rows =
    let waiting : IsCourse plain.layout one 2 (opened 0 ∷ with_file) (begun (operation.Update path 0 (datum.Bytes hello))) =
    Went _ _ (Locked false (reply.Tree (given.File (file 0)))) (opened 0 ∷ []) (Begun with_file (operation.Update path 0 (datum.Bytes hello)) refl refl)
    (false, reply.Tree (given.File (file 0)), opened 0, refl, refl, refl) in
    let there =
    Went _ _ (Locked true (reply.Tree (given.File (file 0)))) (opened 0 ∷ []) waiting (true, reply.Tree (given.File (file 0)), opened 0, refl, refl, refl) in
    let looked_0 = Went _ _ (Replied (reply.Looked None)) (hole_looked 0 ∷ []) there (reply.Looked None, hole_looked 0, refl, refl, refl) in
    let hole_0 = Went _ _ (Noted []) (hole_got 2 0 ∷ []) looked_0 ([], refl, refl) in
    let begun_0 = Went _ _ (Replied (reply.Begun 1 0)) (plainly.begun ∷ []) hole_0 (reply.Begun 1 0, plainly.begun, refl, refl, refl) in
    let one_kept = Went _ _ (Answered true (answer.Keep keep.Kept)) (kept_at 1 0 ∷ []) begun_0 (Through (answer.Keep keep.Kept) (kept_at 1 0) refl) in
    let two_kept = Went _ _ (Answered true (answer.Keep keep.Kept)) (kept_at 2 1 ∷ []) one_kept (Through (answer.Keep keep.Kept) (kept_at 2 1) refl) in
    let all_kept = Went _ _ (Answered true (answer.Keep keep.Kept)) (kept_at 3 2 ∷ []) two_kept (Through (answer.Keep keep.Kept) (kept_at 3 2) refl) in
    let acked = Went _ _ (Replied reply.Accepted) (accepted_on 7 ∷ []) all_kept (reply.Accepted, accepted_on 7, refl, refl, refl) in
    let gave = Went _ _ (Noted []) (part_acked ∷ []) acked ([], refl, refl) in
    record {
      hole = record { mark = mark.Hole; text = []; end_is = refl; saying = record { work = _; course = looked_0; asks = refl } };
      gave = record { work = _; course = acked; asks = refl };
      done = record { work = _; course = gave; asks = refl };
    }

legal_lock : IsLegal plain with_lock
legal_lock = (
  (legal_file, record { room = lit< tt; word = tt; row = record { told = open_reply } }),
  record { room = lit< tt; word = tt; row = record { told = open_twice } },
)

legal_update_kept : IsLegal plain with_update_kept
legal_update_kept = (
  (
    (
      (
        (
          (legal_lock, record { room = lit< tt; word = tt; row = record { live = refl; block = lit< tt; told = refl } }),
          record { room = lit< tt; word = tt; row = (refl, update_rows.hole) },
        ),
        record { room = lit< tt; word = tt; row = record { live = refl; block = lit< tt; short = lit≤ tt; next = refl; from = refl } },
      ),
      first_keep _ _ _ one 1 1 0 node_1 (lit< tt) (lit< tt) (writes _ one 1 1 0 the_write refl refl refl (places, refl, refl)),
    ),
    first_keep _ _ _ one 2 1 1 node_2 (lit< tt) (lit< tt) (writes _ one 2 1 1 the_write refl refl refl (places, refl, refl)),
  ),
  first_keep _ _ _ one 3 1 2 node_3 (lit< tt) (lit< tt) (writes _ one 3 1 2 the_write refl refl refl (places, refl, refl)),
)

legal_updated : IsLegal plain updated
legal_updated = (
  (
    (
      legal_update_kept,
      record {
        room = lit< tt;
        word = tt;
        row = record {
          publishable = record {
            live = refl;
            newest = lit≤ tt;
            publishing = record { writer = (the_write, record { found = refl; by_is = refl; key_is = refl }); quorum = quorum; kept = keeps_7 (facts with_update_kept) with_update_begun one 1 refl };
          };
          free = free_7 (facts with_update_kept) (of_word Export with_update_kept) 1 refl tt tt tt;
        };
      },
    ),
    record { room = lit< tt; word = tt; row = (refl, update_rows.gave) },
  ),
  record { room = lit< tt; word = tt; row = update_rows.done },
)

-- The view.

record ViewRows : Type 0 where
  got : IsGot plain one 3 with_view block true (read.Found 1 hello)
  done : DoneRow plain one 3 (part_found ∷ with_view) (answers.Read hello)

view_rows : ViewRows
unfolding count_trailing_zeros
view_rows =
    let there : IsCourse plain.layout one 3 (opened 5 ∷ updated) (told plain.layout (begun (operation.View path 0 5)) (Locked true (reply.Tree (given.File (file 5))))) =
    Went _ _ (Locked true (reply.Tree (given.File (file 5)))) (opened 5 ∷ []) (Begun updated (operation.View path 0 5) refl refl)
    (true, reply.Tree (given.File (file 5)), opened 5, refl, refl, refl) in
    let looked_0 =
    Went _ _ (Replied (reply.Looked (Some hello_published))) (looked ∷ []) there (reply.Looked (Some hello_published), looked, refl, refl, refl) in
    let first =
    Went _ _ (Answered true (answer.Fetch (fetch.Held hello_record))) (fetched_at 1 0 ∷ []) looked_0
    (Through (answer.Fetch (fetch.Held hello_record)) (fetched_at 1 0) refl) in
    let second =
    Went _ _ (Answered true (answer.Fetch (fetch.Held hello_record))) (fetched_at 2 1 ∷ []) first
    (Through (answer.Fetch (fetch.Held hello_record)) (fetched_at 2 1) refl) in
    let found = Went _ _ (Noted hello) (part_found ∷ []) second (hello, refl, refl) in
    record {
      got = record { mark = mark.Found 1 5; text = hello; end_is = refl; saying = record { work = _; course = second; asks = refl } };
      done = record { work = _; course = found; asks = refl };
    }

legal_view : IsLegal plain with_view
legal_view = (
  (
    (
      (legal_updated, record { room = lit< tt; word = tt; row = record { told = open_updated } }),
      record { room = lit< tt; word = tt; row = record { live = refl; block = lit< tt; told = refl } },
    ),
    record { room = lit< tt; word = node_1; row = record { up = refl; place = (places, refl, refl); told = (inl refl, the_record _ refl) } },
  ),
  record { room = lit< tt; word = node_2; row = record { up = refl; place = (places, refl, refl); told = (inl refl, the_record _ refl) } },
)

pub legal_viewed : IsLegal plain viewed
legal_viewed = (
  (
    legal_view,
    record {
      room = lit< tt;
      word = tt;
      row = (
        record {
          looked = (hello_published, refl, refl);
          enough = (1 ∷ 0 ∷ [], ((lit< tt, tt), (tt, tt)), refl, (inl refl, (inr (inl refl), tt)));
          wrote = (the_write, refl, refl);
        },
        view_rows.got,
      );
    },
  ),
  record { room = lit< tt; word = tt; row = view_rows.done },
)
