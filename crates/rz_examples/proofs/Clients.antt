-- The steps of the histories of two clients.
use Rattle.std.proofs.Common.{true, false, List, [], ◌∷◌, Some, refl, inl, inr, arith, replicate, lit<, lit≤}
use Rattle.std.specs.Int.Count.{count_trailing_zeros}
use Rattle.rz_events.specs.declared.operations.Datum.TheVariants as datum
use Rattle.rz_events.specs.declared.operations.Operation.TheVariants as operation
use Rattle.rz_events.specs.declared.tree.TreeReply.TheVariants as given
use Rattle.rz_events.specs.declared.export.Reply.TheVariants as reply
use Rattle.rz_events.specs.declared.nodes.NodeAnswer.TheVariants as answer
use Rattle.rz_events.specs.declared.nodes.KeepAnswer.TheVariants as keep
use Rattle.rz_events.specs.declared.nodes.FetchAnswer.TheVariants as fetch
use Rattle.rz_events.specs.declared.ends.Denial.TheVariants as denial
use Rattle.rz_events.specs.declared.ends.Seen.TheVariants as seen
use Rattle.rz_events.specs.declared.ends.ReadMark.TheVariants as mark
use Rattle.rz_events.specs.declared.ends.ReadEnd.TheVariants as read
use Rattle.rz_events.specs.declared.ends.WriteEnd.TheVariants as write
use Rattle.rz_events.specs.declared.events.Event.{Event}
use Rattle.rz_events.specs.declared.events.Word.TheVariants.{Export}
use Rattle.rz_operation_model.specs.Steps.{Replied, Answered, Missed, begun, told}
use Rattle.rz_operation_model.specs.Turns.{Through, RequestLost}
use Rattle.rz_core.specs.History.{Begun, facts, of_word, of_actor}
use Rattle.rz_core.specs.Courses.{IsCourse, Begun as Begins, Went, IsGot, IsGave}
use Rattle.rz_core.specs.Legal.{IsLegal}
use Rattle.rz_examples.specs.Plain.{plain, one, two, block, file, path, places, hello, world}
use Rattle.rz_examples.specs.Ordinary.{kept_at, opened, looked, hello_published, hello_record, fetched_at, with_file, with_write}
use Rattle.rz_examples.specs.Troubled.{none_at}
use Rattle.rz_examples.specs.Rivals.{opened_by_two, begun_later, kept_later_at, accepted_later, world_published, with_move, missed_at, with_misses, looked_later, moved, passed_by, revoked_by, with_passed, revoked, look_denied, denied_read, far_block, begin_denied, denied_write}
use Rattle.rz_examples.proofs.Courses.{put_started, get_opened, get_started}
use Rattle.rz_examples.proofs.Names.{open_reply, open_again, open_looked, open_begun, unlink_opened}
use Rattle.rz_examples.proofs.Steps.{node_1, node_2, node_3, node_4, the_write, quorum, legal_file, legal_begin, legal_write}
use Rattle.rz_examples.proofs.Rows.{writes, first_keep, the_record, keeps_7, free_7}

-- A read that moved.

abbrev pub second : Begun
second = record { by = two; key = block; base = 1; text = world }

second_opened : IsCourse plain.layout two 1 (opened_by_two 5 ∷ []) (told plain.layout (begun (operation.Put path 0 (datum.Bytes world))) (Replied (reply.Tree (given.File (file 5)))))
second_opened =
    Went _ _ (Replied (reply.Tree (given.File (file 5)))) (opened_by_two 5 ∷ []) (Begins [] (operation.Put path 0 (datum.Bytes world)) refl tt)
    (reply.Tree (given.File (file 5)), opened_by_two 5, refl, refl, refl)

pub second_gave : IsGave plain two 1 (accepted_later ∷ kept_later_at 3 2 ∷ kept_later_at 2 1 ∷ kept_later_at 1 0 ∷ begun_later 1 ∷ opened_by_two 5 ∷ []) block false (write.Acked 2 7)
second_gave =
    let start = Went _ _ (Replied (reply.Begun 2 1)) (begun_later 1 ∷ []) second_opened (reply.Begun 2 1, begun_later 1, refl, refl, refl) in
    let one_kept = Went _ _ (Answered true (answer.Keep keep.Kept)) (kept_later_at 1 0 ∷ []) start (Through (answer.Keep keep.Kept) (kept_later_at 1 0) refl) in
    let two_kept = Went _ _ (Answered true (answer.Keep keep.Kept)) (kept_later_at 2 1 ∷ []) one_kept (Through (answer.Keep keep.Kept) (kept_later_at 2 1) refl) in
    let all_kept = Went _ _ (Answered true (answer.Keep keep.Kept)) (kept_later_at 3 2 ∷ []) two_kept (Through (answer.Keep keep.Kept) (kept_later_at 3 2) refl) in
    record {
      work = _;
      course = Went _ _ (Replied reply.Accepted) (accepted_later ∷ []) all_kept (reply.Accepted, accepted_later, refl, refl, refl);
      asks = refl;
    }

moved_got : IsGot plain one 3 (looked_later ∷ of_actor one with_misses) block false (read.Moved 1 2)
unfolding count_trailing_zeros
moved_got =
    let first = Went _ _ Missed (missed_at 1 ∷ []) (get_started (of_actor one with_write) refl) (RequestLost refl) in
    let second = Went _ _ Missed (missed_at 2 ∷ []) first (RequestLost refl) in
    let third =
    Went _ _ (Answered true (answer.Fetch (fetch.Held hello_record))) (fetched_at 3 2 ∷ []) second
    (Through (answer.Fetch (fetch.Held hello_record)) (fetched_at 3 2) refl) in
    let last = Went _ _ (Answered true (answer.Fetch fetch.Nothing)) (none_at 4 3 ∷ []) third (Through (answer.Fetch fetch.Nothing) (none_at 4 3) refl) in
    record {
      mark = mark.Moved 1 2;
      text = [];
      end_is = refl;
      saying = record {
        work = _;
        course =
            Went _ _ (Replied (reply.Looked (Some world_published))) (looked_later ∷ []) last
            (reply.Looked (Some world_published), looked_later, refl, refl, refl);
        asks = refl;
      };
    }

-- the second write's records are kept
abbrev with_second : List Event
with_second = kept_later_at 3 2 ∷ kept_later_at 2 1 ∷ kept_later_at 1 0 ∷ begun_later 1 ∷ opened_by_two 5 ∷ looked ∷ opened 5 ∷ with_write

pub legal_looked : IsLegal plain (looked ∷ opened 5 ∷ with_write)
legal_looked = (
  (legal_write, record { room = lit< tt; word = tt; row = record { told = open_again } }),
  record { room = lit< tt; word = tt; row = record { live = refl; block = lit< tt; told = refl } },
)

legal_move : IsLegal plain with_move
legal_move = (
  (
    (
      (
        (
          (
            (legal_looked, record { room = lit< tt; word = tt; row = record { told = open_looked } }),
            record { room = lit< tt; word = tt; row = record { live = refl; block = lit< tt; short = lit≤ tt; next = refl; from = refl } },
          ),
          record {
            room = lit< tt;
            word = node_1;
            row = record { keep = record { up = refl; fenced = lit< tt; writing = writes _ two 1 2 0 second refl refl refl (places, refl, refl) }; above = (lit< tt, tt); cell = inl tt };
          },
        ),
        record {
          room = lit< tt;
          word = node_2;
          row = record { keep = record { up = refl; fenced = lit< tt; writing = writes _ two 2 2 1 second refl refl refl (places, refl, refl) }; above = (lit< tt, tt); cell = inl tt };
        },
      ),
      record {
        room = lit< tt;
        word = node_3;
        row = record { keep = record { up = refl; fenced = lit< tt; writing = writes _ two 3 2 2 second refl refl refl (places, refl, refl) }; above = (lit< tt, tt); cell = inl tt };
      },
    ),
    record {
      room = lit< tt;
      word = tt;
      row = record {
        publishable = record {
          live = refl;
          newest = lit≤ tt;
          publishing = record { writer = (second, record { found = refl; by_is = refl; key_is = refl }); quorum = quorum; kept = keeps_7 (facts with_second) (begun_later 1 ∷ opened_by_two 5 ∷ []) two 2 refl };
        };
        free = free_7 (facts with_second) (of_word Export with_second) 2 refl tt tt tt;
      };
    },
  ),
  record { room = lit< tt; word = tt; row = (refl, second_gave) },
)

legal_misses : IsLegal plain with_misses
legal_misses = (
  (
    (
      (legal_move, record { room = lit< tt; word = tt; row = refl }),
      record { room = lit< tt; word = tt; row = refl },
    ),
    record { room = lit< tt; word = node_3; row = record { up = refl; place = (places, refl, refl); told = (inr (inl refl), the_record _ refl) } },
  ),
  record { room = lit< tt; word = node_4; row = record { up = refl; place = (places, refl, refl); told = λ there. there } },
)

pub legal_moved : IsLegal plain moved
legal_moved = (
  (
    legal_misses,
    record { room = lit< tt; word = tt; row = record { live = refl; looked = inl (Some hello_published, inr (inr (inr (inr (inl refl))))); told = refl } },
  ),
  record {
    room = lit< tt;
    word = tt;
    row = (
      record {
        looked = (hello_published, refl, refl);
        short = (seen.Missed ∷ seen.Missed ∷ seen.Held ∷ seen.Nothing ∷ replicate 12 seen.NotAsked, record { places = places; placed = refl; asked = (refl, (refl, (refl, (refl, tt)))); told_is = refl; few = lit< tt; ended = (refl, (refl, (refl, (refl, tt)))) });
        again = (Some world_published, refl, refl);
        moved = λ same. absurd (omega (arith, same));
      },
      moved_got,
    );
  },
)

-- A write that is revoked.

abbrev pub later : Begun
later = record { by = two; key = block; base = 0; text = world }

revoked_gave : IsGave plain one 2 (revoked_by ∷ of_actor one with_passed) block false (write.Revoked 2)
revoked_gave =
    let one_passed = Went _ _ (Answered true (answer.Keep (keep.Passed 2))) (passed_by ∷ []) put_started (Through (answer.Keep (keep.Passed 2)) passed_by refl) in
    let two_kept = Went _ _ (Answered true (answer.Keep keep.Kept)) (kept_at 2 1 ∷ []) one_passed (Through (answer.Keep keep.Kept) (kept_at 2 1) refl) in
    let all_kept = Went _ _ (Answered true (answer.Keep keep.Kept)) (kept_at 3 2 ∷ []) two_kept (Through (answer.Keep keep.Kept) (kept_at 3 2) refl) in
    record {
      work = _;
      course = Went _ _ (Replied (reply.Revoked 2)) (revoked_by ∷ []) all_kept (reply.Revoked 2, revoked_by, refl, refl, refl);
      asks = refl;
    }

legal_passed : IsLegal plain with_passed
legal_passed = (
  (
    (
      (
        (
          (legal_begin, record { room = lit< tt; word = tt; row = record { told = open_begun } }),
          record { room = lit< tt; word = tt; row = record { live = refl; block = lit< tt; short = lit≤ tt; next = refl; from = refl } },
        ),
        first_keep _ _ _ two 1 2 0 node_1 (lit< tt) (lit< tt) (writes _ two 1 2 0 later refl refl refl (places, refl, refl)),
      ),
      record {
        room = lit< tt;
        word = node_1;
        row = inl (record { keep = (0, record { up = refl; fenced = lit< tt; writing = writes _ one 1 1 0 the_write refl refl refl (places, refl, refl) }); now_is = refl; above = lit≤ tt });
      },
    ),
    first_keep _ _ _ one 2 1 1 node_2 (lit< tt) (lit< tt) (writes _ one 2 1 1 the_write refl refl refl (places, refl, refl)),
  ),
  first_keep _ _ _ one 3 1 2 node_3 (lit< tt) (lit< tt) (writes _ one 3 1 2 the_write refl refl refl (places, refl, refl)),
)

pub legal_revoked : IsLegal plain revoked
legal_revoked = (
  (
    legal_passed,
    record {
      room = lit< tt;
      word = tt;
      row = record { live = refl; writer = (the_write, record { found = refl; by_is = refl; key_is = refl }); later_is = refl; above = lit< tt };
    },
  ),
  record { room = lit< tt; word = tt; row = ((1, refl), revoked_gave) },
)

-- A read and a write that are denied.

pub legal_denied_read : IsLegal plain denied_read
legal_denied_read = (
  (
    (
      (legal_write, record { room = lit< tt; word = tt; row = record { told = open_again } }),
      record { room = lit< tt; word = tt; row = record { told = unlink_opened } },
    ),
    record { room = lit< tt; word = tt; row = refl },
  ),
  record { room = lit< tt; word = tt; row = (inl refl, got) },
)
  where
    got : IsGot plain one 3 (look_denied ∷ opened 5 ∷ of_actor one with_write) block false (read.Denied denial.UnknownFile)
    got = record {
      mark = mark.Denied denial.UnknownFile;
      text = [];
      end_is = refl;
      saying = record {
        work = _;
        course =
            Went _ _ (Replied (reply.Denied denial.UnknownFile)) (look_denied ∷ []) (get_opened (of_actor one with_write) refl)
            (reply.Denied denial.UnknownFile, look_denied, refl, refl, refl);
        asks = refl;
      };
    }

pub legal_denied_write : IsLegal plain denied_write
legal_denied_write = (
  (
    (legal_file, record { room = lit< tt; word = tt; row = record { told = open_reply } }),
    record { room = lit< tt; word = tt; row = (refl, lit≤ tt) },
  ),
  record { room = lit< tt; word = tt; row = (inl refl, gave) },
)
  where
    gave : IsGave plain one 2 (begin_denied ∷ opened 0 ∷ with_file) far_block false (write.Denied denial.BlockTooFar)
    gave =
        let opening =
        Went _ _ (Replied (reply.Tree (given.File (file 0)))) (opened 0 ∷ []) (Begins with_file (operation.Put path 1048576 (datum.Bytes hello)) refl refl)
        (reply.Tree (given.File (file 0)), opened 0, refl, refl, refl) in
        record {
          work = _;
          course =
              Went _ _ (Replied (reply.Denied denial.BlockTooFar)) (begin_denied ∷ []) opening
              (reply.Denied denial.BlockTooFar, begin_denied, refl, refl, refl);
          asks = refl;
        }
