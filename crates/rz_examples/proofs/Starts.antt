-- The steps of the history in which node 1 crashes.
use Rattle.std.proofs.Common.{true, false, [], ◌∷◌, Some, refl, inl, inr, lit<, lit≤}
use Rattle.std.specs.Int.Count.{count_trailing_zeros}
use Rattle.rz_events.specs.declared.records.Change.TheVariants as change
use Rattle.rz_events.specs.declared.export.Reply.TheVariants as reply
use Rattle.rz_events.specs.declared.nodes.NodeAnswer.TheVariants as answer
use Rattle.rz_events.specs.declared.nodes.KeepAnswer.TheVariants as keep
use Rattle.rz_events.specs.declared.nodes.FetchAnswer.TheVariants as fetch
use Rattle.rz_events.specs.declared.ends.ReadMark.TheVariants as mark
use Rattle.rz_events.specs.declared.ends.ReadEnd.TheVariants as read
use Rattle.rz_events.specs.declared.ends.WriteEnd.TheVariants as write
use Rattle.rz_events.specs.declared.events.Word.TheVariants.{Export}
use Rattle.rz_operation_model.specs.Steps.{Replied, Answered}
use Rattle.rz_operation_model.specs.Turns.{Through}
use Rattle.rz_core.specs.History.{facts, of_word, of_actor}
use Rattle.rz_core.specs.Courses.{Went, IsGot, IsGave}
use Rattle.rz_core.specs.Legal.{IsLegal}
use Rattle.rz_examples.specs.Plain.{plain, one, block, places, hello}
use Rattle.rz_examples.specs.Ordinary.{kept_at, accepted_on, hello_record, fetched_at, with_begin}
use Rattle.rz_examples.specs.Troubled.{down_at}
use Rattle.rz_examples.specs.Crashes.{broke, with_break, broken_write, with_start, beside_published, looked_beside, with_found, taken_up}
use Rattle.rz_examples.proofs.Courses.{put_started, get_opened}
use Rattle.rz_examples.proofs.Names.{open_started}
use Rattle.rz_examples.proofs.Steps.{node_1, node_2, node_3, node_4, the_write, legal_begin}
use Rattle.rz_examples.proofs.Rows.{writes, first_keep, the_record, quorum_14, keeps_14, free_14}

broken_gave : IsGave plain one 2 (accepted_on 14 ∷ of_actor one with_break) block false (write.Acked 1 14)
broken_gave =
    let fault = Went _ _ (Answered true (answer.Keep keep.DiskFault)) (broke ∷ []) put_started (Through (answer.Keep keep.DiskFault) broke refl) in
    let one_kept = Went _ _ (Answered true (answer.Keep keep.Kept)) (kept_at 2 1 ∷ []) fault (Through (answer.Keep keep.Kept) (kept_at 2 1) refl) in
    let two_kept = Went _ _ (Answered true (answer.Keep keep.Kept)) (kept_at 3 2 ∷ []) one_kept (Through (answer.Keep keep.Kept) (kept_at 3 2) refl) in
    let all_kept = Went _ _ (Answered true (answer.Keep keep.Kept)) (kept_at 4 3 ∷ []) two_kept (Through (answer.Keep keep.Kept) (kept_at 4 3) refl) in
    record {
      work = _;
      course = Went _ _ (Replied reply.Accepted) (accepted_on 14 ∷ []) all_kept (reply.Accepted, accepted_on 14, refl, refl, refl);
      asks = refl;
    }

taken_got : IsGot plain one 3 (of_actor one with_found) block false (read.Found 1 hello)
unfolding count_trailing_zeros
taken_got =
    let looked =
    Went _ _ (Replied (reply.Looked (Some beside_published))) (looked_beside ∷ []) (get_opened (of_actor one broken_write) refl)
    (reply.Looked (Some beside_published), looked_beside, refl, refl, refl) in
    let second = Went _ _ (Answered true (answer.Fetch fetch.Down)) (down_at 2 ∷ []) looked (Through (answer.Fetch fetch.Down) (down_at 2) refl) in
    let third = Went _ _ (Answered true (answer.Fetch fetch.Down)) (down_at 3 ∷ []) second (Through (answer.Fetch fetch.Down) (down_at 3) refl) in
    let fourth =
    Went _ _ (Answered true (answer.Fetch (fetch.Held hello_record))) (fetched_at 4 3 ∷ []) third
    (Through (answer.Fetch (fetch.Held hello_record)) (fetched_at 4 3) refl) in
    record {
      mark = mark.Found 1 5;
      text = hello;
      end_is = refl;
      saying = record {
        work = _;
        course =
            Went _ _ (Answered true (answer.Fetch (fetch.Held hello_record))) (fetched_at 1 0 ∷ []) fourth
            (Through (answer.Fetch (fetch.Held hello_record)) (fetched_at 1 0) refl);
        asks = refl;
      };
    }

legal_break : IsLegal plain with_break
legal_break = (
  (
    (
      (
        (legal_begin, record { room = lit< tt; word = node_1; row = tt }),
        record {
          room = lit< tt;
          word = node_1;
          row = record {
            keep = record { up = refl; fenced = lit< tt; writing = writes _ one 1 1 0 the_write refl refl refl (places, refl, refl) };
            above = tt;
            cell = inr (record { keys = []; all = λ key there. absurd there; few = lit< tt });
          };
        },
      ),
      first_keep _ _ _ one 2 1 1 node_2 (lit< tt) (lit< tt) (writes _ one 2 1 1 the_write refl refl refl (places, refl, refl)),
    ),
    first_keep _ _ _ one 3 1 2 node_3 (lit< tt) (lit< tt) (writes _ one 3 1 2 the_write refl refl refl (places, refl, refl)),
  ),
  first_keep _ _ _ one 4 1 3 node_4 (lit< tt) (lit< tt) (writes _ one 4 1 3 the_write refl refl refl (places, refl, refl)),
)

legal_broken_write : IsLegal plain broken_write
legal_broken_write = (
  (
    legal_break,
    record {
      room = lit< tt;
      word = tt;
      row = record {
        publishable = record {
          live = refl;
          newest = lit≤ tt;
          publishing = record { writer = (the_write, record { found = refl; by_is = refl; key_is = refl }); quorum = quorum_14; kept = keeps_14 (facts with_break) (broke ∷ of_actor one with_begin) one 1 refl };
        };
        free = free_14 (facts with_break) (of_word Export with_break) 1 refl tt tt tt;
      };
    },
  ),
  record { room = lit< tt; word = tt; row = (refl, broken_gave) },
)

legal_start : IsLegal plain with_start
legal_start = (
  (
    (
      (legal_broken_write, record { room = lit< tt; word = node_1; row = record { down = refl; cause_is = refl } }),
      record { room = lit< tt; word = node_1; row = record { down = refl; pending = λ took. (change.Keep block 1 0, refl) } },
    ),
    record { room = lit< tt; word = node_2; row = refl },
  ),
  record { room = lit< tt; word = node_3; row = refl },
)

legal_found : IsLegal plain with_found
legal_found = (
  (
    (
      (
        (
          (legal_start, record { room = lit< tt; word = tt; row = record { told = open_started } }),
          record { room = lit< tt; word = tt; row = record { live = refl; block = lit< tt; told = refl } },
        ),
        record { room = lit< tt; word = node_2; row = (refl, refl) },
      ),
      record { room = lit< tt; word = node_3; row = (refl, refl) },
    ),
    record { room = lit< tt; word = node_4; row = record { up = refl; place = (places, refl, refl); told = (inl refl, the_record _ refl) } },
  ),
  record { room = lit< tt; word = node_1; row = record { up = refl; place = (places, refl, refl); told = (inl refl, the_record _ refl) } },
)

pub legal_taken_up : IsLegal plain taken_up
legal_taken_up = (
  legal_found,
  record {
    room = lit< tt;
    word = tt;
    row = (
      record {
        looked = (beside_published, refl, refl);
        enough = (3 ∷ 0 ∷ [], ((lit< tt, tt), (tt, tt)), refl, (inr (inl refl), (inl refl, tt)));
        wrote = (the_write, refl, refl);
      },
      taken_got,
    );
  },
)
