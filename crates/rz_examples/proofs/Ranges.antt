-- The courses of a range that is written, and read.
use Rattle.std.proofs.Common.{ℕ, Bool, true, false, ◌≡◌, inl, inr, ◌<◌, List, [], ◌∷◌, Some, None, cond, refl, sym, lit<, lit≤}
use Rattle.std.specs.Int.Count.{count_trailing_zeros}
use Rattle.rz_events.specs.declared.operations.Datum.TheVariants as datum
use Rattle.rz_events.specs.declared.operations.Operation.TheVariants as operation
use Rattle.rz_events.specs.declared.tree.TreeReply.TheVariants as given
use Rattle.rz_events.specs.declared.export.Reply.TheVariants as reply
use Rattle.rz_events.specs.declared.nodes.NodeAnswer.TheVariants as answer
use Rattle.rz_events.specs.declared.nodes.KeepAnswer.TheVariants as keep
use Rattle.rz_events.specs.declared.nodes.FetchAnswer.TheVariants as fetch
use Rattle.rz_events.specs.declared.ends.ReadMark.TheVariants as mark
use Rattle.rz_events.specs.declared.ends.ReadEnd.TheVariants as read
use Rattle.rz_events.specs.declared.ends.WriteEnd.TheVariants as write
use Rattle.rz_events.specs.declared.events.Answer.TheVariants as answers
use Rattle.rz_events.specs.declared.keys.Key.{Key}
use Rattle.rz_events.specs.declared.events.Word.TheVariants.{Export}
use Rattle.rz_events.specs.declared.events.Event.{Event}
use Rattle.rz_events.specs.declared.events.Event.TheVariants as e
use Rattle.rz_events.specs.Events.{same_key}
use Rattle.rz_events.specs.Masks.{HasBit}
use Rattle.rz_node_model.specs.Versions.{IsHeld}
use Rattle.rz_operation_model.specs.Steps.{Replied, Answered, Noted, begun, told}
use Rattle.rz_operation_model.specs.Turns.{Through}
use Rattle.rz_core.specs.History.{Facts, Begun as Written, facts, of_word, IsPlace, IsWriter}
use Rattle.rz_core.specs.ExportRows.{HasKept, IsFree}
use Rattle.rz_core.specs.NodeRows.{HasRoom, IsAmong, cells_of}
use Rattle.rz_core.specs.Legal.{IsLegal}
use Rattle.rz_core.specs.Courses.{IsCourse, Begun, Went, IsGot, IsGave, DoneRow}
use Rattle.rz_examples.specs.Plain.{plain, one, file, path, places}
use Rattle.rz_examples.specs.Ordinary.{opened, with_file}
use Rattle.rz_examples.specs.Ranged.{block_at, first_text, second_text, hole_looked, hole_got, part_begun, part_kept, part_accepted, part_gave, with_range, part_published, part_record, part_fetched, part_got, range_read, ranged}
use Rattle.rz_examples.proofs.Names.{open_reply, open_ranged}
use Rattle.rz_examples.proofs.Steps.{node_1, node_2, node_3, room, bits, quorum, legal_file}
use Rattle.rz_examples.proofs.Mending.{same_is}

-- The write.

-- the operation's own events up to the end of each block's read and write, and to its answer
abbrev before_first : List Event
before_first = hole_looked 1 ∷ opened 0 ∷ with_file

abbrev first_sent : List Event
first_sent = part_accepted 1 ∷ part_kept 1 3 2 ∷ part_kept 1 2 1 ∷ part_kept 1 1 0 ∷ part_begun 1 first_text ∷ hole_got 2 1 ∷ before_first

abbrev before_second : List Event
before_second = hole_looked 2 ∷ part_gave 1 ∷ first_sent

abbrev second_sent : List Event
second_sent = part_accepted 2 ∷ part_kept 2 3 2 ∷ part_kept 2 2 1 ∷ part_kept 2 1 0 ∷ part_begun 2 second_text ∷ hole_got 2 2 ∷ before_second

record WriteRows : Type 0 where
  first_hole : IsGot plain one 2 before_first (block_at 1) true read.Hole
  first_gave : IsGave plain one 2 first_sent (block_at 1) true (write.Acked 1 7)
  second_hole : IsGot plain one 2 before_second (block_at 2) true read.Hole
  second_gave : IsGave plain one 2 second_sent (block_at 2) true (write.Acked 2 7)
  done : DoneRow plain one 2 (part_gave 2 ∷ second_sent) (answers.Wrote 2)

write_rows : WriteRows
write_rows =
    let there : IsCourse plain.layout one 2 (opened 0 ∷ with_file) (told plain.layout (begun (operation.Write path 8191 (datum.Bytes (97 ∷ 98 ∷ [])))) (Replied (reply.Tree (given.File (file 0))))) =
    Went _ _ (Replied (reply.Tree (given.File (file 0)))) (opened 0 ∷ []) (Begun with_file (operation.Write path 8191 (datum.Bytes (97 ∷ 98 ∷ []))) refl refl)
    (reply.Tree (given.File (file 0)), opened 0, refl, refl, refl) in
    let looked_1 = Went _ _ (Replied (reply.Looked None)) (hole_looked 1 ∷ []) there (reply.Looked None, hole_looked 1, refl, refl, refl) in
    let hole_1 = Went _ _ (Noted []) (hole_got 2 1 ∷ []) looked_1 ([], refl, refl) in
    let begun_1 = Went _ _ (Replied (reply.Begun 1 0)) (part_begun 1 first_text ∷ []) hole_1 (reply.Begun 1 0, part_begun 1 first_text, refl, refl, refl) in
    let kept_1a = Went _ _ (Answered true (answer.Keep keep.Kept)) (part_kept 1 1 0 ∷ []) begun_1 (Through (answer.Keep keep.Kept) (part_kept 1 1 0) refl) in
    let kept_1b = Went _ _ (Answered true (answer.Keep keep.Kept)) (part_kept 1 2 1 ∷ []) kept_1a (Through (answer.Keep keep.Kept) (part_kept 1 2 1) refl) in
    let kept_1c = Went _ _ (Answered true (answer.Keep keep.Kept)) (part_kept 1 3 2 ∷ []) kept_1b (Through (answer.Keep keep.Kept) (part_kept 1 3 2) refl) in
    let acked_1 = Went _ _ (Replied reply.Accepted) (part_accepted 1 ∷ []) kept_1c (reply.Accepted, part_accepted 1, refl, refl, refl) in
    let gave_1 = Went _ _ (Noted []) (part_gave 1 ∷ []) acked_1 ([], refl, refl) in
    let looked_2 = Went _ _ (Replied (reply.Looked None)) (hole_looked 2 ∷ []) gave_1 (reply.Looked None, hole_looked 2, refl, refl, refl) in
    let hole_2 = Went _ _ (Noted []) (hole_got 2 2 ∷ []) looked_2 ([], refl, refl) in
    let begun_2 = Went _ _ (Replied (reply.Begun 2 0)) (part_begun 2 second_text ∷ []) hole_2 (reply.Begun 2 0, part_begun 2 second_text, refl, refl, refl) in
    let kept_2a = Went _ _ (Answered true (answer.Keep keep.Kept)) (part_kept 2 1 0 ∷ []) begun_2 (Through (answer.Keep keep.Kept) (part_kept 2 1 0) refl) in
    let kept_2b = Went _ _ (Answered true (answer.Keep keep.Kept)) (part_kept 2 2 1 ∷ []) kept_2a (Through (answer.Keep keep.Kept) (part_kept 2 2 1) refl) in
    let kept_2c = Went _ _ (Answered true (answer.Keep keep.Kept)) (part_kept 2 3 2 ∷ []) kept_2b (Through (answer.Keep keep.Kept) (part_kept 2 3 2) refl) in
    let acked_2 = Went _ _ (Replied reply.Accepted) (part_accepted 2 ∷ []) kept_2c (reply.Accepted, part_accepted 2, refl, refl, refl) in
    let gave_2 = Went _ _ (Noted []) (part_gave 2 ∷ []) acked_2 ([], refl, refl) in
    record {
      first_hole = record { mark = mark.Hole; text = []; end_is = refl; saying = record { work = _; course = looked_1; asks = refl } };
      first_gave = record { work = _; course = acked_1; asks = refl };
      second_hole = record { mark = mark.Hole; text = []; end_is = refl; saying = record { work = _; course = looked_2; asks = refl } };
      second_gave = record { work = _; course = acked_2; asks = refl };
      done = record { work = _; course = gave_2; asks = refl };
    }

-- The read.

abbrev before_hole : List Event
before_hole = hole_looked 0 ∷ opened 8193 ∷ with_range

abbrev first_records : List Event
first_records =
    part_fetched 1 4096 2 1 ∷ part_fetched 1 4096 1 0 ∷ e.Look one (block_at 1) (Some (part_published 1 4096)) ∷ hole_got 3 0 ∷ before_hole

abbrev second_records : List Event
second_records =
    part_fetched 2 1 2 1 ∷ part_fetched 2 1 1 0 ∷ e.Look one (block_at 2) (Some (part_published 2 1)) ∷ part_got 1 first_text ∷ first_records

record ReadRows : Type 0 where
  hole : IsGot plain one 3 before_hole (block_at 0) true read.Hole
  first_got : IsGot plain one 3 first_records (block_at 1) true (read.Found 1 first_text)
  second_got : IsGot plain one 3 second_records (block_at 2) true (read.Found 2 second_text)
  done : DoneRow plain one 3 (part_got 2 second_text ∷ second_records) (answers.Read range_read)

read_rows : ReadRows
unfolding count_trailing_zeros
read_rows =
    let there : IsCourse plain.layout one 3 (opened 8193 ∷ with_range) (told plain.layout (begun (operation.Read path 4095 4098)) (Replied (reply.Tree (given.File (file 8193))))) =
    Went _ _ (Replied (reply.Tree (given.File (file 8193)))) (opened 8193 ∷ []) (Begun with_range (operation.Read path 4095 4098) refl refl)
    (reply.Tree (given.File (file 8193)), opened 8193, refl, refl, refl) in
    let looked_0 = Went _ _ (Replied (reply.Looked None)) (hole_looked 0 ∷ []) there (reply.Looked None, hole_looked 0, refl, refl, refl) in
    let hole_0 = Went _ _ (Noted []) (hole_got 3 0 ∷ []) looked_0 ([], refl, refl) in
    let looked_1 =
    Went _ _ (Replied (reply.Looked (Some (part_published 1 4096)))) (e.Look one (block_at 1) (Some (part_published 1 4096)) ∷ []) hole_0
    (reply.Looked (Some (part_published 1 4096)), e.Look one (block_at 1) (Some (part_published 1 4096)), refl, refl, refl) in
    let given_1a =
    Went _ _ (Answered true (answer.Fetch (fetch.Held (part_record 1 4096)))) (part_fetched 1 4096 1 0 ∷ []) looked_1
    (Through (answer.Fetch (fetch.Held (part_record 1 4096))) (part_fetched 1 4096 1 0) refl) in
    let given_1b =
    Went _ _ (Answered true (answer.Fetch (fetch.Held (part_record 1 4096)))) (part_fetched 1 4096 2 1 ∷ []) given_1a
    (Through (answer.Fetch (fetch.Held (part_record 1 4096))) (part_fetched 1 4096 2 1) refl) in
    let got_1 = Went _ _ (Noted first_text) (part_got 1 first_text ∷ []) given_1b (first_text, refl, refl) in
    let looked_2 =
    Went _ _ (Replied (reply.Looked (Some (part_published 2 1)))) (e.Look one (block_at 2) (Some (part_published 2 1)) ∷ []) got_1
    (reply.Looked (Some (part_published 2 1)), e.Look one (block_at 2) (Some (part_published 2 1)), refl, refl, refl) in
    let given_2a =
    Went _ _ (Answered true (answer.Fetch (fetch.Held (part_record 2 1)))) (part_fetched 2 1 1 0 ∷ []) looked_2
    (Through (answer.Fetch (fetch.Held (part_record 2 1))) (part_fetched 2 1 1 0) refl) in
    let given_2b =
    Went _ _ (Answered true (answer.Fetch (fetch.Held (part_record 2 1)))) (part_fetched 2 1 2 1 ∷ []) given_2a
    (Through (answer.Fetch (fetch.Held (part_record 2 1))) (part_fetched 2 1 2 1) refl) in
    let got_2 = Went _ _ (Noted second_text) (part_got 2 second_text ∷ []) given_2b (second_text, refl, refl) in
    record {
      hole = record { mark = mark.Hole; text = []; end_is = refl; saying = record { work = _; course = looked_0; asks = refl } };
      first_got = record { mark = mark.Found 1 4096; text = first_text; end_is = refl; saying = record { work = _; course = given_1b; asks = refl } };
      second_got = record { mark = mark.Found 2 1; text = second_text; end_is = refl; saying = record { work = _; course = given_2b; asks = refl } };
      done = record { work = _; course = got_2; asks = refl };
    }

-- The rows.

abbrev the_part : ℕ → List ℕ → Written
the_part block text = record { by = one; key = block_at block; base = 0; text = text }

part_writer : (f : Facts) (block : ℕ) (text : List ℕ) → f.wrote block ≡ Some (the_part block text) → (b : Written) × IsWriter f one (block_at block) block b
part_writer f block text w = (the_part block text, record { found = w; by_is = refl; key_is = refl })

part_keeps : (block : ℕ) (h o : List Event) → (facts h).places 1 ≡ Some places → (p : ℕ) → HasBit 7 p
    → (n : ℕ) × IsPlace (facts h) 1 p n × HasKept (part_kept block 3 2 ∷ part_kept block 2 1 ∷ part_kept block 1 0 ∷ o) one n (block_at block) block p
part_keeps block h o placed p b = elim (bits p b) [
  | inl z ↦ (1, (places, placed, rw z refl), inl (inr (inr (inl (rw z refl)))))
  | inr rest ↦ elim rest [
    | inl o ↦ (2, (places, placed, rw o refl), inl (inr (inl (rw o refl))))
    | inr t ↦ (3, (places, placed, rw t refl), inl (inl (rw t refl)))
  ]
]

-- no enrolment is among these
abbrev has_enroll : List Event → Bool
has_enroll [] = false
has_enroll (e.Enroll by node loss fence ∷ w) = true
has_enroll (_ ∷ w) = has_enroll w

none_enrolls : (w : List Event) → has_enroll w ≡ false → (n s : ℕ) → IsFree w n s
none_enrolls [] none n s by loss fence has = absurd has
none_enrolls (e.Enroll by' node loss' fence' ∷ w) none n s by loss fence has = cc
none_enrolls (x ∷ w) none n s by loss fence (inl is) = cc
none_enrolls (x ∷ w) none n s by loss fence (inr has) = none_enrolls w none n s by loss fence has

-- a node that has block 1 alone has room
room_beside : (f : Facts) (n position : ℕ) → 1 < cells_of plain n → HasRoom plain f (part_kept 1 n position ∷ []) n
room_beside f n position cells = record { keys = block_at 1 ∷ []; all = λ key there. all key (same_key key (block_at 1)) refl there; few = cells }
  where
    all : (key : Key) (b : Bool) → same_key key (block_at 1) ≡ b → IsHeld (cond {A = List ℕ} b (1 ∷ []) []) → IsAmong key (block_at 1 ∷ [])
    all key true same there = inl (sym (same_is key (block_at 1) same))
    all key false same there = absurd there

-- The steps of the write.

abbrev opened_file : List Event
opened_file = opened 0 ∷ with_file

legal_opened : IsLegal plain opened_file
legal_opened = (legal_file, record { room = lit< tt; word = tt; row = record { told = open_reply } })

legal_before_first : IsLegal plain before_first
legal_before_first = (legal_opened, record { room = lit< tt; word = tt; row = record { live = refl; block = lit< tt; told = refl } })

abbrev begun_first : List Event
begun_first = part_begun 1 first_text ∷ hole_got 2 1 ∷ before_first

legal_first_hole : IsLegal plain (hole_got 2 1 ∷ before_first)
legal_first_hole = (legal_before_first, record { room = lit< tt; word = tt; row = (refl, write_rows.first_hole) })

legal_begun_first : IsLegal plain begun_first
legal_begun_first = (legal_first_hole, record { room = lit< tt; word = tt; row = record { live = refl; block = lit< tt; short = lit≤ tt; next = refl; from = refl } })

abbrev kept_first_a : List Event
kept_first_a = part_kept 1 1 0 ∷ begun_first

legal_kept_first_a : IsLegal plain kept_first_a
legal_kept_first_a = (
  legal_begun_first,
  record {
    room = lit< tt;
    word = node_1;
    row = record {
      keep = record { up = refl; fenced = lit< tt; writing = record { writer = part_writer _ 1 first_text refl; place = (places, refl, refl) } };
      above = tt;
      cell = inr (room (facts begun_first) 1 (lit< tt));
    };
  },
)

abbrev kept_first_b : List Event
kept_first_b = part_kept 1 2 1 ∷ kept_first_a

legal_kept_first_b : IsLegal plain kept_first_b
legal_kept_first_b = (
  legal_kept_first_a,
  record {
    room = lit< tt;
    word = node_2;
    row = record {
      keep = record { up = refl; fenced = lit< tt; writing = record { writer = part_writer _ 1 first_text refl; place = (places, refl, refl) } };
      above = tt;
      cell = inr (room (facts kept_first_a) 2 (lit< tt));
    };
  },
)

abbrev kept_first : List Event
kept_first = part_kept 1 3 2 ∷ kept_first_b

legal_kept_first : IsLegal plain kept_first
legal_kept_first = (
  legal_kept_first_b,
  record {
    room = lit< tt;
    word = node_3;
    row = record {
      keep = record { up = refl; fenced = lit< tt; writing = record { writer = part_writer _ 1 first_text refl; place = (places, refl, refl) } };
      above = tt;
      cell = inr (room (facts kept_first_b) 3 (lit< tt));
    };
  },
)

legal_first_sent : IsLegal plain first_sent
legal_first_sent = (
  legal_kept_first,
  record {
    room = lit< tt;
    word = tt;
    row = record {
      publishable = record {
        live = refl;
        newest = lit≤ tt;
        publishing = record { writer = part_writer _ 1 first_text refl; quorum = quorum; kept = part_keeps 1 kept_first begun_first refl };
      };
      free = λ p n bit place. none_enrolls (of_word Export kept_first) refl n 1;
    };
  },
)

legal_first_gave : IsLegal plain (part_gave 1 ∷ first_sent)
legal_first_gave = (legal_first_sent, record { room = lit< tt; word = tt; row = (refl, write_rows.first_gave) })

legal_before_second : IsLegal plain before_second
legal_before_second = (legal_first_gave, record { room = lit< tt; word = tt; row = record { live = refl; block = lit< tt; told = refl } })

legal_second_hole : IsLegal plain (hole_got 2 2 ∷ before_second)
legal_second_hole = (legal_before_second, record { room = lit< tt; word = tt; row = (refl, write_rows.second_hole) })

abbrev begun_second : List Event
begun_second = part_begun 2 second_text ∷ hole_got 2 2 ∷ before_second

legal_begun_second : IsLegal plain begun_second
legal_begun_second = (legal_second_hole, record { room = lit< tt; word = tt; row = record { live = refl; block = lit< tt; short = lit≤ tt; next = refl; from = refl } })

abbrev kept_second_a : List Event
kept_second_a = part_kept 2 1 0 ∷ begun_second

legal_kept_second_a : IsLegal plain kept_second_a
legal_kept_second_a = (
  legal_begun_second,
  record {
    room = lit< tt;
    word = node_1;
    row = record {
      keep = record { up = refl; fenced = lit< tt; writing = record { writer = part_writer _ 2 second_text refl; place = (places, refl, refl) } };
      above = tt;
      cell = inr (room_beside (facts begun_second) 1 0 (lit< tt));
    };
  },
)

abbrev kept_second_b : List Event
kept_second_b = part_kept 2 2 1 ∷ kept_second_a

legal_kept_second_b : IsLegal plain kept_second_b
legal_kept_second_b = (
  legal_kept_second_a,
  record {
    room = lit< tt;
    word = node_2;
    row = record {
      keep = record { up = refl; fenced = lit< tt; writing = record { writer = part_writer _ 2 second_text refl; place = (places, refl, refl) } };
      above = tt;
      cell = inr (room_beside (facts kept_second_a) 2 1 (lit< tt));
    };
  },
)

abbrev kept_second : List Event
kept_second = part_kept 2 3 2 ∷ kept_second_b

legal_kept_second : IsLegal plain kept_second
legal_kept_second = (
  legal_kept_second_b,
  record {
    room = lit< tt;
    word = node_3;
    row = record {
      keep = record { up = refl; fenced = lit< tt; writing = record { writer = part_writer _ 2 second_text refl; place = (places, refl, refl) } };
      above = tt;
      cell = inr (room_beside (facts kept_second_b) 3 2 (lit< tt));
    };
  },
)

legal_second_sent : IsLegal plain second_sent
legal_second_sent = (
  legal_kept_second,
  record {
    room = lit< tt;
    word = tt;
    row = record {
      publishable = record {
        live = refl;
        newest = lit≤ tt;
        publishing = record { writer = part_writer _ 2 second_text refl; quorum = quorum; kept = part_keeps 2 kept_second begun_second refl };
      };
      free = λ p n bit place. none_enrolls (of_word Export kept_second) refl n 2;
    };
  },
)

legal_second_gave : IsLegal plain (part_gave 2 ∷ second_sent)
legal_second_gave = (legal_second_sent, record { room = lit< tt; word = tt; row = (refl, write_rows.second_gave) })

legal_range : IsLegal plain with_range
legal_range = (legal_second_gave, record { room = lit< tt; word = tt; row = write_rows.done })

-- The steps of the read.

legal_open_again : IsLegal plain (opened 8193 ∷ with_range)
legal_open_again = (legal_range, record { room = lit< tt; word = tt; row = record { told = open_ranged } })

legal_before_hole : IsLegal plain before_hole
legal_before_hole = (legal_open_again, record { room = lit< tt; word = tt; row = record { live = refl; block = lit< tt; told = refl } })

abbrev got_hole : List Event
got_hole = hole_got 3 0 ∷ before_hole

legal_got_hole : IsLegal plain got_hole
legal_got_hole = (legal_before_hole, record { room = lit< tt; word = tt; row = (refl, read_rows.hole) })

abbrev looked_first : List Event
looked_first = e.Look one (block_at 1) (Some (part_published 1 4096)) ∷ got_hole

legal_looked_first : IsLegal plain looked_first
legal_looked_first = (legal_got_hole, record { room = lit< tt; word = tt; row = record { live = refl; block = lit< tt; told = refl } })

abbrev fetched_first : List Event
fetched_first = part_fetched 1 4096 1 0 ∷ looked_first

legal_fetched_first : IsLegal plain fetched_first
legal_fetched_first = (legal_looked_first, record { room = lit< tt; word = node_1; row = record { up = refl; place = (places, refl, refl); told = (inl refl, (the_part 1 first_text, record { found = refl; stamp = refl; length = refl; base = refl })) } })

legal_first_records : IsLegal plain first_records
legal_first_records = (legal_fetched_first, record { room = lit< tt; word = node_2; row = record { up = refl; place = (places, refl, refl); told = (inl refl, (the_part 1 first_text, record { found = refl; stamp = refl; length = refl; base = refl })) } })

legal_got_first : IsLegal plain (part_got 1 first_text ∷ first_records)
legal_got_first = (
  legal_first_records,
  record {
    room = lit< tt;
    word = tt;
    row = (
      record {
        looked = (part_published 1 4096, refl, refl);
        enough = (1 ∷ 0 ∷ [], ((lit< tt, tt), (tt, tt)), refl, (inl refl, (inr (inl refl), tt)));
        wrote = (the_part 1 first_text, refl, refl);
      },
      read_rows.first_got,
    );
  },
)

abbrev looked_second : List Event
looked_second = e.Look one (block_at 2) (Some (part_published 2 1)) ∷ part_got 1 first_text ∷ first_records

legal_looked_second : IsLegal plain looked_second
legal_looked_second = (legal_got_first, record { room = lit< tt; word = tt; row = record { live = refl; block = lit< tt; told = refl } })

abbrev fetched_second : List Event
fetched_second = part_fetched 2 1 1 0 ∷ looked_second

legal_fetched_second : IsLegal plain fetched_second
legal_fetched_second = (legal_looked_second, record { room = lit< tt; word = node_1; row = record { up = refl; place = (places, refl, refl); told = (inl refl, (the_part 2 second_text, record { found = refl; stamp = refl; length = refl; base = refl })) } })

legal_second_records : IsLegal plain second_records
legal_second_records = (legal_fetched_second, record { room = lit< tt; word = node_2; row = record { up = refl; place = (places, refl, refl); told = (inl refl, (the_part 2 second_text, record { found = refl; stamp = refl; length = refl; base = refl })) } })

legal_got_second : IsLegal plain (part_got 2 second_text ∷ second_records)
legal_got_second = (
  legal_second_records,
  record {
    room = lit< tt;
    word = tt;
    row = (
      record {
        looked = (part_published 2 1, refl, refl);
        enough = (1 ∷ 0 ∷ [], ((lit< tt, tt), (tt, tt)), refl, (inl refl, (inr (inl refl), tt)));
        wrote = (the_part 2 second_text, refl, refl);
      },
      read_rows.second_got,
    );
  },
)

pub legal_ranged : IsLegal plain ranged
legal_ranged = (legal_got_second, record { room = lit< tt; word = tt; row = read_rows.done })
