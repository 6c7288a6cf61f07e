-- What stands before the mistake of each mistaken history is legal.
use Rattle.std.proofs.Common.{ℕ, Bool, true, false, ◌≡◌, ◌<◌, ◌≤◌, inl, inr, List, [], ◌∷◌, Some, None, cond, refl, sym, arith, lit<, lit≤}
use Rattle.std.specs.Int.Count.{count_trailing_zeros}
use Rattle.rz_events.specs.declared.keys.Key.{Key}
use Rattle.rz_events.specs.declared.operations.Datum.TheVariants as datum
use Rattle.rz_events.specs.declared.operations.Operation.TheVariants as operation
use Rattle.rz_events.specs.declared.tree.TreeCall.TheVariants as call
use Rattle.rz_events.specs.declared.tree.TreeReply.TheVariants as given
use Rattle.rz_events.specs.declared.export.Reply.TheVariants as reply
use Rattle.rz_events.specs.declared.nodes.NodeAnswer.TheVariants as answer
use Rattle.rz_events.specs.declared.nodes.KeepAnswer.TheVariants as keep
use Rattle.rz_events.specs.declared.nodes.FetchAnswer.TheVariants as fetch
use Rattle.rz_events.specs.declared.ends.ReadMark.TheVariants as mark
use Rattle.rz_events.specs.declared.ends.ReadEnd.TheVariants as read
use Rattle.rz_events.specs.declared.ends.WriteEnd.TheVariants as write
use Rattle.rz_events.specs.declared.events.Word.TheVariants.{Export}
use Rattle.rz_events.specs.declared.events.Event.{Event}
use Rattle.rz_events.specs.declared.events.Event.TheVariants as e
use Rattle.rz_events.specs.Events.{same_key}
use Rattle.rz_events.specs.Masks.{HasBit}
use Rattle.rz_node_model.specs.Versions.{IsHeld}
use Rattle.rz_operation_model.specs.Steps.{Replied, Answered, Noted, begun as begins, told}
use Rattle.rz_operation_model.specs.Turns.{Through}
use Rattle.rz_core.specs.History.{Facts, Begun, facts, of_word, of_actor, IsPlace}
use Rattle.rz_core.specs.ExportRows.{HasKept}
use Rattle.rz_core.specs.NodeRows.{IsAmong, IsNodeOf, cells_of}
use Rattle.rz_core.specs.Courses.{IsCourse, Begun as Begins, Went, IsGot, IsGave}
use Rattle.rz_core.specs.Legal.{IsLegal, Allowed}
use Rattle.rz_examples.specs.Plain.{plain, one, two, mender, path, block, next_block, file, places, hello, world}
use Rattle.rz_examples.specs.Ordinary.{begun, opened, looked, kept_at, fetched_at, hello_published, hello_record, with_file, with_begin, with_write}
use Rattle.rz_examples.specs.Mended.{lost, listed, given_at, none_left, with_disk}
use Rattle.rz_examples.specs.Troubled.{down_at, short_causes, none_at, lost_at, looked_again}
use Rattle.rz_examples.specs.Rivals.{opened_by_two, begun_later, kept_later_at, world_published, world_record, with_both}
use Rattle.rz_examples.specs.Ranged.{hole_looked, hole_got}
use Rattle.rz_examples.specs.Answers.{kept_next_at, with_next, part_found, part_short, before_pass, with_other_disk, refused_drop}
use Rattle.rz_examples.proofs.Names.{create_reply, open_again, open_opened, open_next, unlink_replaced}
use Rattle.rz_examples.proofs.Steps.{node_1, node_2, node_3, node_4, the_write, quorum, bits, legal_begin, legal_write}
use Rattle.rz_examples.proofs.Rows.{writes, first_keep, the_record, keeps_7, free_7, enrolled_all}
use Rattle.rz_examples.proofs.Mending.{legal_disk, legal_sources, one_key, not_after, same_is}
use Rattle.rz_examples.proofs.Trouble.{legal_short_write, legal_short_read, none_less}
use Rattle.rz_examples.proofs.Clients.{second, second_gave, later}

-- Writes.

legal_rival : IsLegal plain (begun_later 0 ∷ with_begin)
legal_rival = (legal_begin, record { room = lit< tt; word = tt; row = record { live = refl; block = lit< tt; short = lit≤ tt; next = refl; from = refl } })

pub legal_kept_by_rival : IsLegal plain (kept_later_at 1 0 ∷ begun_later 0 ∷ with_begin)
legal_kept_by_rival = (legal_rival, first_keep _ _ _ two 1 2 0 node_1 (lit< tt) (lit< tt) (writes _ two 1 2 0 later refl refl refl (places, refl, refl)))

pub legal_outrun_keeps : IsLegal plain (kept_at 3 2 ∷ kept_at 2 1 ∷ kept_at 1 0 ∷ begun_later 0 ∷ with_begin)
legal_outrun_keeps = (
  (
    (legal_rival, first_keep _ _ _ one 1 1 0 node_1 (lit< tt) (lit< tt) (writes _ one 1 1 0 the_write refl refl refl (places, refl, refl))),
    first_keep _ _ _ one 2 1 1 node_2 (lit< tt) (lit< tt) (writes _ one 2 1 1 the_write refl refl refl (places, refl, refl)),
  ),
  first_keep _ _ _ one 3 1 2 node_3 (lit< tt) (lit< tt) (writes _ one 3 1 2 the_write refl refl refl (places, refl, refl)),
)

-- Reads.

abbrev with_second : List Event
with_second = kept_later_at 3 2 ∷ kept_later_at 2 1 ∷ kept_later_at 1 0 ∷ begun_later 1 ∷ opened_by_two 5 ∷ opened 5 ∷ with_write

legal_opened : IsLegal plain (opened 5 ∷ with_write)
legal_opened = (legal_write, record { room = lit< tt; word = tt; row = record { told = open_again } })

pub legal_both : IsLegal plain with_both
legal_both = (
  (
    (
      (
        (
          (
            (legal_opened, record { room = lit< tt; word = tt; row = record { told = open_opened } }),
            record { room = lit< tt; word = tt; row = record { live = refl; block = lit< tt; short = lit≤ tt; next = refl; from = refl } },
          ),
          record {
            room = lit< tt;
            word = node_1;
            row = record { keep = record { up = refl; fenced = lit< tt; writing = writes _ two 1 2 0 second refl refl refl (places, refl, refl) }; above = (lit< tt, tt); cell = inl tt };
          },
        ),
        record {
          room = lit< tt;
          word = node_2;
          row = record { keep = record { up = refl; fenced = lit< tt; writing = writes _ two 2 2 1 second refl refl refl (places, refl, refl) }; above = (lit< tt, tt); cell = inl tt };
        },
      ),
      record {
        room = lit< tt;
        word = node_3;
        row = record { keep = record { up = refl; fenced = lit< tt; writing = writes _ two 3 2 2 second refl refl refl (places, refl, refl) }; above = (lit< tt, tt); cell = inl tt };
      },
    ),
    record {
      room = lit< tt;
      word = tt;
      row = record {
        publishable = record {
          live = refl;
          newest = lit≤ tt;
          publishing = record { writer = (second, record { found = refl; by_is = refl; key_is = refl }); quorum = quorum; kept = keeps_7 (facts with_second) (begun_later 1 ∷ opened_by_two 5 ∷ []) two 2 refl };
        };
        free = free_7 (facts with_second) (of_word Export with_second) 2 refl tt tt tt;
      };
    },
  ),
  record { room = lit< tt; word = tt; row = (refl, second_gave) },
)

-- the reader was told of the second write
abbrev world_looked : List Event
world_looked = e.Look one block (Some world_published) ∷ with_both

legal_world_looked : IsLegal plain world_looked
legal_world_looked = (legal_both, record { room = lit< tt; word = tt; row = record { live = refl; block = lit< tt; told = refl } })

-- nodes 1 and 2 still have the records of the first one
pub legal_older_records : IsLegal plain (fetched_at 2 1 ∷ fetched_at 1 0 ∷ world_looked)
legal_older_records = (
  (legal_world_looked, record { room = lit< tt; word = node_1; row = record { up = refl; place = (places, refl, refl); told = (inr (inl refl), the_record _ refl) } }),
  record { room = lit< tt; word = node_2; row = record { up = refl; place = (places, refl, refl); told = (inr (inl refl), the_record _ refl) } },
)

pub legal_two_records : IsLegal plain (fetched_at 2 1 ∷ e.Fetch one 1 block 0 2 (Some world_record) ∷ world_looked)
legal_two_records = (
  (
    legal_world_looked,
    record {
      room = lit< tt;
      word = node_1;
      row = record { up = refl; place = (places, refl, refl); told = (inl refl, (second, record { found = refl; stamp = refl; length = refl; base = refl })) };
    },
  ),
  record { room = lit< tt; word = node_2; row = record { up = refl; place = (places, refl, refl); told = (inr (inl refl), the_record _ refl) } },
)

pub legal_lost_looked : IsLegal plain (looked ∷ lost ∷ with_write)
legal_lost_looked = (legal_disk.0.0.0, record { room = lit< tt; word = tt; row = record { live = refl; block = lit< tt; told = refl } })

pub legal_late_loss : IsLegal plain (e.Missed one 4 false ∷ looked_again ∷ fetched_at 3 2 ∷ lost_at 2 ∷ none_at 1 0 ∷ looked ∷ opened 5 ∷ e.Lose 2 1 ∷ with_disk)
legal_late_loss = (
  (
    legal_short_read.0.0.0,
    record { room = lit< tt; word = tt; row = record { live = refl; looked = inl (Some hello_published, inr (inr (inr (inl refl)))); told = refl } },
  ),
  record { room = lit< tt; word = tt; row = refl },
)

-- Rebuilds.

pub legal_one_source : IsLegal plain (given_at 2 1 ∷ listed ∷ with_disk)
legal_one_source = (legal_sources.0.0.0, record { room = lit< tt; word = node_2; row = record { up = refl; place = (places, refl, refl); told = (inl refl, the_record _ refl) } })

pub legal_two_sources : IsLegal plain (given_at 3 2 ∷ given_at 2 1 ∷ listed ∷ with_disk)
legal_two_sources = (legal_one_source, record { room = lit< tt; word = node_3; row = record { up = refl; place = (places, refl, refl); told = (inl refl, the_record _ refl) } })

pub legal_none_left : IsLegal plain (none_left ∷ listed ∷ with_disk)
legal_none_left = (
  legal_sources.0.0.0,
  record { room = lit< tt; word = tt; row = λ key p after li. not_after key (one_key (same_key key block) key p (facts (listed ∷ with_disk)) refl li.told) after },
)

abbrev by_mender : Begun
by_mender = record { by = mender; key = block; base = 1; text = world }

pub legal_pass : IsLegal plain (none_left ∷ before_pass)
legal_pass = (
  (
    (
      (legal_sources, record { room = lit< tt; word = tt; row = record { live = refl; block = lit< tt; short = lit≤ tt; next = refl; from = refl } }),
      record {
        room = lit< tt;
        word = node_1;
        row = record {
          keep = record { up = refl; fenced = lit< tt; writing = writes _ mender 1 3 0 by_mender refl refl refl (places, refl, refl) };
          above = tt;
          cell = inr (record { keys = []; all = λ key there. absurd there; few = lit< tt });
        };
      },
    ),
    record {
      room = lit< tt;
      word = node_1;
      row = inl (record { keep = (0, record { up = refl; fenced = lit< tt; writing = writes _ mender 1 3 0 by_mender refl refl refl (places, refl, refl) }); now_is = refl; above = lit≤ tt });
    },
  ),
  record { room = lit< tt; word = tt; row = λ key p after li. not_after key (one_key (same_key key block) key p (facts before_pass) refl li.told) after },
)

-- Answers.

pub legal_made : IsLegal plain (e.Meta mender (call.Create path) (given.MadeFile (file 0)) ∷ [])
legal_made = (tt, record { room = lit< tt; word = tt; row = record { told = create_reply (facts []) } })

-- The write of the next block, and the read of the first one.

abbrev the_next : Begun
the_next = record { by = two; key = next_block; base = 0; text = world }

-- a node that has the first block alone keeps the next one
next_keep : (f : Facts) (o run : List Event) (n p : ℕ) → IsNodeOf plain n → 1 < cells_of plain n → f.wrote 2 ≡ Some the_next → IsPlace f 1 p n
    → Allowed plain f (kept_at n p ∷ []) o run (kept_next_at n p)
next_keep f o run n p node cells found place = record {
  room = lit< tt;
  word = node;
  row = record {
    keep = record { up = refl; fenced = lit< tt; writing = record { writer = (the_next, record { found = found; by_is = refl; key_is = refl }); place = place } };
    above = tt;
    cell = inr (record { keys = block ∷ []; all = λ key there. held key (same_key key block) refl there; few = cells });
  };
}
  where
    held : (key : Key) (b : Bool) → same_key key block ≡ b → IsHeld (cond {A = List ℕ} b (1 ∷ []) []) → IsAmong key (block ∷ [])
    held key true same there = inl (sym (same_is key block same))
    held key false same there = absurd there

next_keeps : (f : Facts) (o : List Event) → f.places 1 ≡ Some places → (p : ℕ) → HasBit 7 p
    → (n : ℕ) × IsPlace f 1 p n × HasKept (kept_next_at 3 2 ∷ kept_next_at 2 1 ∷ kept_next_at 1 0 ∷ o) two n next_block 2 p
next_keeps f o placed p b = elim (bits p b) [
  | inl z ↦ (1, (places, placed, rw z refl), inl (inr (inr (inl (rw z refl)))))
  | inr rest ↦ elim rest [
    | inl o ↦ (2, (places, placed, rw o refl), inl (inr (inl (rw o refl))))
    | inr t ↦ (3, (places, placed, rw t refl), inl (inl (rw t refl)))
  ]
]

abbrev next_begun : List Event
next_begun = e.Begin two next_block 2 0 world ∷ with_write

abbrev next_kept : List Event
next_kept = kept_next_at 3 2 ∷ kept_next_at 2 1 ∷ kept_next_at 1 0 ∷ next_begun

legal_next : IsLegal plain with_next
legal_next = (
  (
    (
      (
        (legal_write, record { room = lit< tt; word = tt; row = record { live = refl; block = lit< tt; short = lit≤ tt; next = refl; from = refl } }),
        next_keep _ _ _ 1 0 node_1 (lit< tt) refl (places, refl, refl),
      ),
      next_keep _ _ _ 2 1 node_2 (lit< tt) refl (places, refl, refl),
    ),
    next_keep _ _ _ 3 2 node_3 (lit< tt) refl (places, refl, refl),
  ),
  record {
    room = lit< tt;
    word = tt;
    row = record {
      publishable = record {
        live = refl;
        newest = lit≤ tt;
        publishing = record { writer = (the_next, record { found = refl; by_is = refl; key_is = refl }); quorum = quorum; kept = next_keeps (facts next_kept) (e.Begin two next_block 2 0 world ∷ []) refl };
      };
      free = free_7 (facts next_kept) (of_word Export next_kept) 2 refl tt tt tt;
    };
  },
)

part_got : IsGot plain one 3 (fetched_at 2 1 ∷ fetched_at 1 0 ∷ looked ∷ opened 4101 ∷ of_actor one with_next) block true (read.Found 1 hello)
unfolding count_trailing_zeros
part_got =
    let there : IsCourse plain.layout one 3 (opened 4101 ∷ of_actor one with_next) (told plain.layout (begins (operation.Read path 0 5)) (Replied (reply.Tree (given.File (file 4101))))) =
    Went _ _ (Replied (reply.Tree (given.File (file 4101)))) (opened 4101 ∷ []) (Begins (of_actor one with_next) (operation.Read path 0 5) refl refl)
    (reply.Tree (given.File (file 4101)), opened 4101, refl, refl, refl) in
    let looked_0 = Went _ _ (Replied (reply.Looked (Some hello_published))) (looked ∷ []) there (reply.Looked (Some hello_published), looked, refl, refl, refl) in
    let first =
    Went _ _ (Answered true (answer.Fetch (fetch.Held hello_record))) (fetched_at 1 0 ∷ []) looked_0
    (Through (answer.Fetch (fetch.Held hello_record)) (fetched_at 1 0) refl) in
    let both =
    Went _ _ (Answered true (answer.Fetch (fetch.Held hello_record))) (fetched_at 2 1 ∷ []) first
    (Through (answer.Fetch (fetch.Held hello_record)) (fetched_at 2 1) refl) in
    record { mark = mark.Found 1 5; text = hello; end_is = refl; saying = record { work = _; course = both; asks = refl } }

pub legal_part_found : IsLegal plain part_found
legal_part_found = (
  (
    (
      (
        (legal_next, record { room = lit< tt; word = tt; row = record { told = open_next } }),
        record { room = lit< tt; word = tt; row = record { live = refl; block = lit< tt; told = refl } },
      ),
      record { room = lit< tt; word = node_1; row = record { up = refl; place = (places, refl, refl); told = (inl refl, the_record _ refl) } },
    ),
    record { room = lit< tt; word = node_2; row = record { up = refl; place = (places, refl, refl); told = (inl refl, the_record _ refl) } },
  ),
  record {
    room = lit< tt;
    word = tt;
    row = (
      record {
        looked = (hello_published, refl, refl);
        enough = (1 ∷ 0 ∷ [], ((lit< tt, tt), (tt, tt)), refl, (inl refl, (inr (inl refl), tt)));
        wrote = (the_write, refl, refl);
      },
      part_got,
    );
  },
)

-- A range of which the one block has too few nodes.

record ShortRows : Type 0 where
  hole : IsGot plain one 2 (hole_looked 0 ∷ opened 0 ∷ with_file) block true read.Hole
  gave : IsGave plain one 2 (down_at 2 ∷ down_at 1 ∷ begun ∷ hole_got 2 0 ∷ hole_looked 0 ∷ opened 0 ∷ with_file) block true (write.TooFew short_causes)

short_rows : ShortRows
short_rows =
    let there : IsCourse plain.layout one 2 (opened 0 ∷ with_file) (told plain.layout (begins (operation.Write path 0 (datum.Bytes hello))) (Replied (reply.Tree (given.File (file 0))))) =
    Went _ _ (Replied (reply.Tree (given.File (file 0)))) (opened 0 ∷ []) (Begins with_file (operation.Write path 0 (datum.Bytes hello)) refl refl)
    (reply.Tree (given.File (file 0)), opened 0, refl, refl, refl) in
    let looked_0 = Went _ _ (Replied (reply.Looked None)) (hole_looked 0 ∷ []) there (reply.Looked None, hole_looked 0, refl, refl, refl) in
    let hole_0 = Went _ _ (Noted []) (hole_got 2 0 ∷ []) looked_0 ([], refl, refl) in
    let begun_0 = Went _ _ (Replied (reply.Begun 1 0)) (begun ∷ []) hole_0 (reply.Begun 1 0, begun, refl, refl, refl) in
    let one_down = Went _ _ (Answered true (answer.Keep keep.Down)) (down_at 1 ∷ []) begun_0 (Through (answer.Keep keep.Down) (down_at 1) refl) in
    let two_down = Went _ _ (Answered true (answer.Keep keep.Down)) (down_at 2 ∷ []) one_down (Through (answer.Keep keep.Down) (down_at 2) refl) in
    record {
      hole = record { mark = mark.Hole; text = []; end_is = refl; saying = record { work = _; course = looked_0; asks = refl } };
      gave = record { work = _; course = two_down; asks = refl };
    }

pub legal_part_short : IsLegal plain part_short
legal_part_short = (
  (
    (
      (
        (
          (legal_short_write.0.0.0.0, record { room = lit< tt; word = tt; row = record { live = refl; block = lit< tt; told = refl } }),
          record { room = lit< tt; word = tt; row = (refl, short_rows.hole) },
        ),
        record { room = lit< tt; word = tt; row = record { live = refl; block = lit< tt; short = lit≤ tt; next = refl; from = refl } },
      ),
      record { room = lit< tt; word = node_1; row = (refl, refl) },
    ),
    record { room = lit< tt; word = node_2; row = (refl, refl) },
  ),
  record {
    room = lit< tt;
    word = tt;
    row = (
      record { stamp = 1; base = 0; text = hello; begun = refl; places = places; placed = refl; causes_are = refl; many = lit< tt },
      short_rows.gave,
    );
  },
)

-- Node 4 has a new disk when the file goes.

legal_other_disk : IsLegal plain with_other_disk
legal_other_disk = (
  (
    (
      (legal_write, record { room = lit< tt; word = node_4; row = record { there = λ q. cc; next = refl } }),
      record { room = lit< tt; word = node_4; row = (refl, refl) },
    ),
    record { room = lit< tt; word = tt; row = record { probed = inl refl; top = enrolled_all (λ l g. l ≤ 1) 4 (of_word Export with_write) tt; fence_is = refl } },
  ),
  record { room = lit< tt; word = node_4; row = record { lost = refl; loss_is = refl; enrolled = inl refl } },
)

pub legal_refused_drop : IsLegal plain refused_drop
legal_refused_drop = (
  (
    (
      (
        (legal_other_disk, record { room = lit< tt; word = tt; row = record { told = unlink_replaced } }),
        record {
          room = lit< tt;
          word = node_1;
          row = record { up = refl; least = λ at file less. none_less (same_key at block) at less refl; lesser = refl; gone = (call.Unlink path, file 5, inl refl, refl) };
        },
      ),
      record {
        room = lit< tt;
        word = node_2;
        row = record { up = refl; least = λ at file less. none_less (same_key at block) at less refl; lesser = refl; gone = (call.Unlink path, file 5, inr (inl refl), refl) };
      },
    ),
    record {
      room = lit< tt;
      word = node_3;
      row = record { up = refl; least = λ at file less. none_less (same_key at block) at less refl; lesser = refl; gone = (call.Unlink path, file 5, inr (inr (inl refl)), refl) };
    },
  ),
  record { room = lit< tt; word = node_4; row = (refl, (λ is. absurd (omega (arith, is))), refl) },
)
