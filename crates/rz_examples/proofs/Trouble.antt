-- The steps of the troubled histories.
use Rattle.std.proofs.Common.{ℕ, Bool, true, false, ◌≡◌, inl, inr, List, [], ◌∷◌, Some, cond, refl, lit<, lit≤}
use Rattle.rz_events.specs.declared.keys.Key.{Key}
use Rattle.rz_events.specs.declared.events.Word.TheVariants.{Export}
use Rattle.rz_events.specs.declared.tree.TreeCall.TheVariants as call
use Rattle.rz_events.specs.Events.{same_key}
use Rattle.rz_core.specs.History.{facts, of_word, of_actor}
use Rattle.rz_core.specs.ExportRows.{IsLess}
use Rattle.rz_core.specs.Legal.{IsLegal}
use Rattle.rz_examples.specs.Plain.{plain, one, block, places, file, path, hello}
use Rattle.rz_examples.specs.Ordinary.{hello_published}
use Rattle.rz_examples.specs.Troubled.{with_loss, with_three, lost_reply, short_write, short_read, unlinked}
use Rattle.rz_examples.proofs.Courses.{lost_gave, short_gave, short_got, unlinked_row}
use Rattle.rz_examples.proofs.Names.{open_reply, open_mended, unlink_reply}
use Rattle.rz_examples.proofs.Steps.{node_1, node_2, node_3, node_4, the_write, is_writer, legal_file, legal_begin, legal_write}
use Rattle.rz_examples.proofs.Rows.{writes, first_keep, quorum_14, keeps_14, free_14}
use Rattle.rz_examples.proofs.Mending.{legal_disk, not_less}

legal_three : IsLegal plain with_three
legal_three = (
  (
    (
      (
        (legal_begin, first_keep _ _ _ one 1 1 0 node_1 (lit< tt) (lit< tt) (writes _ one 1 1 0 the_write refl refl refl (places, refl, refl))),
        record { room = lit< tt; word = tt; row = refl },
      ),
      first_keep _ _ _ one 2 1 1 node_2 (lit< tt) (lit< tt) (writes _ one 2 1 1 the_write refl refl refl (places, refl, refl)),
    ),
    first_keep _ _ _ one 3 1 2 node_3 (lit< tt) (lit< tt) (writes _ one 3 1 2 the_write refl refl refl (places, refl, refl)),
  ),
  first_keep _ _ _ one 4 1 3 node_4 (lit< tt) (lit< tt) (writes _ one 4 1 3 the_write refl refl refl (places, refl, refl)),
)

pub legal_lost_reply : IsLegal plain lost_reply
legal_lost_reply = (
  (
    legal_three,
    record {
      room = lit< tt;
      word = tt;
      row = record {
        publishable = record { live = refl; newest = lit≤ tt; publishing = record { writer = is_writer (facts with_three) refl; quorum = quorum_14; kept = keeps_14 (facts with_three) (of_actor one with_loss) one 1 refl } };
        free = free_14 (facts with_three) (of_word Export with_three) 1 refl tt tt tt;
      };
    },
  ),
  record { room = lit< tt; word = tt; row = (refl, lost_gave) },
)

pub legal_short_write : IsLegal plain short_write
legal_short_write = (
  (
    (
      (
        (
          (
            (legal_file, record { room = lit< tt; word = node_1; row = refl }),
            record { room = lit< tt; word = node_2; row = refl },
          ),
          record { room = lit< tt; word = tt; row = record { told = open_reply } },
        ),
        record { room = lit< tt; word = tt; row = record { live = refl; block = lit< tt; short = lit≤ tt; next = refl; from = refl } },
      ),
      record { room = lit< tt; word = node_1; row = (refl, refl) },
    ),
    record { room = lit< tt; word = node_2; row = (refl, refl) },
  ),
  record {
    room = lit< tt;
    word = tt;
    row = (
      record { stamp = 1; base = 0; text = hello; begun = refl; places = places; placed = refl; causes_are = refl; many = lit< tt },
      short_gave,
    );
  },
)

pub legal_short_read : IsLegal plain short_read
legal_short_read = (
  (
    (
      (
        (
          (
            (
              (
                (legal_disk, record { room = lit< tt; word = node_2; row = record { there = λ q. cc; next = refl } }),
                record { room = lit< tt; word = tt; row = record { told = open_mended } },
              ),
              record { room = lit< tt; word = tt; row = record { live = refl; block = lit< tt; told = refl } },
            ),
            record { room = lit< tt; word = node_1; row = record { up = refl; place = (places, refl, refl); told = λ there. there } },
          ),
          record { room = lit< tt; word = node_2; row = (refl, refl) },
        ),
        record { room = lit< tt; word = node_3; row = record { up = refl; place = (places, refl, refl); told = (inl refl, (the_write, record { found = refl; stamp = refl; length = refl; base = refl })) } },
      ),
      record { room = lit< tt; word = node_4; row = record { up = refl; place = (places, refl, refl); told = λ there. there } },
    ),
    record { room = lit< tt; word = tt; row = record { live = refl; looked = inl (Some hello_published, inr (inr (inr (inr (inl refl))))); told = refl } },
  ),
  record {
    room = lit< tt;
    word = tt;
    row = (
      record {
        published = hello_published;
        looked = refl;
        short = record { places = places; placed = refl; asked = (refl, (refl, (refl, (refl, tt)))); told_is = refl; few = lit< tt; ended = (refl, (refl, (refl, (refl, tt)))) };
        now = Some hello_published;
        again = refl;
        same = refl;
      },
      short_got,
    );
  },
)

-- no lesser key is held than the first block
pub none_less : (t : Bool) (at : Key) → IsLess at block → same_key at block ≡ t → cond {A = List ℕ} t (1 ∷ []) [] ≡ []
none_less false at less same = refl
none_less true at less same = absurd (not_less at same less)

pub legal_unlinked : IsLegal plain unlinked
legal_unlinked = (
  (
    (
      (
        (
          (legal_write, record { room = lit< tt; word = tt; row = record { told = unlink_reply } }),
          record {
            room = lit< tt;
            word = node_1;
            row = record { up = refl; least = λ at file less. none_less (same_key at block) at less refl; lesser = refl; gone = (call.Unlink path, file 5, inl refl, refl) };
          },
        ),
        record {
          room = lit< tt;
          word = node_2;
          row = record { up = refl; least = λ at file less. none_less (same_key at block) at less refl; lesser = refl; gone = (call.Unlink path, file 5, inr (inl refl), refl) };
        },
      ),
      record { room = lit< tt; word = tt; row = refl },
    ),
    record { room = lit< tt; word = node_4; row = record { up = refl; none = λ at file. refl } },
  ),
  record {
    room = lit< tt;
    word = tt;
    row = unlinked_row;
  },
)
