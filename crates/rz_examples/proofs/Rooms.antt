-- The steps of the history in which a node is full.
use Rattle.std.proofs.Common.{[], ◌∷◌, refl, inr, lit<, lit≤}
use Rattle.rz_core.specs.History.{facts}
use Rattle.rz_core.specs.Legal.{IsLegal}
use Rattle.rz_examples.specs.Plain.{small, one, block, places}
use Rattle.rz_examples.specs.Ordinary.{with_begin}
use Rattle.rz_examples.specs.Full.{with_next_begun, full}
use Rattle.rz_examples.proofs.Courses.{made_row}
use Rattle.rz_examples.proofs.Names.{create_small, open_small, open_small_begun}
use Rattle.rz_examples.proofs.Steps.{node_1, the_write}
use Rattle.rz_examples.proofs.Rows.{writes}

legal_small_begin : IsLegal small with_begin
legal_small_begin = (
  (
    (
      (tt, record { room = lit< tt; word = tt; row = record { told = create_small (facts []) } }),
      record { room = lit< tt; word = tt; row = record { work = made_row.work; course = made_row.course; asks = made_row.asks } },
    ),
    record { room = lit< tt; word = tt; row = record { told = open_small } },
  ),
  record { room = lit< tt; word = tt; row = record { live = refl; block = lit< tt; short = lit≤ tt; next = refl; from = refl } },
)

legal_next_begun : IsLegal small with_next_begun
legal_next_begun = (
  (
    (
      legal_small_begin,
      record {
        room = lit< tt;
        word = node_1;
        row = record {
          keep = record { up = refl; fenced = lit< tt; writing = writes _ one 1 1 0 the_write refl refl refl (places, refl, refl) };
          above = tt;
          cell = inr (record { keys = []; all = λ key there. absurd there; few = lit< tt });
        };
      },
    ),
    record { room = lit< tt; word = tt; row = record { told = open_small_begun } },
  ),
  record { room = lit< tt; word = tt; row = record { live = refl; block = lit< tt; short = lit≤ tt; next = refl; from = refl } },
)

pub legal_full : IsLegal small full
legal_full = (
  legal_next_begun,
  record {
    room = lit< tt;
    word = node_1;
    row = (refl, record { keys = block ∷ []; distinct = (tt, tt); all = (tt, tt); many = refl }, refl);
  },
)
