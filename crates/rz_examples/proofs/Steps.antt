-- The steps of the ordinary history, one by one.
use Rattle.std.proofs.Common.{ℕ, true, ◌≡◌, ◌⊎◌, inl, inr, ◌<◌, [], ◌∷◌, Some, refl, arith, zero, suc, lit<, lit≤}
use Rattle.std.proofs.lemmas.Nat.Bits.{bit_at_above}
use Rattle.rz_events.specs.declared.keys.Actor.{Actor}
use Rattle.rz_events.specs.declared.events.Word.TheVariants.{Export}
use Rattle.rz_events.specs.declared.events.Event.TheVariants as e
use Rattle.std.specs.Int.Count.{ones}
use Rattle.rz_export_model.specs.Export.{is_mask}
use Rattle.rz_core.specs.History.{Facts, Begun, facts, of_word, of_actor, Has, IsPlace, IsWriter}
use Rattle.rz_events.specs.Masks.{HasBit}
use Rattle.rz_core.specs.ExportRows.{HasKept, IsFree}
use Rattle.rz_core.specs.NodeRows.{HasRoom, IsNodeOf, cells_of}
use Rattle.rz_core.specs.Legal.{IsLegal}
use Rattle.rz_examples.specs.Plain.{plain, one, block, places, hello}
use Rattle.rz_examples.specs.Ordinary.{kept_at, hello_published, with_file, with_begin, with_keeps, with_write, with_records, ordinary}
use Rattle.rz_examples.proofs.Courses.{made_row, put_gave, get_got}
use Rattle.rz_examples.proofs.Names.{create_reply, open_reply, open_again}

abbrev pub the_write : Begun
the_write = record { by = one; key = block; base = 0; text = hello }

-- the nodes of the volume
pub node_1 : IsNodeOf plain 1
node_1 = inl refl

pub node_2 : IsNodeOf plain 2
node_2 = inr (inl refl)

pub node_3 : IsNodeOf plain 3
node_3 = inr (inr (inl refl))

pub node_4 : IsNodeOf plain 4
node_4 = inr (inr (inr (inl refl)))

pub is_writer : (f : Facts) → f.wrote 1 ≡ Some the_write → (b : Begun) × IsWriter f one block 1 b
is_writer f w = (the_write, record { found = w; by_is = refl; key_is = refl })

-- a node that has no event has room
pub room : (f : Facts) (n : ℕ) → 0 < cells_of plain n → HasRoom plain f [] n
room f n cells = record { keys = []; all = λ key h. absurd h; few = cells }

-- the positions of the mask 7
pub bits : (p : ℕ) → HasBit 7 p → (p ≡ 0) ⊎ ((p ≡ 1) ⊎ (p ≡ 2))
bits zero b = inl refl
bits (suc zero) b = inr (inl refl)
bits (suc (suc zero)) b = inr (inr refl)
bits (suc (suc (suc p))) b = let z = bit_at_above 7 3 (suc (suc (suc p))) (omega arith) (omega arith) in cc

pub quorum : is_mask plain.layout 7 ≡ true
unfolding ones
quorum = refl

pub keeps : (p : ℕ) → HasBit 7 p → (n : ℕ) × IsPlace (facts with_keeps) 1 p n × HasKept (of_actor one with_keeps) one n block 1 p
keeps p b = elim (bits p b) [
  | inl z ↦ (1, (places, refl, rw z refl), inl (inr (inr (inl (rw z refl)))))
  | inr rest ↦ elim rest [
    | inl o ↦ (2, (places, refl, rw o refl), inl (inr (inl (rw o refl))))
    | inr t ↦ (3, (places, refl, rw t refl), inl (inl (rw t refl)))
  ]
]

-- no node is enrolled
pub none_enrolled : (n s : ℕ) → IsFree (of_word Export with_keeps) n s
none_enrolled n s by loss fence has = absurd (never by loss fence has)
  where
    never : (by : Actor) (loss fence : ℕ) → Has (of_word Export with_keeps) (e.Enroll by n loss fence) → ⊥
    never by loss fence (inl is) = cc
    never by loss fence (inr (inl is)) = cc
    never by loss fence (inr (inr (inl is))) = cc
    never by loss fence (inr (inr (inr has))) = has

pub legal_file : IsLegal plain with_file
legal_file = (
  (tt, record { room = lit< tt; word = tt; row = record { told = create_reply (facts []) } }),
  record { room = lit< tt; word = tt; row = made_row },
)

pub legal_begin : IsLegal plain with_begin
legal_begin = (
  (legal_file, record { room = lit< tt; word = tt; row = record { told = open_reply } }),
  record { room = lit< tt; word = tt; row = record { live = refl; block = lit< tt; short = lit≤ tt; next = refl; from = refl } },
)

pub legal_keeps : IsLegal plain with_keeps
legal_keeps = (
  (
    (
      legal_begin,
      record {
        room = lit< tt;
        word = node_1;
        row = record {
          keep = record { up = refl; fenced = lit< tt; writing = record { writer = is_writer (facts with_begin) refl; place = (places, refl, refl) } };
          above = tt;
          cell = inr (room (facts with_begin) 1 (lit< tt));
        };
      },
    ),
    record {
      room = lit< tt;
      word = node_2;
      row = record {
        keep = record { up = refl; fenced = lit< tt; writing = record { writer = is_writer (facts (kept_at 1 0 ∷ with_begin)) refl; place = (places, refl, refl) } };
        above = tt;
        cell = inr (room (facts (kept_at 1 0 ∷ with_begin)) 2 (lit< tt));
      };
    },
  ),
  record {
    room = lit< tt;
    word = node_3;
    row = record {
      keep = record { up = refl; fenced = lit< tt; writing = record { writer = is_writer (facts (kept_at 2 1 ∷ kept_at 1 0 ∷ with_begin)) refl; place = (places, refl, refl) } };
      above = tt;
      cell = inr (room (facts (kept_at 2 1 ∷ kept_at 1 0 ∷ with_begin)) 3 (lit< tt));
    };
  },
)

pub legal_write : IsLegal plain with_write
legal_write = (
  (
    legal_keeps,
    record {
      room = lit< tt;
      word = tt;
      row = record {
        publishable = record { live = refl; newest = lit≤ tt; publishing = record { writer = is_writer (facts with_keeps) refl; quorum = quorum; kept = keeps } };
        free = λ p n bit place. none_enrolled n 1;
      };
    },
  ),
  record { room = lit< tt; word = tt; row = (refl, put_gave) },
)

pub legal_records : IsLegal plain with_records
legal_records = (
  (
    (
      (legal_write, record { room = lit< tt; word = tt; row = record { told = open_again } }),
      record { room = lit< tt; word = tt; row = record { live = refl; block = lit< tt; told = refl } },
    ),
    record {
      room = lit< tt;
      word = node_1;
      row = record { up = refl; place = (places, refl, refl); told = (inl refl, (the_write, record { found = refl; stamp = refl; length = refl; base = refl })) };
    },
  ),
  record {
    room = lit< tt;
    word = node_2;
    row = record { up = refl; place = (places, refl, refl); told = (inl refl, (the_write, record { found = refl; stamp = refl; length = refl; base = refl })) };
  },
)

pub legal_ordinary : IsLegal plain ordinary
legal_ordinary = (
  legal_records,
  record {
    room = lit< tt;
    word = tt;
    row = (
      record {
        looked = (hello_published, refl, refl);
        enough = (1 ∷ 0 ∷ [], ((lit< tt, tt), (tt, tt)), refl, (inl refl, (inr (inl refl), tt)));
        wrote = (the_write, refl, refl);
      },
      get_got,
    );
  },
)
