-- The steps of the histories in which node 1 gets a new disk.
use Rattle.std.proofs.Common.{ℕ, Bool, true, false, ◌≡◌, ◌<◌, ◌≤◌, ◌&&◌, [], ◌∷◌, Some, None, cond, refl, inl, inr, arith, lit<, lit≤}
use Rattle.std.specs.Int.Count.{count_trailing_zeros}
use Rattle.rz_events.specs.Masks.{HasBit}
use Rattle.rz_events.specs.declared.keys.Key.{Key}
use Rattle.rz_events.specs.declared.files.Published.{Published}
use Rattle.rz_events.specs.declared.operations.Datum.TheVariants as datum
use Rattle.rz_events.specs.declared.operations.Operation.TheVariants as operation
use Rattle.rz_events.specs.declared.tree.TreeReply.TheVariants as given
use Rattle.rz_events.specs.declared.export.Reply.TheVariants as reply
use Rattle.rz_events.specs.declared.nodes.NodeAnswer.TheVariants as answer
use Rattle.rz_events.specs.declared.nodes.KeepAnswer.TheVariants as keep
use Rattle.rz_events.specs.declared.nodes.FetchAnswer.TheVariants as fetch
use Rattle.rz_events.specs.declared.nodes.RefillAnswer.TheVariants as refill
use Rattle.rz_events.specs.declared.ends.WriteEnd.TheVariants as write
use Rattle.rz_events.specs.declared.ends.RebuildEnd.TheVariants as rebuild
use Rattle.rz_events.specs.declared.events.Answer.TheVariants as answers
use Rattle.rz_events.specs.declared.events.Word.TheVariants.{Export}
use Rattle.rz_events.specs.Events.{same_key}
use Rattle.rz_operation_model.specs.Steps.{Replied, Answered, begun, told}
use Rattle.rz_operation_model.specs.Turns.{Through}
use Rattle.rz_core.specs.History.{Facts, Begun, facts, of_word, of_actor, IsPlace}
use Rattle.rz_core.specs.ExportRows.{HasKept}
use Rattle.rz_core.specs.ExportWord.{is_newer, with_length}
use Rattle.rz_core.specs.Courses.{IsCourse, Begun as Begins, Went, IsGave, DoneRow}
use Rattle.rz_core.specs.NodeRows.{IsRecord}
use Rattle.rz_core.specs.Legal.{IsLegal}
use Rattle.rz_examples.specs.Plain.{plain, one, two, mender, block, file, path, places, world}
use Rattle.rz_examples.specs.Ordinary.{kept_at, accepted_on, with_begin, with_keeps}
use Rattle.rz_examples.specs.Mended.{enrolled, probed, lost, none_left}
use Rattle.rz_examples.specs.Rivals.{opened_by_two}
use Rattle.rz_examples.specs.Fences.{barred, with_spare, published_beside, fenced, with_others, fenced_write, begun_above, kept_above_at, accepted_above, with_kept_above, with_above, above_listed, above_record, listed_above, given_above_at, passed_over, with_copied, mended_above}
use Rattle.rz_examples.proofs.Courses.{put_started, put_kept, disk_replaced}
use Rattle.rz_examples.proofs.Names.{open_mended, file_above}
use Rattle.rz_examples.proofs.Steps.{node_1, node_2, node_3, node_4, the_write, quorum, keeps, legal_begin, legal_keeps}
use Rattle.rz_examples.proofs.Rows.{writes, first_keep, bits_14, quorum_14, keeps_7, keeps_14, enrolled_all, free_at, free_7, free_14}
use Rattle.rz_examples.proofs.Mending.{legal_disk, not_less, not_after}

-- A publish that is refused for a position.

beside_gave : IsGave plain one 2 (accepted_on 14 ∷ of_actor one with_spare) block false (write.Acked 1 14)
beside_gave =
    let refused = Went _ _ (Replied (reply.Enrolled 0 2)) (barred ∷ []) put_kept (reply.Enrolled 0 2, barred, refl, refl, refl) in
    let spare = Went _ _ (Answered true (answer.Keep keep.Kept)) (kept_at 4 3 ∷ []) refused (Through (answer.Keep keep.Kept) (kept_at 4 3) refl) in
    record {
      work = _;
      course = Went _ _ (Replied reply.Accepted) (accepted_on 14 ∷ []) spare (reply.Accepted, accepted_on 14, refl, refl, refl);
      asks = refl;
    }

-- the records at positions 1 and 2 were kept before the refusal
spare_keeps : (p : ℕ) → HasBit 14 p → (n : ℕ) × IsPlace (facts with_spare) 1 p n × HasKept (of_actor one with_spare) one n block 1 p
spare_keeps p b = elim (bits_14 p b) [
  | inl z ↦ (2, (places, refl, rw z refl), inl (inr (inr (inr (inl (rw z refl))))))
  | inr rest ↦ elim rest [
    | inl o ↦ (3, (places, refl, rw o refl), inl (inr (inr (inl (rw o refl)))))
    | inr t ↦ (4, (places, refl, rw t refl), inl (inl (rw t refl)))
  ]
]

none_below : (p n : ℕ) → p < 0 → ⊥
none_below p n less = absurd (omega (arith, less))

pub legal_spare : IsLegal plain with_spare
legal_spare = (
  (
    (
      (
        (legal_keeps, record { room = lit< tt; word = node_1; row = record { there = λ q. cc; next = refl } }),
        record { room = lit< tt; word = node_1; row = (refl, refl) },
      ),
      record { room = lit< tt; word = tt; row = record { probed = inl refl; top = enrolled_all (λ l g. l ≤ 1) 1 (of_word Export with_keeps) tt; fence_is = refl } },
    ),
    record {
      room = lit< tt;
      word = tt;
      row = record {
        publishable = record {
          live = refl;
          newest = lit≤ tt;
          publishing = record { writer = (the_write, record { found = refl; by_is = refl; key_is = refl }); quorum = quorum; kept = keeps };
        };
        named = refl;
        barred = (1, (places, refl, refl), record { enrolled = (mender, 1, inl refl); top = free_at (of_word Export (enrolled ∷ probed ∷ lost ∷ with_keeps)) 1 2 ((λ is. lit≤ tt), tt) });
        above = lit< tt;
        least = λ p n less. absurd (none_below p n less);
      };
    },
  ),
  first_keep _ _ _ one 4 1 3 node_4 (lit< tt) (lit< tt) (writes _ one 4 1 3 the_write refl refl refl (places, refl, refl)),
)

pub legal_published_beside : IsLegal plain published_beside
legal_published_beside = (
  (
    legal_spare,
    record {
      room = lit< tt;
      word = tt;
      row = record {
        publishable = record {
          live = refl;
          newest = lit≤ tt;
          publishing = record { writer = (the_write, record { found = refl; by_is = refl; key_is = refl }); quorum = quorum_14; kept = spare_keeps };
        };
        free = free_14 (facts with_spare) (of_word Export with_spare) 1 refl ((λ is. absurd (omega (arith, is))), tt) ((λ is. absurd (omega (arith, is))), tt) ((λ is. absurd (omega (arith, is))), tt);
      };
    },
  ),
  record { room = lit< tt; word = tt; row = (refl, beside_gave) },
)

-- A record below the fence.

fenced_gave : IsGave plain one 2 (accepted_on 14 ∷ of_actor one with_others) block false (write.Acked 1 14)
fenced_gave =
    let refused = Went _ _ (Answered true (answer.Keep (keep.Fenced 2))) (fenced ∷ []) put_started (Through (answer.Keep (keep.Fenced 2)) fenced refl) in
    let one_kept = Went _ _ (Answered true (answer.Keep keep.Kept)) (kept_at 2 1 ∷ []) refused (Through (answer.Keep keep.Kept) (kept_at 2 1) refl) in
    let two_kept = Went _ _ (Answered true (answer.Keep keep.Kept)) (kept_at 3 2 ∷ []) one_kept (Through (answer.Keep keep.Kept) (kept_at 3 2) refl) in
    let all_kept = Went _ _ (Answered true (answer.Keep keep.Kept)) (kept_at 4 3 ∷ []) two_kept (Through (answer.Keep keep.Kept) (kept_at 4 3) refl) in
    record {
      work = _;
      course = Went _ _ (Replied reply.Accepted) (accepted_on 14 ∷ []) all_kept (reply.Accepted, accepted_on 14, refl, refl, refl);
      asks = refl;
    }

pub legal_others : IsLegal plain with_others
legal_others = (
  (
    (
      (
        (
          (
            (
              (legal_begin, record { room = lit< tt; word = node_1; row = record { there = λ q. cc; next = refl } }),
              record { room = lit< tt; word = node_1; row = (refl, refl) },
            ),
            record { room = lit< tt; word = tt; row = record { probed = inl refl; top = enrolled_all (λ l g. l ≤ 1) 1 (of_word Export with_begin) tt; fence_is = refl } },
          ),
          record { room = lit< tt; word = node_1; row = record { lost = refl; loss_is = refl; enrolled = inl refl } },
        ),
        record { room = lit< tt; word = node_1; row = (refl, (λ is. absurd (omega (arith, is))), refl) },
      ),
      first_keep _ _ _ one 2 1 1 node_2 (lit< tt) (lit< tt) (writes _ one 2 1 1 the_write refl refl refl (places, refl, refl)),
    ),
    first_keep _ _ _ one 3 1 2 node_3 (lit< tt) (lit< tt) (writes _ one 3 1 2 the_write refl refl refl (places, refl, refl)),
  ),
  first_keep _ _ _ one 4 1 3 node_4 (lit< tt) (lit< tt) (writes _ one 4 1 3 the_write refl refl refl (places, refl, refl)),
)

pub legal_fenced_write : IsLegal plain fenced_write
legal_fenced_write = (
  (
    legal_others,
    record {
      room = lit< tt;
      word = tt;
      row = record {
        publishable = record {
          live = refl;
          newest = lit≤ tt;
          publishing = record { writer = (the_write, record { found = refl; by_is = refl; key_is = refl }); quorum = quorum_14; kept = keeps_14 (facts with_others) (fenced ∷ of_actor one with_begin) one 1 refl };
        };
        free = free_14 (facts with_others) (of_word Export with_others) 1 refl ((λ is. absurd (omega (arith, is))), tt) ((λ is. absurd (omega (arith, is))), tt) ((λ is. absurd (omega (arith, is))), tt);
      };
    },
  ),
  record { room = lit< tt; word = tt; row = (refl, fenced_gave) },
)

-- A record above the fence.

abbrev above : Begun
above = record { by = two; key = block; base = 1; text = world }

above_opened : IsCourse plain.layout two 1 (opened_by_two 5 ∷ []) (told plain.layout (begun (operation.Put path 0 (datum.Bytes world))) (Replied (reply.Tree (given.File (file 5)))))
above_opened =
    Went _ _ (Replied (reply.Tree (given.File (file 5)))) (opened_by_two 5 ∷ []) (Begins [] (operation.Put path 0 (datum.Bytes world)) refl tt)
    (reply.Tree (given.File (file 5)), opened_by_two 5, refl, refl, refl)

above_gave : IsGave plain two 1 (of_actor two (accepted_above ∷ with_kept_above)) block false (write.Acked 3 7)
above_gave =
    let start = Went _ _ (Replied (reply.Begun 3 1)) (begun_above ∷ []) above_opened (reply.Begun 3 1, begun_above, refl, refl, refl) in
    let one_kept = Went _ _ (Answered true (answer.Keep keep.Kept)) (kept_above_at 1 0 ∷ []) start (Through (answer.Keep keep.Kept) (kept_above_at 1 0) refl) in
    let two_kept = Went _ _ (Answered true (answer.Keep keep.Kept)) (kept_above_at 2 1 ∷ []) one_kept (Through (answer.Keep keep.Kept) (kept_above_at 2 1) refl) in
    let all_kept = Went _ _ (Answered true (answer.Keep keep.Kept)) (kept_above_at 3 2 ∷ []) two_kept (Through (answer.Keep keep.Kept) (kept_above_at 3 2) refl) in
    record {
      work = _;
      course = Went _ _ (Replied reply.Accepted) (accepted_above ∷ []) all_kept (reply.Accepted, accepted_above, refl, refl, refl);
      asks = refl;
    }

above_done : DoneRow plain mender 1 (none_left ∷ passed_over ∷ of_actor mender with_copied) (answers.Rebuild (rebuild.Rebuilt 2 1))
unfolding count_trailing_zeros
above_done =
    let told_one =
    Went _ _ (Replied (reply.Listed (Some above_listed))) (listed_above ∷ []) disk_replaced (reply.Listed (Some above_listed), listed_above, refl, refl, refl) in
    let first =
    Went _ _ (Answered true (answer.Fetch (fetch.Held above_record))) (given_above_at 1 0 ∷ []) told_one
    (Through (answer.Fetch (fetch.Held above_record)) (given_above_at 1 0) refl) in
    let second =
    Went _ _ (Answered true (answer.Fetch (fetch.Held above_record))) (given_above_at 2 1 ∷ []) first
    (Through (answer.Fetch (fetch.Held above_record)) (given_above_at 2 1) refl) in
    let over = Went _ _ (Answered true (answer.Refill (refill.Passed 3))) (passed_over ∷ []) second (Through (answer.Refill (refill.Passed 3)) passed_over refl) in
    record {
      work = _;
      course = Went _ _ (Replied (reply.Listed None)) (none_left ∷ []) over (reply.Listed None, none_left, refl, refl, refl);
      asks = refl;
    }

legal_above : IsLegal plain with_above
legal_above = (
  (
    (
      (
        (
          (
            (legal_disk, record { room = lit< tt; word = tt; row = record { told = open_mended } }),
            record { room = lit< tt; word = tt; row = record { live = refl; block = lit< tt; short = lit≤ tt; next = refl; from = refl } },
          ),
          record {
            room = lit< tt;
            word = node_1;
            row = record {
              keep = record { up = refl; fenced = lit< tt; writing = writes _ two 1 3 0 above refl refl refl (places, refl, refl) };
              above = tt;
              cell = inr (record { keys = []; all = λ key there. absurd there; few = lit< tt });
            };
          },
        ),
        record {
          room = lit< tt;
          word = node_2;
          row = record { keep = record { up = refl; fenced = lit< tt; writing = writes _ two 2 3 1 above refl refl refl (places, refl, refl) }; above = (lit< tt, tt); cell = inl tt };
        },
      ),
      record {
        room = lit< tt;
        word = node_3;
        row = record { keep = record { up = refl; fenced = lit< tt; writing = writes _ two 3 3 2 above refl refl refl (places, refl, refl) }; above = (lit< tt, tt); cell = inl tt };
      },
    ),
    record {
      room = lit< tt;
      word = tt;
      row = record {
        publishable = record {
          live = refl;
          newest = lit≤ tt;
          publishing = record { writer = (above, record { found = refl; by_is = refl; key_is = refl }); quorum = quorum; kept = keeps_7 (facts with_kept_above) (begun_above ∷ opened_by_two 5 ∷ []) two 3 refl };
        };
        free = free_7 (facts with_kept_above) (of_word Export with_kept_above) 3 refl ((λ is. lit≤ tt), tt) ((λ is. absurd (omega (arith, is))), tt) ((λ is. absurd (omega (arith, is))), tt);
      };
    },
  ),
  record { room = lit< tt; word = tt; row = (refl, above_gave) },
)

the_above : (f : Facts) → f.wrote 3 ≡ Some above → (b : Begun) × IsRecord f 3 above_record b
the_above f found = (above, record { found = found; stamp = refl; length = refl; base = refl })

-- the one key that is published
key_above : (t : Bool) (key : Key) (p : Published) (f : Facts) → same_key key block ≡ t
    → Some p ≡ with_length f (cond (t && is_newer 3 (cond (t && true) (Some (1, 7)) None)) (Some (3, 7)) (cond (t && true) (Some (1, 7)) None))
    → same_key key block ≡ true
key_above true key p f q e = q
key_above false key p f q e = cc

legal_copied : IsLegal plain with_copied
legal_copied = (
  (
    (
      legal_above,
      record {
        room = lit< tt;
        word = tt;
        row = record {
          listed = record { live = refl; told = refl; named = (0, refl, (places, refl, refl)) };
          later = tt;
          least = λ key p after less li. not_less key (key_above (same_key key block) key p (facts with_above) refl li.told) less;
          file = file_above;
        };
      },
    ),
    record { room = lit< tt; word = node_1; row = record { up = refl; place = (places, refl, refl); told = (inl refl, the_above _ refl) } },
  ),
  record { room = lit< tt; word = node_2; row = record { up = refl; place = (places, refl, refl); told = (inl refl, the_above _ refl) } },
)

pub legal_mended_above : IsLegal plain mended_above
legal_mended_above = (
  (
    (
      legal_copied,
      record {
        room = lit< tt;
        word = node_1;
        row = inr (record {
          refill = (
            0,
            record {
              up = refl;
              fence_is = refl;
              rebuilding = record {
                replaced = (1, inl refl);
                next = (1, above_listed, record { after = (None, refl); key_is = refl }, refl);
                enough = (1 ∷ 0 ∷ [], ((lit< tt, tt), (tt, tt)), refl, (inl refl, (inr (inl refl), tt)));
                place = (places, refl, refl);
              };
            },
          );
          now_is = refl;
          past = inl (inl refl);
        });
      },
    ),
    record { room = lit< tt; word = tt; row = λ key p after li. not_after key (key_above (same_key key block) key p (facts (passed_over ∷ with_copied)) refl li.told) after },
  ),
  record { room = lit< tt; word = tt; row = above_done },
)
