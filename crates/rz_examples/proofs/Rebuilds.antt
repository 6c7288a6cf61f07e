-- The steps of the rebuilds that end otherwise.
use Rattle.std.proofs.Common.{ℕ, true, ◌≡◌, ◌≤◌, List, [], ◌∷◌, Some, None, refl, inl, lit<, lit≤}
use Rattle.rz_events.specs.declared.keys.Actor.{Actor}
use Rattle.rz_events.specs.declared.operations.Operation.TheVariants as operation
use Rattle.rz_events.specs.declared.export.Reply.TheVariants as reply
use Rattle.rz_events.specs.declared.nodes.NodeAnswer.TheVariants as answer
use Rattle.rz_events.specs.declared.nodes.RefillAnswer.TheVariants as refill
use Rattle.rz_events.specs.declared.nodes.ReplaceAnswer.TheVariants as replace
use Rattle.rz_events.specs.declared.ends.Denial.TheVariants as denial
use Rattle.rz_events.specs.declared.ends.RebuildEnd.TheVariants as rebuild
use Rattle.rz_events.specs.declared.events.Answer.TheVariants as answers
use Rattle.rz_events.specs.declared.events.Word.TheVariants.{Export}
use Rattle.rz_events.specs.declared.events.Event.{Event}
use Rattle.rz_events.specs.declared.events.Event.TheVariants as e
use Rattle.rz_events.specs.Events.{same_key}
use Rattle.rz_operation_model.specs.Work.{Work}
use Rattle.rz_operation_model.specs.Steps.{Replied, Answered, Missed, Noted, begun}
use Rattle.rz_operation_model.specs.Turns.{Through, RequestLost}
use Rattle.rz_core.specs.History.{facts, of_word, of_actor, Has}
use Rattle.rz_core.specs.Courses.{IsCourse, Begun, Went, DoneRow, does}
use Rattle.rz_core.specs.Legal.{IsLegal}
use Rattle.rz_examples.specs.Plain.{plain, mender, rival, third, block, places}
use Rattle.rz_examples.specs.Mended.{hello_listed, none_left, with_sources}
use Rattle.rz_examples.specs.Menders.{lost_as, probed_by, enrolled_by, with_one_replaced, not_lost, replaced_twice, other_loss, lost_anew, disk_fault, not_replaced, old_loss, with_new_loss, enrolled_late, refill_lost, lost_again, other_fence, refilled_late, refill_missed, block_left, left_behind}
use Rattle.rz_examples.proofs.Courses.{after_all, block_copied}
use Rattle.rz_examples.proofs.Steps.{node_1}
use Rattle.rz_examples.proofs.Rows.{AllEnrolled, enrolled_all}
use Rattle.rz_examples.proofs.Mending.{legal_sources, one_key, not_after}

-- The courses of rebuilds up to the replacement.

abbrev with_probe : Work
with_probe = after_all (begun (operation.Rebuild 1)) (Answered true (answer.Probe (Some 1)) ∷ [])

loss_probed : (by : Actor) → does by (operation.Rebuild 1) ≡ true → IsCourse plain.layout by 1 (probed_by by 1 ∷ []) with_probe
loss_probed by rebuilds =
    Went _ _ (Answered true (answer.Probe (Some 1))) (probed_by by 1 ∷ []) (Begun [] (operation.Rebuild 1) rebuilds tt)
    (Through (answer.Probe (Some 1)) (probed_by by 1) refl)

abbrev with_fence : Work
with_fence = after_all with_probe (Replied (reply.Fence 1) ∷ [])

loss_enrolled : (by : Actor) → does by (operation.Rebuild 1) ≡ true → IsCourse plain.layout by 1 (enrolled_by by 1 ∷ probed_by by 1 ∷ []) with_fence
loss_enrolled by rebuilds =
    Went _ _ (Replied (reply.Fence 1)) (enrolled_by by 1 ∷ []) (loss_probed by rebuilds) (reply.Fence 1, enrolled_by by 1, refl, refl, refl)

not_lost_done : DoneRow plain rival 1 (not_lost ∷ enrolled_by rival 1 ∷ probed_by rival 1 ∷ []) (answers.Rebuild rebuild.NotLost)
not_lost_done = record {
  work = _;
  course = Went _ _ (Answered true (answer.Replace replace.NotLost)) (not_lost ∷ []) (loss_enrolled rival refl) (Through (answer.Replace replace.NotLost) not_lost refl);
  asks = refl;
}

other_loss_done : DoneRow plain rival 1 (other_loss ∷ enrolled_by rival 1 ∷ probed_by rival 1 ∷ []) (answers.Rebuild (rebuild.OtherLoss 2))
other_loss_done = record {
  work = _;
  course =
      Went _ _ (Answered true (answer.Replace (replace.OtherLoss 2))) (other_loss ∷ []) (loss_enrolled rival refl)
      (Through (answer.Replace (replace.OtherLoss 2)) other_loss refl);
  asks = refl;
}

disk_fault_done : DoneRow plain mender 1 (disk_fault ∷ enrolled_by mender 1 ∷ probed_by mender 1 ∷ []) (answers.Rebuild rebuild.DiskFault)
disk_fault_done = record {
  work = _;
  course =
      Went _ _ (Answered true (answer.Replace replace.DiskFault)) (disk_fault ∷ []) (loss_enrolled mender refl)
      (Through (answer.Replace replace.DiskFault) disk_fault refl);
  asks = refl;
}

old_loss_done : DoneRow plain rival 1 (old_loss ∷ probed_by rival 1 ∷ []) (answers.Rebuild (rebuild.Denied (denial.OldLoss 2)))
old_loss_done = record {
  work = _;
  course =
      Went _ _ (Replied (reply.Denied (denial.OldLoss 2))) (old_loss ∷ []) (loss_probed rival refl)
      (reply.Denied (denial.OldLoss 2), old_loss, refl, refl, refl);
  asks = refl;
}

-- Their steps.

-- the losses of node 1 that these events of the export enrolled are at most this one
losses_to : (w : List Event) (loss : ℕ) → AllEnrolled (λ l g. l ≤ loss) 1 w → (by : Actor) (l g : ℕ) → Has w (e.Enroll by 1 l g) → l ≤ loss
losses_to w loss all = enrolled_all (λ l g. l ≤ loss) 1 w all

legal_lost : IsLegal plain (lost_as 1 ∷ [])
legal_lost = (tt, record { room = lit< tt; word = node_1; row = record { there = λ q. cc; next = refl } })

legal_both_probed : IsLegal plain (probed_by rival 1 ∷ probed_by mender 1 ∷ lost_as 1 ∷ [])
legal_both_probed = (
  (legal_lost, record { room = lit< tt; word = node_1; row = (refl, refl) }),
  record { room = lit< tt; word = node_1; row = (refl, refl) },
)

legal_one_replaced : IsLegal plain with_one_replaced
legal_one_replaced = (
  (
    (
      legal_both_probed,
      record { room = lit< tt; word = tt; row = record { probed = inl refl; top = losses_to [] 1 tt; fence_is = refl } },
    ),
    record { room = lit< tt; word = tt; row = record { probed = inl refl; top = losses_to (enrolled_by mender 1 ∷ []) 1 ((λ is. lit≤ tt), tt); fence_is = refl } },
  ),
  record { room = lit< tt; word = node_1; row = record { lost = refl; loss_is = refl; enrolled = inl refl } },
)

pub legal_replaced_twice : IsLegal plain replaced_twice
legal_replaced_twice = (
  (legal_one_replaced, record { room = lit< tt; word = node_1; row = ((λ is. cc), refl) }),
  record { room = lit< tt; word = tt; row = not_lost_done },
)

pub legal_lost_anew : IsLegal plain lost_anew
legal_lost_anew = (
  (
    (legal_one_replaced, record { room = lit< tt; word = node_1; row = record { there = λ q. cc; next = refl } }),
    record { room = lit< tt; word = node_1; row = (refl, refl) },
  ),
  record { room = lit< tt; word = tt; row = other_loss_done },
)

pub legal_not_replaced : IsLegal plain not_replaced
legal_not_replaced = (
  (
    (
      (legal_lost, record { room = lit< tt; word = node_1; row = (refl, refl) }),
      record { room = lit< tt; word = tt; row = record { probed = inl refl; top = losses_to [] 1 tt; fence_is = refl } },
    ),
    record { room = lit< tt; word = node_1; row = (refl, refl) },
  ),
  record { room = lit< tt; word = tt; row = disk_fault_done },
)

legal_new_loss : IsLegal plain with_new_loss
legal_new_loss = (
  (
    (
      (
        (
          legal_both_probed,
          record { room = lit< tt; word = tt; row = record { probed = inl refl; top = losses_to [] 1 tt; fence_is = refl } },
        ),
        record { room = lit< tt; word = node_1; row = record { lost = refl; loss_is = refl; enrolled = inl refl } },
      ),
      record { room = lit< tt; word = node_1; row = record { there = λ q. cc; next = refl } },
    ),
    record { room = lit< tt; word = node_1; row = (refl, refl) },
  ),
  record { room = lit< tt; word = tt; row = record { probed = inl refl; top = losses_to (enrolled_by mender 1 ∷ []) 2 ((λ is. lit≤ tt), tt); fence_is = refl } },
)

pub legal_enrolled_late : IsLegal plain enrolled_late
legal_enrolled_late = (
  (
    legal_new_loss,
    record {
      room = lit< tt;
      word = tt;
      row = (record { enrolled = (third, 2, inl refl); top = losses_to (enrolled_by third 2 ∷ enrolled_by mender 1 ∷ []) 2 ((λ is. lit≤ tt), ((λ is. lit≤ tt), tt)) }, lit< tt);
    },
  ),
  record { room = lit< tt; word = tt; row = old_loss_done },
)

-- Rebuilds that have read the block.

lost_again_done : DoneRow plain mender 1 (refill_lost ∷ of_actor mender with_sources) (answers.Rebuild rebuild.LostAgain)
lost_again_done = record {
  work = _;
  course = Went _ _ (Answered true (answer.Refill refill.Lost)) (refill_lost ∷ []) block_copied (Through (answer.Refill refill.Lost) refill_lost refl);
  asks = refl;
}

legal_lost_twice : IsLegal plain (lost_as 2 ∷ with_sources)
legal_lost_twice = (legal_sources, record { room = lit< tt; word = node_1; row = record { there = λ q. cc; next = refl } })

pub legal_lost_again : IsLegal plain lost_again
legal_lost_again = (
  (legal_lost_twice, record { room = lit< tt; word = node_1; row = (refl, refl) }),
  record { room = lit< tt; word = tt; row = lost_again_done },
)

other_fence_done : DoneRow plain mender 1 (other_fence ∷ of_actor mender with_sources) (answers.Rebuild (rebuild.OtherFence 3))
other_fence_done = record {
  work = _;
  course =
      Went _ _ (Answered true (answer.Refill (refill.OtherFence 3))) (other_fence ∷ []) block_copied
      (Through (answer.Refill (refill.OtherFence 3)) other_fence refl);
  asks = refl;
}

pub legal_refilled_late : IsLegal plain refilled_late
legal_refilled_late = (
  (
    (
      (
        (
          legal_lost_twice,
          record { room = lit< tt; word = node_1; row = (refl, refl) },
        ),
        record { room = lit< tt; word = tt; row = record { probed = inl refl; top = losses_to (of_word Export with_sources) 2 ((λ is. lit≤ tt), tt); fence_is = refl } },
      ),
      record { room = lit< tt; word = node_1; row = record { lost = refl; loss_is = refl; enrolled = inl refl } },
    ),
    record { room = lit< tt; word = node_1; row = (refl, refl) },
  ),
  record { room = lit< tt; word = tt; row = other_fence_done },
)

left_done : DoneRow plain mender 1 (none_left ∷ block_left ∷ refill_missed ∷ of_actor mender with_sources) (answers.Rebuild (rebuild.Left 2 0 1))
left_done =
    let missed = Went _ _ Missed (refill_missed ∷ []) block_copied (RequestLost refl) in
    let said = Went _ _ (Noted []) (block_left ∷ []) missed ([], refl, refl) in
    record {
      work = _;
      course = Went _ _ (Replied (reply.Listed None)) (none_left ∷ []) said (reply.Listed None, none_left, refl, refl, refl);
      asks = refl;
    }

pub legal_left_behind : IsLegal plain left_behind
legal_left_behind = (
  (
    (
      (legal_sources, record { room = lit< tt; word = tt; row = refl }),
      record {
        room = lit< tt;
        word = tt;
        row = record {
          node = 1;
          told = hello_listed;
          lost = _;
          missed = refl;
          refilling = record {
            listed = record { after = (None, refl); key_is = refl };
            enough = record { places = places; placed = refl; many = lit≤ tt };
          };
        };
      },
    ),
    record { room = lit< tt; word = tt; row = λ key p after li. not_after key (one_key (same_key key block) key p (facts (block_left ∷ refill_missed ∷ with_sources)) refl li.told) after },
  ),
  record { room = lit< tt; word = tt; row = left_done },
)
