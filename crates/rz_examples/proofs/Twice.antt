-- The steps of a second run, and why it may not go on with an operation of the first one.
use Rattle.std.proofs.Common.{false, [], ◌∷◌, None, refl, lit<}
use Rattle.rz_events.specs.declared.operations.Operation.TheVariants as operation
use Rattle.rz_events.specs.declared.tree.TreeReply.TheVariants as given
use Rattle.rz_events.specs.declared.export.Reply.TheVariants as reply
use Rattle.rz_events.specs.declared.ends.ReadMark.TheVariants as mark
use Rattle.rz_events.specs.declared.ends.ReadEnd.TheVariants as read
use Rattle.rz_events.specs.declared.events.Event.TheVariants as e
use Rattle.rz_operation_model.specs.Steps.{Replied}
use Rattle.rz_core.specs.Courses.{Begun, Went, IsGot}
use Rattle.rz_core.specs.Legal.{IsLegalInRuns, IsLegalAfter}
use Rattle.rz_examples.specs.Plain.{plain, one, block, file, path}
use Rattle.rz_examples.specs.Ordinary.{opened, with_begin, with_keeps}
use Rattle.rz_examples.specs.Runs.{second_run, taken_over}
use Rattle.rz_examples.proofs.Names.{open_kept}

hole_got : IsGot plain one 1 (e.Look one block None ∷ opened 0 ∷ []) block false read.Hole
hole_got =
    let opening =
    Went _ _ (Replied (reply.Tree (given.File (file 0)))) (opened 0 ∷ []) (Begun [] (operation.Get path 0) refl tt)
    (reply.Tree (given.File (file 0)), opened 0, refl, refl, refl) in
    record {
      mark = mark.Hole;
      text = [];
      end_is = refl;
      saying = record {
        work = _;
        course = Went _ _ (Replied (reply.Looked None)) (e.Look one block None ∷ []) opening (reply.Looked None, e.Look one block None, refl, refl, refl);
        asks = refl;
      };
    }

pub legal_second : IsLegalInRuns plain with_keeps → IsLegalAfter plain with_keeps second_run
legal_second first = (
  (
    (first, record { room = lit< tt; word = tt; row = record { told = open_kept } }),
    record { room = lit< tt; word = tt; row = record { live = refl; block = lit< tt; told = refl } },
  ),
  record { room = lit< tt; word = tt; row = (refl, hole_got) },
)

-- the actor has no event of the second run
pub not_taken_over : ¬ IsLegalAfter plain with_begin taken_over
not_taken_over legal = legal.1.row
