-- An actor as it goes to work.
use Rattle.std.proofs.Common.{◌≡◌, ℕ, ◌+◌, Bool, true, false, not, List, [], ◌∷◌, refl, sym, ◌∙◌, ap}
use Rattle.rz_events.specs.declared.operations.Operation.{Operation}
use Rattle.rz_events.specs.declared.operations.Operation.TheVariants as operation
use Rattle.rz_operation_model.specs.Work.{Work, Calling, Dropping, Opening, Locking, Writing, Reading, Rebuilding, Ending, Over}
use Rattle.rz_operation_model.specs.Steps.{begun}
use Rattle.rz_play.specs.World.{Agenda, begin_next, at_work, is_over}

-- an operation in hand stays
pub same-work : (s : Agenda) (work : Work) (ops : List Operation) → is_over work ≡ false → begin_next s work ops ≡ s
same-work s Over ops busy = absurd (cc)
same-work s (Calling c) ops busy = refl
same-work s (Dropping fid n places) ops busy = refl
same-work s (Opening path plan) ops busy = refl
same-work s (Locking path plan) ops busy = refl
same-work s (Writing course text w) ops busy = refl
same-work s (Reading course r) ops busy = refl
same-work s (Rebuilding n r) ops busy = refl
same-work s (Ending answer) ops busy = refl

-- nothing to do
pub no-work : (s : Agenda) (work : Work) → begin_next s work [] ≡ s
no-work s Over = refl
no-work s (Calling c) = refl
no-work s (Dropping fid n places) = refl
no-work s (Opening path plan) = refl
no-work s (Locking path plan) = refl
no-work s (Writing course text w) = refl
no-work s (Reading course r) = refl
no-work s (Rebuilding n r) = refl
no-work s (Ending answer) = refl

-- the next operation
pub next-work : (s : Agenda) (work : Work) (op : Operation) (ops : List Operation) → is_over work ≡ true → begin_next s work (op ∷ ops) ≡ record s { todo = ops; number = s.number + 1; work = begun op }
next-work s Over op ops is = refl
next-work s (Calling c) op ops is = absurd (cc)
next-work s (Dropping fid n places) op ops is = absurd (cc)
next-work s (Opening path plan) op ops is = absurd (cc)
next-work s (Locking path plan) op ops is = absurd (cc)
next-work s (Writing course text w) op ops is = absurd (cc)
next-work s (Reading course r) op ops is = absurd (cc)
next-work s (Rebuilding n r) op ops is = absurd (cc)
next-work s (Ending answer) op ops is = absurd (cc)

begun-busy : (op : Operation) → is_over (begun op) ≡ false
begun-busy (operation.Tree c) = refl
begun-busy (operation.Put path block datum) = refl
begun-busy (operation.Get path block) = refl
begun-busy (operation.Write path offset datum) = refl
begun-busy (operation.Read path offset count) = refl
begun-busy (operation.Rebuild n) = refl
begun-busy (operation.Update path offset datum) = refl
begun-busy (operation.View path offset count) = refl

pub over-now : (b : Bool) → not b ≡ false → b ≡ true
over-now true is = refl
over-now false is = absurd (cc)

-- the next operation was taken up
pub taken-up : (s : Agenda) (op : Operation) (ops : List Operation) (number : ℕ) (work : Work) → is_over s.work ≡ true → s.todo ≡ op ∷ ops → number ≡ s.number + 1 → work ≡ begun op
    → record s { todo = ops; number = number; work = work } ≡ at_work s
taken-up s op ops number work over todo num is =
    ap (λ (n : ℕ). record s { todo = ops; number = n; work = work }) num
    ∙ ap (λ (w : Work). record s { todo = ops; number = s.number + 1; work = w }) is
    ∙ sym (ap (begin_next s s.work) todo ∙ next-work s s.work op ops over)
