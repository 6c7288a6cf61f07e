use Rattle.std.proofs.Common.{ℕ, ◌+◌, ap, sym, ◌∙◌}
use Rattle.rz_operation_model.specs.Files.{go_on, after_block}
use Rattle.rz_file.specs.Inside.{range_in}
use Rattle.rz_file.proofs.steps.after_block.Goals as goal

pub returns-in-Acked-clause-state : goal.returns-in-Acked-clause-state
returns-in-Acked-clause-state c =
    let r = range_in c.args.span.now in
    c.go_on.ensures.state ∙ ap (λ (n : ℕ). go_on c.args.layout (record r { done = r.done + n })) c.count.ensures.value
    ∙ ap (after_block c.args.layout r) (sym c.in-Acked.is)
