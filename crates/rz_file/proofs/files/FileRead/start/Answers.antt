use Rattle.std.proofs.Common.{ℕ, ◌-◌, ◌≡◌, [], min, ap, ◌∙◌}
use Rattle.std.proofs.Math.Nat.{min-eq_left, min-le_right}
use Rattle.rz_operation_model.specs.Ranges.{Taking}
use Rattle.rz_operation_model.specs.Files.{go_on}
use Rattle.rz_file.specs.Machine.{FilePlanView, begun, machine_with}
use Rattle.rz_file.proofs.files.FileRead.start.Goals as goal

-- what is cut already is not cut again
cut-twice : (size count left saturated : ℕ) → size ≡ min count saturated → saturated ≡ left → min size left ≡ min count left
cut-twice size count left saturated is at =
    let cut : size ≡ min count left = is ∙ ap (min count) at in
    ap (λ s. min s left) cut ∙ min-eq_left (min-le_right count left)

pub returns : goal.returns
returns c =
    let left = c.args.info.now.size - c.args.offset in
    c.open.ensures
    ∙ ap (λ (p : FilePlanView). machine_with p.layout (begun p.layout c.args.info.now p.plan)) c.in_ok-plan.ensures
    ∙ ap (λ (n : ℕ). machine_with c.args.layout (go_on c.args.layout
    (record { info = c.args.info.now; offset = c.args.offset; size = n; done = 0; aim = Taking [] })))
    (cut-twice c.min-size.result c.args.count left c.saturating_sub.result c.min-size.ensures c.saturating_sub.ensures)
