use Rattle.std.proofs.Common.{◌≡◌, ap, ◌∙◌, sym}
use Rattle.rz_client_model.specs.Read.{after_answer}
use Rattle.rz_reader.proofs.steps.after_other.Goals as goal

pub returns-in-Looking-clause-value : goal.returns-in-Looking-clause-value
returns-in-Looking-clause-value c = λ fits.
    c.after_looking.ensures.value fits ∙ ap (λ stage. after_answer c.args.state.now.layout fits stage c.args.answer) (sym c.in-Looking.is)
