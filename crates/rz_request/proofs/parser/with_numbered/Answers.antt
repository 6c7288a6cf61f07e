use Rattle.std.proofs.Common.{ap, ◌∙◌}
use Rattle.std.proofs.lemmas.Result.{IfOk-weaker}
use Rattle.clap.specs.Words.{App, app_of, with_subcommand}
use Rattle.rz_request.proofs.parser.with_numbered.Goals as goal

pub returns-in-Ok : goal.returns-in-Ok
returns-in-Ok c =
    let shape = λ (a : App). a.top in
    IfOk-weaker c.subcommand.result _ _ (λ r h. h.shape c.in-Ok.ensures.local ∙ ap (with_subcommand (app_of c.args.above)) (ap shape c.in-Ok.ensures.app)) c.subcommand.ensures
