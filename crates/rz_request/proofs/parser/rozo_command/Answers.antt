use Rattle.std.proofs.Common.{ap, codes, ◌∙◌}
use Rattle.std.proofs.lemmas.Result.{IfOk-weaker}
use Rattle.clap.specs.Words.{App, with_subcommand}
use Rattle.rz_request.specs.Parser.{numbered}
use Rattle.rz_request.proofs.parser.rozo_command.Goals as goal

pub returns : goal.returns
returns c =
    let load = λ (a : App). with_subcommand a (numbered (codes "load") 0 18446744073709551615).top in
    let migrate = λ (a : App). with_subcommand a (numbered (codes "migrate") 1 65535).top in
    let more_is = c.in_ok-more.ensures ∙ ap load c.in_ok-short.ensures in
    IfOk-weaker c.with_numbered-2.result _ _ (λ r h. h ∙ ap migrate more_is) c.with_numbered-2.ensures
