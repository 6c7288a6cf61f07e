use Rattle.std.proofs.Common.{ap, ◌∙◌, List, ℕ, map, string_bytes}
use Rattle.std.proofs.lemmas.Result.{IfErr-weaker}
use Rattle.clap.specs.Words.{App, Text, takes}
use Rattle.rz_request.proofs.parser.parse.Goals as goal

pub returns-clause-err : goal.returns-clause-err
returns-clause-err c =
    let words : List Text = map string_bytes c.args.words.now in
    IfErr-weaker c.try_get_matches_from.result _ _ (λ e h t. h (ap (λ (a : App). takes a words) c.in_ok-command.ensures ∙ t)) c.try_get_matches_from.ensures.passes
