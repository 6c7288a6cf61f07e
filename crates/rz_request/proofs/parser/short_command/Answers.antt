use Rattle.std.proofs.Common.{rules, ap, codes, ◌≡◌, ◌∙◌}
use Rattle.std.proofs.lemmas.Result.{IfOk-weaker}
use Rattle.clap.specs.Words.{App, Text, app_of, with_subcommand}
use Rattle.clap.specs.Simple.{app_of_fields}
use Rattle.rz_request.specs.Parser.{plain, top}
use Rattle.rz_request.proofs.parser.short_command.Goals as goal

abbrev more : Text → App → App
more name a = with_subcommand a (plain name).top

pub returns : goal.returns
returns c =
    let bare : app_of c.subcommand_required.result ≡ top = ap app_of_fields c.subcommand_required.ensures ∙ search rules in
    let top_is = ap app_of_fields c.in_ok-none.ensures.0 ∙ bare in
    let one = c.in_ok-one.ensures ∙ ap (more (codes "replay")) top_is in
    let two = c.in_ok-two.ensures ∙ ap (more (codes "run")) one in
    let three = c.in_ok-three.ensures ∙ ap (more (codes "scrub")) two in
    let four = c.in_ok-four.ensures ∙ ap (more (codes "first")) three in
    IfOk-weaker c.with_plain-5.result _ _ (λ r h. h ∙ ap (more (codes "again")) four) c.with_plain-5.ensures
