use Rattle.std.proofs.Common.{◌≡◌, true, refl}
use Rattle.std.specs.Str.{is_utf8}
use Rattle.std.proofs.lemmas.Str.{is_utf8-from_IsUtf8, IsUtf8-from_is_utf8}
use Rattle.std.proofs.lemmas.Bool.{false_from_ne_true}
use Rattle.rz_script.specs.Grammar.{script}
use Rattle.rz_script.proofs.script.Script.read.Goals as goal

pub returns-in-Ok : goal.returns-in-Ok
unfolding script
returns-in-Ok c =
    let yes : is_utf8 c.args.bytes.now ≡ true = is_utf8-from_IsUtf8 c.args.bytes.now c.in-Ok.ensures.cases.1 in
    rw yes (rw c.in-Ok.ensures.cases.0 at c.read_text.ensures)

pub returns-in-Err : goal.returns-in-Err
unfolding script
returns-in-Err c = rw (false_from_ne_true _ (λ e. c.in-Err.ensures.cases.0 (IsUtf8-from_is_utf8 c.args.bytes.now e))) refl
