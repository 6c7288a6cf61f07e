use Rattle.std.proofs.Common.{sym, ◌∙◌}
use Rattle.rz_script_words.specs.Shared.{written}
use Rattle.rz_script_words.proofs.Left.{bytes_offset, bytes_datum}
use Rattle.rz_script_words.proofs.operations.read_write.Goals as goal

pub returns-in_err-offset-clause-left : goal.returns-in_err-offset-clause-left
returns-in_err-offset-clause-left c =
    rw (c.in_ok-path.ensures.word, c.in_ok-next.ensures.word) (sym (bytes_offset (written c.args.locks) _ _ _ _ (sym c.read_number.ensures ∙ c.in_err-offset.was)))

pub returns-in_err-datum-clause-left : goal.returns-in_err-datum-clause-left
returns-in_err-datum-clause-left c =
    rw (c.in_ok-path.ensures.word, c.in_ok-next.ensures.word, c.in_ok-next-2.ensures.word)
    (sym (bytes_datum (written c.args.locks) _ _ _ _ _ (sym c.read_number.ensures ∙ c.in_ok-offset.was)))
