use Rattle.std.proofs.Common.{sym, ◌∙◌}
use Rattle.rz_script_words.proofs.Left.{put_block, put_datum}
use Rattle.rz_script_words.proofs.operations.read_put.Goals as goal

pub returns-in_err-block-clause-left : goal.returns-in_err-block-clause-left
returns-in_err-block-clause-left c =
    rw (c.in_ok-path.ensures.word, c.in_ok-next.ensures.word) (sym (put_block c.args.volume.now _ _ _ _ (sym c.read_number.ensures ∙ c.in_err-block.was)))

pub returns-in_err-datum-clause-left : goal.returns-in_err-datum-clause-left
returns-in_err-datum-clause-left c =
    rw (c.in_ok-path.ensures.word, c.in_ok-next.ensures.word, c.in_ok-next-2.ensures.word)
    (sym (put_datum c.args.volume.now _ _ _ _ _ (sym c.read_number.ensures ∙ c.in_ok-block.was)))
