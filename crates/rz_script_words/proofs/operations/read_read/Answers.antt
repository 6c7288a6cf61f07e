use Rattle.std.proofs.Common.{sym, ◌∙◌}
use Rattle.rz_script_words.specs.Shared.{wanted}
use Rattle.rz_script_words.proofs.Left.{range_offset, range_length}
use Rattle.rz_script_words.proofs.operations.read_read.Goals as goal

pub returns-in_err-offset-clause-left : goal.returns-in_err-offset-clause-left
returns-in_err-offset-clause-left c =
    let known = sym c.read_number.ensures ∙ c.in_err-offset.was in
    rw (c.in_ok-path.ensures.word, c.in_ok-next.ensures.word) (sym (range_offset (wanted c.args.locks) _ _ _ _ known))

pub returns-in_err-length-clause-left : goal.returns-in_err-length-clause-left
returns-in_err-length-clause-left c =
    let first = sym c.read_number.ensures ∙ c.in_ok-offset.was in
    let refused = sym c.read_length_from.ensures ∙ c.in_err-length.was in
    rw (c.in_ok-path.ensures.word, c.in_ok-next.ensures.word, c.in_ok-next-2.ensures.word) (sym (range_length (wanted c.args.locks) _ _ _ _ _ _ first refused))
