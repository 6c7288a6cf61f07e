use Rattle.std.proofs.Common.{◌*◌, length, arith, rules, ap, ◌∙◌}
use Rattle.std.proofs.lemmas.List.{take_rest}
use Rattle.byteorder.specs.Endian.{little_number}
use Rattle.byteorder.proofs.Slices.{read_step}
use Rattle.rz_words.proofs.Little.{words_from-by_all}
use Rattle.rz_words.proofs.bytes.load_words.Goals as goal

pub whole-preserved : goal.whole-preserved
whole-preserved c =
    read_step (little_number 8) 8 c.args.bytes.now c.whole.words 0 c.whole.i c.read_u64.result (omega arith)
    (c.read_u64.ensures ∙ ap (little_number 8) (take_rest c.args.bytes.now (8 * c.whole.i))) c.whole.invariant

pub rest-preserved : goal.rest-preserved
rest-preserved c =
    read_step (little_number 8) 8 c.args.bytes.now c.rest.words 0 c.rest.i c.last_word.result (omega arith) c.last_word.ensures c.rest.invariant

pub returns : goal.returns
returns c = words_from-by_all c.args.bytes.now c.rest.words (length c.args.words.now) (search rules) (λ k h. c.rest.invariant k (omega arith))
