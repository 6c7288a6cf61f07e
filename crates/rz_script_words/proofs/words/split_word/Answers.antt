use Rattle.std.proofs.Common.{sym, ◌∙◌}
use Rattle.rz_script_words.proofs.Pieces.{takes_word, takes_last, no_more}
use Rattle.rz_script_words.proofs.words.split_word.Goals as goal

pub returns-then-not-is_empty-clause-word : goal.returns-then-not-is_empty-clause-word
returns-then-not-is_empty-clause-word c =
    sym c.loop-word.invariant.1 ∙ takes_word c.loop-word.rest.now c.in-Some.word.now c.in-Some.after.now c.in-Some.ensures.pieces (sym c.is_empty.ensures ∙ c.if-not-is_empty.true)

pub returns-else-is_empty-clause-word : goal.returns-else-is_empty-clause-word
returns-else-is_empty-clause-word c =
    sym c.loop-word.invariant.1 ∙ takes_last c.loop-word.rest.now c.in_default.ensures.pieces (sym c.is_empty-2.ensures ∙ c.if-is_empty.false)

pub returns-else-is_empty-clause-after : goal.returns-else-is_empty-clause-after
returns-else-is_empty-clause-after c =
    sym (sym c.loop-word.invariant.2 ∙ no_more c.loop-word.rest.now c.in_default.ensures.pieces c.in_default.ensures.parts)
