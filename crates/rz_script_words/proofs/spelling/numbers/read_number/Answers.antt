use Rattle.std.proofs.Common.{◌≡◌, ◌==◌, sym, ◌∙◌, arith, get_or}
use Rattle.std.proofs.lemmas.Bool.{eqb-true}
use Rattle.std.proofs.lemmas.Bool.Decides.{nat_tests}
use Rattle.rz_script_words.proofs.Numerals.{plus, parses}
use Rattle.rz_script_words.proofs.spelling.numbers.read_number.Goals as goal

pub returns-then-starts_with : goal.returns-then-starts_with
returns-then-starts_with c =
    let e : c.starts_with.result ≡ (get_or c.args.word.now 0 0 == 43) = c.starts_with.ensures.byte (omega arith) (omega arith) (λ w o h. h) in
    sym (plus c.args.word.now (eqb-true _ _ (sym e ∙ c.if-starts_with.true)))

pub returns-in-Ok : goal.returns-in-Ok
returns-in-Ok c =
    let e : c.starts_with.result ≡ (get_or c.args.word.now 0 0 == 43) = c.starts_with.ensures.byte (omega arith) (omega arith) (λ w o h. h) in
    let f = c.if-starts_with.false in
    sym (rw c.in-Ok.is at (parses c.args.word.now c.parse.result c.parse.ensures.value.0 (λ p. grind (arith, nat_tests))))

pub returns-in-Err : goal.returns-in-Err
returns-in-Err c =
    let e : c.starts_with.result ≡ (get_or c.args.word.now 0 0 == 43) = c.starts_with.ensures.byte (omega arith) (omega arith) (λ w o h. h) in
    let f = c.if-starts_with.false in
    sym (rw c.in-Err.is at (parses c.args.word.now c.parse.result c.parse.ensures.value.0 (λ p. grind (arith, nat_tests))))
