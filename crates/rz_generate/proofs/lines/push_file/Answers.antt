use Rattle.std.proofs.Common.{ℕ, ◌≡◌, ◌+◌, ◌<◌, ◌^◌, List, sym, ap, subst, ◌∙◌, arith}
use Rattle.std.proofs.lemmas.Result.{IfOk-equal}
use Rattle.rz_script.specs.Lines.{IsWord}
use Rattle.rz_generate.specs.Workload.{path_of, gets, file_lines, with_lines}
use Rattle.rz_generate.proofs.Words.{path-word}
use Rattle.rz_generate.proofs.Files.{file-whole}
use Rattle.rz_generate.proofs.lines.push_file.Goals as goal

pub push_create-requires-clause-word : goal.push_create-requires-clause-word
push_create-requires-clause-word c =
    let client : c.args.client < 2 ^ 64 = omega arith in
    let file : c.args.file < 2 ^ 64 = omega arith in
    subst IsWord (sym (c.as_str-path.ensures.value ∙ c.in_ok-path.ensures)) (path-word c.args.client c.args.file client file)

pub push_puts-requires-clause-word : goal.push_puts-requires-clause-word
push_puts-requires-clause-word c =
    let client : c.args.client < 2 ^ 64 = omega arith in
    let file : c.args.file < 2 ^ 64 = omega arith in
    subst IsWord (sym (c.as_str-path.ensures.value ∙ c.in_ok-path.ensures)) (path-word c.args.client c.args.file client file)

pub push_gets-requires-clause-word : goal.push_gets-requires-clause-word
push_gets-requires-clause-word c =
    let client : c.args.client < 2 ^ 64 = omega arith in
    let file : c.args.file < 2 ^ 64 = omega arith in
    subst IsWord (sym (c.as_str-path.ensures.value ∙ c.in_ok-path.ensures)) (path-word c.args.client c.args.file client file)

pub returns-clause-lines : goal.returns-clause-lines
returns-clause-lines c =
    let old = c.args.script.now in
    let client = c.args.client in
    let path : List ℕ = c.as_str-path.result.now in
    let drawn = c.args.generator.now in
    let last = c.in_ok-last.last in
    let path_is : path ≡ path_of client c.args.file = c.as_str-path.ensures.value ∙ c.in_ok-path.ensures in
    let whole : with_lines c.push_puts.new.script (gets client path (last + 1)) ≡ with_lines old (file_lines client path drawn) =
    file-whole old c.push_create.new.script c.push_puts.new.script client path drawn last c.in_ok-push_create.ensures c.in_ok-last.ensures.lines c.in_ok-last.ensures.last_is in
    IfOk-equal c.push_gets.result c.push_gets.new.script (with_lines c.push_puts.new.script (gets client path (last + 1)))
    (with_lines old (file_lines client (path_of client c.args.file) drawn)) c.push_gets.ensures.lines
    (whole ∙ ap (λ (p : List ℕ). with_lines old (file_lines client p drawn)) path_is)
