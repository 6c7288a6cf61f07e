use Rattle.std.proofs.Common.{◌≡◌, ap, ◌∙◌}
use Rattle.std.proofs.lemmas.Result.{IfOk-equal}
use Rattle.rz_events.specs.declared.keys.Actor.TheVariants.{Rebuilder}
use Rattle.rz_events.specs.declared.operations.Operation.TheVariants.{Rebuild}
use Rattle.rz_script.specs.declared.line.Line.TheVariants.{Op, Rest, Lose}
use Rattle.rz_script.specs.Scripts.{Script, with_line}
use Rattle.rz_generate.specs.Workload.{volume, ends, with_lines}
use Rattle.rz_generate.proofs.Words.{line-fits}
use Rattle.rz_generate.proofs.Ends.{lose-fits, rebuild-fits, ends-added}
use Rattle.rz_generate.proofs.lines.push_ends.Goals as goal

pub push-requires-2-clause-line : goal.push-requires-2-clause-line
push-requires-2-clause-line c =
    let kept : c.push.new.self.volume ≡ volume = ap (λ (s : Script). s.volume) c.in_ok-push.ensures.ok ∙ c.requires.volume in
    line-fits c.push.new.self.volume (Lose 3) kept lose-fits

pub push-requires-3-clause-line : goal.push-requires-3-clause-line
push-requires-3-clause-line c =
    let kept : c.push-2.new.self.volume ≡ volume =
    ap (λ (s : Script). s.volume) c.in_ok-push-2.ensures.ok ∙ ap (λ (s : Script). s.volume) c.in_ok-push.ensures.ok ∙ c.requires.volume in
    line-fits c.push-2.new.self.volume (Op (Rebuilder 1) (Rebuild 3)) kept rebuild-fits

pub returns : goal.returns
returns c =
    IfOk-equal c.push-4.result c.push-4.new.self (with_line c.push-3.new.self Rest) (with_lines c.args.script.now ends) c.push-4.ensures.ok
    (ends-added c.args.script.now c.push.new.self c.push-2.new.self c.push-3.new.self c.in_ok-push.ensures.ok c.in_ok-push-2.ensures.ok c.in_ok-push-3.ensures.ok)
