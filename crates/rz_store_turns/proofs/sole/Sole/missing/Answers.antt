use Rattle.std.proofs.Common.{◌≡◌, ◌++◌, ◌∙◌, Some, None, sym, subst, rules}
use Rattle.rz_export_model.specs.Export.{published_after}
use Rattle.rz_contents.specs.Model.{export_at}
use Rattle.rz_chronicle.specs.Kinds.{volume_in}
use Rattle.rz_store_turns.specs.Sole.{SoleView}
use Rattle.rz_store_turns.specs.Telling.{is_missing}
use Rattle.rz_store_turns.proofs.Counted.{all-counted, counted-then}
use Rattle.rz_store_turns.proofs.sole.Sole.missing.Goals as goal

pub returns-in_default-clause-counted : goal.returns-in_default-clause-counted
returns-in_default-clause-counted g c = λ keeps.
    let v = volume_in g.J.Naming.kind in
    let earlier = g.J.Naming.earlier in
    let h = c.args.self.now.pass.log ++ earlier in
    let none : c.in_ok-listed.field-0 ≡ None = search rules in
    let found : c.in_ok-listed.field-0 ≡ published_after (export_at v h) c.loop.after =
    subst (λ (s : SoleView). c.in_ok-listed.field-0 ≡ published_after (export_at v (s.pass.log ++ earlier)) c.loop.after) c.loop.invariant.same (c.in_ok-listed.ensures.listed keeps) in
    all-counted v h c.args.node c.loop.after c.loop.count (c.loop.invariant.counted keeps) (sym none ∙ found)

pub loop-preserved : goal.loop-preserved
loop-preserved g c =
    let v = volume_in g.J.Naming.kind in
    let earlier = g.J.Naming.earlier in
    let h = c.args.self.now.pass.log ++ earlier in
    let listed = c.in-Some-2.listed in
    let mid : c.published.new.self ≡ c.args.self.now = c.published.ensures.same ∙ c.loop.invariant.same in
    record {
      same = c.lacks.ensures.same ∙ mid;
      counted = λ keeps.
          let some : c.in_ok-listed.field-0 ≡ Some listed = search rules in
          let found : c.in_ok-listed.field-0 ≡ published_after (export_at v h) c.loop.after =
          subst (λ (s : SoleView). c.in_ok-listed.field-0 ≡ published_after (export_at v (s.pass.log ++ earlier)) c.loop.after) c.loop.invariant.same (c.in_ok-listed.ensures.listed keeps) in
          let lacks : c.in-Some-lacks.lacks ≡ is_missing h c.args.node listed =
          subst (λ (s : SoleView). c.in-Some-lacks.lacks ≡ is_missing (s.pass.log ++ earlier) c.args.node listed) mid (c.in-Some-lacks.ensures.lacks keeps) in
          counted-then v h c.args.node c.loop.after c.loop.count c.with_one-count.result listed c.in-Some-lacks.lacks (c.loop.invariant.counted keeps) (sym some ∙ found) lacks c.with_one-count.ensures;
    }
