use Rattle.std.proofs.Common.{ℕ, List, ◌≡◌, ◌++◌, ◌∙◌, None, Some, [], rules, arith, sym, ap, subst}
use Rattle.std.proofs.lemmas.Result.{IfOk-from_err}
use Rattle.std.proofs.lemmas.Grind.{common_steps}
use Rattle.mj_angles.specs.declared.layout.Layout.{Layout}
use Rattle.rz_export_model.specs.Export.{Export, published_after}
use Rattle.rz_scrub_report.specs.Asks.{AreRecordsFound}
use Rattle.rz_scrub_report.specs.Lines.{line_of}
use Rattle.rz_scrub_report.proofs.Gathered.{found-before}
use Rattle.rz_scrub_report.proofs.Going.{has-none, has-so, has-then}
use Rattle.rz_scrub_report.proofs.Walked.{IsSoFar, falls, none-yet, one-more, all-told}
use Rattle.rz_scrub_report.proofs.scrubbing.scrub.Goals as goal

pub returns-in_err-judge : goal.returns-in_err-judge
returns-in_err-judge g c = has-none g.S.ScrubbedStore.itself c.args.store.now c.requires _ (λ w. IfOk-from_err c.from_residual.result _ c.from_residual.ensures.0)

pub blocks-2-init : goal.blocks-2-init
blocks-2-init g c =
    let first = c.args.store.now in
    let gives = g.S.ScrubbedStore.gives first in
    let layout = (g.S.ScrubbedStore.described first).layout in
    record {
      judge = c.in_ok-judge.ensures;
      layout = c.layout-layout.ensures;
      told = has-none g.S.ScrubbedStore.itself first c.requires (λ w mid. IsSoFar layout gives w c.new-text.result.items None mid)
          (λ w. subst (λ (xs : List ℕ). IsSoFar layout gives w xs None w) (sym c.new-text.ensures.items) (none-yet layout gives w));
    }

pub returns-in_err-push_line : goal.returns-in_err-push_line
returns-in_err-push_line g c =
    let first = c.args.store.now in
    let gives = g.S.ScrubbedStore.gives in
    let layout = (g.S.ScrubbedStore.described first).layout in
    has-then g.S.ScrubbedStore.then first c.blocks-2.store c.find-finding.new.store (λ w mid. IsSoFar layout (gives first) w c.blocks-2.text.items c.blocks-2.after mid)
    (λ w next. AreRecordsFound c.blocks-2.judge.layout (gives c.blocks-2.store) c.in-Some.listed w c.find-finding.result next) _ c.blocks-2.invariant.told c.find-finding.ensures.found (λ h mid next same so found. IfOk-from_err c.from_residual-in_err-push_line.result _ c.from_residual-in_err-push_line.ensures.0)

pub blocks-2-smaller : goal.blocks-2-smaller
blocks-2-smaller g c =
    let first = (g.S.ScrubbedStore.state c.args.store.now []).export in
    let at = ap (λ (s : Export). published_after s c.blocks-2.after) (sym (c.blocks-2.invariant.told.onward.export_is [])) ∙ sym (c.published.ensures []) ∙ c.in-Some.is in
    falls first c.blocks-2.after c.in-Some.listed at

pub blocks-2-preserved : goal.blocks-2-preserved
blocks-2-preserved g c =
    let state = g.S.ScrubbedStore.state in
    let gives = g.S.ScrubbedStore.gives in
    let first = c.args.store.now in
    let last = c.blocks-2.store in
    let layout = (g.S.ScrubbedStore.described first).layout in
    let i = c.blocks-2.invariant in
    let e = c.find-finding.ensures in
    let l = c.in-Some.listed in
    let finding = c.find-finding.result in
    let pushed = subst (λ (y : Layout). c.push_line.new.out.items ≡ c.blocks-2.text.items ++ line_of y l.key finding) i.layout c.in_ok-push_line.ensures in
    record {
      judge = e.judge ∙ i.judge;
      layout = i.layout;
      told = has-then g.S.ScrubbedStore.then first last c.find-finding.new.store (λ w mid. IsSoFar layout (gives first) w c.blocks-2.text.items c.blocks-2.after mid)
          (λ w next. AreRecordsFound c.blocks-2.judge.layout (gives last) l w finding next)
          (λ w mid. IsSoFar layout (gives first) w c.push_line.new.out.items (Some l.key) mid) i.told e.found
          (λ h mid next same so found.
          let at = ap (λ (s : Export). published_after s c.blocks-2.after) (sym (i.told.onward.export_is h)) ∙ sym (c.published.ensures h) ∙ c.in-Some.is in
          let here = subst (λ (y : Layout). AreRecordsFound y (gives last) l mid finding next) (i.judge ∙ i.layout) found in
          one-more layout (gives first) (state first h) c.blocks-2.text.items c.push_line.new.out.items c.blocks-2.after mid next l finding at
          (found-before layout l mid next finding i.told.onward.given here) pushed so);
    }

pub returns : goal.returns
returns g c =
    let state = g.S.ScrubbedStore.state in
    let first = c.args.store.now in
    let layout = (g.S.ScrubbedStore.described first).layout in
    let i = c.blocks-2.invariant in
    let none : c.published.result ≡ None = first_of (cc, search rules, grind (arith, common_steps)) in
    has-so first c.blocks-2.store (λ w mid. IsSoFar layout (g.S.ScrubbedStore.gives first) w c.blocks-2.text.items c.blocks-2.after mid) _ i.told
    (λ h so.
    let at = ap (λ (s : Export). published_after s c.blocks-2.after) (sym (i.told.onward.export_is h)) ∙ sym (c.published.ensures h) ∙ none in
    all-told layout (g.S.ScrubbedStore.gives first) (state first h) c.blocks-2.text.items c.blocks-2.after (state c.blocks-2.store (i.told.later ++ h)) at so)
