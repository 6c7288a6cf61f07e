use Rattle.std.proofs.Common.{ap, ◌∙◌, sym, slice_get}
use Rattle.std.proofs.lemmas.Iterator.Consumers.{nth_from_yields_List, YieldsList-from_rest}
use Rattle.std.specs.Option.{option_map}
use Rattle.std.specs.FinMap as maps
use Rattle.rz_tree.proofs.Rows.{Row, entries-row}
use Rattle.rz_tree.proofs.inodes.Inodes.nth.Goals as goal

pub returns-in_err-fid : goal.returns-in_err-fid
returns-in_err-fid c =
    let es : Row = c.self.inside.entries.entries in
    let at = nth_from_yields_List c.nth.result c.nth.new.self c.args.at c.nth.ensures.ran (YieldsList-from_rest es c.iter.ensures.rest) in
    ap (option_map (λ p. (p.0, p.1.now))) c.from_residual.ensures
    ∙ ap (option_map (λ p. (p.0.now, p.1.now))) (sym c.in_err-fid.was) ∙ at
    ∙ ap (λ r. slice_get r c.args.at) (sym (entries-row es c.iter.ensures.ordered)) ∙ ap (λ m. slice_get (maps.entries m) c.args.at) c.self.view_is

pub returns : goal.returns
returns c =
    let es : Row = c.self.inside.entries.entries in
    let at = nth_from_yields_List c.nth.result c.nth.new.self c.args.at c.nth.ensures.ran (YieldsList-from_rest es c.iter.ensures.rest) in
    ap (option_map (λ p. (p.0.now, p.1.now))) (sym c.in_ok-fid.was) ∙ at
    ∙ ap (λ r. slice_get r c.args.at) (sym (entries-row es c.iter.ensures.ordered)) ∙ ap (λ m. slice_get (maps.entries m) c.args.at) c.self.view_is
