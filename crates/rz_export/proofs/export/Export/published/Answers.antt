use Rattle.std.proofs.Common.{sym, ap, ◌∙◌}
use Rattle.std.specs.Option.{option_map, option_and_then}
use Rattle.rz_export_model.specs.Export.{Export, published_after}
use Rattle.rz_export.specs.Kept.{export_of}
use Rattle.rz_export.proofs.Firsts.{listed, with_file, published-first}
use Rattle.rz_export.proofs.export.Export.published.Goals as goal

pub returns-in_err-key : goal.returns-in_err-key
returns-in_err-key c =
    let s = c.self.inside in
    c.from_residual.ensures
    ∙ ap (option_and_then (with_file s.tree)) (sym c.in_err-key.was ∙ c.next_published.ensures)
    ∙ sym (published-first (export_of s.volume s.tree s.blocks s.nodes.items s.last) c.args.after (λ k b at. (c.self.invariant.each_block k b at).live))
    ∙ ap (λ (x : Export). published_after x c.args.after) c.self.view_is

pub returns-in_err-info : goal.returns-in_err-info
returns-in_err-info c =
    let s = c.self.inside in
    c.from_residual-in_err-info.ensures
    ∙ ap (option_map (λ i. listed c.in_ok-key.key i c.in_ok-key.published)) (sym c.in_err-info.was ∙ c.file.ensures)
    ∙ ap (option_and_then (with_file s.tree)) (sym c.in_ok-key.was ∙ c.next_published.ensures)
    ∙ sym (published-first (export_of s.volume s.tree s.blocks s.nodes.items s.last) c.args.after (λ k b at. (c.self.invariant.each_block k b at).live))
    ∙ ap (λ (x : Export). published_after x c.args.after) c.self.view_is

pub returns : goal.returns
returns c =
    let s = c.self.inside in
    ap (option_map (λ i. listed c.in_ok-key.key i c.in_ok-key.published)) (sym c.in_ok-info.was ∙ c.file.ensures)
    ∙ ap (option_and_then (with_file s.tree)) (sym c.in_ok-key.was ∙ c.next_published.ensures)
    ∙ sym (published-first (export_of s.volume s.tree s.blocks s.nodes.items s.last) c.args.after (λ k b at. (c.self.invariant.each_block k b at).live))
    ∙ ap (λ (x : Export). published_after x c.args.after) c.self.view_is
