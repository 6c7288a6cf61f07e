use Rattle.std.proofs.Common.{◌-◌, ◌++◌, take, drop, ap, ◌∙◌, arith}
use Rattle.std.specs.Ordering.{is_gt}
use Rattle.rz_export_model.specs.Paths.{path_cmp}
use Rattle.rz_names.specs.Entries.{run}
use Rattle.rz_names.specs.Names.{is_within}
use Rattle.rz_names.proofs.Sorted.{so, run_le}
use Rattle.rz_names.proofs.Blocks.{block-of}
use Rattle.rz_names.proofs.entries.block_bounds.Goals as goal

pub returns : goal.returns
returns c =
    let l = c.args.entries.now in
    let found = block-of c.args.names.now l (so _ c.requires) in
    record {
      order = omega (arith, c.place_of.ensures.place, c.place_past.ensures.place, found.order);
      within = omega (arith, c.place_past.ensures.place, run_le (is_within c.args.names.now) l);
      block = ap (λ n. take (c.place_past.result - n) (drop n l)) c.place_of.ensures.place ∙ ap (λ n. take (n - run (λ k. is_gt (path_cmp c.args.names.now k)) l) (drop (run (λ k. is_gt (path_cmp c.args.names.now k)) l) l)) c.place_past.ensures.place ∙ found.block;
      rest = ap (λ n. take n l ++ drop c.place_past.result l) c.place_of.ensures.place ∙ ap (λ n. take (run (λ k. is_gt (path_cmp c.args.names.now k)) l) l ++ drop n l) c.place_past.ensures.place ∙ found.rest;
      fits = c.place_past.ensures.fits;
    }
