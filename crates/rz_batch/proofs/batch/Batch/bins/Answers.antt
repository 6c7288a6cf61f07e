use Rattle.std.proofs.Common.{arith, ◌≡◌, ◌+◌, ◌<◌, ℕ, [], length, map, sym, ap, ◌∙◌, subst, Vec, Global}
use Rattle.std.specs.Prelude.{slice_index_or, slice_range}
use Rattle.mj_angles.specs.Layout.{safe_of, bins_at_of}
use Rattle.mj_forward.specs.Forward.{start_of}
use Rattle.rz_batch.specs.Batch.{Projections, parts_of}
use Rattle.mj_angles.specs.declared.layout.Layout.{Layout}
use Rattle.std.proofs.lemmas.List.{length-map}
use Rattle.rz_batch.proofs.Parts.{part_of_view, part_of_batch}
use Rattle.rz_batch.proofs.batch.Batch.bins.Goals as goal

pub returns-clause-value : goal.returns-clause-value
returns-clause-value c =
    let s = c.self.inside in
    let v : Vec ℕ Global = c.index.result.now in
    let blocks : map (λ (v : Vec ℕ Global). parts_of s.layout v.items) s.blocks.items ≡ c.args.self.now.blocks = ap (λ (s : Projections). s.blocks) c.self.view_is in
    let layout : s.layout ≡ c.args.self.now.layout = ap (λ (s : Projections). s.layout) c.self.view_is in
    let long : length (map (λ (v : Vec ℕ Global). parts_of s.layout v.items) s.blocks.items) ≡ length s.blocks.items = length-map s.blocks.items (λ (v : Vec ℕ Global). parts_of s.layout v.items) in
    let same = ap length blocks in
    let block : c.args.block < length s.blocks.items = (let h = c.requires.block in omega (arith, long, same, h)) in
    let P : Layout → Type 0 = λ y. c.args.position < safe_of y in
    let position : c.args.position < safe_of s.layout = subst P (sym layout) c.requires.position in
    c.part_at.ensures.part
    ∙ ap (λ xs. slice_range xs (start_of s.layout c.args.position) (start_of s.layout c.args.position + bins_at_of s.layout c.args.position)) c.deref.ensures.value
    ∙ ap (λ (u : Vec ℕ Global). slice_range u.items (start_of s.layout c.args.position) (start_of s.layout c.args.position + bins_at_of s.layout c.args.position)) c.index.ensures
    ∙ sym (part_of_view (λ (v : Vec ℕ Global). v.items) s.layout s.blocks.items v c.args.block c.args.position block position)
    ∙ ap (λ bs. slice_index_or (slice_index_or bs c.args.block []) c.args.position []) blocks

pub returns-clause-projection : goal.returns-clause-projection
returns-clause-projection c = λ y bytes is.
    let P : Projections → Type 0 = λ s. c.args.block < length s.blocks in
    let Q : Projections → Type 0 = λ s. c.args.position < safe_of s.layout in
    returns-clause-value c ∙ ap (λ (s : Projections). slice_index_or (slice_index_or s.blocks c.args.block []) c.args.position []) is
    ∙ part_of_batch y bytes c.args.block c.args.position (subst P is c.requires.block) (subst Q is c.requires.position)

pub returns-clause-count : goal.returns-clause-count
returns-clause-count c =
    c.part_at.ensures.count ∙ ap (λ (s : Projections). bins_at_of s.layout c.args.position) c.self.view_is
