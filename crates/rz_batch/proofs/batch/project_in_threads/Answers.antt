use Rattle.std.proofs.Common.{arith, ◌≡◌, ◌<◌, ◌-◌, ◌/◌, ◌∙◌, ℕ, List, length, sym, ap, subst, Vec, Global, Result, map}
use Rattle.std.specs.Prelude.{All, IfOk}
use Rattle.std.specs.List.{AllZip, range_with_len}
use Rattle.std.specs.declared.alloc.AllocError.{AllocError}
use Rattle.mj_angles.specs.Layout.{safe_of, block_bytes_of}
use Rattle.mj_forward.specs.Forward.{start_of}
use Rattle.rayon.specs.Numbers.{nat_range}
use Rattle.rayon.proofs.ToStd.{nat_range-All}
use Rattle.rz_batch.specs.Batch.{block_at, parts_of, projections_of, IsProjected}
use Rattle.rz_batch.proofs.Parts.{match_then, zip_oks, zip_parts, zip_all}
use Rattle.rz_batch.proofs.batch.project_in_threads.Goals as goal

pub collect-requires-clause-ready : goal.collect-requires-clause-ready
collect-requires-clause-ready g c κs within =
    let ends = c.into_par_iter.ensures in
    let size = c.block_bytes.ensures.value in
    let inside = nat_range-All (λ i. i < length c.args.bytes.now / block_bytes_of c.args.layout) 0 (length c.args.bytes.now / c.block_bytes.result)
    (λ i low high. let P : ℕ → Type 0 = λ b. i < length c.args.bytes.now / b in subst P size high) in
    rw (c.map.ensures.base, c.map.ensures.f, c.with_min_len.ensures.base, ends.0, ends.1) (λ k d lt. (inside k d lt, λ y p. tt))

pub returns-clause-parts : goal.returns-clause-parts
returns-clause-parts g c =
    let y = c.args.layout in
    let bytes : List ℕ = c.args.bytes.now in
    let ends = c.into_par_iter.ensures in
    let h = c.in_ok-collect.ensures in
    let chain = rw (c.map.ensures.base, c.map.ensures.f, c.with_min_len.ensures.base) at h.1 in
    let P : ℕ → Vec ℕ Global → Type 0 = λ i v. IsProjected y bytes i v.items in
    let n : ℕ = length bytes / block_bytes_of y in
    let whole : n - 0 ≡ n = omega arith in
    let size = c.block_bytes.ensures.value in
    let places = chain.1 ∙ (λ i. nat_range (ends.0 i) (ends.1 i)) ∙ ap (λ b. nat_range 0 (length bytes / b)) size ∙ ap (range_with_len 0) whole in
    match_then c.in_ok-collect.field-0 _ _ _ h.2 (λ v a.
    let Q : List (Result (Vec ℕ Global) AllocError) → Type 0 = λ zs. AllZip (λ i (r : Result (Vec ℕ Global) AllocError). IfOk r (P i)) chain.0 zs in
    let z = zip_oks AllocError P chain.0 a.0 (subst Q a.1 chain.2) in
    ap (map (λ (v : Vec ℕ Global). parts_of y v.items)) a.2
    ∙ zip_parts P (λ (v : Vec ℕ Global). parts_of y v.items) (λ i. projections_of y (block_at y bytes i)) (λ i v p. p.parts) chain.0 a.0 z
    ∙ ap (map (λ i. projections_of y (block_at y bytes i))) places)

pub returns-clause-lens : goal.returns-clause-lens
returns-clause-lens g c =
    let y = c.args.layout in
    let bytes : List ℕ = c.args.bytes.now in
    let h = c.in_ok-collect.ensures in
    let chain = rw (c.map.ensures.base, c.map.ensures.f, c.with_min_len.ensures.base) at h.1 in
    let P : ℕ → Vec ℕ Global → Type 0 = λ i v. IsProjected y bytes i v.items in
    let L : Vec ℕ Global → Type 0 = λ v. length v.items ≡ start_of y (safe_of y) in
    match_then c.in_ok-collect.field-0 _ _ _ h.2 (λ v a.
    let Q : List (Result (Vec ℕ Global) AllocError) → Type 0 = λ zs. AllZip (λ i (r : Result (Vec ℕ Global) AllocError). IfOk r (P i)) chain.0 zs in
    let z = zip_oks AllocError P chain.0 a.0 (subst Q a.1 chain.2) in
    let R : List (Vec ℕ Global) → Type 0 = λ vs. All L vs in
    subst R (sym a.2) (zip_all P L (λ i v p. p.long) chain.0 a.0 z))
