use Rattle.std.proofs.Common.{arith, ◌≡◌, ◌≤◌, ◌<◌, ◌+◌, ◌-◌, ◌∙◌, refl, sym, ap, ℕ, List, ◌++◌, length, get_or, take, drop}
use Rattle.std.specs.Prelude.{bit_xor}
use Rattle.std.proofs.lemmas.List.{get_or-take, get_or-drop}
use borrow.Rule.Slice.PartMut.{put_mid}
use Rattle.mj_inverse_sums.proofs.Written.{part_long, mid_in, mid_below, mid_above}
use Rattle.mj_inverse_sums.proofs.run.add_row.Goals as goal

-- the two parts of the list, of which the second was written, are the list with its middle written
joined : (xs front back ys : List ℕ) (a k : ℕ) → front ≡ take a xs → back ≡ drop a xs → front ++ (ys ++ drop k back) ≡ put_mid a k xs ys
joined xs front back ys a k first second = ap (λ zs. zs ++ (ys ++ drop k back)) first ∙ ap (λ zs. take a xs ++ (ys ++ drop k zs)) second

-- a word of a part of the first part
front_at : (xs front : List ℕ) (a b n i : ℕ) → front ≡ take a xs → i < n → b + i < a → get_or (take n (drop b front)) i 0 ≡ get_or xs (b + i) 0
front_at xs front a b n i first h l =
    get_or-take n (drop b front) i 0 h ∙ get_or-drop b front i 0 ∙ ap (λ zs. get_or zs (b + i) 0) first ∙ get_or-take a xs (b + i) 0 l

fits : (c : goal.After-slice_known-3-1) → c.args.at + (c.args.end - c.args.at) ≤ length c.args.c.now
fits c =
    let order = c.requires.order in
    let within = c.requires.within in
    omega arith

long : (c : goal.After-slice_known-3-1) → length c.xor_into.new.dst ≡ c.args.end - c.args.at
long c =
    let s = c.split_at_mut-before in
    c.xor_into.auto.dst ∙ ap (λ zs. length (take (c.args.end - c.args.at) zs)) s.ensures.back ∙ part_long c.args.c.now c.args.c.now c.args.at (c.args.end - c.args.at) refl (fits c)

pub returns-clause-inside : goal.returns-clause-inside
returns-clause-inside c = λ k low high.
    let s = c.split_at_mut-before in
    let xs = c.args.c.now in
    let a = c.args.at in
    let n : ℕ = c.args.end - a in
    let b : ℕ = a - c.args.step in
    let m : ℕ = c.args.end - c.args.step - b in
    let i : ℕ = k + c.args.step - a in
    let behind = c.requires.low in
    let near = c.requires.short in
    let front_long = s.ensures.front_len in
    let part : length (take m (drop b s.result.0.now)) ≡ m = part_long s.result.0.now s.result.0.now b m refl (omega arith) in
    let e : a + i ≡ k + c.args.step = omega arith in
    let f : b + i ≡ k = omega arith in
    ap (λ zs. get_or zs (k + c.args.step) 0) (joined xs s.result.0.now s.result.1.now c.xor_into.new.dst a n s.ensures.front s.ensures.back)
    ∙ ap (λ j. get_or (put_mid a n xs c.xor_into.new.dst) j 0) (sym e) ∙ mid_in a n xs c.xor_into.new.dst (fits c) (long c) i (omega arith)
    ∙ c.xor_into.ensures i (omega arith)
    ∙ ap (λ x. bit_xor x (get_or (take m (drop b s.result.0.now)) i 0))
    (get_or-take n s.result.1.now i 0 (omega arith) ∙ ap (λ zs. get_or zs i 0) s.ensures.back ∙ get_or-drop a xs i 0 ∙ ap (λ j. get_or xs j 0) e)
    ∙ ap (bit_xor (get_or xs (k + c.args.step) 0)) (front_at xs s.result.0.now a b m i s.ensures.front (omega arith) (omega arith) ∙ ap (λ j. get_or xs j 0) f)

pub returns-clause-below : goal.returns-clause-below
returns-clause-below c = λ k low.
    let s = c.split_at_mut-before in
    let n : ℕ = c.args.end - c.args.at in
    ap (λ zs. get_or zs k 0) (joined c.args.c.now s.result.0.now s.result.1.now c.xor_into.new.dst c.args.at n s.ensures.front s.ensures.back)
    ∙ mid_below c.args.at n c.args.c.now c.xor_into.new.dst (fits c) (long c) k low

pub returns-clause-above : goal.returns-clause-above
returns-clause-above c = λ k high.
    let s = c.split_at_mut-before in
    let n : ℕ = c.args.end - c.args.at in
    let order = c.requires.order in
    ap (λ zs. get_or zs k 0) (joined c.args.c.now s.result.0.now s.result.1.now c.xor_into.new.dst c.args.at n s.ensures.front s.ensures.back)
    ∙ mid_above c.args.at n c.args.c.now c.xor_into.new.dst (fits c) (long c) k (omega arith)
